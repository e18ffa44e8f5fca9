-- `port_rows::end_at` meets its contract. Assumes nothing.
use mathlib.Core.Path.{refl}
use native.Mathlib.Omega.{arith}
use Rattle.survey.specs.StateWords.{end_words_lem}
use Rattle.port_rows.proofs.end_at.Goals as goal

pub overflow_mul-result : goal.overflow_mul-result
overflow_mul-result c = let p = c.requires in record { fits = omega (arith, end_words_lem p.1 p.0.hop) }

pub overflow_add-result-2 : goal.overflow_add-result-2
overflow_add-result-2 c = let p = c.requires in record { fits = omega (arith, end_words_lem p.1 p.0.hop, p.0.tail) }

pub returns : goal.returns
returns c = let p = c.requires in (refl, omega (arith, end_words_lem p.1 p.0.hop, p.0.tail))
