-- `port_fill::strand_of` meets its contract: the words of all processes, with those of the ends before the stream's, are at most the most
-- of a state, so their sum fits a word. Assumes nothing.
use mathlib.Core.Path.{refl}
use native.Mathlib.Omega.{arith}
use Rattle.port_fill.specs.Strung.{strand_narrow}
use Rattle.survey.specs.StateWords.{process_words_lem}
use Rattle.port_fill.proofs.strand_of.Goals as goal

pub overflow_mul-result : goal.overflow_mul-result
overflow_mul-result c = let p = c.requires in record { fits = omega (arith, process_words_lem p.1 p.2) }

pub overflow_add-result-2 : goal.overflow_add-result-2
overflow_add-result-2 c = let p = c.requires in record { fits = omega (arith, process_words_lem p.1 p.2, p.3.ends) }

pub returns : goal.returns
returns c = let p = c.requires in (refl, strand_narrow p.0 p.1 p.2 p.3)
