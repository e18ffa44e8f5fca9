-- `port_rows::port_at` meets its contract. Assumes nothing.
use mathlib.Core.Path.{refl}
use native.Mathlib.Omega.{arith}
use Rattle.survey.specs.StateWords.{process_words_lem}
use Rattle.port_rows.proofs.port_at.Goals as goal

pub overflow_mul-result : goal.overflow_mul-result
overflow_mul-result c = let p = c.requires in
    record { fits = omega (arith, process_words_lem {p = c.args.p} (omega (arith, p.1)) p.0.stride) }

pub overflow_add-result : goal.overflow_add-result
overflow_add-result c = let p = c.requires in
    record { fits = omega (arith, process_words_lem {p = c.args.p} (omega (arith, p.1)) p.0.stride, p.0.offset) }

pub returns : goal.returns
returns c = let p = c.requires in
    (refl, omega (arith, process_words_lem {p = c.args.p} (omega (arith, p.1)) p.0.stride, p.0.offset))
