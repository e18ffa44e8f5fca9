-- `port_fill::joined` meets its contract: the limits on a stream's pipes and on its hop bound their product, so that the sums fit 32 bits.
-- Assumes nothing.
use native.Mathlib.Omega.{arith}
use Rattle.survey.specs.StateWords.{end_words_lem}
use Rattle.port_fill.proofs.joined.Goals as goal

pub overflow_mul-result : goal.overflow_mul-result
overflow_mul-result c = let p = c.requires in record { fits = omega (arith, end_words_lem p.2 p.1) }

pub overflow_add-result-5 : goal.overflow_add-result-5
overflow_add-result-5 c = let p = c.requires in record { fits = omega (arith, end_words_lem p.2 p.1, p.0.ends) }
