-- `accept::numbers_of` meets its contract. Assumes nothing.
use mathlib.Core.Path.{refl, ap₂}
use native.Mathlib.Omega.{arith}
use Rattle.accept.proofs.numbers_of.Goals as goal

pub figures_of-figures-requires : goal.figures_of-figures-requires
figures_of-figures-requires c = let p = c.requires in (p.0, p.1, omega arith, refl)

pub returns : goal.returns
returns c = ap₂ (λ f g. (f, g)) c.figures_of-figures.ensures.0 c.divisors_of.ensures
