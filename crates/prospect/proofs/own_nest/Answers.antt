-- `prospect::own_nest` meets its contract. Assumes nothing.
use mathlib.Core.Path.{◌≡◌, refl, subst}
use lib.IntN.{pos}
use Rattle.integers.specs.Vectors.{zero3, dot}
use Rattle.integers.specs.declared.V3.{V3}
use Rattle.prospect.specs.Own.{own_moves}
use Rattle.prospect.proofs.own_nest.Goals as goal

pub line_of-short-requires : goal.line_of-short-requires
line_of-short-requires c = (c.requires.step, c.requires.place)

pub step_along-requires : goal.step_along-requires
step_along-requires c = c.line_of-short.ensures.1

pub returns : goal.returns
returns c =
    let e = c.step_along.ensures in
    record {
      same = refl;
      small = e.0;
      moves =
          own_moves c.args.n c.step_along.result
          (subst (λ (u : V3). dot c.step_along.result u ≡ pos 0 → u ≡ zero3) c.line_of-short.ensures.0 e.1);
    }
