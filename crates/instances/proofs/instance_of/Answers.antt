-- `instances::instance_of` meets its contract. Assumes nothing.
use mathlib.Core.Path.{◌∙◌, ap₂}
use lib.IntN.{pos}
use Rattle.integers.specs.Vectors.{shift3}
use Rattle.integers.specs.declared.V3.{V3}
use Rattle.instances.proofs.instance_of.Goals as goal

pub returns : goal.returns
returns c =
    c.later.ensures ∙ ap₂ (λ (x i : V3). shift3 x (pos c.args.f) i) c.first_of.ensures.0 c.requires.increment
