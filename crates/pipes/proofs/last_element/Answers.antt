-- `pipes::last_element` meets its contract: a computing process has a last instance, so that the word of its number plus one is not 0.
-- Assumes nothing.
use mathlib.Core.Path.{◌∙◌, ap}
use native.Mathlib.Omega.{arith}
use Rattle.integers.specs.Vectors.{image}
use Rattle.pipes.specs.Elements.{last_number}
use Rattle.pipes.proofs.last_element.Goals as goal

pub overflow_sub-spans : goal.overflow_sub-spans
overflow_sub-spans c = let p = c.requires in omega (arith, (last_number p).0)

pub instance-requires : goal.instance-requires
instance-requires c = let p = c.requires in (p.flows.laid.in_range_lem.nest, (last_number p).1)

pub returns : goal.returns
returns c =
    c.image_of.ensures.0 ∙ ap (image c.args.f.stream.map) (c.instance.ensures.0 ∙ (last_number c.requires).2)
