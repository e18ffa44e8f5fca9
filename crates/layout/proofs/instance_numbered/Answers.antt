-- `layout::instance_numbered` meets its contract. Assumes nothing.
use mathlib.Core.Path.{◌∙◌}
use native.Mathlib.Omega.{arith}
use Rattle.layout.specs.Spans.{numbered_none, numbered_one, zero_small}
use Rattle.layout.proofs.instance_numbered.Goals as goal

pub instance-requires : goal.instance-requires
instance-requires c = (c.requires.0, omega (arith, c.if-k-eq0.false, c.requires.1))

pub returns-then-k-eq0 : goal.returns-then-k-eq0
returns-then-k-eq0 c = (numbered_none _ _ c.if-k-eq0.true, zero_small)

pub returns-else-k-eq0 : goal.returns-else-k-eq0
returns-else-k-eq0 c = (c.instance.ensures.0 ∙ numbered_one _ _ c.if-k-eq0.false, c.instance.ensures.1)
