-- `ready_words::can_pass` meets its contract: the two tests by the port's row. Assumes nothing.
use mathlib.Core.Path.{sym, ◌∙◌}
use native.Mathlib.Omega.{arith}
use Rattle.ready_words.specs.Moves.{passes_taking, passes_giving}
use Rattle.ready_words.proofs.can_pass.Goals as goal

pub port-k-requires : goal.port-k-requires
port-k-requires c = let p = c.requires in (p.0.words, omega (arith, p.0.processes), omega (arith, p.0.streams))

pub can_take-takes-requires : goal.can_take-takes-requires
can_take-takes-requires c = let p = c.requires in rw c.port-k.ensures (p.0.ports _ _ p.1 p.2)

pub can_give-gives-requires : goal.can_give-gives-requires
can_give-gives-requires c = let p = c.requires in rw c.port-k.ensures (p.0.ports _ _ p.1 p.2)

pub returns-then-takes : goal.returns-then-takes
returns-then-takes c =
    c.if-takes.true ∙ sym (passes_taking _ _ _ _ c.port-k.ensures (sym c.can_take-takes.ensures ∙ c.if-takes.true))

pub returns-else-takes : goal.returns-else-takes
returns-else-takes c =
    c.can_give-gives.ensures ∙ sym (passes_giving _ _ _ _ c.port-k.ensures (sym c.can_take-takes.ensures ∙ c.if-takes.false))
