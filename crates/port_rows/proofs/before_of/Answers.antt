-- `port_rows::before_of` meets its contract: a process is the entry of its line exactly if none stands before it there; before any other
-- there is one to go back to. Assumes nothing.
use mathlib.Core.Path.{refl, ◌∙◌, ap}
use Prim.Native.Nat.{ℕ, ◌+◌, ◌*◌}
use Rattle.pipe_parts.specs.Entries.{none_before, one_before}
use Rattle.port_rows.specs.Strands.{some_before}
use Rattle.port_rows.proofs.before_of.Goals as goal

pub number_back-requires : goal.number_back-requires
number_back-requires c =
    let p = c.requires.0 in
    (p.seen.flows, p.lt, some_before (one_before p c.entry_at.ensures.0 c.if-entry_at-p.false))

pub returns-then-entry_at-p : goal.returns-then-entry_at-p
returns-then-entry_at-p c = let p = c.requires.0 in rw (none_before p c.entry_at.ensures.0 c.if-entry_at-p.true) refl

pub returns-else-entry_at-p : goal.returns-else-entry_at-p
returns-else-entry_at-p c =
    let g = c.args.g in
    rw (one_before c.requires.0 c.entry_at.ensures.0 c.if-entry_at-p.false)
    (ap (λ (a : ℕ). a + 1) (c.port_at.ensures.0 ∙ ap (λ (k : ℕ). k * g.stride + g.offset) c.number_back.ensures.0))
