-- `pipe_parts::is_entry` meets its contract. Assumes nothing.
use mathlib.Core.Path.{sym, ap, ◌∙◌}
use mathlib.Core.Bool.{Bool, ◌&&◌}
use Rattle.std.proofs.Common.{ne_eqb}
use Rattle.meaning.specs.Pipes.{is_pipe}
use Rattle.layout.specs.Spans.{process_of}
use Rattle.pipe_parts.specs.Entries.{entry_test, no_entry, pipe_test}
use Rattle.pipe_parts.proofs.is_entry.Goals as goal

pub returns-then-entry_at-p : goal.returns-then-entry_at-p
returns-then-entry_at-p c = let p = c.requires in
    rw (entry_test p c.entry_at.ensures.0 c.if-entry_at-p.true) (pipe_test p c.held_at.ensures)

pub returns-else-entry_at-p : goal.returns-else-entry_at-p
returns-else-entry_at-p c =
    let n = c.args.f.nest in
    ne_eqb c.entry_at.result c.args.p c.if-entry_at-p.false
    ∙ sym (ap (λ (b : Bool). b && is_pipe n c.args.f.stream (process_of n c.args.p))
    (no_entry c.requires c.entry_at.ensures.0 c.if-entry_at-p.false))
