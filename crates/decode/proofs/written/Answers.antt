-- `decode::written` meets its contract: what is left of the lines in use has the answer of all. Assumes nothing.
use Rattle.std.proofs.Common.{sym, ◌∙◌, eq-eqb, ne_eqb}
use Rattle.meaning.specs.Description.{no_line}
use Rattle.lists.specs.Loops.{member_turn, member_stop, member_end}
use Rattle.decode.proofs.written.Goals as goal

pub returns-then-line-i : goal.returns-then-line-i
returns-then-line-i c =
    sym (member_stop _ _ _ _ c.loop-line-test.true (eq-eqb _ _ c.if-line-i.true)) ∙ c.loop-line.invariant

pub loop-line-preserved : goal.loop-line-preserved
loop-line-preserved c =
    sym (member_turn _ _ _ _ c.loop-line-test.true (ne_eqb _ _ c.if-line-i.false)) ∙ c.loop-line.invariant

pub returns : goal.returns
returns c = sym (member_end _ _ no_line _ c.loop-line-test.false) ∙ c.loop-line.invariant
