-- `ready_words::can_move` meets its contract: the streams from i on say what all say. Assumes nothing.
use mathlib.Core.Path.{sym, ◌∙◌}
use native.Mathlib.Omega.{arith}
use Rattle.lists.specs.Loops.{any_start, any_turn, any_stop, any_end}
use Rattle.ready_words.specs.Moves.{moves_passing, moves_firing}
use Rattle.ready_words.proofs.can_move.Goals as goal

pub loop-i-init : goal.loop-i-init
loop-i-init c = sym (any_start _ _)

pub returns-then-can_pass : goal.returns-then-can_pass
returns-then-can_pass c =
    sym (moves_passing _ _ _ _ (sym c.loop-i.invariant ∙ any_stop _ _ _ (omega arith) (sym c.can_pass.ensures ∙ c.if-can_pass.true)))

pub loop-i-preserved : goal.loop-i-preserved
loop-i-preserved c = sym (any_turn _ _ _ (omega arith) (sym c.can_pass.ensures ∙ c.if-can_pass.false)) ∙ c.loop-i.invariant

pub returns : goal.returns
returns c = c.can_fire.ensures ∙ sym (moves_firing _ _ _ _ (sym c.loop-i.invariant ∙ any_end _ _ _ (omega arith)))
