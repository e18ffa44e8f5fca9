-- `ready_words::mark_ready` meets its contract: the words are those of the processes below p. Assumes nothing.
use mathlib.Core.Path.{◌≡◌, sym, ◌∙◌, ap}
use mathlib.Core.List.{List}
use Prim.Native.Nat.{ℕ}
use native.Mathlib.Omega.{arith}
use Rattle.bits.specs.Words.{marked}
use Rattle.bits.specs.Ready.{marked_to, marked_none, marked_pass, marked_fail}
use Rattle.ready_words.specs.Moves.{moves_by}
use Rattle.ready_words.proofs.mark_ready.Goals as goal
use Rattle.ready_words.proofs.mark_ready.Goals.{then-can_move, else-can_move}

pub loop-p-init : goal.loop-p-init
loop-p-init c = sym (marked_none _ _)

pub overflow_cast-p : goal.overflow_cast-p
overflow_cast-p c = omega (arith, c.requires.0.processes)

pub mark-requires : goal.mark-requires
mark-requires c = (omega arith, omega (arith, c.requires.0.processes))

pub loop-p-preserved : goal.loop-p-preserved
loop-p-preserved c =
    elim c.if-can_move.branch [
      | then-can_move w ↦ w.words-is ∙ w.mark.ensures ∙ ap (λ (words : List ℕ). marked words c.loop-p.p) c.loop-p.invariant
          ∙ sym (marked_pass _ _ _ (sym c.can_move.ensures ∙ w.if-can_move.true))
      | else-can_move w ↦ w.words-is ∙ c.loop-p.invariant ∙ sym (marked_fail _ _ _ (sym c.can_move.ensures ∙ w.if-can_move.false))
    ]

pub returns : goal.returns
returns c =
    let l = c.loop-p in
    let a = c.args in
    let f = moves_by a.ports.now a.state.now a.z.streams in
    let e : l.p ≡ a.z.processes = omega arith in
    l.invariant ∙ ap (λ (k : ℕ). marked_to f k c.clear.new.words) e ∙ ap (marked_to f a.z.processes) c.clear.ensures
