-- `result::all_out` meets its contract: the pipes from q on say what all say. Assumes nothing.
use mathlib.Core.Path.{◌≡◌, sym, ◌∙◌}
use Prim.Native.Nat.{◌-◌}
use native.Mathlib.Omega.{arith}
use borrow.Author.Tests.{eq-eqb, ne_eqb}
use Rattle.lists.specs.Loops.{every_turn, every_stop, every_end}
use Rattle.result.specs.Out.{out_by, out_read}
use Rattle.result.proofs.all_out.Goals as goal

pub loop-q-init : goal.loop-q-init
loop-q-init c = let a = c.args in let e : a.pipes - 0 ≡ a.pipes = omega arith in rw e

pub word-requires : goal.word-requires
word-requires c = rw c.end-e.ensures (c.requires.received c.loop-q.q (omega arith))

pub returns-then-word-e : goal.returns-then-word-e
returns-then-word-e c =
    let a = c.args in
    let e = out_read a.ports.now a.state.now c.loop-q.q c.end-e.ensures
    c.word.ensures.0 in
    sym (every_stop _ a.pipes c.loop-q.q (omega arith) (e ∙ ne_eqb _ _ c.if-word-e.true)) ∙ c.loop-q.invariant

pub loop-q-preserved : goal.loop-q-preserved
loop-q-preserved c =
    let a = c.args in
    let e = out_read a.ports.now a.state.now c.loop-q.q c.end-e.ensures
    c.word.ensures.0 in
    sym (every_turn _ a.pipes c.loop-q.q (omega arith) (e ∙ eq-eqb _ _ c.if-word-e.false)) ∙ c.loop-q.invariant

pub returns : goal.returns
returns c =
    let a = c.args in
    sym (every_end (out_by a.ports.now a.state.now) a.pipes c.loop-q.q (omega arith)) ∙ c.loop-q.invariant
