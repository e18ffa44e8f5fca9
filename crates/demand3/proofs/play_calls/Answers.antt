-- `demand3::play_calls` meets its contract: after k turns k calls are played. Assumes nothing.
use mathlib.Core.Path.{sym, ◌∙◌, ap}
use native.Mathlib.Omega.{arith}
use borrow.Author.Rules.{rules}
use Rattle.demand3.specs.Play.{lent_of, play_from, play_all, play_next, play_none}
use Rattle.demand3.proofs.play_calls.Goals as goal

pub loop-k-init : goal.loop-k-init
loop-k-init c = play_all c.args.s.now c.args.calls.now _ _

pub play_call-requires : goal.play_call-requires
play_call-requires c = omega arith

pub loop-k-preserved : goal.loop-k-preserved
loop-k-preserved c =
    let q = c.loop-k in
    let a = c.args in
    let L = lent_of a.waiting.now q.received q.state q.words q.output q.part q.answers in
    q.invariant ∙ play_next a.s.now a.calls.now _ q.k L (omega arith) ∙ ap (play_from a.s.now a.calls.now _ _) (sym c.play_call.ensures)

pub returns : goal.returns
returns c =
    let q = c.loop-k in
    let a = c.args in
    let L = lent_of a.waiting.now q.received q.state q.words q.output q.part q.answers in
    sym (q.invariant ∙ play_none a.s.now a.calls.now _ q.k L (omega arith))
