-- `fire::fire` meets its contract: a process that can fire has fired less often than its count, so that one more fits 32 bits; the words
-- that it uses lie in the state. Assumes nothing.
use mathlib.Core.Path.{◌≡◌}
use native.Mathlib.Omega.{arith}
use lib.ListN.{length}
use borrow.Author.Rules.{rules}
use Rattle.fire.specs.Firing.{used_fit, used_list, runnable, fire_facts}
use Rattle.fire.proofs.fire.Goals as goal

pub word-f-requires : goal.word-f-requires
word-f-requires c = (c.requires.0.ports 0 c.requires.0.some).fired

pub used_words-words-requires : goal.used_words-words-requires
used_words-words-requires c = used_fit _ _ _ c.requires.0

pub execute-requires : goal.execute-requires
execute-requires c =
    let l : length c.args.ports ≡ 6 = search rules in
    let e = c.used_words-words.ensures in
    rw (e, used_list c.args.ports c.args.streams c.requires.0.most l) (runnable _ _ _ _ _ c.requires.0 l c.requires.1)

pub overflow_cast-state : goal.overflow_cast-state
overflow_cast-state c =
    let k = c.requires.0.ports 0 c.requires.0.some in
    omega (arith, k.count, fire_facts c.args.state.now c.args.ports c.args.streams c.requires.2)

pub offset_bounds-state-fired : goal.offset_bounds-state-fired
offset_bounds-state-fired c =
    omega (arith, (c.requires.0.ports 0 c.requires.0.some).fired)

pub bounds-state-fired : goal.bounds-state-fired
bounds-state-fired c =
    omega (arith, (c.requires.0.ports 0 c.requires.0.some).fired)

pub returns : goal.returns
returns c =
    let l : length c.args.ports ≡ 6 = search rules in
    let e = used_list c.args.ports c.args.streams c.requires.0.most l in
    rw (c.execute.ensures, c.used_words-words.ensures, c.word-f.ensures.0, e)
