-- `demand3::play_call` meets its contract. Assumes nothing.
use mathlib.Core.Path.{ap}
use borrow.Author.Rules.{rules}
use Rattle.demand3.specs.Play.{lent_after}
use Rattle.demand3.proofs.play_call.Goals as goal

pub returns : goal.returns
returns c =
    let a =
    c.args in
    rw c.note.ensures (ap (lent_after a.answers.now a.k) c.make_call-noted.ensures)
