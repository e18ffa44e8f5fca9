-- `window::located` meets its contract: the search finds a pipe exactly if its number is below how many there are, and the elements passed
-- over say where its part begins. Assumes nothing.
use mathlib.Core.Path.{sym, ap}
use mathlib.Core.Bool.{Bool, cond}
use Rattle.window.specs.Pieces.{same_piece, found_piece, lost_piece}
use Rattle.window.proofs.located.Goals as goal

pub all_searched-w-requires : goal.all_searched-w-requires
all_searched-w-requires c = let p = c.requires in (p.0.described, p.1)

pub returns-in-Some : goal.returns-in-Some
returns-in-Some c =
    let a = c.args in
    let f = found_piece a.v.description a.pipe c.all_searched-w.ensures.0 c.in-Some.is in
    record { number = sym (ap (λ (b : Bool). cond b 0 19) f.0); part = same_piece f.1 f.2 }

pub returns-in-None-clause-number : goal.returns-in-None-clause-number
returns-in-None-clause-number c =
    let a = c.args in
    sym (ap (λ (b : Bool). cond b 0 19) (lost_piece a.v.description a.pipe c.all_searched-w.ensures.0 c.in-None.is))
