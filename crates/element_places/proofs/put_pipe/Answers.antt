-- `element_places::put_pipe` meets its contract. Assumes nothing.
use mathlib.Core.Path.{sym, ◌∙◌, subst}
use lib.Dec.{T}
use Rattle.element_places.specs.Lent.{said_entering, said_none}
use Rattle.element_places.specs.Lines.{walking}
use Rattle.element_places.proofs.put_pipe.Goals as goal

pub is_entry-requires : goal.is_entry-requires
is_entry-requires c = c.requires.near

pub put_moving-requires : goal.put_moving-requires
put_moving-requires c =
    (c.requires, subst T (sym c.if-f.true) tt, sym c.is_entry.ensures ∙ c.if-is_entry.true)

pub put_still-requires : goal.put_still-requires
put_still-requires c =
    walking c.requires (sym c.is_entry.ensures ∙ c.if-is_entry.true) c.if-f.false

pub returns-then-f : goal.returns-then-f
returns-then-f c =
    let a = c.args in
    said_entering a.f a.first a.start a.p a.places.now (sym c.is_entry.ensures ∙ c.if-is_entry.true)
    c.put_moving.ensures

pub returns-else-f : goal.returns-else-f
returns-else-f c =
    let a = c.args in
    said_entering a.f a.first a.start a.p a.places.now (sym c.is_entry.ensures ∙ c.if-is_entry.true)
    c.put_still.ensures

pub returns-else-is_entry : goal.returns-else-is_entry
returns-else-is_entry c =
    let a = c.args in
    said_none a.f a.first a.start a.p a.places.now (sym c.is_entry.ensures ∙ c.if-is_entry.false)
