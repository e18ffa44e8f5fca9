-- `numbering::extent_of` meets its contract: the corners of the box are the outermost values of the rows. Assumes nothing.
use mathlib.Core.Path.{◌∙◌, sym, subst}
use Rattle.integers.specs.Words.{held}
use Rattle.numbering.specs.Corners.{box_corners}
use Rattle.numbering.specs.Extents.{Spanning, same_box, box_spanning}
use Rattle.numbering.proofs.extent_of.Goals as goal

pub outermost-requires : goal.outermost-requires
outermost-requires c = let p = c.requires in (p.1.top, p.0.left, p.0.right)

pub outermost-requires-2 : goal.outermost-requires-2
outermost-requires-2 c = let p = c.requires in (p.1.low, p.0.left, p.0.right)

pub outermost-requires-3 : goal.outermost-requires-3
outermost-requires-3 c = let p = c.requires in (p.1.top, p.0.right, p.0.left)

pub outermost-requires-4 : goal.outermost-requires-4
outermost-requires-4 c = let p = c.requires in (p.1.low, p.0.right, p.0.left)

pub returns : goal.returns
returns c =
    let hib = c.outermost-4 in
    let hia = c.outermost-3 in
    let lob = c.outermost-2 in
    let loa = c.outermost in
    let k = box_corners c.args.m c.requires.0 in
    let e =
    same_box (held loa.type_inv loa.ensures ∙ sym k.loa) (held lob.type_inv lob.ensures ∙ sym k.lob)
    (held hia.type_inv hia.ensures ∙ sym k.hia) (held hib.type_inv hib.ensures ∙ sym k.hib) in
    (e, subst Spanning (sym e) (box_spanning c.requires.0 c.requires.1))
