-- `numbering::instance` meets its contract: each component is its loop's value after its turns. Assumes nothing.
use mathlib.Core.Path.{◌≡◌, ◌∙◌, ap, sym, subst}
use Prim.Native.Nat.{ℕ, ◌<◌}
use lib.IntN.{ℤ, pos}
use lib.ListN.{get_or}
use Rattle.integers.specs.Vectors.{same3}
use Rattle.integers.specs.Words.{held}
use Rattle.vectors.specs.Within.{Within}
use Rattle.numbering.specs.declared.Loop.{Loop}
use Rattle.numbering.specs.Ranges.{turns, values, Ranged, instance_small, outer_ranged, middle_ranged, inner_ranged, loop_words}
use Rattle.numbering.specs.Turns.{instance_is}
use Rattle.numbering.proofs.instance.Goals as goal

abbrev value : ℕ → Loop → ℤ
value i l = get_or (values l) i (pos 0)

turned_in : {l k : Loop} (i : ℕ) → (l ≡ k) × Ranged l → i < turns k → Ranged l × (i < turns l)
turned_in i h t = (h.1, subst (λ (l : Loop). i < turns l) (sym h.0) t)

pub value_after-requires : goal.value_after-requires
value_after-requires c = turned_in _ (loop_words (outer_ranged c.requires.0) c.loop_of.ensures) c.turns_before-t.ensures.outer

pub value_after-requires-2 : goal.value_after-requires-2
value_after-requires-2 c = turned_in _ (loop_words (middle_ranged c.requires.0) c.loop_of-2.ensures) c.turns_before-t.ensures.middle

pub value_after-requires-3 : goal.value_after-requires-3
value_after-requires-3 c = turned_in _ (loop_words (inner_ranged c.requires.0) c.loop_of-3.ensures) c.turns_before-t.ensures.inner

pub returns : goal.returns
returns c =
    let h = c.requires.0 in
    let z = c.value_after-3 in
    let y = c.value_after-2 in
    let x = c.value_after in
    let t = c.turns_before-t in
    let u = t.result in
    let e =
    same3 (held x.type_inv (x.ensures ∙ ap (value u.outer) (loop_words (outer_ranged h) c.loop_of.ensures).0))
    (held y.type_inv (y.ensures ∙ ap (value u.middle) (loop_words (middle_ranged h) c.loop_of-2.ensures).0))
    (held z.type_inv (z.ensures ∙ ap (value u.inner) (loop_words (inner_ranged h) c.loop_of-3.ensures).0))
    ∙ instance_is c.args.n c.args.k u t.ensures in
    (e, subst (Within 64) (sym e) (instance_small c.args.k h c.requires.1))
