-- `ReadySet::put` meets its contract: a number that is not as it is to be is turned over. Assumes nothing.
use mathlib.Core.Path.{◌≡◌, refl, sym, ◌∙◌, ap, subst}
use mathlib.Core.Bool.{Bool, true, false, not, beq}
use Rattle.ready_set.specs.Flags.{Kept, put}
use Rattle.ready_set.specs.Keeping.{put_kept}
use Rattle.ready_set.proofs.ReadySet.put.Goals as goal

differ : (a b : Bool) → not (beq a b) ≡ true → not a ≡ b
differ true false t = refl
differ false true t = refl
differ true true t = t
differ false false t = sym t

agree : (a b : Bool) → not (beq a b) ≡ false → a ≡ b
agree true true t = refl
agree false false t = refl
agree true false t = t
agree false true t = sym t

pub returns-then-has-b : goal.returns-then-has-b
returns-then-has-b c = λ f kept.
    let t = c.turn in
    let h = c.has in
    let a = c.args in
    subst (λ (b : Bool). Kept (put f a.r b) t.new.self.words)
    (ap not (sym (h.ensures f kept)) ∙ differ h.result a.b c.if-has-b.true) (t.ensures f kept)

pub returns-else-has-b : goal.returns-else-has-b
returns-else-has-b c = λ f kept.
    let h = c.has in
    let a = c.args in
    put_kept f a.self.now.words a.r a.b (sym (h.ensures f kept) ∙ agree h.result a.b c.if-has-b.false) kept
