-- Tests in order, one list after another. Assumes nothing.
use Rattle.std.specs.Prelude.{◌≡◌, refl, Bool, true, false, not, cond, List, [], ◌∷◌, ◌++◌, T, eqb}
use Rattle.std.proofs.Common.{◌∙◌, subst, eq-eqb}
use Rattle.std.proofs.Math.Decide.{ℕ_discrete}
use Rattle.meaning.specs.Tests.{Test, refusal}

-- no test has the number 0
unfoldable pub numbered : List Test → Bool
numbered [] = true
numbered (t ∷ l) = cond (eqb t.number 0) false (numbered l)

-- where none of the first list applies the answer is that of the second, and where one does that of the first
pub none_applies : (a b : List Test) → T (numbered a) → refusal a ≡ 0 → refusal b ≡ refusal (a ++ b)
unfolding refusal numbered
none_applies [] b h e = refl
none_applies (t ∷ a) b h e = go t.applies (eqb t.number 0) (eq-eqb t.number 0) h e (none_applies a b)
  where
    go : (p z : Bool) → (t.number ≡ 0 → z ≡ true) → T (cond z false (numbered a)) → cond p t.number (refusal a) ≡ 0
        → (T (numbered a) → refusal a ≡ 0 → refusal b ≡ refusal (a ++ b)) → refusal b ≡ cond p t.number (refusal (a ++ b))
    go p true f h e ih = absurd h
    go true false f h e ih = absurd (subst (λ (x : Bool). T (not x)) (f e) tt)
    go false false f h e ih = ih h e

pub one_applies : (a b : List Test) → (refusal a ≡ 0 → ⊥) → refusal a ≡ refusal (a ++ b)
unfolding refusal
one_applies [] b f = absurd (f refl)
one_applies (t ∷ a) b f = go t.applies f (one_applies a b)
  where
    go : (p : Bool) → (cond p t.number (refusal a) ≡ 0 → ⊥) → ((refusal a ≡ 0 → ⊥) → refusal a ≡ refusal (a ++ b))
        → cond p t.number (refusal a) ≡ cond p t.number (refusal (a ++ b))
    go true f ih = refl
    go false f ih = ih f

-- none of both applies
pub both_pass : (a b : List Test) → T (numbered a) → refusal (a ++ b) ≡ 0 → (refusal a ≡ 0) × (refusal b ≡ 0)
both_pass a b t e = let z = first (ℕ_discrete (refusal a) 0) in (z, none_applies a b t z ∙ e)
  where
    first : Dec (refusal a ≡ 0) → refusal a ≡ 0
    first (yes z) = z
    first (no f) = one_applies a b f ∙ e
