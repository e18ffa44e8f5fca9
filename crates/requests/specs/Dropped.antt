-- A test that Accept once had between its others. Where those before it pass and it applied, its number was given, and now the answer is
-- that of those after it; elsewhere the answer is what it was. Assumes nothing.
use Rattle.std.specs.Prelude.{◌≡◌, Bool, T, length}
use Rattle.std.proofs.Math.Path.{refl, sym}
use Rattle.std.proofs.Common.{◌∙◌, ap, arith, ne_eqb}
use Rattle.std.proofs.Math.Bool.{cond}
use mathlib.Core.List.Memᴰ.{head as here}
use mathlib.Core.List.Memᴰ.{tail as there}
use mathlib.Core.List.{List, [], ◌∷◌, ◌++◌, Memᴰ as In}
use Prim.Native.Nat.{ℕ, zero, suc}
use Rattle.meaning.specs.declared.Limits.{Limits}
use Rattle.meaning.specs.Answers.{Refused}
use Rattle.meaning.specs.Tests.{Test, ◌if◌, refusal}
use Rattle.meaning.specs.Accept.{refusal_of, answer_of, accept}
use Rattle.meaning.specs.Conditions.{Condition, Asks, AnsweredBy, AnsweredBy.accepted, AnsweredBy.refused}
use Rattle.geometry.specs.Tests.{numbered, none_applies, one_applies}
use Rattle.network.specs.Decide.{Says, Says.holds, Says.fails}
use Rattle.guarantee.specs.Refusals.{Tries, Tries.none, Tries.next, all_hold, none_refuses, first_fails}

-- tests that try conditions, cut in two: the first part tries its own, and where all of those hold the second does
split : {A : Condition → Type 0} (cs ds : List Condition) (ts us : List Test) → length cs ≡ length ts → Tries A (cs ++ ds) (ts ++ us)
    → Tries A cs ts × (((c : Condition) → In c cs → A c) → Tries A ds us)
split [] ds [] us e t = (none, λ h. t)
split [] ds (u ∷ ts) us e t = absurd (omega arith)
split (c ∷ cs) ds [] us e t = absurd (omega arith)
split (c ∷ cs) ds (u ∷ ts) us e (next r f) = (
  next r (λ x. (split cs ds ts us (omega arith) (f x)).0),
  λ h. (split cs ds ts us (omega arith) (f (h c (here refl)))).1 (λ d i. h d (there i)),
)

abbrev pub Held : Limits → List ℕ → List Condition → Type 0
Held l s cs = (c : Condition) → In c cs → Asks l s c

-- the refusal was that of now, or k, where the conditions cs hold, and B
pub data Compared (l : Limits) (s : List ℕ) (cs : List Condition) (B : Type 0) (k was : ℕ) : Type 0 where
  same : was ≡ refusal_of l s → Compared l s cs B k was
  given : Held l s cs → B → was ≡ k → Compared l s cs B k was

-- of a test of number k, for B, that stood between the tests of the conditions cs and ds
pub record Dropped (l : Limits) (s : List ℕ) (cs ds : List Condition) (B : Type 0) (k was : ℕ) : Type 0 where
  pub compared : Compared l s cs B k was
  pub was_given : Held l s cs → B → was ≡ k
  pub answered_after : Held l s cs → AnsweredBy l s ds

module _ (l : Limits) (s : List ℕ) (cs ds : List Condition) (ts us : List Test) (k : ℕ) {B : Type 0} {b : Bool} (said : Says B b)
    (long : length cs ≡ length ts) (counted : T (numbered ts)) (tries : Tries (Asks l s) (cs ++ ds) (ts ++ us))
    (now : refusal_of l s ≡ refusal (ts ++ us)) where
  -- the refusal as it was
  abbrev was : ℕ
  was = refusal (ts ++ ((k if b) ∷ us))

  parts : Tries (Asks l s) cs ts × (Held l s cs → Tries (Asks l s) ds us)
  parts = split cs ds ts us long tries

  -- where the conditions before hold, the tests after answer
  onward : Held l s cs → (vs : List Test) → refusal (ts ++ vs) ≡ refusal vs
  onward h vs = sym (none_applies ts vs counted (none_refuses parts.0 h))

  now_onward : Held l s cs → refusal_of l s ≡ refusal us
  now_onward h = now ∙ onward h us

  compare : Compared l s cs B k was
  unfolding refusal
  compare = go (refusal ts) refl
    where
      by : (h : Held l s cs) {b : Bool} → Says B b → was ≡ cond b k (refusal us) → Compared l s cs B k was
      by h (holds y) e = given h y e
      by h (fails n) e = same (e ∙ sym (now_onward h))

      go : (n : ℕ) → refusal ts ≡ n → Compared l s cs B k was
      go zero e = let h = all_hold parts.0 e in by h said (onward h ((k if b) ∷ us))
      go (suc n) e =
          let some : refusal ts ≡ 0 → ⊥ = λ z. omega arith in
          same (sym (one_applies ts ((k if b) ∷ us) some) ∙ one_applies ts us some ∙ sym now)

  give : Held l s cs → B → was ≡ k
  unfolding refusal
  give h y = onward h ((k if b) ∷ us) ∙ go said
    where
      go : {b : Bool} → Says B b → cond b k (refusal us) ≡ k
      go (holds x) = refl
      go (fails n) = absurd (n y)

  after : Held l s cs → AnsweredBy l s ds
  unfolding accept
  after h = go (refusal us) refl
    where
      go : (n : ℕ) → refusal us ≡ n → AnsweredBy l s ds
      go zero e = accepted (ap (answer_of s) (now_onward h ∙ e))
      go (suc n) e = refused (suc n) (ap (answer_of s) (now_onward h ∙ e) ∙ some n) (first_fails (parts.1 h) e (omega arith))
        where
          some : (n : ℕ) → answer_of s (suc n) ≡ Refused (suc n)
          some n = rw (ne_eqb (suc n) 0 (λ g. omega arith)) refl

  pub dropped : Dropped l s cs ds B k was
  dropped = record { compared = compare; was_given = give; answered_after = after }
