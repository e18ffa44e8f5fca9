-- Request 2.3, Fill: what it answers and leaves, place by place, and that every value tells its seed. Assumes nothing.
use Rattle.std.specs.Prelude.{◌≡◌, Bool, List, ◌++◌, map, ℕ, suc, ◌+◌, ◌-◌, ◌≤◌, ◌<◌, length, get_or, drop}
use Rattle.std.proofs.Math.Path.{refl}
use Rattle.std.proofs.Common.{sym, ◌∙◌, ap, subst, arith, eq-eqb, ne_eqb, lt-ltb, le-ltb, ltb-false, length-append, length-drop}
use Rattle.std.proofs.Common.{get_or-drop}
use Rattle.std.proofs.Math.Bool.{true, false}
use Rattle.std.proofs.Math.Decide.{ℕ_discrete}
use Rattle.std.proofs.Math.Dec.{ltb}
use Rattle.std.proofs.Math.ListN.{get_or-append}
use Rattle.meaning.specs.Lists.{numbers}
use Rattle.meaning.specs.Tests.{refusal}
use Rattle.meaning.specs.Answers.{answer_number, Done, Refused}
use Rattle.meaning.specs.Generator.{round, after, before, fill}
use Rattle.meaning.specs.GeneratedLoad.{Seed, place_of, Fills}
use Rattle.lists.specs.Rows.{length_numbers, get_d_first}
use Rattle.generated.specs.Rounds.{never_meet, stays, before_after}
use Rattle.guarantee.proofs.Demand1.{fill_beyond}

-- lists that are the same from place n on
pub past_same : {n : ℕ} (xs ys : List ℕ) → drop n xs ≡ drop n ys → (k : ℕ) → n ≤ k → get_or xs k 0 ≡ get_or ys k 0
past_same {n} xs ys e k h =
    let at : n + (k - n) ≡ k = omega arith in
    ap (λ (j : ℕ). get_or xs j 0) (sym at) ∙ sym (get_or-drop n xs (k - n) 0) ∙ ap (λ (l : List ℕ). get_or l (k - n) 0) e
    ∙ get_or-drop n ys (k - n) 0 ∙ ap (λ (j : ℕ). get_or ys j 0) at

module _ (seed n : ℕ) (list : List ℕ) where
  abbrev values : List ℕ
  values = map (λ i. after (suc i) seed) (numbers n)

  -- a call is declined and changes nothing, or it fills
  data Outcome : Type 0 where
    declined : (k : ℕ) → (k ≡ 0 → ⊥) → (fill seed n list).answer ≡ Refused k → (fill seed n list).list ≡ list → Outcome
    filled : (seed ≡ 0 → ⊥) → n ≤ length list → (fill seed n list).answer ≡ Done → (fill seed n list).list ≡ values ++ drop n list → Outcome

  outcome : Outcome
  unfolding fill refusal
  outcome = go (ℕ_discrete seed 0) (ltb (length list) n) refl
    where
      go : Dec (seed ≡ 0) → (b : Bool) → ltb (length list) n ≡ b → Outcome
      go (yes e) b f = declined 29 (λ g. omega arith) (rw (eq-eqb seed 0 e) refl) (rw (eq-eqb seed 0 e) refl)
      go (no z) true f = declined 31 (λ g. omega arith) (rw (ne_eqb seed 0 z, f) refl) (rw (ne_eqb seed 0 z, f) refl)
      go (no z) false f = filled z (ltb-false _ _ f) (rw (ne_eqb seed 0 z, f) refl) (rw (ne_eqb seed 0 z, f) refl)

  -- what is done
  record IsFilled : Type 0 where
    pub not_zero : seed ≡ 0 → ⊥
    pub left : (fill seed n list).list ≡ values ++ drop n list

  is_filled : (fill seed n list).answer ≡ Done → IsFilled
  is_filled d = go outcome
    where
      go : Outcome → IsFilled
      go (declined k z e f) = absurd (z (ap answer_number (sym e ∙ d)))
      go (filled z h e f) = record { not_zero = z; left = f }

  -- the value at place k
  value : (fill seed n list).answer ≡ Done → (k : ℕ) → k < n → place_of seed n list k ≡ after (suc k) seed
  value d k h =
      ap (λ (l : List ℕ). get_or l k 0) (is_filled d).left
      ∙ get_or-append values (drop n list) 0 k (omega (arith, length_numbers (λ i. after (suc i) seed) 0 n))
      ∙ get_d_first (λ i. after (suc i) seed) 0 n k h

  kept : length (fill seed n list).list ≡ length list
  kept = go outcome
    where
      go : Outcome → length (fill seed n list).list ≡ length list
      go (declined k z e f) = ap length f
      go (filled z h e f) =
          ap length f ∙ omega (arith, length-append values (drop n list), length_numbers (λ i. after (suc i) seed) 0 n, length-drop n list)

-- every call
pub fills : (seed n : ℕ) (list : List ℕ) → Fills seed n list
unfolding fill refusal after
fills seed n list =
    let at = value seed n list in
    record {
      zero_seed = λ e. rw (eq-eqb seed 0 e) refl;
      short = λ z h. rw (ne_eqb seed 0 z, lt-ltb _ _ h) refl;
      done = λ z h. rw (ne_eqb seed 0 z, le-ltb _ _ h) refl;
      first = λ d h. at d 0 h;
      next = λ d k h. at d (suc k) h ∙ ap round (sym (at d k (omega arith)));
      rest = past_same (fill seed n list).list list (fill_beyond seed n list);
      long = kept seed n list;
      back = λ w d k h. ap (before (suc k)) (at d k h) ∙ before_after (suc k) seed w;
      seeds = λ w d k h.
          subst Seed (sym (at d k h)) (stays (suc k) seed (record { word = w; not_zero = (is_filled seed n list d).not_zero }));
      apart = λ w d other lent v e k h s.
          never_meet (suc k) seed other w v (sym (at d k h) ∙ s ∙ value other n lent e k h);
    }
