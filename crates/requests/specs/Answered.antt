-- One description under two limits: where the conditions agree, Accept answers the same, and so does every call. Assumes nothing.
use Rattle.std.specs.Prelude.{◌≡◌, refl, Bool, true, false, cond, ℕ, eqb}
use Rattle.std.proofs.Common.{sym, ◌∙◌, ap, subst}
use mathlib.Core.List.Memᴰ
use mathlib.Core.List.Memᴰ.{head as here}
use mathlib.Core.List.{List, ◌∷◌, Memᴰ as In}
use Rattle.meaning.specs.declared.Limits.{Limits}
use Rattle.meaning.specs.Description.{sizes_of, description_of}
use Rattle.meaning.specs.Accept.{refusal_of, accept, figures, divisors}
use Rattle.meaning.specs.Answers.{accept_number, Acceptance, Accepted, Refused}
use Rattle.meaning.specs.Conditions.{Meets, Condition, Asks, conditions, FirstFails}
use Rattle.meaning.specs.Alike.{AnsweredAlike, DeclinedBy}
use Rattle.network.specs.Declined.{declined}
use Rattle.guarantee.specs.Acceptance.{meets_of, of_meets, accepted_exactly, refused_exactly}
use Rattle.guarantee.proofs.Demand1.{demand_one}
use Rattle.guarantee.specs.Alike.{same_refusal}

-- ---- Accept's answer, with the conditions that it stands for

pub data Answered (l : Limits) (s : List ℕ) : Type 0 where
  meets : Meets l s → Answered l s
  fails : (k : ℕ) → FirstFails l s k → Answered l s

pub answered : (l : Limits) (s : List ℕ) → Answered l s
unfolding accept
answered l s = go (eqb (refusal_of l s) 0) (accepted_exactly l s).0 (λ k. (refused_exactly l s k).0)
  where
    says : Bool → Acceptance
    says b = cond b (Accepted (figures (description_of s)) (divisors (description_of s))) (Refused (refusal_of l s))

    go : (b : Bool) → (says b ≡ Accepted (figures (description_of s)) (divisors (description_of s)) → Meets l s)
        → ((k : ℕ) → says b ≡ Refused k → FirstFails l s k) → Answered l s
    go true m f = meets (m refl)
    go false m f = fails (refusal_of l s) (f (refusal_of l s) refl)

-- ---- conditions that agree

abbrev pub Listed : List ℕ → Condition → Type 0
Listed s c = In c (conditions (sizes_of s).streams)

module _ {l k : Limits} {s : List ℕ} (on : (c : Condition) → Listed s c → Asks l s c → Asks k s c) where
  -- what meets all conditions meets the other limits' too
  pub both_accept : Meets l s → accept l s ≡ accept k s
  both_accept m = (accepted_exactly l s).1 m ∙ sym ((accepted_exactly k s).1 (meets_of k s (λ c i. on c i (of_meets l s m c i))))

  -- the same condition is the first to fail, if it fails under the other limits too
  pub both_refuse : {n : ℕ} (f : FirstFails l s n) → (Listed s f.failed → Asks k s f.failed → ⊥) → accept l s ≡ accept k s
  both_refuse {n} f also = (refused_exactly l s n).1 f ∙ sym ((refused_exactly k s n).1 first)
    where
      first : FirstFails k s n
      first =
          record {
            passed = f.passed;
            failed = f.failed;
            rest = f.rest;
            order = f.order;
            number = f.number;
            holds = λ c i. on c (subst (In c) (sym f.order) (Memᴰ.append_left (f.failed ∷ f.rest) i)) (f.holds c i);
            fails = also (subst (In f.failed) (sym f.order) (Memᴰ.append_right f.passed (here refl)));
          }

pub same_answer : {l k : Limits} {s : List ℕ} → ((c : Condition) → Listed s c → Asks l s c → Asks k s c)
    → ((c : Condition) → Listed s c → Asks k s c → Asks l s c) → accept l s ≡ accept k s
same_answer {l} {k} {s} on back = go (answered l s)
  where
    go : Answered l s → accept l s ≡ accept k s
    go (meets m) = both_accept on m
    go (fails n f) = both_refuse on f (λ i a. f.fails (back f.failed i a))

-- ---- one answer of Accept: every call answers and leaves the same

pub alike : (l k : Limits) (s : List ℕ) → accept l s ≡ accept k s → AnsweredAlike l k s
alike l k s e = same_refusal l k s (sym (demand_one l s).numbers.accept ∙ ap accept_number e ∙ (demand_one k s).numbers.accept)

-- what Accept refuses every call declines
pub refused_declines : (l : Limits) (s : List ℕ) (k : ℕ) → (k ≡ 0 → ⊥) → accept l s ≡ Refused k → DeclinedBy l s k
refused_declines l s k n e = declined l s k n (sym (demand_one l s).numbers.accept ∙ ap accept_number e)
