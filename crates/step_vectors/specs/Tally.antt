-- The counts as a loop makes them, answer by answer. Assumes nothing.
use Rattle.std.specs.Prelude.{◌≡◌, Bool, cond, ℕ, ◌+◌, ◌≤◌, ◌<◌, eqb, set, take, replicate}
use Rattle.std.proofs.Math.Path.{refl, ap}
use Rattle.std.proofs.Common.{sym, ◌∙◌, add-zero, add-one, arith, length-set, length-take, take-suc, take_all}
use Rattle.std.proofs.Common.{get_or-set_same, get_or-set_other, ext_get_or, eq-eqb, ne_eqb}
use mathlib.Core.List.{List, map}
use Rattle.std.proofs.Math.Decide.{ℕ_discrete}
use Rattle.std.proofs.Math.ListN.{length, get_or, get_or-replicate}
use Rattle.integers.specs.declared.V3.{V3}
use Rattle.meaning.specs.Lists.{filter, numbers}
use Rattle.meaning.specs.StepVectors.{vectors, how_many, answer_count}
use Rattle.meaning.specs.HowManyWork.{step_vector}
use Rattle.lists.specs.Rows.{length_numbers, get_d_first}
use Rattle.lists.specs.Tests.{filter_fewer}
use Rattle.choices.specs.Counts.{many_next}
use Rattle.vectors.specs.Within.{Within}
use Rattle.prospect.specs.declared.Prospect.{Prospect}
use Rattle.prospect.specs.Prospects.{Answering, answer_by}

-- the answers, one for each vector, and how many of them are each
abbrev pub answers_by : Prospect → ℕ → ℕ → List ℕ
answers_by p k loops = map (λ v. answer_by p (step_vector v)) (vectors k loops)

abbrev pub tally_of : Prospect → ℕ → ℕ → List ℕ
tally_of p k loops = map (λ a. how_many a (answers_by p k loops)) (numbers answer_count)

-- what they are counted by: every answer has its count
pub record Tallying (p : Prospect) (k loops : ℕ) : Type 0 where
  pub few : k ≤ 3
  pub least : 2 ≤ loops
  pub most : loops ≤ 3
  pub answering : (v : V3) → Within 8 v → Answering p v
  pub below : (v : V3) → answer_by p v < answer_count

-- the counts of the first j answers
pub record Counted (answers : List ℕ) (j : ℕ) (counts : List ℕ) : Type 0 where
  pub long : length counts ≡ answer_count
  pub each : (a : ℕ) → a < answer_count → get_or counts a 0 ≡ how_many a (take j answers)

module _ (answers : List ℕ) where
  pub count_most : {j : ℕ} {counts : List ℕ} → Counted answers j counts → (a : ℕ) → a < answer_count → get_or counts a 0 ≤ length answers
  count_most {j} h a l =
      omega (arith, h.each a l, filter_fewer (λ x. eqb x a) (take j answers), length-take j answers)

  -- none yet
  pub counted_none : {counts : List ℕ} → counts ≡ replicate answer_count 0 → Counted answers 0 counts
  unfolding filter
  counted_none e =
      record {
        long = ap length e;
        each = λ a l. ap (λ (c : List ℕ). get_or c a 0) e ∙ get_or-replicate answer_count a 0 0 l ∙ nothing a answers;
      }
    where
      nothing : (a : ℕ) (l : List ℕ) → 0 ≡ how_many a (take 0 l)
      nothing a l = refl

  -- one answer more
  pub counted_next : {j x : ℕ} {counts : List ℕ} → j < length answers → x ≡ get_or answers j 0 → x < answer_count → Counted answers j counts
      → Counted answers (j + 1) (set counts x (get_or counts x 0 + 1))
  counted_next {j} {x} {counts} l e b h =
      record { long = length-set counts x (get_or counts x 0 + 1) ∙ h.long; each = λ a m. at a m (ℕ_discrete a x) }
    where
      more : (a : ℕ) → how_many a (take (j + 1) answers) ≡ how_many a (take j answers) + cond (eqb x a) 1 0
      more a =
          ap (how_many a) (ap (λ (n : ℕ). take n answers) (add-one j) ∙ take-suc answers j 0 l)
          ∙ many_next a (get_or answers j 0) (take j answers)
          ∙ ap (λ (y : ℕ). how_many a (take j answers) + cond (eqb y a) 1 0) (sym e)

      at : (a : ℕ) → a < answer_count → Dec (a ≡ x)
          → get_or (set counts x (get_or counts x 0 + 1)) a 0 ≡ how_many a (take (j + 1) answers)
      at a m (yes z) =
          ap (λ (i : ℕ). get_or (set counts x (get_or counts x 0 + 1)) i 0) z
          ∙ get_or-set_same counts x (get_or counts x 0 + 1) 0 (omega (arith, h.long))
          ∙ ap (λ (n : ℕ). n + 1) (ap (λ (i : ℕ). get_or counts i 0) (sym z) ∙ h.each a m)
          ∙ sym (more a ∙ ap (λ (c : Bool). how_many a (take j answers) + cond c 1 0) (eq-eqb x a (sym z)))
      at a m (no z) =
          get_or-set_other counts x a (get_or counts x 0 + 1) 0 z ∙ h.each a m
          ∙ sym (more a ∙ ap (λ (c : Bool). how_many a (take j answers) + cond c 1 0) (ne_eqb x a (λ e. z (sym e))) ∙ add-zero _)

  -- all of them
  pub counted_all : {j : ℕ} {counts : List ℕ} → length answers ≤ j → Counted answers j counts
      → counts ≡ map (λ a. how_many a answers) (numbers answer_count)
  counted_all {j} {counts} l h =
      ext_get_or 0 counts (map (λ a. how_many a answers) (numbers answer_count))
      (h.long ∙ sym (length_numbers (λ a. how_many a answers) 0 18))
      (λ a m.
      let b : a < answer_count = omega (arith, h.long) in
      h.each a b ∙ ap (how_many a) (take_all j answers l) ∙ sym (get_d_first (λ a. how_many a answers) 0 18 a b))
