-- Refusals against conditions: a test refuses exactly where its condition fails, and a list of tests tried in order answers the number of
-- the first condition that fails. Assumes nothing.
use Rattle.std.specs.Prelude.{◌≡◌, Bool, true, false, not, ◌&&◌, ◌||◌, ℕ, ◌≤◌, ◌<◌, T, ltb, ℤ, pos, negsuc, ◌≤ℤ◌, ◌<ℤ◌}
use Rattle.std.proofs.Math.Path.{refl, ap, subst}
use Rattle.std.proofs.Common.{sym, ◌∙◌, arith, ltb-true, ltb-false}
use mathlib.Core.List.Memᴰ.{head as here}
use mathlib.Core.List.Memᴰ.{tail as there}
use mathlib.Core.List.{List, [], ◌∷◌, ◌++◌, Memᴰ as In}
use Rattle.std.specs.Int.Signed.{le_z, lt_z}
use Rattle.integers.specs.Differences.{le_out, lt_out}
use Rattle.integers.specs.Words.{eq_z, less, not_less}
use Rattle.integers.specs.declared.V2.{V2}
use Rattle.meaning.specs.Space.{eq2}
use Rattle.meaning.specs.Tests.{Test, ◌if◌, refusal}
use Rattle.meaning.specs.Points.{Between}
use Rattle.meaning.specs.Accept.{small}
use Rattle.meaning.specs.Conditions.{Small, Condition, Condition.Board, Condition.Begins, Condition.Sizes-fit, Condition.Long}
use Rattle.meaning.specs.Conditions.{Condition.Words-fit, Condition.Bounds-fit, Condition.Instances, Condition.Place-rank}
use Rattle.meaning.specs.Conditions.{Condition.Increment, Condition.Processes, Condition.Rank, Condition.Line, Condition.Move}
use Rattle.meaning.specs.Conditions.{Condition.Hop, Condition.Order, Condition.Loading, Condition.Touched, number_of, First}
use Rattle.geometry.specs.Numbers.{eq_z_eq, eq_eq_z, eq2_eq, eq_eq2}
use Rattle.network.specs.Decide.{Says, Says.holds, Says.fails, says_as, says_and}

-- ---- one test

-- the test b refuses exactly where A fails
pub data Refuses (A : Type 0) : Bool → Type 0 where
  met : A → Refuses A false
  broken : (A → ⊥) → Refuses A true

module _ {A B : Type 0} where
  pub refuses_as : {b : Bool} → (A → B) → (B → A) → Refuses A b → Refuses B b
  refuses_as f g (met x) = met (f x)
  refuses_as f g (broken n) = broken (λ y. n (g y))

  pub refuses_or : {a b : Bool} → Refuses A a → Refuses B b → Refuses (A × B) (a || b)
  refuses_or (met x) (met y) = met (x, y)
  refuses_or (met x) (broken n) = broken (λ z. n z.1)
  refuses_or (broken n) s = broken (λ z. n z.0)

  -- the test says what the condition denies
  pub refuses_if : {b : Bool} → (B → A → ⊥) → ((A → ⊥) → B) → Says A b → Refuses B b
  refuses_if f g (holds x) = broken (λ y. f y x)
  refuses_if f g (fails n) = met (g n)

pub refuses_not : {A : Type 0} {b : Bool} → Says A b → Refuses A (not b)
refuses_not (holds x) = met x
refuses_not (fails n) = broken n

-- ---- the tests of numbers and points

pub says_by : {A : Type 0} (b : Bool) → (T b → A) → (A → T b) → Says A b
says_by true f g = holds (f tt)
says_by false f g = fails g

pub says_eq_z : (a b : ℤ) → Says (a ≡ b) (eq_z a b)
says_eq_z a b = says_by (eq_z a b) (eq_z_eq a b) (eq_eq_z a b)

pub says_eq2 : (p q : V2) → Says (p ≡ q) (eq2 p q)
says_eq2 p q = says_by (eq2 p q) (eq2_eq p q) (eq_eq2 p q)

pub says_le_z : (a b : ℤ) → Says (a ≤ℤ b) (le_z a b)
says_le_z a b = says_by (le_z a b) (λ t. record { le = t }) (λ h. h.le)

pub says_between : (lo hi w : ℤ) → Says (Between lo hi w) (le_z lo w && le_z w hi)
says_between lo hi w = says_as (λ p. record { lo = p.0; hi = p.1 }) (λ b. (b.lo, b.hi)) (says_and (says_le_z lo w) (says_le_z w hi))

pub says_small : (c : ℤ) → Says (Small c) (small c)
says_small c = says_between (negsuc 0) (pos 1) c

pub refuses_less : (a b : ℕ) → Refuses (b ≤ a) (ltb a b)
refuses_less a b = go (ltb a b) refl
  where
    go : (t : Bool) → ltb a b ≡ t → Refuses (b ≤ a) t
    go true e = broken (λ h. omega (arith, ltb-true a b e))
    go false e = met (ltb-false a b e)

pub refuses_less_z : (a b : ℤ) → Refuses (b ≤ℤ a) (lt_z a b)
refuses_less_z a b = go (lt_z a b) refl
  where
    go : (t : Bool) → lt_z a b ≡ t → Refuses (b ≤ℤ a) t
    go true e = broken (λ h. let k : a <ℤ b = less e in omega (arith, le_out h, lt_out k))
    go false e = met (not_less e)

-- ---- tests in order

-- each test refuses exactly where its condition fails, if the conditions before it hold
pub data Tries (A : Condition → Type 0) : List Condition → List Test → Type 0 where
  none : Tries A [] []
  next : {c : Condition} {cs : List Condition} {b : Bool} {ts : List Test} → Refuses (A c) b → (A c → Tries A cs ts)
      → Tries A (c ∷ cs) ((number_of c if b) ∷ ts)

-- the numbers of conditions: none is 0, and none is 9
pub numbered : (c : Condition) → (0 < number_of c) × (number_of c ≡ 9 → ⊥)
numbered Board = (omega arith, λ e. omega arith)
numbered Begins = (omega arith, λ e. omega arith)
numbered Sizes-fit = (omega arith, λ e. omega arith)
numbered Long = (omega arith, λ e. omega arith)
numbered Words-fit = (omega arith, λ e. omega arith)
numbered Bounds-fit = (omega arith, λ e. omega arith)
numbered Instances = (omega arith, λ e. omega arith)
numbered Place-rank = (omega arith, λ e. omega arith)
numbered Increment = (omega arith, λ e. omega arith)
numbered Processes = (omega arith, λ e. omega arith)
numbered (Rank i) = (omega arith, λ e. omega arith)
numbered (Line i) = (omega arith, λ e. omega arith)
numbered (Move i) = (omega arith, λ e. omega arith)
numbered (Hop i) = (omega arith, λ e. omega arith)
numbered (Order i) = (omega arith, λ e. omega arith)
numbered (Loading i) = (omega arith, λ e. omega arith)
numbered (Touched i) = (omega arith, λ e. omega arith)

module _ {A : Condition → Type 0} where
  -- the answer is 0 exactly where all hold
  pub all_hold : {cs : List Condition} {ts : List Test} → Tries A cs ts → refusal ts ≡ 0 → (c : Condition) → In c cs → A c
  unfolding refusal
  all_hold none e c i = elim i [ ]
  all_hold (next {c = d} (met x) f) e c (here p) = subst A (sym p) x
  all_hold (next (met x) f) e c (there i) = all_hold (f x) e c i
  all_hold (next {c = d} (broken n) f) e c i = absurd (omega (arith, (numbered d).0))

  pub none_refuses : {cs : List Condition} {ts : List Test} → Tries A cs ts → ((c : Condition) → In c cs → A c) → refusal ts ≡ 0
  unfolding refusal
  none_refuses none h = refl
  none_refuses (next {c} (met x) f) h = none_refuses (f x) (λ d i. h d (there i))
  none_refuses (next {c} (broken n) f) h = absurd (n (h c (here refl)))

  -- and k exactly where the first that fails has the number k
  pub first_fails : {cs : List Condition} {ts : List Test} {k : ℕ} → Tries A cs ts → refusal ts ≡ k → 0 < k → First A cs k
  unfolding refusal
  first_fails none e h = absurd (omega arith)
  first_fails (next {c} (met x) f) e h =
      let r = first_fails (f x) e h in
      record {
        passed = c ∷ r.passed;
        failed = r.failed;
        rest = r.rest;
        order = ap (λ (l : List Condition). c ∷ l) r.order;
        number = r.number;
        holds = before x r.holds;
        fails = r.fails;
      }
    where
      before : {c : Condition} {l : List Condition} → A c → ((d : Condition) → In d l → A d) → (d : Condition) → In d (c ∷ l) → A d
      before x g d (here p) = subst A (sym p) x
      before x g d (there i) = g d i
  first_fails (next {c} {cs} (broken n) f) e h =
      record { passed = []; failed = c; rest = cs; order = refl; number = e; holds = λ d i. elim i [ ]; fails = n }

  pub refuses_first : {cs : List Condition} {ts : List Test} {k : ℕ} → Tries A cs ts → First A cs k → refusal ts ≡ k
  unfolding refusal
  refuses_first {ts} t r =
      go r.passed r.rest r.holds r.fails (subst (λ (l : List Condition). Tries A l ts) r.order t) ∙ r.number
    where
      go : {c : Condition} {ts : List Test} (p l : List Condition) → ((d : Condition) → In d p → A d) → (A c → ⊥)
          → Tries A (p ++ (c ∷ l)) ts → refusal ts ≡ number_of c
      go [] l h n (next (met x) f) = absurd (n x)
      go [] l h n (next (broken m) f) = refl
      go (d ∷ p) l h n (next (met x) f) = go p l (λ c i. h c (there i)) n (f x)
      go (d ∷ p) l h n (next (broken m) f) = absurd (m (h d (here refl)))
