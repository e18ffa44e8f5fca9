-- Request 2.3, "a generated load": what Fill and Make answer and leave, place by place and word by word, that states and seeds are told
-- apart, and that what Make makes passes Accept's refusals 1 to 4 (`generated-load` of requests).
use Rattle.std.specs.Prelude.{◌≡◌, ◌↔◌, ◌⊎◌, true, ℕ, suc, ◌+◌, ◌*◌, ◌-◌, ◌%◌, ◌^◌, ◌≤◌, ◌<◌, length, get_or, take, ℤ, pos, negsuc, ◌+ℤ◌}
use mathlib.Core.List.{List, [], ◌∷◌, Memᴰ as In}
use Rattle.integers.specs.Bytes.{word_at}
use Rattle.meaning.specs.declared.Limits.{Limits}
use Rattle.meaning.specs.declared.Sizes.{Sizes}
use Rattle.meaning.specs.Answers.{Done, Made, Refused}
use Rattle.meaning.specs.Description.{sizes_of, direction_at, step_at, range_at, in_range}
use Rattle.meaning.specs.Accept.{accept}
use Rattle.meaning.specs.Conditions.{Known, SizesFit, word_total, Condition, Condition.Begins, Condition.Sizes-fit, Condition.Long}
use Rattle.meaning.specs.Conditions.{Condition.Words-fit, Asks, AnsweredBy}
use Rattle.meaning.specs.FixedPoint.{conditions_after}
use Rattle.meaning.specs.Generator.{round, after, previous, before, fill, size_of, drawn, make}

-- a word of 32 bits, and one that is a seed
abbrev pub Word : ℕ → Type 0
Word x = x < 2 ^ 32

pub record Seed (x : ℕ) : Type 0 where
  pub word : Word x
  pub not_zero : x ≡ 0 → ⊥

-- ---- rounds

pub record Rounds : Type 0 where
  -- "each state can be worked out from the one after it", and each has one before it
  pub undone : (x : ℕ) → Word x → previous (round x) ≡ x
  pub redone : (y : ℕ) → Word y → round (previous y) ≡ y
  -- "so two seeds never meet after equal numbers of rounds": equal states after n rounds have equal states before
  pub never_meet : (n x y : ℕ) → Word x → Word y → after n x ≡ after n y → x ≡ y
  -- no seed comes to 0, and no seed to what is no word
  pub stays : (n x : ℕ) → Seed x → Seed (after n x)

-- ---- Fill

-- place k of the list after a call
abbrev pub place_of : ℕ → ℕ → List ℕ → ℕ → ℕ
place_of seed n list k = get_or (fill seed n list).list k 0

pub record Fills (seed n : ℕ) (list : List ℕ) : Type 0 where
  -- "29 for seed zero, checked before anything else; 31 for a list too short, last"; all other calls are done
  pub zero_seed : seed ≡ 0 → (fill seed n list).answer ≡ Refused 29
  pub short : (seed ≡ 0 → ⊥) → length list < n → (fill seed n list).answer ≡ Refused 31
  pub done : (seed ≡ 0 → ⊥) → n ≤ length list → (fill seed n list).answer ≡ Done
  -- "the first value written is the state after the first such round", and each other one the state a round after the one before it
  pub first : (fill seed n list).answer ≡ Done → 0 < n → place_of seed n list 0 ≡ round seed
  pub next : (fill seed n list).answer ≡ Done → (k : ℕ) → suc k < n → place_of seed n list (suc k) ≡ round (place_of seed n list k)
  -- the rest stays
  pub rest : (k : ℕ) → n ≤ k → place_of seed n list k ≡ get_or list k 0
  pub long : length (fill seed n list).list ≡ length list
  -- the seed can be worked out from every value written, none of which is 0
  pub back : Word seed → (fill seed n list).answer ≡ Done → (k : ℕ) → k < n → before (suc k) (place_of seed n list k) ≡ seed
  pub seeds : Word seed → (fill seed n list).answer ≡ Done → (k : ℕ) → k < n → Seed (place_of seed n list k)
  -- another seed leaves another value at every place
  pub apart : Word seed → (fill seed n list).answer ≡ Done → (other : ℕ) (lent : List ℕ) → Word other → (fill other n lent).answer ≡ Done
      → (k : ℕ) → k < n → place_of seed n list k ≡ place_of other n lent k → seed ≡ other

-- ---- Make

-- the description that a call leaves
abbrev pub description_from : ℕ → Sizes → List ℕ → List ℕ
description_from seed z out = take (4 * word_total z) (make seed z out).output

abbrev pub MadeWhole : ℕ → Sizes → List ℕ → Type 0
MadeWhole seed z out = (make seed z out).answer ≡ Made (4 * word_total z)

-- the conditions of 1 to 4
abbrev pub conditions_before : List Condition
conditions_before = Begins ∷ Sizes-fit ∷ Long ∷ Words-fit ∷ []

pub record Makes (seed : ℕ) (z : Sizes) (out : List ℕ) : Type 0 where
  -- "29 for seed zero, checked before anything else; 30 for sizes that Accept would decline by 2, next; 31 for an output too short, last";
  -- all other calls answer the number of bytes
  pub zero_seed : seed ≡ 0 → (make seed z out).answer ≡ Refused 29
  pub sizes : (seed ≡ 0 → ⊥) → (SizesFit z → ⊥) → (make seed z out).answer ≡ Refused 30
  pub short : (seed ≡ 0 → ⊥) → SizesFit z → length out < 4 * word_total z → (make seed z out).answer ≡ Refused 31
  pub whole : (seed ≡ 0 → ⊥) → SizesFit z → 4 * word_total z ≤ length out → MadeWhole seed z out
  -- the sizes of 30 are those that Accept declines by 2
  pub by_two : (seed ≡ 0 → ⊥) → (l : Limits) (s : List ℕ) → Known l → 12 ≤ length s → sizes_of s ≡ z
      → (accept l s ≡ Refused 2) ↔ ((make seed z out).answer ≡ Refused 30)
  -- "a whole description of given sizes", "its words after the three sizes drawn in file order", one round each
  pub given : MadeWhole seed z out → sizes_of (description_from seed z out) ≡ z
  pub words : MadeWhole seed z out → (k : ℕ) → 3 ≤ k → k < word_total z
      → word_at (description_from seed z out) k ≡ drawn z k (after (k - 2) seed)
  -- what stands behind it stays
  pub rest : (k : ℕ) → 4 * word_total z ≤ k → get_or (make seed z out).output k 0 ≡ get_or out k 0
  pub long : length (make seed z out).output ≡ length out
  -- it meets the conditions of 1 to 4, so that Accept answers by those after them
  pub meets : MadeWhole seed z out → (l : Limits) (c : Condition) → In c conditions_before → Asks l (description_from seed z out) c
  pub answered : MadeWhole seed z out → (l : Limits) → Known l
      → AnsweredBy l (description_from seed z out) (conditions_after z.streams)

-- word k as it is drawn
pub record Draws (z : Sizes) (k : ℕ) : Type 0 where
  -- "directions by the lowest bit, 0 meaning −1"
  pub even : direction_at z ≤ k → k < step_at z → (x : ℕ) → x % 2 ≡ 0 → drawn z k x ≡ negsuc 0
  pub odd : direction_at z ≤ k → k < step_at z → (x : ℕ) → x % 2 ≡ 1 → drawn z k x ≡ pos 1
  -- "each the least of its range plus the remainder by its size": any other word, by the quotient q and the remainder m
  pub remainder : (k < direction_at z) ⊎ (step_at z ≤ k) → (x q m : ℕ) → m < size_of (range_at z k) → x ≡ q * size_of (range_at z k) + m
      → drawn z k x ≡ (range_at z k).least +ℤ pos m
  -- every word drawn is in its range, and every word of its range is drawn: by a state, and by a seed in each description
  pub in_range_lem : (x : ℕ) → in_range z k (drawn z k x) ≡ true
  pub reached : SizesFit z → (w : ℤ) → in_range z k w ≡ true → (x : ℕ) × Seed x × (drawn z k x ≡ w)
  pub made : SizesFit z → (w : ℤ) → in_range z k w ≡ true → 3 ≤ k → k < word_total z → (out : List ℕ) → 4 * word_total z ≤ length out
      → (seed : ℕ) × Seed seed × (word_at (description_from seed z out) k ≡ w)

-- ---- REQUEST 2.3, for every seed, sizes and lists

pub record GeneratedLoad : Type 0 where
  pub rounds : Rounds
  pub fills : (seed n : ℕ) (list : List ℕ) → Fills seed n list
  pub makes : (seed : ℕ) (z : Sizes) (out : List ℕ) → Makes seed z out
  pub draws : (z : Sizes) (k : ℕ) → Draws z k
