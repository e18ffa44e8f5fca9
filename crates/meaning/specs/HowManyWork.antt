-- Request 2.10, "how many step vectors work": what Step vectors answers and leaves, count by count, and that the vectors are all there,
-- each once (`how-many-work` of requests).
use Rattle.std.specs.Prelude.{◌≡◌, ◌↔◌, ◌⊎◌, ℕ, ◌+◌, ◌*◌, ◌^◌, ◌≤◌, ◌<◌, eqb, length, get_or, ℤ, pos, neg_ℤ}
use mathlib.Core.List.{List, Memᴰ as In}
use Rattle.integers.specs.Bytes.{word_at}
use Rattle.integers.specs.declared.V3.{V3}
use Rattle.meaning.specs.declared.Limits.{Limits}
use Rattle.meaning.specs.declared.Nest.{Nest}
use Rattle.meaning.specs.declared.Description.{Description}
use Rattle.meaning.specs.Lists.{filter, total}
use Rattle.meaning.specs.Sorted.{Distinct}
use Rattle.meaning.specs.Points.{Between}
use Rattle.meaning.specs.Description.{sizes_of, step_at, place_at, description_of}
use Rattle.meaning.specs.Accept.{accept}
use Rattle.meaning.specs.Answers.{accept_number, Done, Refused}
use Rattle.meaning.specs.Conditions.{Known}
use Rattle.meaning.specs.StepVectors.{vectors, with_step, step_vectors}

-- ---- the vectors

-- "every vector with entries from −k to k", of r entries
pub record Vectors (k r : ℕ) : Type 0 where
  pub exactly : (v : List ℤ) → In v (vectors k r) ↔ ((length v ≡ r) × ((e : ℤ) → In e v → Between (neg_ℤ (pos k)) (pos k) e))
  pub once : Distinct (vectors k r)
  pub many : length (vectors k r) ≡ (2 * k + 1) ^ r

-- ---- "replace the step coefficients"

-- a nest and a description with other ones; two loops have the third 0
abbrev pub step_vector : List ℤ → V3
step_vector v = record { x = get_or v 0 (pos 0); y = get_or v 1 (pos 0); z = get_or v 2 (pos 0) }

abbrev pub stepped : Nest → V3 → Nest
stepped n v = record { left = n.left; right = n.right; direction = n.direction; step = v; place = n.place }

abbrev pub with_nest : Description → Nest → Description
with_nest d n = record { sizes = d.sizes; nest = n; streams = d.streams; lines = d.lines }

-- the step's words are the vector's, every other byte stays; so nothing but the step of the description is another
pub record Replaced (s : List ℕ) (v : List ℤ) : Type 0 where
  pub long : length (with_step s v) ≡ length s
  pub coefficients : (j : ℕ) → j < (sizes_of s).loops → word_at (with_step s v) (step_at (sizes_of s) + j) ≡ get_or v j (pos 0)
  pub others : (i : ℕ) → (i < 4 * step_at (sizes_of s)) ⊎ (4 * place_at (sizes_of s) ≤ i) → get_or (with_step s v) i 0 ≡ get_or s i 0
  pub description : description_of (with_step s v) ≡ with_nest (description_of s) (stepped (description_of s).nest (step_vector v))

-- ---- REQUEST 2.10, for every board, description, k and counts

-- the answers that a vector can get: accepted, 8, and 10 to 17
abbrev pub Possible : ℕ → Type 0
Possible a = (a ≡ 0) ⊎ ((a ≡ 8) ⊎ ((10 ≤ a) × (a ≤ 17)))

module _ (l : Limits) (s : List ℕ) (k : ℕ) (lent : List ℕ) where
  abbrev pub CallDone : Type 0
  CallDone = (step_vectors l s k lent).answer ≡ Done

  abbrev pub leaves : List ℕ
  leaves = (step_vectors l s k lent).counts

  pub record HowManyWork : Type 0 where
    -- "34 for another k, after 33 and before 1; the description itself is declined only by 1 to 7", which it is by as Accept does, told the
    -- same board; a declined call changes nothing
    pub board : (Known l → ⊥) → (step_vectors l s k lent).answer ≡ Refused 33
    pub other_k : Known l → 3 < k → (step_vectors l s k lent).answer ≡ Refused 34
    pub declined : Known l → k ≤ 3 → (a : ℕ) → accept_number (accept l s) ≡ a → 1 ≤ a → a ≤ 7 → (step_vectors l s k lent).answer ≡ Refused a
    pub done : Known l → k ≤ 3 → (accept_number (accept l s) ≡ 0) ⊎ (8 ≤ accept_number (accept l s)) → CallDone
    pub unchanged : (CallDone → ⊥) → leaves ≡ lent
    -- "each count equals the number of vectors with that answer"
    pub eighteen : CallDone → length leaves ≡ 18
    pub count : CallDone → (a : ℕ) → a < 18
        → get_or leaves a 0 ≡ length (filter (λ v. eqb (accept_number (accept l (with_step s v))) a) (vectors k (sizes_of s).loops))
    -- of "every vector with entries from −k to k", the description's step coefficients replaced by it
    pub all : Vectors k (sizes_of s).loops
    pub replaced : CallDone → (v : List ℤ) → In v (vectors k (sizes_of s).loops) → Replaced s v
    -- "together they make (2k+1) to the power r"
    pub together : CallDone → total (λ c. c) leaves ≡ (2 * k + 1) ^ (sizes_of s).loops
    -- no other answer occurs: those of 1 to 7 and of 9 are 0
    pub answers : CallDone → (v : List ℤ) → In v (vectors k (sizes_of s).loops) → Possible (accept_number (accept l (with_step s v)))
    pub none : CallDone → (a : ℕ) → (Possible a → ⊥) → get_or leaves a 0 ≡ 0

abbrev pub TheStepVectors : Type 0
TheStepVectors = (l : Limits) (s : List ℕ) (k : ℕ) (lent : List ℕ) → HowManyWork l s k lent
