-- What the words of a walk say, and the walk as it is stored process by process. Assumes nothing.
use Rattle.std.specs.Prelude.{◌≡◌, List, ℕ, zero, suc, ◌+◌, ◌-◌, ◌*◌, ◌≤◌, ◌<◌, get_or, take, ℤ, pos}
use Rattle.std.proofs.Common.{sym, ◌∙◌, ap₂, subst, arith, take_all}
use Rattle.std.proofs.Math.Path.{ap}
use Rattle.std.proofs.Math.Nat.{zero-add}
use Rattle.std.proofs.Math.Decide.{dec_lt}
use Rattle.std.proofs.Math.ListN.{length}
use Rattle.std.proofs.lemmas.List.{length-map}
use Rattle.integers.specs.Vectors.{zero2, zero3, shift3}
use Rattle.integers.specs.declared.V3.{V3}
use Rattle.integers.specs.declared.V2.{V2}
use Rattle.meaning.specs.declared.Nest.{Nest}
use Rattle.meaning.specs.Lists.{total, numbers}
use Rattle.meaning.specs.Loops.{instances, increment}
use Rattle.meaning.specs.Space.{processes, count, first}
use Rattle.meaning.specs.Points.{Within as InBounds}
use Rattle.meaning.specs.Walk.{own_line, walk}
use Rattle.lists.specs.Members.{map_at, each_part, each_length, numbers_length, numbers_at}
use Rattle.lists.specs.Sums.{total_none, total_next}
use Rattle.geometry.specs.Processes.{Layout, run_at}
use Rattle.geometry.proofs.Processes.{instance_at_lem}
use Rattle.geometry.specs.Places.{get_d_in}
use Rattle.geometry.proofs.Walk.{walk_length, nothing_else}
use Rattle.vectors.specs.Within.{Within}
use Rattle.numbering.specs.Ranges.{Bounded, point_small}
use Rattle.survey.specs.declared.Ground.{Ground}
use Rattle.survey.specs.Surveys.{GroundOf}
use Rattle.layout.specs.Spans.{process_of, Spans}
use Rattle.walk.specs.Words.{vector_at, Lined, lined_none}

-- instance k of the walk is the k-th that the words hold
pub record Walked (n : Nest) (w : List ℤ) : Type 0 where
  pub at : (k : ℕ) → k < length (walk n) → vector_at w k ≡ get_or (walk n) k zero3

-- the words of a walk that searches go along, of a nest that 7 and 8 do not refuse
pub record Along (n : Nest) (w : List ℤ) : Type 0 where
  pub layout : Layout n
  pub walked : Walked n w
  pub few : length (instances n) ≤ 4096
  pub room : length w ≡ 12288

-- the words hold instances, small ones
pub is_instance : {n : Nest} {w : List ℤ} → Layout n → Walked n w → (k : ℕ) → k < length (instances n) → InBounds n (vector_at w k)
is_instance {n} layout walked k h =
    let l : k < length (walk n) = omega (arith, walk_length layout) in
    subst (InBounds n) (sym (walked.at k l)) (nothing_else layout (get_or (walk n) k zero3) (get_d_in (walk n) k zero3 l))

-- words of so many instances that can be read one by one
pub record Readable (n : Nest) (w : List ℤ) (many : ℕ) : Type 0 where
  pub nest : Bounded n
  pub words : 3 * many ≤ length w
  pub small : (k : ℕ) → k < many → Within 64 (vector_at w k)

pub readable : {n : Nest} {w : List ℤ} {many : ℕ} → Bounded n → Along n w → many ≡ length (instances n) → Readable n w many
readable b a e =
    record {
      nest = b;
      words = omega (arith, e, a.few, a.room);
      small = λ k h. point_small b (is_instance a.layout a.walked k (omega (arith, e)));
    }

-- a nest that 1 to 10 do not refuse, with few processes and instances
pub record Walkable (n : Nest) : Type 0 where
  pub nest : Bounded n
  pub layout : Layout n
  pub instances : length (instances n) ≤ 4096
  pub processes : length (processes n) ≤ 1024

-- what its walk is stored by: the words of its processes
pub record Walking (n : Nest) (g : Ground) (spans : List ℕ) (w : List ℤ) : Type 0 where
  pub walkable : Walkable n
  pub ground : GroundOf n g
  pub held : Spans n spans
  pub words : length spans ≡ 3072
  pub room : length w ≡ 12288

-- the same for the line of process p, which begins at a place
pub record Lining (n : Nest) (i : V3) (spans : List ℕ) (p from : ℕ) (w : List ℤ) : Type 0 where
  pub walkable : Walkable n
  pub held : Spans n spans
  pub words : length spans ≡ 3072
  pub process : p < length (processes n)
  pub increment : i ≡ increment n
  pub within : Within 200 i
  pub fits : from + count n (process_of n p) ≤ 4096
  pub room : length w ≡ 12288

module _ {n : Nest} {i : V3} {spans : List ℕ} {p from : ℕ} {w : List ℤ} (l : Lining n i spans p from w) where
  abbrev y : V2
  y = process_of n p

  -- a null process has no line
  pub no_line : get_or spans p 0 ≡ 0 → (from ≡ from + count n y) × (Lined (run_at n y) from (count n y) w w)
  no_line e =
      let z : 0 ≡ count n y = sym e ∙ l.held.counts p l.process in
      (omega arith, subst (λ (c : ℕ). Lined (run_at n y) from c w w) z (lined_none (run_at n y) from w))

  -- the words of the others say where it begins and how long it is
  on_line : {f : V3} → f ≡ first n y → (k : ℕ) → shift3 f (pos k) i ≡ run_at n y k
  on_line e k = ap₂ (λ (a b : V3). shift3 a (pos k) b) e l.increment

  on_count : (k : ℕ) → k < get_or spans p 0 → k < count n y
  on_count k = subst (λ (c : ℕ). k < c) (l.held.counts p l.process)

  -- it runs through instances, small ones
  pub own_small : {f : V3} → f ≡ first n y → (k : ℕ) → k < get_or spans p 0 → Within 64 (shift3 f (pos k) i)
  own_small e k h =
      subst (Within 64) (sym (on_line e k))
      (point_small l.walkable.nest (instance_at_lem l.walkable.layout y k (on_count k h)).within)

  pub own_line_lem : {f : V3} {w' : List ℤ} → f ≡ first n y → Lined (λ k. shift3 f (pos k) i) from (get_or spans p 0) w w'
      → Lined (run_at n y) from (count n y) w w'
  own_line_lem {f} {w'} e s =
      record {
        long = s.long;
        before = s.before;
        stored = λ k h.
            s.stored k (subst (λ (c : ℕ). k < c) (sym (l.held.counts p l.process)) h) ∙ on_line e k;
      }

-- ---- process by process

module _ (n : Nest) where
  -- how many instances the processes before p have
  abbrev pub passed : ℕ → ℕ
  passed p = total (λ y. length (own_line n y)) (take p (processes n))

  line_length : (y : V2) → length (own_line n y) ≡ count n y
  line_length y = length-map (numbers (count n y)) (run_at n y) ∙ numbers_length 0 (count n y)

  pub passed_none : 0 ≡ passed 0
  passed_none = sym (total_none (λ y. length (own_line n y)) (processes n))

  pub passed_next : (p : ℕ) → p < length (processes n) → passed (suc p) ≡ passed p + count n (process_of n p)
  passed_next p h =
      total_next (λ y. length (own_line n y)) (processes n) p zero2 h ∙ ap (λ (c : ℕ). passed p + c) (line_length (process_of n p))

  -- all of them are the walk
  pub passed_all : (p : ℕ) → p ≡ length (processes n) → length (walk n) ≡ passed p
  unfolding walk
  passed_all p e =
      each_length (own_line n) (processes n)
      ∙ ap (total (λ y. length (own_line n y))) (sym (take_all p (processes n) (omega arith)))

  -- firing k of process p in the walk
  line_at_lem : (p k : ℕ) → p < length (processes n) → k < count n (process_of n p)
      → get_or (walk n) (passed p + k) zero3 ≡ run_at n (process_of n p) k
  unfolding walk
  line_at_lem p k h l =
      each_part (own_line n) (processes n) p k zero2 zero3 h (omega (arith, line_length (process_of n p)))
      ∙ map_at (run_at n (process_of n p)) (numbers (count n (process_of n p))) k 0 zero3
      (omega (arith, numbers_length 0 (count n (process_of n p))))
      ∙ ap (run_at n (process_of n p)) (numbers_at 0 (count n (process_of n p)) k 0 l ∙ zero-add k)

  -- one process more
  pub walked_on : {from : ℕ} {w w' : List ℤ} (p : ℕ) → p < length (processes n) → from ≡ passed p
      → ((k : ℕ) → k < from → vector_at w k ≡ get_or (walk n) k zero3)
      → Lined (run_at n (process_of n p)) from (count n (process_of n p)) w w'
      → (k : ℕ) → k < from + count n (process_of n p) → vector_at w' k ≡ get_or (walk n) k zero3
  walked_on {from} {w} {w'} p h e f l k b = go (dec_lt k from)
    where
      go : Dec (k < from) → vector_at w' k ≡ get_or (walk n) k zero3
      go (yes a) = l.before k a ∙ f k a
      go (no a) =
          let q : from + (k - from) ≡ k = omega arith in
          let r : passed p + (k - from) ≡ k = omega arith in
          ap (vector_at w') (sym q) ∙ l.stored (k - from) (omega arith)
          ∙ sym (line_at_lem p (k - from) h (omega arith)) ∙ ap (λ (j : ℕ). get_or (walk n) j zero3) r

-- no more than there are instances
module _ {n : Nest} (layout : Layout n) where
  pub passed_most : (p : ℕ) → p < length (processes n) → passed n p + count n (process_of n p) ≤ length (instances n)
  passed_most p h = omega (arith, sym (passed_next n p h), go (suc p) (length (processes n) - suc p) (omega arith), walk_length layout)
    where
      go : (p k : ℕ) → p + k ≡ length (processes n) → passed n p ≤ length (walk n)
      go p zero e = omega (arith, passed_all n p (omega arith))
      go p (suc k) e = omega (arith, go (suc p) k (omega arith), passed_next n p (omega arith))
