-- A stationary pipe walked from its entry on: each process that computes holds the element whose index is the number of those passed before
-- it. Assumes an accepted stream that does not move.
use Rattle.std.specs.Prelude.{◌≡◌, refl, Bool, true, false, not, cond, ℕ, suc, ◌+◌, ◌-◌, ◌≤◌, ◌<◌, T, length, get_or, set, take}
use Rattle.std.proofs.Common.{sym, ◌∙◌, ap, ap₂, subst, add-one, arith, length-take}
use mathlib.Core.List.{List, Memᴰ as In}
use Rattle.std.proofs.Math.Seq.{take-length}
use Rattle.integers.specs.Vectors.{zero2, image}
use Rattle.integers.specs.declared.V2.{V2}
use Rattle.meaning.specs.declared.Nest.{Nest}
use Rattle.meaning.specs.declared.Stream.{Stream}
use Rattle.meaning.specs.Lists.{filter}
use Rattle.meaning.specs.Space.{row_index, box_of, first, computing}
use Rattle.meaning.specs.Streams.{stationary}
use Rattle.meaning.specs.Pipes.{pipe, pipe_elements}
use Rattle.lists.specs.Members.{in_filter, map_at}
use Rattle.lists.specs.Tests.{filter_fewer}
use Rattle.geometry.specs.Places.{get_d_in, get_d_ahead, ahead_lt, rank, rank_zero, rank_yes, rank_no, ahead_filter}
use Rattle.geometry.specs.Pipes.{Accepted, still_elements, still_length}
use Rattle.geometry.specs.Positions.{pipe_distinct}
use Rattle.geometry.specs.Wiring.{process_at}
use Rattle.element_places.specs.Spread.{spread_zero, spread_step}
use Rattle.element_places.specs.Order.{number_on, said_on, Put}

-- ---- a process y

-- how many elements of a stationary stream it has
abbrev pub one_of : Nest → V2 → ℕ
one_of n y = cond (computing n y) 1 0

-- the number of the one that it has, after `from` others
abbrev pub own_number : Nest → Stream → ℕ → V2 → ℕ
own_number n s from y = from + row_index (box_of n s.map) (image s.map (first n y))

-- it says that its element waits at a place
abbrev pub own_said : Nest → Stream → ℕ → V2 → ℕ → List ℕ → List ℕ
own_said n s from y place l = cond (computing n y) (set l (own_number n s from y) place) l

module _ (n : Nest) (s : Stream) (from : ℕ) (y : V2) (place : ℕ) (l : List ℕ) where
  pub own_none : computing n y ≡ false → (0 ≡ one_of n y) × (l ≡ own_said n s from y place l)
  own_none e = (sym (ap (λ (b : Bool). cond b 1 0) e), sym (ap (λ (b : Bool). cond b (set l (own_number n s from y) place) l) e))

  pub own_one : computing n y ≡ true → {e : ℕ} → e ≡ own_number n s from y
      → (1 ≡ one_of n y) × (set l e place ≡ own_said n s from y place l)
  own_one c q = (
    sym (ap (λ (b : Bool). cond b 1 0) c),
    ap (λ (i : ℕ). set l i place) q ∙ sym (ap (λ (b : Bool). cond b (set l (own_number n s from y) place) l) c),
  )

-- ---- the pipe that enters at y

-- how many elements its first k processes have
abbrev pub passed : Nest → Stream → V2 → ℕ → ℕ
passed n s y k = rank (computing n) k (pipe n s y)

passed_le : (n : Nest) (s : Stream) (y : V2) (k : ℕ) → passed n s y k ≤ k
passed_le n s y k = omega (arith, filter_fewer (computing n) (take k (pipe n s y)), length-take k (pipe n s y))

-- what they have said, and the place of the next element
pub record Gone (n : Nest) (s : Stream) (from start : ℕ) (y : V2) (places : List ℕ) (k : ℕ) (out : List ℕ) (place : ℕ) : Type 0 where
  pub said : out ≡ said_on n s from y start (passed n s y k) places
  pub next : place ≡ start + passed n s y k

pub gone_zero : (n : Nest) (s : Stream) (from start : ℕ) (y : V2) (places : List ℕ) → Gone n s from start y places 0 places start
gone_zero n s from start y places =
    let z = rank_zero (computing n) (pipe n s y) in
    record {
      said = sym (ap (λ (c : ℕ). said_on n s from y start c places) z ∙ spread_zero (number_on n s from y) (λ k. start + k) places);
      next = omega (arith, z);
    }

module _ {n : Nest} {s : Stream} (h : Accepted n s) (still : T (stationary n s)) (y : V2) where
  passed_all : passed n s y (length (pipe n s y)) ≡ length (pipe_elements n s y)
  passed_all =
      ap (λ (l : List V2). length (filter (computing n) l)) (take-length (pipe n s y)) ∙ sym (still_length h still y)

  module _ (k : ℕ) (l : k < length (pipe n s y)) where
    abbrev z : V2
    z = process_at n s y k

    -- the element that process k holds
    module _ (c : T (computing n z)) where
      there : In z (filter (computing n) (pipe n s y))
      there = in_filter (computing n) (get_d_in (pipe n s y) k zero2 l) c

      index : passed n s y k < length (filter (computing n) (pipe n s y))
      index =
          subst (λ (i : ℕ). i < length (filter (computing n) (pipe n s y)))
          (ahead_filter (computing n) (pipe_distinct h y) k zero2 l c) (ahead_lt z there)

      held_at : get_or (pipe_elements n s y) (passed n s y k) zero2 ≡ image s.map (first n z)
      held_at =
          ap (λ (m : List V2). get_or m (passed n s y k) zero2) (still_elements h still y)
          ∙ map_at (λ p. image s.map (first n p)) (filter (computing n) (pipe n s y)) (passed n s y k) zero2 zero2 index
          ∙ ap (λ (v : V2). image s.map (first n v))
          (ap (λ (i : ℕ). get_or (filter (computing n) (pipe n s y)) i zero2)
          (sym (ahead_filter (computing n) (pipe_distinct h y) k zero2 l c)) ∙ get_d_ahead z zero2 there)

    passed_next : passed n s y (k + 1) ≡ passed n s y k + one_of n z
    passed_next = ap (passed n s y) (add-one k) ∙ go (computing n z) refl
      where
        go : (b : Bool) → computing n z ≡ b → passed n s y (suc k) ≡ passed n s y k + cond b 1 0
        go true e = omega (arith, rank_yes (computing n) (pipe n s y) k zero2 l (subst T (sym e) tt))
        go false e = omega (arith, rank_no (computing n) (pipe n s y) k zero2 l (subst (λ (b : Bool). T (not b)) (sym e) tt))

    -- what the next process says
    said_next : (from start : ℕ) (places : List ℕ)
        → said_on n s from y start (passed n s y (k + 1)) places
        ≡ own_said n s from z (start + passed n s y k) (said_on n s from y start (passed n s y k) places)
    said_next from start places = ap (λ (c : ℕ). said_on n s from y start c places) passed_next ∙ go (computing n z) refl
      where
        before : List ℕ
        before = said_on n s from y start (passed n s y k) places

        go : (b : Bool) → computing n z ≡ b
            → said_on n s from y start (passed n s y k + cond b 1 0) places
            ≡ cond b (set before (own_number n s from z) (start + passed n s y k)) before
        go true e =
            spread_step (number_on n s from y) (λ k. start + k) (passed n s y k) places
            ∙ ap (λ (v : V2). set before (from + row_index (box_of n s.map) v) (start + passed n s y k)) (held_at (subst T (sym e) tt))
        go false e = let z : passed n s y k + 0 ≡ passed n s y k = omega arith in ap (λ (c : ℕ). said_on n s from y start c places) z

    pub gone_next : {from start place c : ℕ} {places out out' : List ℕ} → Gone n s from start y places k out place → {v : V2} → v ≡ z
        → c ≡ one_of n v → out' ≡ own_said n s from v place out → Gone n s from start y places (k + 1) out' (place + c)
    gone_next {from} {start} {place} {c} {places} {out} g e ec eo =
        record {
          said =
              eo ∙ ap (λ (v : V2). own_said n s from v place out) e
              ∙ ap₂ (λ (a : ℕ) (l : List ℕ). own_said n s from z a l) g.next g.said
              ∙ sym (said_next from start places);
          next = omega (arith, g.next, ec ∙ ap (one_of n) e, passed_next);
        }

  -- once all are passed
  pub gone_all : {from start k place : ℕ} {places out : List ℕ} → Gone n s from start y places k out place → k ≡ length (pipe n s y)
      → k ≤ 4096 → Put n s from start y places (place - start) out
  gone_all {from} {start} {k} {place} {places} g e few =
      let all = ap (passed n s y) e ∙ passed_all in
      record {
        counted = omega (arith, g.next, all);
        few = omega (arith, g.next, passed_le n s y k);
        said = g.said ∙ ap (λ (c : ℕ). said_on n s from y start c places) all;
      }

-- the places are small
pub one_most : (n : Nest) (y : V2) → one_of n y ≤ 1
one_most n y = go (computing n y)
  where
    go : (b : Bool) → cond b 1 0 ≤ 1
    go true = omega arith
    go false = omega arith

pub next_most : {n : Nest} {s : Stream} {from start k place : ℕ} {y : V2} {places out : List ℕ} → Gone n s from start y places k out place
    → place ≤ start + k
next_most {n} {s} {k = k} {y = y} g = omega (arith, g.next, passed_le n s y k)
