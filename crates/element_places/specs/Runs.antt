-- Elements one after the other: the numbers of those of a moving pipe, by one of them and a stride. Assumes an accepted stream.
use Rattle.std.specs.Prelude.{◌≡◌, not, List, ℕ, ◌+◌, ◌^◌, ◌≤◌, ◌<◌, T, length, get_or, ℤ, pos, ◌+ℤ◌, ◌-ℤ◌, ◌*ℤ◌, ◌≤ℤ◌}
use Rattle.std.proofs.Common.{sym, ◌∙◌, ap, ap₂, subst, arith, to_z, of_z}
use Rattle.std.specs.Int.Signed.{mag}
use Rattle.std.specs.Int.{w32}
use Rattle.integers.specs.Differences.{Abs, gaps, parts, zrules, up, le_in, sum_is}
use Rattle.integers.specs.Variables.{linear}
use Rattle.integers.specs.Ring.{ring, quotes}
use Rattle.integers.proofs.Ring.{solve}
use Rattle.integers.specs.Words.{Holds, tower, bits}
use Rattle.integers.specs.Vectors.{zero2, neg2, image}
use Rattle.integers.specs.declared.V3.{V3}
use Rattle.integers.specs.declared.V2.{V2}
use Rattle.meaning.specs.declared.Nest.{Nest}
use Rattle.meaning.specs.declared.Stream.{Stream}
use Rattle.meaning.specs.Space.{Box, row_index, box_of, space}
use Rattle.meaning.specs.Streams.{stationary, elements, pass}
use Rattle.meaning.specs.Pipes.{reach, line_in, pipe_elements}
use Rattle.meaning.specs.Points.{Inside}
use Rattle.geometry.specs.Numbers.{zero_on}
use Rattle.geometry.specs.Places.{get_d_in}
use Rattle.geometry.specs.Boxes.{box_has}
use Rattle.geometry.specs.RowOrder.{row_lt}
use Rattle.geometry.specs.BoxLines.{line_at_lem, line_on}
use Rattle.geometry.specs.Processes.{RunAt}
use Rattle.geometry.specs.Pipes.{Accepted, passes, in_space_lem}
use Rattle.geometry.specs.Moving.{pipe_line, length_is}
use Rattle.counting.specs.Forms.{weigh}
use Rattle.lanes.specs.Along.{row_on}
use Rattle.element_places.specs.declared.Run.{Run}
use Rattle.element_places.specs.Order.{number_on, number_lt}

-- ---- a run

-- the number of its element k
abbrev pub number_after : Run → ℕ → ℤ
number_after r k = r.number +ℤ pos k *ℤ r.stride

-- it can be counted
pub record Counts (r : Run) (k : ℕ) : Type 0 where
  pub first : Abs r.number 24576
  pub few : k ≤ 4096
  pub far : Abs (pos k *ℤ r.stride) 24576
  pub some : pos 0 ≤ℤ number_after r k

-- the numbers of all its elements are below so many, and their places small
pub record Fits (r : Run) (room : ℕ) : Type 0 where
  pub few : r.count ≤ 4096
  pub low : r.place ≤ 28672
  pub bound : room ≡ 24576
  pub some : (k : ℕ) → k < r.count → pos 0 ≤ℤ number_after r k
  pub below : (k : ℕ) → k < r.count → up (number_after r k) < room

pub counts : {r : Run} {room : ℕ} → Fits r room → {k : ℕ} → k < r.count → Counts r k
counts {r} {room} h {k} l =
    let z : 0 < r.count = omega arith in
    let e = zero_on r.number r.stride in
    let s = subst (λ (a : ℤ). pos 0 ≤ℤ a) e (h.some 0 z) in
    let b : up r.number < 24576 = omega (arith, ap up e, h.below 0 z, h.bound) in
    record {
      first = small r.number s b;
      few = omega (arith, h.few);
      far = apart r.number (pos k *ℤ r.stride) s b (h.some k l) (omega (arith, h.below k l, h.bound));
      some = h.some k l;
    }
  where
    small : (a : ℤ) → pos 0 ≤ℤ a → up a < 24576 → Abs a 24576
    small = linear 0 1 _ λ p m. simp (gaps, parts) (omega arith)

    apart : (a t : ℤ) → pos 0 ≤ℤ a → up a < 24576 → pos 0 ≤ℤ (a +ℤ t) → up (a +ℤ t) < 24576 → Abs t 24576
    apart = linear 0 2 _ λ p m. simp (gaps, parts) (omega arith)

-- so many strides, as the code counts them
pub strides : {r : Run} {k : ℕ} → Counts r k → mag r.stride < 2 ^ 31
    → Holds (to_z w32 k *ℤ to_z w32 (of_z w32 r.stride)) (pos k *ℤ r.stride) 24576
strides {r} h l = record { eq = ap₂ ◌*ℤ◌ (bits {n = 4096} tt h.few).eq (tower r.stride l); le = h.far }

-- how far apart the numbers of the elements of a moving pipe lie
abbrev pub stride_of : Nest → Stream → ℤ
stride_of n s = weigh (box_of n s.map) (pass n s).a (pass n s).b

-- ---- the elements of a moving pipe

-- all of them, from place `start` on
pub record RunOf (n : Nest) (s : Stream) (first start : ℕ) (y : V2) (r : Run) : Type 0 where
  pub counted : r.count ≡ length (pipe_elements n s y)
  pub few : r.count ≤ 4096
  pub placed : r.place ≡ start
  pub numbers : (k : ℕ) → k < length (pipe_elements n s y) → number_after r k ≡ pos (number_on n s first y k)

-- by the element of an instance, and how many lie before it
module _ {n : Nest} {s : Stream} (h : Accepted n s) (moves : T (not (stationary n s))) {y : V2} {x : V3} (run : RunAt n y x) where
  abbrev box : Box
  box = box_of n s.map

  abbrev e : V2
  e = image s.map x

  abbrev back : ℕ
  back = reach box (neg2 (pass n s)) e

  inside : Inside box e
  inside = box_has h.layout.dirs s.map run.within

  element_at_lem : (k : ℕ) → k < length (line_in box (pass n s) e)
      → pos (row_index box (get_or (line_in box (pass n s) e) k zero2)) ≡ pos (row_index box e) +ℤ (pos k -ℤ pos back) *ℤ stride_of n s
  element_at_lem k l =
      let at = line_at_lem box (pass n s) e k zero2 l in
      ap (λ (v : V2). pos (row_index box v)) at
      ∙ row_on box (pass n s) (pos k -ℤ pos back) inside
      (subst (Inside box) at (line_on box (passes h moves) inside (get_d_in (line_in box (pass n s) e) k zero2 l)).inside)

  pub run_numbers : (first k : ℕ) → k < length (pipe_elements n s y)
      → (pos (first + row_index box e) -ℤ pos back *ℤ stride_of n s) +ℤ pos k *ℤ stride_of n s ≡ pos (number_on n s first y k)
  run_numbers first k l =
      let line = pipe_line h moves run in
      turned (pos (first + row_index box e)) (pos back) (pos k) (stride_of n s)
      ∙ after first (row_index box e) (row_index box (get_or (pipe_elements n s y) k zero2)) ((pos k -ℤ pos back) *ℤ stride_of n s)
      (ap (λ (m : List V2). pos (row_index box (get_or m k zero2))) line
      ∙ element_at_lem k (subst (λ (m : List V2). k < length m) line l))
    where
      turned : (u b k t : ℤ) → (u -ℤ b *ℤ t) +ℤ k *ℤ t ≡ u +ℤ (k -ℤ b) *ℤ t
      turned = ring 0 4 _ λ ρ. simp quotes (solve ρ _ _ tt)

      after : (first i j : ℕ) (t : ℤ) → pos j ≡ pos i +ℤ t → pos (first + i) +ℤ t ≡ pos (first + j)
      after first i j t e = omega (arith, zrules, sum_is (pos i) t, sum_is (pos (first + i)) t)

  -- how far back the first of them lies
  pub back_far : (first : ℕ) → first + length (elements n s) ≤ 24576 → Abs (pos back *ℤ stride_of n s) 24576
  back_far first fits =
      let some : 0 < length (pipe_elements n s y) = omega (arith, length_is h moves run) in
      apart (first + row_index box e) (number_on n s first y 0) (pos back *ℤ stride_of n s)
      (sym (zero_on (pos (first + row_index box e) -ℤ pos back *ℤ stride_of n s) (stride_of n s)) ∙ run_numbers first 0 some)
      (omega (arith, row_lt box e inside)) (omega (arith, number_lt h (in_space_lem h run) first 0 some))
    where
      apart : (u v : ℕ) (t : ℤ) → pos u -ℤ t ≡ pos v → u < 24576 → v < 24576 → Abs t 24576
      apart u v = linear 0 1 _ λ p m. simp (gaps, parts) (omega arith)

-- all of them have room
pub run_fits : {n : Nest} {s : Stream} {first start : ℕ} {y : V2} {r : Run} {room : ℕ} → Accepted n s → Inside (space n) y
    → first + length (elements n s) ≤ 24576 → start ≤ 28672 → room ≡ 24576 → RunOf n s first start y r → Fits r room
run_fits {n} {s} {first} {start} {y} {r} {room} h hy fits low e of =
    record {
      few = of.few;
      low = omega (arith, of.placed);
      bound = e;
      some = λ k l. subst (λ (z : ℤ). pos 0 ≤ℤ z) (sym (of.numbers k (on k l))) (le_in (omega arith));
      below = λ k l. omega (arith, e, fits, ap up (of.numbers k (on k l)), number_lt h hy first k (on k l));
    }
  where
    on : (k : ℕ) → k < r.count → k < length (pipe_elements n s y)
    on k l = omega (arith, of.counted)
