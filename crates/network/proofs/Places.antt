-- Where the words of a state stand: different live words at different places, all below the number of words; reading after writing.
-- Assumes nothing.
use Rattle.std.specs.Prelude.{◌≡◌, refl, length, get_or, take}
use Rattle.std.proofs.Common.{sym, ◌∙◌, length-set, get_or-set_same, get_or-set_other}
use Rattle.std.proofs.Math.Path.{ap}
use mathlib.Core.List.{List}
use Prim.Native.Nat.{ℕ, zero, suc, ◌+◌, ◌*◌, ◌≤◌, ◌<◌}
use native.Mathlib.Omega.{arith}
use Rattle.meaning.specs.Lists.{total}
use Rattle.meaning.specs.Array.{Array, Pipe, process_count, stream_count, pipe_number, no_pipe, pipe_at}
use Rattle.meaning.specs.State.{Word, Firings, Taken, Given, Hand, Keep, Place, Sent, Received, End, stride, index, word_count, read, write}
use Rattle.lists.specs.Sums.{part_ends}
use Rattle.integers.specs.Order.{part, parts_apart}
use Rattle.network.specs.Layout.{block_apart, Live, Layout}

-- a word by its block and its number there: of process p; of process p and stream s; of pipe q
data Cell : Type 0 where
  of_process : ℕ → Cell
  of_port : ℕ → ℕ → ℕ → Cell
  of_end : ℕ → ℕ → Cell

abbrev cell : Word → Cell
cell (Firings p) = of_process p
cell (Taken p s) = of_port p s 0
cell (Given p s) = of_port p s 1
cell (Hand p s) = of_port p s 2
cell (Keep p s) = of_port p s 3
cell (Place p s i) = of_port p s (suc (suc (suc (suc i))))
cell (Sent q) = of_end q 0
cell (Received q) = of_end q 1
cell (End q i) = of_end q (suc (suc i))

-- and back
abbrev word : Cell → Word
word (of_process p) = Firings p
word (of_port p s zero) = Taken p s
word (of_port p s (suc zero)) = Given p s
word (of_port p s (suc (suc zero))) = Hand p s
word (of_port p s (suc (suc (suc zero)))) = Keep p s
word (of_port p s (suc (suc (suc (suc i))))) = Place p s i
word (of_end q zero) = Sent q
word (of_end q (suc zero)) = Received q
word (of_end q (suc (suc i))) = End q i

word_cell : (w : Word) → word (cell w) ≡ w
word_cell (Firings p) = refl
word_cell (Taken p s) = refl
word_cell (Given p s) = refl
word_cell (Hand p s) = refl
word_cell (Keep p s) = refl
word_cell (Place p s i) = refl
word_cell (Sent q) = refl
word_cell (Received q) = refl
word_cell (End q i) = refl

module _ (A : Array) where
  -- where stream s begins within a process, and pipe q among the pipes
  port_offset : ℕ → ℕ
  port_offset s = total (λ h. 4 + h) (take s A.hops)

  end_offset : ℕ → ℕ
  end_offset q = total (λ r. 2 + r.hop) (take q A.pipes)

  Valid : Cell → Type 0
  Valid (of_process p) = p < process_count A
  Valid (of_port p s o) = (p < process_count A) × (s < stream_count A) × (o < 4 + get_or A.hops s 0)
  Valid (of_end q o) = (q < pipe_number A) × (o < 2 + (pipe_at A q).hop)

  place : Cell → ℕ
  place (of_process p) = p * stride A + 0
  place (of_port p s o) = p * stride A + suc (port_offset s + o)
  place (of_end q o) = process_count A * stride A + (end_offset q + o)

  valid : (w : Word) → Live A w → Valid (cell w)
  unfolding Valid
  valid (Firings p) h = h
  valid (Taken p s) (h, l) = (h, l, omega arith)
  valid (Given p s) (h, l) = (h, l, omega arith)
  valid (Hand p s) (h, l) = (h, l, omega arith)
  valid (Keep p s) (h, l) = (h, l, omega arith)
  valid (Place p s i) (h, l, k) = (h, l, omega arith)
  valid (Sent q) h = (h, omega arith)
  valid (Received q) h = (h, omega arith)
  valid (End q i) (h, k) = (h, omega arith)

  index_place : (w : Word) → index A w ≡ place (cell w)
  unfolding place port_offset end_offset
  index_place (Firings p) = omega arith
  index_place (Taken p s) = omega arith
  index_place (Given p s) = omega arith
  index_place (Hand p s) = omega arith
  index_place (Keep p s) = omega arith
  index_place (Place p s i) = omega arith
  index_place (Sent q) = omega arith
  index_place (Received q) = omega arith
  index_place (End q i) = omega arith

  inside : (s o : ℕ) → s < stream_count A → o < 4 + get_or A.hops s 0 → suc (port_offset s + o) < stride A
  unfolding port_offset
  inside s o h l = omega (arith, part_ends (λ h. 4 + h) 0 A.hops s h)

  place_below : (a : Cell) → Valid a → place a < word_count A
  unfolding Valid place end_offset
  place_below (of_process p) h = omega (arith, part h (stride A))
  place_below (of_port p s o) (h, l, k) = omega (arith, part h (stride A), inside s o l k)
  place_below (of_end q o) (h, k) = omega (arith, part_ends (λ (r : Pipe). 2 + r.hop) no_pipe A.pipes q h)

  place_apart : (a b : Cell) → Valid a → Valid b → place a ≡ place b → a ≡ b
  unfolding Valid place port_offset end_offset
  place_apart (of_process p) (of_process p') h h' e = ap of_process (parts_apart (stride A) p 0 p' 0 (omega arith) (omega arith) e).0
  place_apart (of_process p) (of_port p' s o) h (h', l, k) e =
      absurd (omega (arith, (parts_apart (stride A) p 0 p' (suc (port_offset s + o)) (omega arith) (inside s o l k) e).1))
  place_apart (of_process p) (of_end q o) h l e = absurd (omega (arith, part h (stride A)))
  place_apart (of_port p s o) (of_process p') (h, l, k) h' e =
      absurd (omega (arith, (parts_apart (stride A) p (suc (port_offset s + o)) p' 0 (inside s o l k) (omega arith) e).1))
  place_apart (of_port p s o) (of_port p' s' o') (h, l, k) (h', l', k') e =
      let r = parts_apart (stride A) p (suc (port_offset s + o)) p' (suc (port_offset s' + o')) (inside s o l k) (inside s' o' l' k') e in
      let z = block_apart (λ h. 4 + h) 0 A.hops s o s' o' l l' k k' (omega arith) in
      λ i. of_port (r.0 i) (z.0 i) (z.1 i)
  place_apart (of_port p s o) (of_end q o') (h, l, k) h' e = absurd (omega (arith, part h (stride A), inside s o l k))
  place_apart (of_end q o) (of_process p) h l e = absurd (omega (arith, part l (stride A)))
  place_apart (of_end q o) (of_port p s o') h (h', l, k) e = absurd (omega (arith, part h' (stride A), inside s o' l k))
  place_apart (of_end q o) (of_end q' o') (h, l) (h', l') e =
      let z = block_apart (λ (r : Pipe). 2 + r.hop) no_pipe A.pipes q o q' o' h h' l l' (omega arith) in λ i. of_end (z.0 i) (z.1 i)

  -- the order of words that the program chose
  pub layout : Layout A (index A) (word_count A)
  layout =
      record {
        apart = λ v w h l e.
            sym (word_cell v)
            ∙ ap word (place_apart (cell v) (cell w) (valid v h) (valid w l) (sym (index_place v) ∙ e ∙ index_place w))
            ∙ word_cell w;
        below = λ w h. rw (index_place w) (place_below (cell w) (valid w h));
      }

  -- ---- reading after writing

  pub length_write : (st : List ℕ) (w : Word) (v : ℕ) → length (write A st w v) ≡ length st
  length_write st w v = length-set st (index A w) v

  -- a word reads what was written to it
  pub read_same : (st : List ℕ) (w : Word) (v : ℕ) → word_count A ≤ length st → Live A w → read A (write A st w v) w ≡ v
  read_same st w v h l = let b : index A w < word_count A = layout.below w l in get_or-set_same st (index A w) v 0 (omega arith)

  -- and every other word what it was
  pub read_other : (st : List ℕ) (w u : Word) (v : ℕ) → Live A w → Live A u → (w ≡ u → ⊥) → read A (write A st w v) u ≡ read A st u
  read_other st w u v l k n = get_or-set_other st (index A w) (index A u) v 0 (λ e. n (layout.apart w u l k (sym e)))
