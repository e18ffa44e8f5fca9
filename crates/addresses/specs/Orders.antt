-- The place of an element in the waiting list: in the part of its pipe, at its index among that pipe's elements. Assumes a description that
-- is not refused.
use Rattle.std.specs.Prelude.{◌≡◌, ℕ, ◌+◌, ◌<◌, T, eqb, length, get_or}
use Rattle.std.proofs.Common.{sym, ◌∙◌, ap, subst, arith, eqb→eq}
use Rattle.std.proofs.Math.Dec.{eqb_refl}
use Rattle.integers.specs.Vectors.{zero2}
use Rattle.integers.specs.declared.V2.{V2}
use Rattle.meaning.specs.declared.Nest.{Nest}
use Rattle.meaning.specs.declared.Stream.{Stream}
use Rattle.meaning.specs.declared.Description.{Description}
use Rattle.meaning.specs.Lists.{position}
use Rattle.meaning.specs.Space.{row_index, box_of}
use Rattle.meaning.specs.Pipes.{entries, pipe_elements}
use Rattle.meaning.specs.Description.{streams_of}
use Rattle.meaning.specs.Body.{stream_start}
use Rattle.meaning.specs.Array.{Pipe, Array, array_of, no_pipe, elements_on, pipe_order, part_start, list_length}
use Rattle.lists.specs.Members.{map_at, each_length, each_part}
use Rattle.lists.specs.Sums.{total_below}
use Rattle.geometry.specs.Places.{distinct_at, position_is}
use Rattle.geometry.specs.Descriptions.{Laid}
use Rattle.geometry.specs.Arrays.{stream_at}
use Rattle.geometry.proofs.PipeOrder.{numbers_once}
use Rattle.addresses.specs.Pipes.{base, entry_at, pipe_lt, pipe_at_lem, elements_on_lem}

module _ {d : Description} (laid : Laid d) where
  abbrev n : Nest
  n = d.nest

  abbrev A : Array
  A = array_of d

  -- where a number waits, it is found
  pub found_at : (k : ℕ) → k < list_length A → (e : ℕ) → get_or (pipe_order A) k 0 ≡ e → position (eqb e) (pipe_order A) ≡ k
  found_at k l e g =
      position_is (eqb e) (pipe_order A) k 0 l (subst (λ (c : ℕ). T (eqb e c)) (sym g) (eqb_refl e))
      (λ j c t. not_same j c (distinct_at (numbers_once laid) j k 0 (omega arith) l (sym (eqb→eq e (get_or (pipe_order A) j 0) t) ∙ sym g)))
    where
      not_same : (j : ℕ) → j < k → j ≡ k → ⊥
      not_same j c e = omega arith

  -- ---- element k of the pipe of stream i that enters at its entry j

  module _ (i j k : ℕ) (hi : i < length (streams_of d)) (hj : j < length (entries n (stream_at d i)))
      (hk : k < length (pipe_elements n (stream_at d i) (entry_at d i j))) where
    abbrev s : Stream
    s = stream_at d i

    abbrev q : ℕ
    q = base d i + j

    -- the number of a point of the stream's box, in element order
    abbrev number : V2 → ℕ
    number v = stream_start n (streams_of d) i + row_index (box_of n s.map) v

    on_it : k < elements_on A q
    on_it = subst (λ (c : ℕ). k < c) (sym (elements_on_lem d i j hi hj)) hk

    -- it waits in that pipe's part, at that index
    waits_lt : part_start A q + k < list_length A
    waits_lt =
        subst (λ (c : ℕ). part_start A q + k < c) (sym (each_length (λ (r : Pipe). r.elements) A.pipes))
        (total_below (λ (r : Pipe). length r.elements) A.pipes q k no_pipe (pipe_lt d i j hi hj) on_it)

    waits : get_or (pipe_order A) (part_start A q + k) 0 ≡ number (get_or (pipe_elements n s (entry_at d i j)) k zero2)
    waits =
        each_part (λ r. r.elements) A.pipes q k no_pipe 0 (pipe_lt d i j hi hj) on_it
        ∙ ap (λ (r : Pipe). get_or r.elements k 0) (pipe_at_lem d i j hi hj)
        ∙ map_at number (pipe_elements n s (entry_at d i j)) k zero2 0 hk

    pub element_place : position (eqb (number (get_or (pipe_elements n s (entry_at d i j)) k zero2))) (pipe_order A) ≡ part_start A q + k
    element_place = found_at (part_start A q + k) waits_lt (number (get_or (pipe_elements n s (entry_at d i j)) k zero2)) waits
