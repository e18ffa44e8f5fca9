-- Streams of few elements, and the number of each stream's first element as a loop over the streams finds it. Assumes nothing.
use Rattle.std.specs.Prelude.{◌≡◌, length, get_or, take}
use Rattle.std.proofs.Common.{sym, ◌∙◌, ap, add-one, get_or-take, take-take}
use mathlib.Core.List.{List, [], ◌∷◌}
use Prim.Native.Nat.{ℕ, zero, suc, ◌+◌, ◌*◌, ◌≤◌, ◌<◌}
use native.Mathlib.Omega.{arith}
use Rattle.meaning.specs.declared.Stream.{Stream}
use Rattle.meaning.specs.declared.Description.{Description}
use Rattle.meaning.specs.Lists.{total}
use Rattle.meaning.specs.Streams.{elements}
use Rattle.meaning.specs.Description.{streams_of, no_stream}
use Rattle.meaning.specs.Body.{stream_start, element_count}
use Rattle.lists.specs.Sums.{total_next}
use Rattle.decode.specs.Ranged.{Ranged}

-- a description in range whose streams in use have at most 4096 elements each
pub record Few (d : Description) : Type 0 where
  pub ranged : Ranged d
  pub few : (i : ℕ) → i < length (streams_of d) → length (elements d.nest (get_or (streams_of d) i no_stream)) ≤ 4096

-- ---- sums over the first members of a list

module _ {A : Type 0} (f : A → ℕ) where
  pub total_most : (xs : List A) (i m : ℕ) (z : A) → i ≤ length xs → ((j : ℕ) → j < i → f (get_or xs j z) ≤ m) → total f (take i xs) ≤ i * m
  unfolding total
  total_most xs zero m z h g = omega arith
  total_most [] (suc i) m z h g = absurd (omega arith)
  total_most (x ∷ xs) (suc i) m z h g =
      omega (arith, total_most xs i m z (omega arith) (λ j k. g (suc j) (omega arith)), g 0 (omega arith))

-- ---- the streams in use

module _ (d : Description) (in_use : length (streams_of d) ≡ d.sizes.streams) (h : Few d) where
  pub start_next : (i : ℕ) {s : Stream} {k : ℕ} → i < d.sizes.streams → s ≡ get_or d.streams i no_stream
      → k ≡ length (elements d.nest s) → stream_start d.nest (streams_of d) i + k ≡ stream_start d.nest (streams_of d) (i + 1)
  start_next i {s} {k} l e g =
      ap (λ (c : ℕ). stream_start d.nest (streams_of d) i + c)
      (g ∙ ap (λ (s : Stream). length (elements d.nest s)) (e ∙ sym (get_or-take d.sizes.streams d.streams i no_stream l)))
      ∙ sym (ap (λ (c : ℕ). stream_start d.nest (streams_of d) c) (add-one i)
      ∙ total_next (λ s. length (elements d.nest s)) (streams_of d) i no_stream (omega (arith, in_use)))

  pub start_most : (i : ℕ) → i ≤ d.sizes.streams → stream_start d.nest (streams_of d) i ≤ i * 4096
  start_most i l =
      total_most (λ s. length (elements d.nest s)) (streams_of d) i 4096 no_stream (omega (arith, in_use))
      (λ j k. h.few j (omega (arith, in_use)))

  pub start_all : stream_start d.nest (streams_of d) d.sizes.streams ≡ element_count d.nest (streams_of d)
  start_all = ap (total (λ s. length (elements d.nest s))) (take-take d.sizes.streams d.sizes.streams d.streams (omega arith))
