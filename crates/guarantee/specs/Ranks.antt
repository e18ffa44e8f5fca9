-- How many stops before a place of a stationary stream's pipe keep an element: as many as compute. Assumes a description that is not
-- refused.
use Rattle.std.specs.Prelude.{◌≡◌, Bool, ◌&&◌, T, take}
use Rattle.std.proofs.Math.Path.{refl, ap}
use Rattle.std.proofs.Common.{sym, ◌∙◌}
use Rattle.std.proofs.Math.Bool.{true, false, cond}
use mathlib.Core.List.{List, [], ◌∷◌, map}
use Prim.Native.Nat.{ℕ, zero, suc, ◌+◌, ◌<◌}
use native.Mathlib.Omega.{arith}
use Rattle.std.proofs.Math.ListN.{length}
use Rattle.integers.specs.declared.V2.{V2}
use Rattle.meaning.specs.declared.Nest.{Nest}
use Rattle.meaning.specs.declared.Stream.{Stream}
use Rattle.meaning.specs.declared.Description.{Description}
use Rattle.meaning.specs.Lists.{filter, total}
use Rattle.meaning.specs.Space.{computing}
use Rattle.meaning.specs.Streams.{stationary}
use Rattle.meaning.specs.Pipes.{pipe, pipe_elements, soak}
use Rattle.meaning.specs.Array.{Stop, stop_of, Array, array_of, stops_on, elements_on}
use Rattle.lists.specs.Tests.{is_true}
use Rattle.geometry.specs.Places.{rank}
use Rattle.geometry.specs.Descriptions.{Laid}
use Rattle.geometry.specs.Wiring.{process_at}
use Rattle.geometry.proofs.Wiring.{keeping}
use Rattle.geometry.specs.Arrays.{stream_at, PipeIs}
use Rattle.network.specs.Wiring.{rank_at}
use Rattle.guarantee.specs.Stops.{accepted, stops_are, stops_length, elements_length, stop_entry}

-- the stops among the first k that keep
module _ {X : Type 0} (stop : X → Stop) where
  kept : (f : X → Bool) → ((x : X) → (stop x).keeps ≡ f x) → (l : List X) (k : ℕ)
      → total (λ t. cond t.keeps 1 0) (take k (map stop l)) ≡ rank f k l
  unfolding total filter
  kept f g [] zero = refl
  kept f g [] (suc k) = refl
  kept f g (x ∷ l) zero = refl
  kept f g (x ∷ l) (suc k) =
      ap (λ (b : Bool). cond b 1 0 + total (λ t. cond t.keeps 1 0) (take k (map stop l))) (g x) ∙ go (f x) (kept f g l k)
    where
      go : (b : Bool) → total (λ t. cond t.keeps 1 0) (take k (map stop l)) ≡ rank f k l
          → cond b 1 0 + total (λ t. cond t.keeps 1 0) (take k (map stop l))
          ≡ length (cond b (x ∷ filter f (take k l)) (filter f (take k l)))
      go true e = omega arith
      go false e = omega arith

module _ {d : Description} (laid : Laid d) {q : ℕ} (P : PipeIs d q) where
  abbrev n : Nest
  n = d.nest

  abbrev A : Array
  A = array_of d

  abbrev s : Stream
  s = stream_at d P.stream

  -- a stationary stream's stops that keep are those that compute
  still_rank : T (stationary n s) → (k : ℕ) → rank_at A q k ≡ rank (computing n) k (pipe n s P.entry)
  still_rank t k =
      ap (λ (l : List Stop). total (λ t. cond t.keeps 1 0) (take k l)) (stops_are laid P)
      ∙ kept (stop_of n s) (computing n) (λ y. ap (λ (b : Bool). b && computing n y) (is_true (stationary n s) t)) (pipe n s P.entry) k

  -- as many keep as the pipe has elements
  pub still_ranks : T (stationary n s) → rank_at A q (stops_on A q) ≡ elements_on A q
  still_ranks t =
      still_rank t (stops_on A q) ∙ ap (λ (k : ℕ). rank (computing n) k (pipe n s P.entry)) (stops_length laid P)
      ∙ (keeping (accepted laid P) t).all_ranks P.entry P.entry_in ∙ sym (elements_length laid P)

  module _ (k : ℕ) (h : k < stops_on A q) where
    -- the element that a stop keeps has the index that its soak says
    pub rank_soak : T (stationary n s) → T (computing n (process_at n s P.entry k))
        → rank_at A q k ≡ soak n s (process_at n s P.entry k)
    rank_soak t c =
        still_rank t k ∙ sym ((keeping (accepted laid P) t).ranked P.entry k P.entry_in (omega (arith, stops_length laid P)) c)

    -- and is one of the pipe's
    pub rank_lt : T (stationary n s) → T (computing n (process_at n s P.entry k)) → rank_at A q k < elements_on A q
    rank_lt t c =
        omega (
          arith,
          rank_soak t c,
          elements_length laid P,
          (keeping (accepted laid P) t).room_kept (process_at n s P.entry k) c,
          ap (λ (w : V2). length (pipe_elements n s w)) (stop_entry laid P k h),
        )
