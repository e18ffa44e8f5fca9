-- Links that are filled no further than their places, and the words of a state that rules count in and hold elements in, as in document 01.
-- Assumes nothing.
use Rattle.std.specs.Prelude.{◌≡◌, Bool, true, false, cond, List, ltb, set}
use Rattle.std.proofs.Math.Path.{refl}
use Rattle.std.proofs.Common.{sym, ◌∙◌, ap, arith}
use Prim.Native.Nat.{ℕ, zero, suc, ◌+◌, ◌-◌, ◌≤◌, ◌<◌}
use Rattle.meaning.specs.Array.{Array, pipe_at, stops_on}
use Rattle.meaning.specs.State.{Taken, Given, Hand, Keep, Place, End, index, read, write}
use Rattle.meaning.specs.Rules.{process_on, stream_on, put_in, taken_out, link_place, move_down}
use Rattle.ports.specs.Links.{word, filled, moved_down}

-- a link is filled no further than its places
abbrev pub Bounded : Array → List ℕ → ℕ → ℕ → Type 0
Bounded A st q k = read A st (put_in A q k) ≤ read A st (taken_out A q k) + (pipe_at A q).hop

-- then its fill is not cut off
pub fill_cut : (a b h : ℕ) → a ≤ b + h → filled a b h ≡ a - b
fill_cut a b h l = omega arith

module _ (A : Array) (q k : ℕ) where
  -- the places of a link stand in a row
  pub place_at : (i : ℕ) → index A (link_place A q k 0) + i ≡ index A (link_place A q k i)
  place_at i = go (ltb k (stops_on A q))
    where
      go : (b : Bool) → index A (cond b (Place (process_on A q k) (stream_on A q) 0) (End q 0)) + i
          ≡ index A (cond b (Place (process_on A q k) (stream_on A q) i) (End q i))
      go true = omega arith
      go false = omega arith

  -- the values move down as in document 01
  pub move_is : (st : List ℕ) (i n : ℕ) → moved_down st (index A (link_place A q k i)) n ≡ move_down A st q k i n
  unfolding moved_down move_down
  move_is st i zero = refl
  move_is st i (suc n) =
      let e : suc (index A (link_place A q k i)) ≡ index A (link_place A q k (suc i)) = omega (arith, place_at i, place_at (suc i)) in
      rw e (move_is (write A st (link_place A q k i) (read A st (link_place A q k (suc i)))) (suc i) n)

-- one more is counted at word i, which held x
pub count_up : (l m : List ℕ) (i x : ℕ) → l ≡ m → word l i ≡ x → set l i (suc x) ≡ set m i (suc (word m i))
count_up l m i x e h = ap (λ (x : ℕ). set l i (suc x)) (sym h) ∙ ap (λ (l : List ℕ). set l i (suc (word l i))) e

module _ (A : Array) where
  -- keep and hand of a port
  pub held : (p s : ℕ) (b : Bool) → index A (Taken p s) + cond b 3 2 ≡ index A (cond b (Keep p s) (Hand p s))
  held p s true = omega arith
  held p s false = omega arith

  pub held_past : (p s : ℕ) (b : Bool) → index A (Given p s) < index A (cond b (Keep p s) (Hand p s))
  held_past p s true = omega arith
  held_past p s false = omega arith
