-- On a state whose links are filled no further than their places, take and give of the code are document 01's. Assumes nothing.
use Rattle.std.specs.Prelude.{◌≡◌, Bool, true, cond, ◌&&◌, ltb}
use Rattle.std.proofs.Math.Path.{refl}
use Rattle.std.proofs.Common.{sym, ◌∙◌, ap, lt-ltb}
use mathlib.Core.List.{List}
use Prim.Native.Nat.{ℕ, suc, ◌+◌, ◌-◌, ◌<◌}
use Rattle.std.proofs.Math.Numerals.{add-one}
use native.Mathlib.Omega.{arith}
use Rattle.std.proofs.Math.Dec.{eqb}
use Rattle.std.proofs.Math.ListN.{set}
use Rattle.std.proofs.Math.Seq.{get_or-set_other}
use Rattle.meaning.specs.Array.{Array, stop_at, pipe_at, stops_on}
use Rattle.meaning.specs.State.{Taken, Given, Hand, Keep, Received, index, read}
use Rattle.meaning.specs.Rules.{process_on, stream_on, put_in, link_place, fill, without_oldest, hand_empty, can_offer, ready_to_take}
use Rattle.meaning.specs.Rules.{ready_to_give}
use Rattle.meaning.specs.Rules.{do_take, do_give}
use Rattle.ports.specs.declared.Port.{Port}
use Rattle.ports.specs.Links.{word, filled, moved_down, move_before}
use Rattle.ports.specs.Ports.{PortIs}
use Rattle.ports.specs.Layout.{Regular, give_apart}
use Rattle.ports.specs.LinksMeaning.{Bounded, fill_cut, place_at, move_is, count_up, held, held_past}
use Rattle.port_tests.specs.Allowed.{takes, takes_to, passes, releases, gives, gives_from}
use Rattle.take_give.specs.Moves.{fill_into, can_take, taken, fill_out_of, can_give, given, give_facts}

-- ---- the tests

module _ (A : Array) where
  takes_is : (keeps : Bool) (n x y : ℕ) → takes keeps n x y ≡ (ltb 0 n && hand_empty A keeps x y)
  unfolding takes
  takes_is keeps n x y = rw (add-one y)

  gives_is : (r : Port) (n x y f : ℕ)
      → gives r n x y f ≡ (ltb n r.hop && can_offer A r.keeps r.total r.soak r.count x y f)
  unfolding gives passes releases
  gives_is r n x y f = let e : y + 2 ≡ suc (suc y) = omega arith in rw (add-one y, e)

-- ---- take and give

module _ (A : Array) (st : List ℕ) (q k : ℕ) (r : Port) (is : PortIs A q k r) (on : k < stops_on A q) where
  abbrev p : ℕ
  p = process_on A q k

  abbrev s : ℕ
  s = stream_on A q

  abbrev x : ℕ
  x = read A st (Taken p s)

  abbrev y : ℕ
  y = read A st (Given p s)

  abbrev keeps : Bool
  keeps = (stop_at A q k).keeps

  module _ (b : Bounded A st q k) where
    into_is : fill_into st r ≡ fill A st q k
    into_is =
        ap (fill_into st) is
        ∙ ap (λ (t : Bool). filled (read A st (put_in A q k)) (read A st (cond t (Taken p s) (Received q))) (pipe_at A q).hop)
        (sym (lt-ltb k (stops_on A q) on))
        ∙ fill_cut _ _ _ b

    pub take_ready : can_take st r ≡ ready_to_take A st q k
    take_ready = takes_is A _ _ _ _ ∙ rw (into_is, is)

    -- the link's places begin behind the keep
    first_place : index A (Taken p s) + 4 ≡ index A (link_place A q k 0)
    first_place = rw (lt-ltb k (stops_on A q) on) (omega arith)

    pub take_does : taken st r ≡ do_take A st q k
    unfolding takes_to
    take_does =
        let at = index A (Taken p s) in
        let to = index A (cond (keeps && eqb x 0) (Keep p s) (Hand p s)) in
        let first = index A (link_place A q k 0) in
        let n = fill A st q k - 1 in
        let v = word st first in
        let past = held_past A p s (keeps && eqb x 0) in
        rw (into_is, is, add-one x, first_place, held A p s (keeps && eqb x 0))
        (count_up (set (moved_down st first n) to v) (set (without_oldest A st q k) to v) at x
        (ap (λ (l : List ℕ). set l to v) (move_is A q k st 0 n))
        (get_or-set_other (moved_down st first n) to at v 0 (λ (e : at ≡ to). omega arith)
        ∙ move_before st first n at (omega (arith, first_place))))

  module _ (b : Bounded A st q (suc k)) where
    out_of_is : fill_out_of st r ≡ fill A st q (suc k)
    out_of_is = ap (fill_out_of st) is ∙ fill_cut _ _ _ b

    pub give_ready : can_give st r ≡ ready_to_give A st q k
    give_ready = gives_is A _ _ _ _ _ ∙ rw (out_of_is, is)

    pub give_does : Regular A → ready_to_give A st q k ≡ true → given st r ≡ do_give A st q k
    unfolding gives_from
    give_does reg h =
        let at = index A (Given p s) in
        let from = index A (cond (keeps && eqb x (suc y)) (Keep p s) (Hand p s)) in
        let place = index A (link_place A q (suc k) (fill A st q (suc k))) in
        let room : fill A st q (suc k) < (pipe_at A q).hop = rw (out_of_is, is) at (give_facts st r (give_ready ∙ h)).0 in
        let past = held_past A p s (keeps && eqb x (suc y)) in
        let put = set st place (word st from) in
        rw (out_of_is, is, add-one y, held A p s (keeps && eqb x (suc y)), place_at A q (suc k) (fill A st q (suc k)))
        (count_up (set put from 0) (set put from 0) at y refl
        (get_or-set_other put from at 0 0 (λ (e : at ≡ from). omega arith)
        ∙ get_or-set_other st place at (word st from) 0 (give_apart A reg q (fill A st q (suc k)) room k on)))
