-- On a state whose links are filled no further than their places, send and receive of the code are document 01's. Assumes nothing.
use Rattle.std.specs.Prelude.{◌≡◌, refl, Bool, true, false, cond, ◌&&◌, List, ℕ, ◌+◌, ◌-◌, ◌≤◌, ◌<◌, ltb, set}
use Rattle.std.proofs.Common.{sym, ◌∙◌, ap, add-one, arith, get_or-set_other, lt-ltb, le-ltb, ltb-true}
use Rattle.std.proofs.Math.Bool.{and-false}
use Rattle.meaning.specs.Array.{Array, pipe_at, stops_on, elements_on, part_start}
use Rattle.meaning.specs.State.{Taken, Sent, Received, End, index, read}
use Rattle.meaning.specs.Rules.{process_on, stream_on, put_in, link_place, fill, without_oldest, ready_to_send, ready_to_receive, do_send}
use Rattle.meaning.specs.Rules.{do_receive}
use Rattle.meaning.specs.Rules.{received_then}
use Rattle.ports.specs.declared.End as row
use Rattle.ports.specs.Links.{word, filled, moved_down, move_before}
use Rattle.ports.specs.Ends.{end_of, EndIs}
use Rattle.ports.specs.Layout.{Regular, send_apart}
use Rattle.ports.specs.LinksMeaning.{Bounded, fill_cut, place_at, move_is, count_up}
use Rattle.send_receive.specs.Moves.{below, fill_first, can_send, sent, send_facts, fill_last, can_receive, received, received_list}

-- a test that follows from the next
within : (x total n : ℕ) → (0 < n → x < total) → below x total 0 n ≡ ltb 0 n
within x total n h = go (ltb 0 n) refl
  where
    go : (b : Bool) → ltb 0 n ≡ b → (ltb x total && b) ≡ b
    go true e = rw (lt-ltb x total (h (ltb-true 0 n e)))
    go false e = and-false (ltb x total)

module _ (A : Array) (st : List ℕ) (q : ℕ) (r : row.End) (is : EndIs A q r) where
  module _ (b : Bounded A st q 0) where
    first_is : fill_first st r ≡ fill A st q 0
    first_is = ap (fill_first st) is ∙ fill_cut _ _ _ b

    pub send_ready : can_send st r ≡ ready_to_send A st q
    send_ready = rw (first_is, is)

    pub send_does : (waiting : List ℕ) → Regular A → ready_to_send A st q ≡ true → sent waiting st r ≡ do_send A waiting st q
    send_does waiting reg h =
        let at = index A (Sent q) in
        let x = read A st (Sent q) in
        let place = index A (link_place A q 0 (fill A st q 0)) in
        let v = word waiting (part_start A q + x) in
        let room : fill A st q 0 < (pipe_at A q).hop = rw (first_is, is) at (send_facts st r (send_ready ∙ h)).1 in
        rw (first_is, is, add-one x, place_at A q 0 (fill A st q 0))
        (count_up (set st place v) (set st place v) at x refl
        (get_or-set_other st place at v 0 (send_apart A reg q (fill A st q 0) room)))

  module _ (b : Bounded A st q (stops_on A q)) where
    abbrev n : ℕ
    n = stops_on A q

    last_is : fill_last st r ≡ fill A st q n
    last_is =
        ap (fill_last st) is
        ∙ ap (λ (t : Bool).
        filled (read A st (put_in A q n)) (read A st (cond t (Taken (process_on A q n) (stream_on A q)) (Received q))) (pipe_at A q).hop)
        (sym (le-ltb n n (omega arith)))
        ∙ fill_cut _ _ _ b

    -- where no more was put in than there are elements
    pub receive_ready : read A st (put_in A q n) ≤ elements_on A q → can_receive st r ≡ ready_to_receive A st q
    receive_ready h =
        let e = end_of A q in
        ap (can_receive st) is
        ∙ within (word st e.received) e.total (fill_last st e) (λ (z : 0 < fill_last st e). omega arith)
        ∙ ap (λ (r : row.End). ltb 0 (fill_last st r)) (sym is)
        ∙ ap (ltb 0) last_is

    pub receive_does : received st r ≡ do_receive A st q
    receive_does =
        let at = index A (Received q) in
        let x = read A st (Received q) in
        let first = index A (link_place A q n 0) in
        let f : first ≡ index A (End q 0) = rw (le-ltb n n (omega arith)) in
        rw (last_is, is, add-one x)
        (count_up (moved_down st first (fill A st q n - 1)) (without_oldest A st q n) at x (move_is A q n st 0 (fill A st q n - 1))
        (move_before st first (fill A st q n - 1) at (omega arith)))

    pub receive_lands : (out : List ℕ) → received_list out st r ≡ received_then A out st q
    receive_lands out = rw is
