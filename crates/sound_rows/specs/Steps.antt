-- Document 01's steps of a sound state, by the rows of the pipe: ready where the code's test says so, and leaving what the code leaves.
-- Assumes nothing.
use Rattle.std.specs.Prelude.{◌≡◌, true, List, ℕ, suc, ◌≤◌, ◌<◌}
use Rattle.std.proofs.Math.Path.{ap}
use Rattle.std.proofs.Common.{arith}
use Rattle.integers.specs.declared.V3.{V3}
use Rattle.meaning.specs.declared.Line.{Line}
use Rattle.meaning.specs.Array.{Array, stops_on, pipe_number, instance_at, on_pipe}
use Rattle.meaning.specs.State.{Firings, read}
use Rattle.meaning.specs.declared.Step.TheVariants.{Send, Take, Fire, Give, Receive}
use Rattle.meaning.specs.Rules.{sound, Memory, ready, apply, with_state}
use Rattle.ports.specs.declared.Port.{Port}
use Rattle.ports.specs.declared.End.{End}
use Rattle.ports.specs.Ports.{PortIs}
use Rattle.ports.specs.Ends.{EndIs}
use Rattle.ports.specs.Layout.{Regular}
use Rattle.ports.specs.Places.{pipe, place, pipe_on, place_on_lem}
use Rattle.take_give.specs.Moves.{can_take, taken, can_give, given}
use Rattle.send_receive.specs.Moves.{can_send, sent, can_receive, received, received_list}
use Rattle.fire.specs.Firing.{can_fire, fired}
use Rattle.ports.specs.LinksMeaning.{Bounded}
use Rattle.take_give.specs.MovesMeaning.{take_ready, take_does, give_ready, give_does}
use Rattle.send_receive.specs.MovesMeaning.{send_ready, send_does, receive_ready, receive_does, receive_lands}
use Rattle.fire.specs.FiringMeaning.{ProcessIs, fire_ready, fire_does}
use Rattle.sound_rows.specs.SoundMeaning.{sound_bounded, sound_put}

module _ (A : Array) (M : Memory) (s : sound A M.state ≡ true) where
  module _ (p i : ℕ) (on : on_pipe A p i ≡ true) (r : Port) (is : PortIs A (pipe A p i) (place A p i) r) where
    bounded : (k : ℕ) → k ≤ stops_on A (pipe A p i) → Bounded A M.state (pipe A p i) k
    bounded = sound_bounded A M.state s (pipe A p i) (pipe_on A p i on)

    into : Bounded A M.state (pipe A p i) (place A p i)
    into = let h = place_on_lem A p i on in bounded (place A p i) (omega arith)

    out_of : Bounded A M.state (pipe A p i) (suc (place A p i))
    out_of = bounded (suc (place A p i)) (place_on_lem A p i on)

    pub take_tested : can_take M.state r ≡ ready A M.state (Take p i)
    take_tested = rw on (take_ready A M.state _ _ r is (place_on_lem A p i on) into)

    pub take_applied : with_state A M (taken M.state r) ≡ apply A M (Take p i)
    unfolding apply
    take_applied = ap (with_state A M) (take_does A M.state _ _ r is (place_on_lem A p i on) into)

    pub give_tested : can_give M.state r ≡ ready A M.state (Give p i)
    give_tested = rw on (give_ready A M.state _ _ r is (place_on_lem A p i on) out_of)

    pub give_applied : Regular A → ready A M.state (Give p i) ≡ true → with_state A M (given M.state r) ≡ apply A M (Give p i)
    unfolding apply
    give_applied reg h = ap (with_state A M) (give_does A M.state _ _ r is (place_on_lem A p i on) out_of reg (rw on at h))

  module _ (q : ℕ) (on : q < pipe_number A) (r : End) (is : EndIs A q r) where
    first : Bounded A M.state q 0
    first = sound_bounded A M.state s q on 0 (omega arith)

    last : Bounded A M.state q (stops_on A q)
    last = sound_bounded A M.state s q on (stops_on A q) (omega arith)

    pub send_tested : can_send M.state r ≡ ready A M.state (Send q)
    send_tested = send_ready A M.state q r is first

    pub send_applied : Regular A → ready A M.state (Send q) ≡ true → with_state A M (sent M.waiting M.state r) ≡ apply A M (Send q)
    unfolding apply
    send_applied reg h = ap (with_state A M) (send_does A M.state q r is first M.waiting reg h)

    pub receive_tested : can_receive M.state r ≡ ready A M.state (Receive q)
    receive_tested = receive_ready A M.state q r is last (sound_put A M.state s q on (stops_on A q) (omega arith))

    pub receive_applied : record { waiting = M.waiting; received = received_list M.received M.state r; state = received M.state r }
        ≡ apply A M (Receive q)
    unfolding apply
    receive_applied = rw (receive_does A M.state q r is last, receive_lands A M.state q r is last M.received)

module _ (A : Array) (M : Memory) (p : ℕ) (ks : List Port) (m : ℕ) (is : ProcessIs A p ks m) where
  pub fire_tested : can_fire M.state ks m ≡ ready A M.state (Fire p)
  fire_tested = fire_ready A M.state p ks m is

  pub fire_applied : (x : V3) (ls : List Line) → ls ≡ A.lines → x ≡ instance_at A p (read A M.state (Firings p))
      → with_state A M (fired x ls M.state ks m) ≡ apply A M (Fire p)
  unfolding apply
  fire_applied x ls el ex = ap (with_state A M) (fire_does A M.state p ks m is x ls el ex)
