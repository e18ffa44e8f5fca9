-- The rules and the tests of a sound state by the rows of all processes and streams, whether on a pipe or off every one. Assumes nothing.
use Rattle.std.specs.Prelude.{◌≡◌, refl, Bool, true, false, cond, List, ℕ, ◌≤◌, ◌<◌, leb, length, get_or}
use Rattle.std.proofs.Common.{sym, ◌∙◌, ap}
use native.Mathlib.Omega.{arith}
use Rattle.std.proofs.Math.ListN.{get_or-eq_default}
use borrow.Author.Tests.{ltb-false, leb-true, lt-ltb}
use Rattle.meaning.specs.Array.{Array, Pipe, process_count, stream_count, pipe_number, no_pipe, no_stop, pipe_at, stops_on, pipe_through}
use Rattle.meaning.specs.Array.{on_pipe}
use Rattle.meaning.specs.Array.{place_on}
use Rattle.meaning.specs.State.{Taken, Given, read}
use Rattle.meaning.specs.declared.Step.TheVariants.{Take, Give}
use Rattle.meaning.specs.Rules.{sound, Memory, ready, process_on, stream_on}
use Rattle.lists.specs.Tests.{both_true}
use Rattle.ports.specs.declared.Port.{Port}
use Rattle.ports.specs.Links.{word}
use Rattle.ports.specs.Ports.{port_of}
use Rattle.ports.specs.Ends.{end_of}
use Rattle.ports.specs.Layout.{Regular}
use Rattle.ports.specs.Places.{pipe, place, pipe_on, place_on_lem}
use Rattle.ports.specs.Rows.{off_port, row_of}
use Rattle.port_tests.specs.Allowed.{takes, gives}
use Rattle.take_give.specs.Moves.{fill_into, can_take, fill_out_of, can_give}
use Rattle.fire.specs.Firing.{no_port}
use Rattle.fire.specs.FiringMeaning.{UsesOf, port_uses, ProcessIs}
use Rattle.sound_rows.specs.Sound.{link_holds, hand_holds, port_holds, port_sound, end_sound}
use Rattle.sound_rows.specs.SoundMeaning.{sound_rows, rows_sound}
use Rattle.sound_rows.specs.Steps.{take_tested, give_tested}

-- ---- a port off every pipe

module _ (A : Array) (st : List ℕ) (p i : ℕ) where
  off_takes : can_take st (off_port A p i) ≡ false
  unfolding takes
  off_takes = let z : fill_into st (off_port A p i) ≡ 0 = omega arith in rw z

  off_gives : can_give st (off_port A p i) ≡ false
  unfolding gives
  off_gives = let z : fill_out_of st (off_port A p i) ≡ 0 = omega arith in rw z

  off_holds : read A st (Taken p i) ≡ 0 → read A st (Given p i) ≡ 0 → port_sound st (off_port A p i) ≡ true
  unfolding port_holds hand_holds link_holds
  off_holds x y = rw (x, y)

  off_empty : port_sound st (off_port A p i) ≡ true → (read A st (Taken p i) ≡ 0) × (read A st (Given p i) ≡ 0)
  unfolding port_holds
  off_empty h =
      let c = both_true _ _ (both_true _ _ (both_true _ _ h).0).0 in
      (omega (arith, leb-true (read A st (Taken p i)) 0 c.0), omega (arith, leb-true (read A st (Given p i)) 0 c.1))

off_uses : (A : Array) (p i : ℕ) → on_pipe A p i ≡ false → UsesOf A p i (off_port A p i)
off_uses A p i o =
    let none : pipe_at A (pipe_through A p i) ≡ no_pipe = get_or-eq_default A.pipes no_pipe (ltb-false _ _ o) in
    let k = place_on A p (pipe_through A p i) in
    record {
      at = refl;
      fired = refl;
      count = refl;
      soak = sym (ap (λ (r : Pipe). (get_or r.stops k no_stop).soak) none);
      total = sym (ap (λ (r : Pipe). length r.elements) none);
      keeps = sym (ap (λ (r : Pipe). (get_or r.stops k no_stop).keeps) none);
    }

-- ---- any port

module _ (A : Array) (p i : ℕ) where
  pub row_uses : UsesOf A p i (row_of A p i)
  row_uses = go (on_pipe A p i) refl
    where
      go : (b : Bool) → on_pipe A p i ≡ b → UsesOf A p i (cond b (port_of A (pipe A p i) (place A p i)) (off_port A p i))
      go true e = port_uses A p i e _ refl
      go false e = off_uses A p i e

  module _ (M : Memory) (s : sound A M.state ≡ true) where
    pub take_row : can_take M.state (row_of A p i) ≡ ready A M.state (Take p i)
    take_row = go (on_pipe A p i) refl
      where
        go : (b : Bool) → on_pipe A p i ≡ b
            → can_take M.state (cond b (port_of A (pipe A p i) (place A p i)) (off_port A p i)) ≡ ready A M.state (Take p i)
        go true e = take_tested A M s p i e _ refl
        go false e = let z : ready A M.state (Take p i) ≡ false = rw e in off_takes A M.state p i ∙ sym z

    pub give_row : can_give M.state (row_of A p i) ≡ ready A M.state (Give p i)
    give_row = go (on_pipe A p i) refl
      where
        go : (b : Bool) → on_pipe A p i ≡ b
            → can_give M.state (cond b (port_of A (pipe A p i) (place A p i)) (off_port A p i)) ≡ ready A M.state (Give p i)
        go true e = give_tested A M s p i e _ refl
        go false e = let z : ready A M.state (Give p i) ≡ false = rw e in off_gives A M.state p i ∙ sym z

-- the rows of a process
pub process_rows : (A : Array) (p m : ℕ) (ks : List Port) → m ≡ stream_count A → 0 < m → m ≤ 6 → length ks ≡ 6
    → ((s : ℕ) → s < m → get_or ks s no_port ≡ row_of A p s) → ProcessIs A p ks m
process_rows A p m ks e some most l h =
    record { streams = e; some = some; most = most; rows = l; ports = λ s d. rw (h s d) (row_uses A p s) }

-- ---- sound states

-- a process passes a place of one pipe of each stream at most
pub record Single (A : Array) : Type 0 where
  pub pipe : (q k : ℕ) → q < pipe_number A → k < stops_on A q → pipe_through A (process_on A q k) (stream_on A q) ≡ q
  pub place : (q k : ℕ) → q < pipe_number A → k < stops_on A q → place_on A (process_on A q k) q ≡ k

pub record AllSound (A : Array) (st : List ℕ) : Type 0 where
  pub firings : (p : ℕ) → p < process_count A → leb (word st (row_of A p 0).fired) (row_of A p 0).count ≡ true
  pub ports : (p i : ℕ) → p < process_count A → i < stream_count A → port_sound st (row_of A p i) ≡ true
  pub ends : (q : ℕ) → q < pipe_number A → end_sound st (end_of A q) ≡ true

module _ (A : Array) (reg : Regular A) (one : Single A) (st : List ℕ) where
  own_row : (q k : ℕ) → q < pipe_number A → k < stops_on A q → row_of A (process_on A q k) (stream_on A q) ≡ port_of A q k
  own_row q k on h =
      let e = one.pipe q k on h in
      let t : on_pipe A (process_on A q k) (stream_on A q) ≡ true = rw e (lt-ltb q (pipe_number A) on) in
      rw (t, e, one.place q k on h)

  pub all_sound : AllSound A st → sound A st ≡ true
  all_sound r =
      rows_sound A st
      (record {
        firings = λ p h. let u = row_uses A p 0 in rw (u.fired, u.count) at (r.firings p h);
        ports = λ q k on h. rw (own_row q k on h) at (r.ports (process_on A q k) (stream_on A q) (reg.process q k h) (reg.stream q k h));
        ends = r.ends;
        off = λ p i h l o. off_empty A st p i (rw o at (r.ports p i h l));
      })

  pub sound_all : sound A st ≡ true → AllSound A st
  sound_all s =
      let r = sound_rows A st s in
      record {
        firings = λ p h. let u = row_uses A p 0 in rw (u.fired, u.count) (r.firings p h);
        ports = λ p i h l. port p i h l (on_pipe A p i) refl;
        ends = r.ends;
      }
    where
      port : (p i : ℕ) → p < process_count A → i < stream_count A → (b : Bool) → on_pipe A p i ≡ b
          → port_sound st (cond b (port_of A (pipe A p i) (place A p i)) (off_port A p i)) ≡ true
      port p i h l true e = (sound_rows A st s).ports (pipe A p i) (place A p i) (pipe_on A p i e) (place_on_lem A p i e)
      port p i h l false e = let z = (sound_rows A st s).off p i h l e in off_holds A st p i z.0 z.1
