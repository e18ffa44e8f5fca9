-- The words of neighbours that steps look at: words of the state, and different ones for different steps. Assumes nothing.
use Rattle.std.specs.Prelude.{◌≡◌, refl, ℕ, zero, suc, ◌<◌}
use Rattle.std.proofs.Common.{sym, ◌∙◌, ap, le_refl, arith}
use Rattle.meaning.specs.Array.{Array, stops_on, pipe_through}
use Rattle.meaning.specs.State.{word_count}
use Rattle.meaning.specs.declared.Step.{Step}
use Rattle.abstract_network.specs.Counters.{put, get, fire}
use Rattle.abstract_network.specs.Counters as Abstract
use Rattle.network.proofs.Places.{layout}
use Rattle.network.specs.Wiring.{Wired, stop_pipe, has_port_lem, place_at}
use Rattle.network.specs.Slots.{Slot, sent, taken, given, fired, hand, kept, place, Has, slot_word, word_live}
use Rattle.network.specs.Slots as Slots
use Rattle.network.specs.Ready.{step_of, There}
use Rattle.nearby.specs.Nearby.{foreign, Moves, sends, takes, gives, receives, across, word_at, foreign_is, step_apart}

-- the step whose counter is in a slot; of hands, keeps and places one beside it
abbrev step_at : Slot → Abstract.Step
step_at (sent q) = put q 0
step_at (taken q k) = get q k
step_at (given q k) = put q (suc k)
step_at (fired p) = fire p
step_at (hand q k) = get q k
step_at (kept q k) = get q k
step_at (place q k i) = get q k

step_counter : (x : Abstract.Step) → step_at (Slots.counter x) ≡ x
step_counter (put q zero) = refl
step_counter (put q (suc k)) = refl
step_counter (get q k) = refl
step_counter (fire p) = refl

back : (x : Abstract.Step) → across (across x) ≡ x
back (put q k) = refl
back (get q k) = refl
back (fire p) = refl

module _ (A : Array) where
  -- a link has two ends
  put_has : (q k : ℕ) → Has A (taken q k) → Has A (Slots.counter (put q k))
  put_has q zero (h, l) = h
  put_has q (suc k) (h, l) = l

  across_has : {b : Step} → Moves b → There A b → Has A (Slots.counter (across (step_of A b)))
  across_has sends h = (h, omega arith)
  across_has (takes {p} {s}) h =
      let l = (has_port_lem A p s h).place_lt in
      put_has (pipe_through A p s) (place_at A p s) (stop_pipe A (pipe_through A p s) (place_at A p s) l, omega arith)
  across_has (gives {p} {s}) h =
      let l = (has_port_lem A p s h).place_lt in (stop_pipe A (pipe_through A p s) (place_at A p s) l, l)
  across_has (receives {q}) h = put_has q (stops_on A q) (h, le_refl (stops_on A q))

module _ {A : Array} (W : Wired A) where
  pub foreign_below : {b : Step} → Moves b → There A b → foreign A b < word_count A
  foreign_below {b} m h =
      rw (foreign_is A m)
      ((layout A).below (word_at A (across (step_of A b))) (word_live A W (Slots.counter (across (step_of A b))) (across_has A m h)))

  pub foreign_apart : (a b : Step) → There A a → There A b → Moves a → Moves b → foreign A a ≡ foreign A b → a ≡ b
  foreign_apart a b h l m n e =
      let x : Abstract.Step = across (step_of A a) in
      let y : Abstract.Step = across (step_of A b) in
      let i = across_has A m h in
      let j = across_has A n l in
      let d =
      (layout A).apart (word_at A x) (word_at A y) (word_live A W (Slots.counter x) i) (word_live A W (Slots.counter y) j)
      (sym (foreign_is A m) ∙ e ∙ foreign_is A n) in
      let c : Slots.counter x ≡ Slots.counter y = sym (slot_word A W (Slots.counter x) i) ∙ ap (Slots.slot_of A) d
      ∙ slot_word A W (Slots.counter y) j in
      let z : x ≡ y = sym (step_counter x) ∙ ap step_at c ∙ step_counter y in
      step_apart A a b h l (sym (back (step_of A a)) ∙ ap across z ∙ back (step_of A b))
