-- Due times, and progress: a network with a clock is never stuck before all is out. Assumes nothing.
use Rattle.std.specs.Prelude.{◌≡◌, ℕ, zero, suc, ◌+◌, ◌≤◌, ◌<◌}
use Rattle.std.proofs.Common.{arith}
use Rattle.abstract_network.specs.Counters.{Kind, Shape, AtStop, Offer, soaked, drained, used, passed, kept, Step, put}
use Rattle.abstract_network.specs.Counters.{get, fire}
use Rattle.abstract_network.specs.Counters.{Counts, Net, Guard, Inv, get_elements, below_head}
use Rattle.abstract_network.specs.Waits.{Clocked}

module _ (N : Net) where
  open N use {stops, elements, hop, process, kind, soak, count}

  -- step a has an i-th occurrence
  abbrev pub Occurs : Step → ℕ → Type 0
  Occurs (put q k) i = (k ≤ stops q) × (i < elements q)
  Occurs (get q k) i = (k ≤ stops q) × (i < elements q)
  Occurs (fire p) i = i < count p

  pub down : (a : Step) (i j : ℕ) → i ≤ j → Occurs a j → Occurs a i
  down (put q k) i j h o = omega arith
  down (get q k) i j h o = omega arith
  down (fire p) i j h o = omega arith

  -- due times
  pub record Clock : Type 0 where
    pub due : Step → ℕ → ℕ
    pub rises : (a : Step) (i j : ℕ) → i ≤ j → Occurs a j → due a i ≤ due a j
    pub arrives : (q k i : ℕ) → k ≤ stops q → i < elements q → due (put q k) i < due (get q k) i
    pub places : (q k i : ℕ) → k ≤ stops q → i + hop q < elements q → due (get q k) i < due (put q k) (i + hop q)
    pub clocked : (q k : ℕ) → k < stops q → Clocked (elements q) (soak q k) (count (process q k)) (due (get q k)) (due (put q (suc k)))
        (due (fire (process q k))) (kind q k)

  -- where the computing processes stand
  pub record Laid : Type 0 where
    pub streams : ℕ
    pub pipe_through : ℕ → ℕ → ℕ
    pub place_on : ℕ → ℕ → ℕ
    pub on : (p s : ℕ) → 0 < count p → s < streams
        → (place_on p s < stops (pipe_through p s)) × (process (pipe_through p s) (place_on p s) ≡ p)
    pub stream_on : ℕ → ℕ
    pub only : (q k : ℕ) → k < stops q → 0 < count (process q k)
        → (stream_on q < streams) × (pipe_through (process q k) (stream_on q) ≡ q) ×
        (place_on (process q k) (stream_on q) ≡ k)
    pub shapes : (q k : ℕ) → k < stops q → Shape (elements q) (soak q k) (count (process q k)) (kind q k)

  -- a step that is ready has an occurrence left
  pub ready_occurs : {c : Counts} → Inv N c → (a : Step) → Guard N c a → Occurs a (c a)
  ready_occurs {c} I (put q zero) g = (omega arith, g.0)
  ready_occurs {c} I (put q (suc k)) g =
      (g.0, omega (arith, offer_lt g.2 (I.stop q k g.0) (get_elements N I q k (omega (arith, g.0)))))
    where
      offer_lt : {n s t x y f : ℕ} {K : Kind} → Offer n s t x y f K → AtStop n s t x y f K → x ≤ n → y < n
      offer_lt (soaked a b) S h = omega arith
      offer_lt (drained a b) S h = omega arith
      offer_lt (used a b) S h = omega arith
      offer_lt (passed a) S h = omega arith
      offer_lt (kept a b d) S h = omega arith
  ready_occurs {c} I (get q k) g = (g.0, omega (arith, g.1, below_head N I q k g.0))
  ready_occurs {c} I (fire p) g = g.0
