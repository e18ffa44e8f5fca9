-- The due times of moving and of stationary pipes, and that they are a clock. Assumes nothing.
use Rattle.std.specs.Prelude.{◌≡◌, cond, ℕ, suc, ◌+◌, ◌*◌, ◌-◌, ◌≤◌, ◌<◌, ltb}
use Rattle.abstract_network.specs.Counters.{Kind, through, keep, Step, put, get, fire, Net}

-- loading, then recovery, of the j-th element of n at link k
unfoldable pub base : (T n k j : ℕ) → ℕ
base T n k j = cond (ltb j n) (2 * k + 2 * j) (T + 2 * k + 2 * (j - n))

-- a stationary pipe's place k: a null process, or one that holds an element
pub data Rest (n t : ℕ) (r r' : ℕ) : Kind → Type 0 where
  null : t ≡ 0 → r' ≡ r → Rest n t r r' through
  holds : r' ≡ suc r → r < n → Rest n t r r' keep

-- a moving pipe's place
pub data Move (t s σ b : ℕ) (time : ℕ → ℕ) : Kind → Type 0 where
  runs : ((m : ℕ) → m < t → time m ≡ b + (s + m) * σ) → Move t s σ b time through

module _ (N : Net) (σ T : ℕ) (time : ℕ → ℕ → ℕ) where
  open N use {stops, elements, hop, process, kind, soak, count}

  -- what geometry knows of the times: time p m is the step of process p's firing m, σ that of the increment, T is past every firing
  pub data Timing (q : ℕ) : Type 0 where
    moving : (θ : ℕ) → 0 < hop q → ((k : ℕ) → k < stops q → Move (count (process q k)) (soak q k) σ (θ + suc k * hop q) (time (process q k))
        (kind q k)) → Timing q
    stationary : (rank : ℕ → ℕ) → hop q ≡ 1 → 2 * elements q ≤ T → ((k : ℕ) → k < stops q
        → Rest (elements q) (count (process q k)) (rank k) (rank (suc k)) (kind q k))
        → ((k m : ℕ) → k < stops q → m < count (process q k) → (2 * stops q + 2 * elements q < 3 * time (process q k) m) ×
        (3 * time (process q k) m + 1 < T))
        → Timing q
    -- no such pipe
    none : elements q ≡ 0 → stops q ≡ 0 → Timing q

  unfoldable pub due_put : {q : ℕ} → Timing q → ℕ → ℕ → ℕ
  due_put {q} (moving θ z f) k i = 3 * (θ + k * hop q + i * σ) + 2
  due_put {q} (stationary rank z g f l) k i = base T (elements q) k (rank k + i)
  due_put (none e z) k i = 0

  unfoldable pub due_get : {q : ℕ} → Timing q → ℕ → ℕ → ℕ
  due_get {q} (moving θ z f) k i = 3 * (θ + suc k * hop q + i * σ)
  due_get {q} (stationary rank z g f l) k i = suc (base T (elements q) k (rank k + i))
  due_get (none e z) k i = 0

  module _ (timing : (q : ℕ) → Timing q) where
    unfoldable pub due : Step → ℕ → ℕ
    due (put q k) i = due_put (timing q) k i
    due (get q k) i = due_get (timing q) k i
    due (fire p) m = 3 * time p m + 1
