-- The due times of moving and of stationary pipes are a clock. Assumes nothing.
use Rattle.std.specs.Prelude.{◌≡◌, ℕ, suc, ◌+◌, ◌*◌, ◌-◌, ◌≤◌, ◌<◌}
use Rattle.std.proofs.Math.Nat.{le_refl, mul-le-mul_left, mul-le-mul_right}
use native.Mathlib.Omega.{arith}
use Rattle.std.proofs.Common.{lt-ltb, le-ltb}
use Rattle.abstract_network.specs.Cases.{Order, less, at_least, order}
use Rattle.abstract_network.specs.Counters.{Kind, Step, put, get, fire, Net}
use Rattle.abstract_network.specs.Waits.{Clocked, is_through, is_keep}
use Rattle.abstract_network.specs.Due.{Occurs, Clock}
use Rattle.abstract_network.specs.Clock.{base, Rest, null, holds, Move, runs, Timing, moving, stationary, none, due_put, due_get, due}

data Base (T n k j : ℕ) : Type 0 where
  load : j < n → base T n k j ≡ 2 * k + 2 * j → Base T n k j
  recover : n ≤ j → base T n k j ≡ T + 2 * k + 2 * (j - n) → Base T n k j

based : (T n k j : ℕ) → Base T n k j
unfolding base
based T n k j = go (order j n)
  where
    go : Order j n → Base T n k j
    go (less l) = load l (rw (lt-ltb j n l))
    go (at_least l) = recover l (rw (le-ltb j n l))

-- no later an element, and d further along in link and element together
base_le : (T n k j k' j' d : ℕ) → 2 * n ≤ T → j ≤ j' → k + j + d ≤ k' + j' → base T n k j + 2 * d ≤ base T n k' j'
base_le T n k j k' j' d h a b = go (based T n k j) (based T n k' j')
  where
    go : Base T n k j → Base T n k' j' → base T n k j + 2 * d ≤ base T n k' j'
    go (load l e) (load l' e') = omega arith
    go (load l e) (recover l' e') = omega arith
    go (recover l e) (load l' e') = absurd (omega arith)
    go (recover l e) (recover l' e') = omega arith

module _ (N : Net) (σ T : ℕ) (time : ℕ → ℕ → ℕ) where
  open N use {stops, elements, hop, process, kind, soak, count}

  -- a moving pipe
  module _ (θ : ℕ) (one : 0 < σ) (h : ℕ) where
    mput : ℕ → ℕ → ℕ
    mput k i = 3 * (θ + k * h + i * σ) + 2

    mget : ℕ → ℕ → ℕ
    mget k i = 3 * (θ + suc k * h + i * σ)

    clock_runs : (n s t k : ℕ) (time : ℕ → ℕ) {K : Kind} → Move t s σ (θ + suc k * h) time K
        → Clocked n s t (mget k) (mput (suc k)) (λ m. 3 * time m + 1) K
    unfolding mput mget
    clock_runs n s t k time (runs f) =
        is_through
        (record {
          empty = λ i. omega arith;
          taken = λ i. omega arith;
          used = λ m l. omega (arith, f m l);
          there = λ m l. omega (arith, f m l);
        })

  -- a stationary pipe
  clock_rests : (n s t k r r' : ℕ) (time : ℕ → ℕ) {K : Kind} → 2 * n ≤ T → Rest n t r r' K
      → ((m : ℕ) → m < t → (2 * k + 2 * n < 3 * time m) × (3 * time m + 1 < T))
      → Clocked n s t (λ i. suc (base T n k (r + i))) (λ i. base T n (suc k) (r' + i)) (λ m. 3 * time m + 1) K
  clock_rests n s t k r r' time g (null z e) u =
      is_through
      (record {
        empty = λ i. omega (arith, base_le T n (suc k) (r' + i) k (r + suc i) 0 g (omega arith) (omega arith));
        taken = λ i. omega (arith, base_le T n k (r + i) (suc k) (r' + i) 1 g (omega arith) (omega arith));
        used = λ m l. absurd (omega arith);
        there = λ m l. absurd (omega arith);
      })
  clock_rests n s t k r r' time g (holds e h) u =
      is_keep
      (record {
        empty = λ i l. omega (arith, base_le T n (suc k) (r' + i) k (r + suc (suc i)) 0 g (omega arith) (omega arith));
        taken = λ i l. omega (arith, base_le T n k (r + suc i) (suc k) (r' + i) 1 g (omega arith) (omega arith));
        last = λ i l. omega (arith, base_le T n k (r + i) (suc k) (r' + i) 2 g (omega arith) (omega arith));
        used = λ i m l h. late i m (omega arith) h (based T n (suc k) (r' + i));
        there = λ m l. soon m l (based T n k (r + 0));
      })
    where
      late : (i m : ℕ) → n ≤ r' + i → m < t → Base T n (suc k) (r' + i) → 3 * time m + 1 < base T n (suc k) (r' + i)
      late i m l h (load l' e') = absurd (omega arith)
      late i m l h (recover l' e') = omega (arith, (u m h).1)

      soon : (m : ℕ) → m < t → Base T n k (r + 0) → suc (base T n k (r + 0)) < 3 * time m + 1
      soon m l (load l' e') = omega (arith, (u m l).0)
      soon m l (recover l' e') = absurd (omega arith)

  module _ (one : 0 < σ) (timing : (q : ℕ) → Timing N σ T time q) (mono : (p i j : ℕ) → i ≤ j → j < count p → time p i ≤ time p j) where
    put_rises : {q : ℕ} (t : Timing N σ T time q) (k i j : ℕ) → i ≤ j → due_put N σ T time t k i ≤ due_put N σ T time t k j
    unfolding due_put
    put_rises (moving θ z f) k i j l = omega (arith, mul-le-mul_right σ l)
    put_rises {q} (stationary rank z g f u) k i j l = omega (
      arith,
      base_le T (elements q) k (rank k + i) k (rank k + j) 0 g (omega arith)
          (omega arith),
    )
    put_rises (none e z) k i j l = le_refl 0

    get_rises : {q : ℕ} (t : Timing N σ T time q) (k i j : ℕ) → i ≤ j → due_get N σ T time t k i ≤ due_get N σ T time t k j
    unfolding due_get
    get_rises (moving θ z f) k i j l = omega (arith, mul-le-mul_right σ l)
    get_rises {q} (stationary rank z g f u) k i j l = omega (
      arith,
      base_le T (elements q) k (rank k + i) k (rank k + j) 0 g (omega arith)
          (omega arith),
    )
    get_rises (none e z) k i j l = le_refl 0

    rise : (a : Step) (i j : ℕ) → i ≤ j → Occurs N a j → due N σ T time timing a i ≤ due N σ T time timing a j
    unfolding due
    rise (put q k) i j l o = put_rises (timing q) k i j l
    rise (get q k) i j l o = get_rises (timing q) k i j l
    rise (fire p) i j l o = omega (arith, mono p i j l o)

    arrive : {q : ℕ} (t : Timing N σ T time q) (k i : ℕ) → i < elements q → due_put N σ T time t k i < due_get N σ T time t k i
    unfolding due_put due_get
    arrive (moving θ z f) k i h = omega arith
    arrive (stationary rank z g f u) k i h = omega arith
    arrive (none e z) k i h = absurd (omega arith)

    place : {q : ℕ} (t : Timing N σ T time q) (k i : ℕ) → i + hop q < elements q
        → due_get N σ T time t k i < due_put N σ T time t k (i + hop q)
    unfolding due_put due_get
    place {q} (moving θ z f) k i h = omega (arith, mul-le-mul_left (hop q) one)
    place {q} (stationary rank z g f u) k i h = omega (
      arith,
      base_le T (elements q) k (rank k + i) k (rank k + (i + hop q)) 1 g (omega arith)
          (omega arith),
    )
    place (none e z) k i h = absurd (omega arith)

    clocks : {q : ℕ} (t : Timing N σ T time q) (k : ℕ) → k < stops q
        → Clocked (elements q) (soak q k) (count (process q k)) (due_get N σ T time t k) (due_put N σ T time t (suc k))
        (due N σ T time timing (fire (process q k))) (kind q k)
    unfolding due_put due_get due mput mget
    clocks {q} (moving θ z f) k l = clock_runs θ one (hop q) (elements q) (soak q k) (count (process q k)) k (time (process q k)) (f k l)
    clocks {q} (stationary rank z g f u) k l =
        clock_rests
        (elements q)
        (soak q k)
        (count (process q k))
        k
        (rank k)
        (rank (suc k))
        (time (process q k))
        g
        (f k l)
        (λ m h. omega (arith, u k m l h))
    clocks (none e z) k l = absurd (omega arith)

    -- the due times are a clock: what an occurrence waits for is due earlier
    pub clock : Clock N
    unfolding due
    clock =
        record {
          due = due N σ T time timing;
          rises = rise;
          arrives = λ q k i l h. arrive (timing q) k i h;
          places = λ q k i l h. place (timing q) k i h;
          clocked = λ q k l. clocks (timing q) k l;
        }
