-- Progress: a network with a clock is never stuck before all is out. Assumes nothing.
use Rattle.std.specs.Prelude.{◌≡◌, ◌⊎◌, ℕ, zero, suc, ◌+◌, ◌-◌, ◌≤◌, ◌<◌}
use Rattle.std.proofs.Common.{sym, subst, subst₂, inl, inr, le_refl, arith}
use Rattle.abstract_network.specs.Cases.{Order, less, at_least, order}
use Rattle.abstract_network.specs.Descent.{Blocked, descend}
use Rattle.abstract_network.specs.Counters.{Hand, Offer, Use, Step, put, get, fire, Counts, Net, At, Guard, Inv}
use Rattle.abstract_network.specs.Waits.{Late, judge_hand, judge_offer, judge_use}
use Rattle.abstract_network.specs.Due.{Occurs, down, Clock, Laid}

module _ (N : Net) where
  open N use {stops, elements, hop, process, kind, soak, count}

  module _ (C : Clock N) (D : Laid N) {c : Counts} (I : Inv N c) where
    open C use {due}
    open D use {streams, pipe_through, place_on}

    abbrev Stuck : ℕ → Type 0
    Stuck d = Blocked (Occurs N) due c d

    late : (a : Step) {n d : ℕ} → ((i : ℕ) → i < n → Occurs N a i) → Late n (c a) (due a) d → Stuck d
    late a o l = record { by = a; at = l.at; occurs = o l.at l.within; undone = l.undone; earlier = l.earlier }

    judge_place : (q k : ℕ) → k ≤ stops q → c (put q k) < elements q
        → (c (put q k) < c (get q k) + hop q) ⊎ Stuck (due (put q k) (c (put q k)))
    judge_place q k l h = go (order (c (put q k)) (c (get q k) + hop q))
      where
        go : Order (c (put q k)) (c (get q k) + hop q) → (c (put q k) < c (get q k) + hop q) ⊎ Stuck (due (put q k) (c (put q k)))
        go (less o) = inl o
        go (at_least o) =
            let i : ℕ = c (put q k) - hop q in
            let e : i + hop q ≡ c (put q k) = omega arith in
            inr (record {
              by = get q k;
              at = i;
              occurs = (l, omega arith);
              undone = omega arith;
              earlier = rw e at
                  (C.places q k i l (omega arith));
            })

    judge_fire : (q k : ℕ) → k < stops q → c (fire (process q k)) < count (process q k)
        → At N Use c q k ⊎ Stuck (due (fire (process q k)) (c (fire (process q k))))
    judge_fire q k l h = go (judge_use (C.clocked q k l) (D.shapes q k l) h (I.stop q k l))
      where
        go : At N Use c q k ⊎ Late (elements q) (c (get q k)) (due (get q k)) (due (fire (process q k)) (c (fire (process q k))))
            → At N Use c q k ⊎ Stuck (due (fire (process q k)) (c (fire (process q k))))
        go (inl u) = inl u
        go (inr w) = inr (late (get q k) (λ i o. (omega arith, o)) w)

    -- over the streams below n
    scan : (p : ℕ) → c (fire p) < count p → (n : ℕ) → n ≤ streams
        → ((s : ℕ) → s < n → At N Use c (pipe_through p s) (place_on p s)) ⊎ Stuck (due (fire p) (c (fire p)))
    scan p h zero l = inl (λ s o. absurd (omega arith))
    scan p h (suc n) l = go (scan p h n (omega arith)) (D.on p n (omega arith) l)
      where
        Here : ℕ → Type 0
        Here s = At N Use c (pipe_through p s) (place_on p s)

        both : ((s : ℕ) → s < n → Here s) → Here n ⊎ Stuck (due (fire p) (c (fire p)))
            → ((s : ℕ) → s < suc n → Here s) ⊎ Stuck (due (fire p) (c (fire p)))
        both f (inr w) = inr w
        both f (inl u) = inl (λ s o. pick s (order s n) o)
          where
            pick : (s : ℕ) → Order s n → s < suc n → Here s
            pick s (less o) o' = f s o
            pick s (at_least o) o' = let e : n ≡ s = omega arith in subst Here e u

        go : ((s : ℕ) → s < n → Here s) ⊎ Stuck (due (fire p) (c (fire p)))
            → (place_on p n < stops (pipe_through p n)) × (process (pipe_through p n) (place_on p n) ≡ p)
            → ((s : ℕ) → s < suc n → Here s) ⊎ Stuck (due (fire p) (c (fire p)))
        go (inr w) o = inr w
        go (inl f) o =
            both
            f
            (subst
            (λ (r : ℕ). c (fire r) < count r → Here n ⊎ Stuck (due (fire r) (c (fire r))))
            o.1
            (judge_fire (pipe_through p n) (place_on p n) o.0)
            h)

    judge : (a : Step) → Occurs N a (c a) → Guard N c a ⊎ Stuck (due a (c a))
    judge (put q zero) (l, h) = go (judge_place q 0 l h)
      where
        go : (c (put q 0) < c (get q 0) + hop q) ⊎ Stuck (due (put q 0) (c (put q 0)))
            → Guard N c (put q 0) ⊎ Stuck (due (put q 0) (c (put q 0)))
        go (inl o) = inl (h, o)
        go (inr w) = inr w
    judge (put q (suc k)) (l, h) =
        go (judge_place q (suc k) l h) (judge_offer (C.clocked q k l) (I.fires (process q k)) h (I.stop q k l))
      where
        d : ℕ
        d = due (put q (suc k)) (c (put q (suc k)))

        go : (c (put q (suc k)) < c (get q (suc k)) + hop q) ⊎ Stuck d
            → At N Offer c q k ⊎ (Late (elements q) (c (get q k)) (due (get q k)) d ⊎ Late (count (process q k)) (c (fire (process q k)))
            (due (fire (process q k))) d)
            → Guard N c (put q (suc k)) ⊎ Stuck d
        go (inr w) o = inr w
        go (inl r) (inl o) = inl (l, r, o)
        go (inl r) (inr (inl w)) = inr (late (get q k) (λ i o. (omega arith, o)) w)
        go (inl r) (inr (inr w)) = inr (late (fire (process q k)) (λ i o. o) w)
    judge (get q k) (l, h) = go (order (c (get q k)) (c (put q k))) (order k (stops q))
      where
        d : ℕ
        d = due (get q k) (c (get q k))

        empty_hand : (o : k < stops q) → c (get q k) < c (put q k)
            → At N Hand c q k ⊎ Late (elements q) (c (put q (suc k))) (due (put q (suc k))) d
            → Guard N c (get q k) ⊎ Stuck d
        empty_hand o r (inl u) = inl (l, r, λ o'. u)
        empty_hand o r (inr w) = inr (late (put q (suc k)) (λ i o'. (o, o')) w)

        go : Order (c (get q k)) (c (put q k)) → Order k (stops q) → Guard N c (get q k) ⊎ Stuck d
        go (at_least r) o =
            inr (record { by = put q k; at = c (get q k); occurs = (l, h); undone = r; earlier = C.arrives q k (c (get q k)) l h })
        go (less r) (at_least o) = inl (l, r, λ o'. absurd (omega arith))
        go (less r) (less o) = empty_hand o r (judge_hand (C.clocked q k o) h (I.stop q k o))
    judge (fire p) h = go (scan p h streams (le_refl streams))
      where
        Uses : ℕ → Type 0
        Uses r = (s : ℕ) → s < streams → At N Use c (pipe_through r s) (place_on r s)

        spread : Uses p → (q k : ℕ) → k < stops q → process q k ≡ p → At N Use c q k
        spread f q k l e =
            let o : (D.stream_on q < streams) × (pipe_through (process q k) (D.stream_on q) ≡ q)
            × (place_on (process q k) (D.stream_on q) ≡ k) =
            D.only q k l (rw e (omega arith)) in
            let u : At N Use c (pipe_through (process q k) (D.stream_on q)) (place_on (process q k) (D.stream_on q)) = subst Uses (sym e) f
            (D.stream_on q) o.0 in
            subst₂ (λ (q k : ℕ). At N Use c q k) o.1 o.2 u

        go : Uses p ⊎ Stuck (due (fire p) (c (fire p))) → Guard N c (fire p) ⊎ Stuck (due (fire p) (c (fire p)))
        go (inl f) = inl (h, spread f)
        go (inr w) = inr w

    -- progress: where some step has an occurrence left, some step is ready
    pub progress : (a : Step) → Occurs N a (c a) → (b : Step) × Guard N c b
    progress = descend (Occurs N) due c (down N) C.rises (λ b. Guard N c b) judge

    -- in time: where all that is due earlier is done, a step is ready
    pub in_time : (a : Step) → Occurs N a (c a) → ((b : Step) (j : ℕ) → Occurs N b j → due b j < due a (c a) → j < c b) → Guard N c a
    in_time a o f = go (judge a o)
      where
        go : Guard N c a ⊎ Stuck (due a (c a)) → Guard N c a
        go (inl g) = g
        go (inr w) = absurd (omega (arith, f w.by w.at w.occurs w.earlier, w.undone))
