-- Every granted step keeps the counter invariant. Assumes nothing.
use Rattle.std.specs.Prelude.{◌≡◌, refl, ℕ, zero, suc, ◌+◌, ◌≤◌, ◌<◌}
use Rattle.std.proofs.Common.{sym, ◌∙◌, subst, arith}
use Rattle.abstract_network.specs.Counters.{AtStop, stop_get, stop_put, stop_fire, Step, put, get, fire, Counts, Net, At, Guard, Inv}
use Rattle.abstract_network.specs.Counters.{OneMore, Hit, hit, miss, hit?, put≢get, put≢fire, get≢fire, below_head, get_elements}

module _ (N : Net) where
  open N use {stops, elements, hop, process, kind, soak, count}

  module _ {c c' : Counts} {a : Step} (B : OneMore c c' a) (I : Inv N c) (g : Guard N c a) where
    turned : {b : Step} → a ≡ b → Guard N c b
    turned {b} e = subst (λ (b : Step). Guard N c b) e g

    keep_fires : (p : ℕ) → c' (fire p) ≤ count p
    keep_fires p = go (hit? B (fire p))
      where
        go : Hit B (fire p) → c' (fire p) ≤ count p
        go (hit e u) = omega (arith, (turned e).0)
        go (miss n u) = omega (arith, I.fires p)

    keep_head : (q : ℕ) → c' (put q 0) ≤ elements q
    keep_head q = go (hit? B (put q 0))
      where
        go : Hit B (put q 0) → c' (put q 0) ≤ elements q
        go (hit e u) = omega (arith, (turned e).0)
        go (miss n u) = omega (arith, I.head q)

    free_place : (q k : ℕ) → Guard N c (put q k) → c (put q k) < c (get q k) + hop q
    free_place q zero w = w.1
    free_place q (suc k) w = w.1

    keep_link : (q k : ℕ) → k ≤ stops q → (c' (get q k) ≤ c' (put q k)) × (c' (put q k) ≤ c' (get q k) + hop q)
    keep_link q k l = go (hit? B (get q k)) (hit? B (put q k)) (I.link q k l)
      where
        go : Hit B (get q k) → Hit B (put q k) → (c (get q k) ≤ c (put q k)) × (c (put q k) ≤ c (get q k) + hop q)
            → (c' (get q k) ≤ c' (put q k)) × (c' (put q k) ≤ c' (get q k) + hop q)
        go (hit d u) (hit e v) i = omega arith
        go (hit d u) (miss n v) i = let w = (turned d).1 in omega arith
        go (miss n u) (hit e v) i = let w = free_place q k (turned e) in omega arith
        go (miss n u) (miss n' v) i = omega arith

    keep_stop : (q k : ℕ) → k < stops q → At N AtStop c' q k
    keep_stop q k l = go (hit? B (get q k)) (hit? B (put q (suc k))) (hit? B (fire (process q k)))
      where
        go : Hit B (get q k) → Hit B (put q (suc k)) → Hit B (fire (process q k)) → At N AtStop c' q k
        go (hit d u) (hit e v) w = absurd (put≢get (sym e ∙ d))
        go (hit d u) (miss n v) (hit e w) = absurd (get≢fire (sym d ∙ e))
        go (miss n u) (hit d v) (hit e w) = absurd (put≢fire (sym d ∙ e))
        go (hit d u) (miss n v) (miss n' w) =
            rw (u, v, w) (stop_get (omega (arith, (turned d).1, below_head N I q k (omega arith))) (I.stop q k l) ((turned d).2 l))
        go (miss n u) (hit d v) (miss n' w) = rw (u, v, w) (stop_put (get_elements N I q k (omega arith)) (I.stop q k l) (turned d).2)
        go (miss n u) (miss n' v) (hit d w) = rw (u, v, w) (stop_fire (turned d).0 (I.stop q k l) ((turned d).1 q k l refl))
        go (miss n u) (miss n' v) (miss n'' w) = rw (u, v, w) (I.stop q k l)

    -- every granted step keeps the invariant
    pub inv_step : Inv N c'
    inv_step = record { fires = keep_fires; head = keep_head; link = keep_link; stop = keep_stop }
