-- Every granted step keeps sound counters sound. Assumes nothing.
use Rattle.std.specs.Prelude.{◌≡◌, ℕ, zero, suc, ◌+◌, ◌≤◌, ◌<◌}
use Rattle.std.proofs.Common.{sym, ◌∙◌, subst, arith}
use Rattle.abstract_network.specs.Counters.{Kind, through, Hand, empty, first, free, Offer, soaked, drained, used, passed, kept}
use Rattle.abstract_network.specs.Counters.{Step, put, get, fire, Counts, Net, Guard, OneMore, Hit, hit, miss, hit?, put≢get}
use Rattle.abstract_network.specs.Sound.{Balance, even, ahead, untaken, keeping, given, Sound}

module _ {n s t x y f : ℕ} where
  balance_get : {K : Kind} → x < n → Balance n x y K → Hand n s t x y f K → Balance n (suc x) y K
  balance_get l (even a) h = ahead (omega arith)
  balance_get l (ahead a) (empty e) = absurd (omega arith)
  balance_get l (untaken a b) h = keeping (omega arith) (omega arith) (omega arith)
  balance_get l (keeping a b u) (first e) = absurd (omega arith)
  balance_get l (keeping a b u) (free e) = keeping (omega arith) (omega arith) u
  balance_get l (given a b) h = absurd (omega arith)

  -- what is offered was not given
  offer_lt : {K : Kind} → x ≤ n → Offer n s t x y f K → y < n
  offer_lt l (soaked a b) = omega arith
  offer_lt l (drained a b) = omega arith
  offer_lt l (used a b) = omega arith
  offer_lt l (passed a) = omega arith
  offer_lt l (kept a b d) = omega arith

  offer_ahead : Balance n x y through → Offer n s t x y f through → x ≡ suc y
  offer_ahead (ahead a) o = a
  offer_ahead (even a) (soaked b d) = absurd (omega arith)
  offer_ahead (even a) (drained b d) = absurd (omega arith)
  offer_ahead (even a) (used b d) = absurd (omega arith)

  balance_put : {K : Kind} → x ≤ n → Balance n x y K → Offer n s t x y f K → Balance n x (suc y) K
  balance_put l (even a) o = even (offer_ahead (even a) o)
  balance_put l (ahead a) o = even a
  balance_put l (untaken a b) (passed d) = absurd (omega arith)
  balance_put l (untaken a b) (kept d e g) = absurd (omega arith)
  balance_put l (keeping a b u) (passed d) = keeping (omega arith) (omega arith) (omega arith)
  balance_put l (keeping a b u) (kept d e g) = given e (omega arith)
  balance_put l (given a b) (passed d) = absurd (omega arith)
  balance_put l (given a b) (kept d e g) = absurd (omega arith)

module _ (N : Net) where
  open N use {stops, elements, hop, process, kind, soak, count}

  module _ {c c' : Counts} {a : Step} (B : OneMore c c' a) (I : Sound N c) (g : Guard N c a) where
    turned : {b : Step} → a ≡ b → Guard N c b
    turned {b} e = subst (λ (b : Step). Guard N c b) e g

    keep_fires : (p : ℕ) → c' (fire p) ≤ count p
    keep_fires p = go (hit? B (fire p))
      where
        go : Hit B (fire p) → c' (fire p) ≤ count p
        go (hit e u) = omega (arith, (turned e).0)
        go (miss n u) = omega (arith, I.fires p)

    put_lt : (q k : ℕ) → k ≤ stops q → Guard N c (put q k) → (c (put q k) < elements q) × (c (put q k) < c (get q k) + hop q)
    put_lt q zero l w = (w.0, w.1)
    put_lt q (suc k) l w = (offer_lt (I.gets q k (omega arith)) w.2, w.1)

    keep_puts : (q k : ℕ) → k ≤ stops q → c' (put q k) ≤ elements q
    keep_puts q k l = go (hit? B (put q k))
      where
        go : Hit B (put q k) → c' (put q k) ≤ elements q
        go (hit e u) = omega (arith, (put_lt q k l (turned e)).0)
        go (miss n u) = omega (arith, I.puts q k l)

    keep_gets : (q k : ℕ) → k ≤ stops q → c' (get q k) ≤ elements q
    keep_gets q k l = go (hit? B (get q k))
      where
        go : Hit B (get q k) → c' (get q k) ≤ elements q
        go (hit e u) = omega (arith, (turned e).1, I.puts q k l)
        go (miss n u) = omega (arith, I.gets q k l)

    keep_link : (q k : ℕ) → k ≤ stops q → (c' (get q k) ≤ c' (put q k)) × (c' (put q k) ≤ c' (get q k) + hop q)
    keep_link q k l = go (hit? B (get q k)) (hit? B (put q k)) (I.link q k l)
      where
        go : Hit B (get q k) → Hit B (put q k) → (c (get q k) ≤ c (put q k)) × (c (put q k) ≤ c (get q k) + hop q)
            → (c' (get q k) ≤ c' (put q k)) × (c' (put q k) ≤ c' (get q k) + hop q)
        go (hit d u) (hit e v) i = omega arith
        go (hit d u) (miss n v) i = let w = (turned d).1 in omega arith
        go (miss n u) (hit e v) i = let w = (put_lt q k l (turned e)).1 in omega arith
        go (miss n u) (miss n' v) i = omega arith

    keep_balance : (q k : ℕ) → k < stops q → Balance (elements q) (c' (get q k)) (c' (put q (suc k))) (kind q k)
    keep_balance q k l = go (hit? B (get q k)) (hit? B (put q (suc k)))
      where
        go : Hit B (get q k) → Hit B (put q (suc k)) → Balance (elements q) (c' (get q k)) (c' (put q (suc k))) (kind q k)
        go (hit d u) (hit e v) = absurd (put≢get (sym e ∙ d))
        go (hit d u) (miss n v) =
            rw (u, v) (balance_get (omega (arith, (turned d).1, I.puts q k (omega arith))) (I.balance q k l) ((turned d).2 l))
        go (miss n u) (hit d v) = rw (u, v) (balance_put (I.gets q k (omega arith)) (I.balance q k l) (turned d).2)
        go (miss n u) (miss n' v) = rw (u, v) (I.balance q k l)

    -- every granted step keeps sound counters sound
    pub sound_step : Sound N c'
    sound_step = record { fires = keep_fires; puts = keep_puts; gets = keep_gets; link = keep_link; balance = keep_balance }
