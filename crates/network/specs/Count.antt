-- The number of granted steps: it is the sum of the counters, at most the sum of their totals, and equal to it exactly if all values are
-- out. Assumes nothing.
use Rattle.std.specs.Prelude.{◌≡◌, refl}
use Rattle.std.proofs.Math.Path.{sym, ap, ap₂}
use Rattle.std.proofs.Common.{◌∙◌, le_refl}
use Prim.Native.Nat.{ℕ, suc, ◌+◌, ◌*◌, ◌≤◌, ◌<◌}
use native.Mathlib.Omega.{arith}
use Rattle.meaning.specs.Lists.{total, numbers}
use Rattle.lists.specs.Sums.{sum_same, sum_le, sum_one, sum_tight, sum_const}
use Rattle.abstract_network.specs.Cases.{Order, less, at_least, order}
use Rattle.abstract_network.specs.Counters.{Step, put, get, fire, Counts, Net, Inv, OneMore, put≢get, put≢fire, get≢fire, get_elements}
use Rattle.abstract_network.specs.Counters.{below_head}
use Rattle.abstract_network.specs.Words.{Words}
use Rattle.abstract_network.specs.Due.{Occurs, ready_occurs}
use Rattle.abstract_network.specs.System.{System}
use Rattle.abstract_network.specs.Good.{moves, fires}
use Rattle.abstract_network.specs.Claims.{Reach, start, more, Out, done}
use Rattle.abstract_network.proofs.Claims.{reach_good}

module _ (N : Net) where
  open N use {stops, elements, count}

  -- of all processes below P and all links of pipes below Q
  unfoldable pub link_sum : Counts → ℕ → ℕ
  link_sum c q = total (λ k. c (put q k) + c (get q k)) (numbers (suc (stops q)))

  unfoldable pub step_sum : ℕ → ℕ → Counts → ℕ
  step_sum P Q c = total (λ p. c (fire p)) (numbers P) + total (link_sum c) (numbers Q)

  -- the totals of the counters
  abbrev pub totals : Counts
  totals (put q k) = elements q
  totals (get q k) = elements q
  totals (fire p) = count p

  -- they add up to the firings and, for each pipe, twice its elements times one more than its processes
  pub totals_add : (P Q : ℕ) → step_sum P Q totals ≡ total count (numbers P) + total (λ q. 2 * (elements q * suc (stops q))) (numbers Q)
  unfolding step_sum link_sum
  totals_add P Q =
      ap (λ (n : ℕ). total count (numbers P) + n)
      (sum_same _ _ 0 Q (λ q a b. sum_const (elements q + elements q) 0 (suc (stops q)) ∙ twice (stops q) (elements q)))
    where
      twice : (n e : ℕ) → suc n * (e + e) ≡ 2 * (e * suc n)
      twice n e = omega arith

  -- one more of a step that is there
  module _ (P Q : ℕ) {c c' : Counts} where
    pub one_step : (a : Step) → OneMore c c' a → ((p : ℕ) → a ≡ fire p → p < P) → ((q k : ℕ) → a ≡ put q k → (q < Q) × (k ≤ stops q))
        → ((q k : ℕ) → a ≡ get q k → (q < Q) × (k ≤ stops q)) → step_sum P Q c' ≡ suc (step_sum P Q c)
    unfolding step_sum link_sum
    one_step (fire p) B f g h =
        let fires =
        sum_one (λ p. c (fire p)) (λ p. c' (fire p)) 0 P p (omega arith) (omega (arith, f p refl)) B.up
        (λ r n. B.rest (fire r) (λ e. n (cc))) in
        let links =
        sum_same (link_sum c') (link_sum c) 0 Q (λ q a b.
        sum_same _ _ 0 (suc (stops q)) (λ k u v. ap₂ ◌+◌ (B.rest (put q k) (λ e. put≢fire (sym e)))
        (B.rest (get q k) (λ e. get≢fire (sym e))))) in
        omega (arith, fires, links)
    one_step (put q k) B f g h =
        let fires = sum_same (λ p. c' (fire p)) (λ p. c (fire p)) 0 P (λ p a b. B.rest (fire p) put≢fire) in
        let links =
        sum_one (link_sum c) (link_sum c') 0 Q q (omega arith) (omega (arith, (g q k refl).0))
        (sum_one (λ k. c (put q k) + c (get q k)) (λ k. c' (put q k) + c' (get q k)) 0 (suc (stops q)) k (omega arith)
        (omega (arith, (g q k refl).1))
        (omega (arith, B.up, B.rest (get q k) put≢get)) (λ j n. ap₂ ◌+◌ (B.rest (put q j) (λ e. n (cc))) (B.rest (get q j) put≢get)))
        (λ r n. sum_same _ _ 0 (suc (stops r)) (λ j u v. ap₂ ◌+◌ (B.rest (put r j) (λ e. n (cc))) (B.rest (get r j) put≢get))) in
        omega (arith, fires, links)
    one_step (get q k) B f g h =
        let fires = sum_same (λ p. c' (fire p)) (λ p. c (fire p)) 0 P (λ p a b. B.rest (fire p) get≢fire) in
        let links =
        sum_one (link_sum c) (link_sum c') 0 Q q (omega arith) (omega (arith, (h q k refl).0))
        (sum_one (λ k. c (put q k) + c (get q k)) (λ k. c' (put q k) + c' (get q k)) 0 (suc (stops q)) k (omega arith)
        (omega (arith, (h q k refl).1))
        (omega (arith, B.up, B.rest (put q k) (λ e. put≢get (sym e))))
        (λ j n. ap₂ ◌+◌ (B.rest (put q j) (λ e. put≢get (sym e))) (B.rest (get q j) (λ e. n (cc)))))
        (λ r n. sum_same _ _ 0 (suc (stops r))
        (λ j u v. ap₂ ◌+◌ (B.rest (put r j) (λ e. put≢get (sym e))) (B.rest (get r j) (λ e. n (cc))))) in
        omega (arith, fires, links)

module _ (X : System) (P Q : ℕ)
    (processes : (p : ℕ) → 0 < X.net.count p → p < P) (pipes : (q : ℕ) → 0 < X.net.elements q → q < Q) where
  open X use {net, program}
  open net use {stops, elements, count}

  there : {c c' : Counts} (a : Step) → Occurs net a (c a) → OneMore c c' a → step_sum net P Q c' ≡ suc (step_sum net P Q c)
  there {c} (put q k) o B =
      one_step net P Q (put q k) B (λ p e. absurd (put≢fire e))
      (λ q' k' e. (pipes q' (omega (arith, o.1, ap elements (q_is e))), omega (arith, o.0, k_is e, ap stops (q_is e))))
      (λ q' k' e. absurd (put≢get e))
    where
      q_is : {q' k' : ℕ} → put q k ≡ put q' k' → q ≡ q'
      q_is e = cc

      k_is : {q' k' : ℕ} → put q k ≡ put q' k' → k ≡ k'
      k_is e = cc
  there {c} (get q k) o B =
      one_step net P Q (get q k) B (λ p e. absurd (get≢fire e)) (λ q' k' e. absurd (put≢get (sym e)))
      (λ q' k' e. (pipes q' (omega (arith, o.1, ap elements (q_is e))), omega (arith, o.0, k_is e, ap stops (q_is e))))
    where
      q_is : {q' k' : ℕ} → get q k ≡ get q' k' → q ≡ q'
      q_is e = cc

      k_is : {q' k' : ℕ} → get q k ≡ get q' k' → k ≡ k'
      k_is e = cc
  there {c} (fire p) o B =
      one_step net P Q (fire p) B (λ p' e. processes p' (omega (arith, o, ap count (p_is e)))) (λ q' k' e. absurd (put≢fire (sym e)))
      (λ q' k' e. absurd (get≢fire (sym e)))
    where
      p_is : {p' : ℕ} → fire p ≡ fire p' → p ≡ p'
      p_is e = cc

  -- every granted step adds one to the sum
  pub counted : {t : ℕ} {c : Counts} {W : Words} → Reach X t c W → step_sum net P Q c ≡ t
  unfolding step_sum link_sum
  counted start =
      omega (
        arith,
        sum_const 0 0 P,
        sum_same (link_sum net (λ a. 0)) (λ q. 0) 0 Q
            (λ q a b. sum_const 0 0 (suc (stops q)) ∙ times_zero (suc (stops q))),
        sum_const 0 0 Q,
        times_zero P,
        times_zero Q,
      )
    where
      times_zero : (n : ℕ) → n * 0 ≡ 0
      times_zero n = omega arith
  counted (more {c} {a = a} r (moves n g B M)) = there a (ready_occurs net (reach_good X r).inv a g) B ∙ ap suc (counted r)
  counted (more {c} r (fires p e g B M)) = there (fire p) (ready_occurs net (reach_good X r).inv (fire p) g) B ∙ ap suc (counted r)

  module _ {t : ℕ} {c : Counts} {W : Words} (r : Reach X t c W) where
    I : Inv net c
    I = (reach_good X r).inv

    link_le : (q : ℕ) → link_sum net c q ≤ link_sum net (totals net) q
    unfolding link_sum
    link_le q =
        sum_le _ _ 0 (suc (stops q)) (λ k a b. omega (arith, below_head net I q k (omega arith), get_elements net I q k (omega arith)))

    -- at most the total
    pub granted_most : t ≤ step_sum net P Q (totals net)
    unfolding step_sum
    granted_most =
        omega (
          arith,
          counted r,
          sum_le (λ p. c (fire p)) count 0 P (λ p a b. I.fires p),
          sum_le (link_sum net c) (link_sum net (totals net)) 0 Q
              (λ q a b. link_le q),
        )

    -- equal to it if all is out
    pub out_granted : 0 < program.streams → Out X c → t ≡ step_sum net P Q (totals net)
    unfolding step_sum link_sum
    out_granted z o =
        sym (counted r)
        ∙ ap₂ ◌+◌ (sum_same _ _ 0 P (λ p a b. full (fire p) (I.fires p) (λ l. l)))
        (sum_same _ _ 0 Q (λ q a b.
        sum_same _ _ 0 (suc (stops q)) (λ k u v.
        ap₂ ◌+◌ (full (put q k) (below_head net I q k (omega arith)) (λ l. (omega arith, l)))
        (full (get q k) (get_elements net I q k (omega arith)) (λ l. (omega arith, l))))))
      where
        full : (a : Step) → c a ≤ totals net a → (c a < totals net a → Occurs net a (c a)) → c a ≡ totals net a
        full a l f = go (order (c a) (totals net a))
          where
            go : Order (c a) (totals net a) → c a ≡ totals net a
            go (less m) = absurd (done X (reach_good X r) z o a (f m))
            go (at_least m) = omega arith

    -- and only then
    pub granted_out : t ≡ step_sum net P Q (totals net) → Out X c
    unfolding Out step_sum link_sum
    granted_out e q = go (order (c (get q (stops q))) (elements q))
      where
        le_fires : total (λ p. c (fire p)) (numbers P) ≤ total count (numbers P)
        le_fires = sum_le (λ p. c (fire p)) count 0 P (λ p a b. I.fires p)

        le_links : total (link_sum net c) (numbers Q) ≤ total (link_sum net (totals net)) (numbers Q)
        le_links = sum_le (link_sum net c) (link_sum net (totals net)) 0 Q (λ q a b. link_le q)

        go : Order (c (get q (stops q))) (elements q) → c (get q (stops q)) ≡ elements q
        go (at_least l) = omega (arith, get_elements net I q (stops q) (le_refl (stops q)))
        go (less l) =
            let b : q < Q = pipes q (omega arith) in
            let d = sum_tight (link_sum net c) (link_sum net (totals net)) 0 Q (λ q a b. link_le q)
            (omega (arith, counted r, le_fires, le_links)) q (omega arith) (omega arith) in
            let k =
            sum_tight (λ k. c (put q k) + c (get q k)) (λ k. elements q + elements q) 0 (suc (stops q))
            (λ k a b. omega (arith, below_head net I q k (omega arith), get_elements net I q k (omega arith))) d (stops q) (omega arith)
            (omega arith) in
            omega (arith, below_head net I q (stops q) (le_refl (stops q)))
