-- A firing on the words: it changes the values of the elements that its process holds, and no other place holds one of them.
-- Assumes nothing.
use Rattle.std.specs.Prelude.{◌≡◌, refl, ℕ, zero, suc, ◌+◌, ◌-◌, ◌≤◌, ◌<◌}
use Rattle.std.proofs.Common.{sym, ◌∙◌, ap, subst, le_refl, arith}
use Rattle.std.proofs.Math.Decide.{ℕ_discrete}
use Rattle.abstract_network.specs.Cases.{Order, less, at_least, order}
use Rattle.abstract_network.specs.Counters.{Kind, through, keep, AtStop, fresh, holding, gone, stop_order, Use, hand, held, put, get}
use Rattle.abstract_network.specs.Counters.{fire}
use Rattle.abstract_network.specs.Counters.{Counts, Net, At, Guard, Inv, OneMore, put≢fire, get≢fire, along, below_head, get_elements}
use Rattle.abstract_network.specs.Ranks.{wrap, Wrap, low, high, wrapped, Next, level, rise, Ranked, rank_mono, rank_elements}
use Rattle.abstract_network.specs.Ranks.{rank_keep}
use Rattle.abstract_network.specs.Ranks.{rank_zero, wrap_end, wrap_lt, upstream, apart}
use Rattle.abstract_network.specs.Words.{Hold, passes, keeps, Words, Stored}

-- the element that a stop's process uses next
pub data Own (s f r j : ℕ) : Kind → Type 0 where
  in_hand : j ≡ s + f → Own s f r j through
  in_keep : j ≡ r → Own s f r j keep

-- the rule on a stop's words
pub data Firing (hv kv v hv' kv' : ℕ) : Kind → Type 0 where
  hand_used : hv' ≡ v → kv' ≡ kv → Firing hv kv v hv' kv' through
  keep_used : kv' ≡ v → hv' ≡ hv → Firing hv kv v hv' kv' keep

-- other values, but not at what the stop holds
hold_same : {n r r' x y hv kv hv' kv' : ℕ} {B B' : ℕ → ℕ} {K : Kind} → hv' ≡ hv → kv' ≡ kv
    → (y < x → x ≤ suc y → K ≡ through → B' (wrap n (r' + y)) ≡ B (wrap n (r' + y)))
    → (x ≡ suc (suc y) → K ≡ keep → B' (wrap n (r' + y)) ≡ B (wrap n (r' + y)))
    → (y < x → K ≡ keep → B' r ≡ B r)
    → Hold n r r' x y B hv kv K → Hold n r r' x y B' hv' kv' K
hold_same d e f g h (passes a b u) = passes (λ l. d ∙ a l) (λ l. d ∙ b l ∙ sym (f (omega arith) (omega arith) refl)) (e ∙ u)
hold_same d e f g h (keeps a b u v) = keeps (λ l. d ∙ a l) (λ l. d ∙ b l ∙ sym (g l refl)) (λ l. e ∙ u l) (λ l. e ∙ v l ∙ sym (h l refl))

hold_fire : {n s t x y f r r' hv kv v hv' kv' : ℕ} {B B' : ℕ → ℕ} {K : Kind} → (K ≡ through → r' ≡ 0)
    → r' ≤ n → x ≤ n → Use n s t x y f K → Next r r' K → Firing hv kv v hv' kv' K
    → ((j : ℕ) → Own s f r j K → B' j ≡ v)
    → ((j : ℕ) → j < n → (Own s f r j K → ⊥) → B' j ≡ B j)
    → Hold n r r' x y B hv kv K → Hold n r r' x y B' hv' kv' K
hold_fire {n} {s} {t} {x} {y} {f} {r} {r'} {B' = B'} z m w (hand a b) N (hand_used d e) new old (passes u v k) =
    passes (λ l. absurd (omega arith)) (λ l. d ∙ sym (new _ (in_hand (is (wrapped n (r' + y)))))) (e ∙ k)
  where
    is : Wrap n (r' + y) → wrap n (r' + y) ≡ s + f
    is (low h i) = omega (arith, z refl)
    is (high h i) = absurd (omega (arith, z refl))
hold_fire {n} {s} {t} {x} {y} {f} {r} {r'} {B' = B'} z m' w (held a) (rise m) (keep_used d e) new old (keeps u v k l) =
    keeps (λ o. e ∙ u o) (λ o. e ∙ v o ∙ sym (old _ (wrap_lt n (r' + y) (omega arith)) (λ q. apart_from o q (wrapped n (r' + y)))))
    (λ o. absurd (omega arith)) (λ o. d ∙ sym (new r (in_keep refl)))
  where
    apart_from : x ≡ suc (suc y) → Own s f r (wrap n (r' + y)) keep → Wrap n (r' + y) → ⊥
    apart_from o (in_keep q) (low h i) = omega arith
    apart_from o (in_keep q) (high h i) = omega arith

module _ (N : Net) (R : Ranked N) where
  open N use {stops, elements, hop, process, kind, soak, count}
  open R use {rank}

  -- what the pipes of a nest have besides
  pub record Lined : Type 0 where
    -- a process stands once on a pipe
    pub once : (q k k' : ℕ) → k < stops q → k' < stops q → process q k ≡ process q k' → k ≡ k'
    -- a computing process that lets all through is on a moving pipe
    pub moves : (q k : ℕ) → k < stops q → kind q k ≡ through → 0 < count (process q k) → rank q (stops q) ≡ 0

  abbrev pub Owns : Counts → ℕ → ℕ → ℕ → Type 0
  Owns c q k j = Own (soak q k) (c (fire (process q k))) (rank q k) j (kind q k)

  module _ (L : Lined) {c : Counts} (I : Inv N c) (q k : ℕ) (h : k < stops q) (busy : c (fire (process q k)) < count (process q k)) where
    put_falls : (j : ℕ) → k < j → j ≤ stops q → c (put q j) ≤ c (put q (suc k))
    put_falls zero l m = absurd (omega arith)
    put_falls (suc j) l m = go (order k j)
      where
        go : Order k j → c (put q (suc j)) ≤ c (put q (suc k))
        go (less o) = omega (arith, along N I q k j o (omega arith), stop_order (I.stop q j m))
        go (at_least o) = let e : j ≡ k = omega arith in rw e (le_refl _)

    -- no place of a link holds what k uses
    clear : (j a i : ℕ) → j ≤ stops q → (j ≤ k → c (get q j) ≤ a) → (k < j → a < c (put q j)) → a < elements q
        → {K : Kind} → kind q k ≡ K
        → Use (elements q) (soak q k) (count (process q k)) (c (get q k)) (c (put q (suc k))) (c (fire (process q k))) K
        → AtStop (elements q) (soak q k) (count (process q k)) (c (get q k)) (c (put q (suc k))) (c (fire (process q k))) K
        → Own (soak q k) (c (fire (process q k))) (rank q k) i K
        → i ≡ wrap (elements q) (rank q j + a) → ⊥
    clear j a i l u v w e (hand x y) S (in_hand o) z = go (order k j) (wrapped (elements q) (rank q j + a))
      where
        flat : rank q j ≡ 0
        flat = rank_zero N R q j (L.moves q k h e (omega arith)) l

        go : Order k j → Wrap (elements q) (rank q j + a) → ⊥
        go m (high b d) = omega (arith, flat)
        go (less m) (low b d) = omega (arith, flat, put_falls j m l, v m)
        go (at_least m) (low b d) = up (order j k)
          where
            up : Order j k → ⊥
            up (less o') = omega (arith, flat, upstream N R I q k j o' (omega arith), u m)
            up (at_least o') = let f : j ≡ k = omega arith in omega (arith, flat, ap (λ (j : ℕ). c (get q j)) f, u m)
    clear j a i l u v w e (held x) S (in_keep o) z = apart N R I q k h e (omega arith) (full S) j a l u v w (sym z ∙ o)
      where
        full : AtStop (elements q) (soak q k) (count (process q k)) (c (get q k)) (c (put q (suc k))) (c (fire (process q k))) keep
            → c (put q (suc k)) < elements q
        full (fresh a b d) = absurd (omega arith)
        full (holding a b d) = d
        full (gone a b d) = absurd (omega arith)

  -- what a firing of process p does to the words; new q k is the value that it makes at place k of pipe q
  pub record Fires (c : Counts) (p : ℕ) (W W' : Words) (new : ℕ → ℕ → ℕ) : Type 0 where
    pub fired : (q k : ℕ) → k < stops q → process q k ≡ p
        → Firing (W.hand q k) (W.kept q k) (new q k) (W'.hand q k) (W'.kept q k) (kind q k)
    pub idle : (q k : ℕ) → k < stops q → (process q k ≡ p → ⊥) → (W'.hand q k ≡ W.hand q k) × (W'.kept q k ≡ W.kept q k)
    pub links : (q k i : ℕ) → W'.link q k i ≡ W.link q k i
    pub outs : (q i : ℕ) → W'.out q i ≡ W.out q i

  -- the values after it
  pub record Changed (c : Counts) (p : ℕ) (new A A' : ℕ → ℕ → ℕ) : Type 0 where
    pub own : (q k j : ℕ) → k < stops q → process q k ≡ p → Owns c q k j → A' q j ≡ new q k
    pub rest : (q j : ℕ) → j < elements q → ((k : ℕ) → k < stops q → process q k ≡ p → Owns c q k j → ⊥) → A' q j ≡ A q j

  module _ (L : Lined) {c c' : Counts} {p : ℕ} (B : OneMore c c' (fire p)) (I : Inv N c) (g : Guard N c (fire p)) {A A' new : ℕ → ℕ → ℕ}
      {W W' : Words}
      (M : Fires c p W W' new) (V' : Changed c p new A A') (F : Stored N R c A W) where
    same_get : (q k : ℕ) → c' (get q k) ≡ c (get q k)
    same_get q k = B.rest (get q k) (λ e. get≢fire (sym e))

    same_put : (q k : ℕ) → c' (put q k) ≡ c (put q k)
    same_put q k = B.rest (put q k) (λ e. put≢fire (sym e))

    -- an element of a link, or between two, has its value still
    untouched : (q j a : ℕ) → j ≤ stops q → c (get q j) ≤ a → a < c (put q j)
        → A' q (wrap (elements q) (rank q j + a)) ≡ A q (wrap (elements q) (rank q j + a))
    untouched q j a l u v =
        V'.rest
        q
        (wrap (elements q) (rank q j + a))
        (wrap_lt (elements q) (rank q j + a) (omega (arith, rank_elements N R q j l, below_head N I q j l)))
        (λ k h e o.
        clear L I q k h (rw e g.0) j a (wrap (elements q) (rank q j + a)) l (λ x. u) (λ x. v) (omega (arith, below_head N I q j l)) refl
        (g.1 q k h e) (I.stop q k h) o refl)

    -- what an idle process has in its hand
    untouched_hand : (q k : ℕ) → k < stops q → (process q k ≡ p → ⊥) → c (put q (suc k)) < c (get q k)
        → rank q k + c (get q k) ≡ suc (rank q (suc k) + c (put q (suc k)))
        → A' q (wrap (elements q) (rank q (suc k) + c (put q (suc k)))) ≡ A q (wrap (elements q) (rank q (suc k) + c (put q (suc k))))
    untouched_hand q k l n v w = V'.rest q j (wrap_lt (elements q) (rank q (suc k) + c (put q (suc k)))
        (omega (arith, rank_elements N R q (suc k) l, get_elements N I q k (omega arith)))) away
      where
        j : ℕ
        j = wrap (elements q) (rank q (suc k) + c (put q (suc k)))

        away : (k0 : ℕ) → k0 < stops q → process q k0 ≡ p → Owns c q k0 j → ⊥
        away k0 h e o = go (order k0 k) (order k k0)
          where
            at : (b a : ℕ) → b ≤ stops q → (b ≤ k0 → c (get q b) ≤ a) → (k0 < b → a < c (put q b)) → a < elements q
                → rank q (suc k) + c (put q (suc k)) ≡ rank q b + a → ⊥
            at b a m x y z d =
                clear L I q k0 h (rw e g.0) b a j m x y z refl (g.1 q k0 h e) (I.stop q k0 h) o (ap (λ (i : ℕ). wrap (elements q) i) d)

            go : Order k0 k → Order k k0 → ⊥
            go (less m) m' =
                let x = (I.link q k (omega arith)).0 in
                at k (c (get q k) - 1) (omega arith) (λ z. absurd (omega arith)) (λ z. omega arith)
                (omega (arith, get_elements N I q k (omega arith))) (omega arith)
            go (at_least m) (less m') =
                at (suc k) (c (put q (suc k))) l (λ z. (I.link q (suc k) l).0) (λ z. absurd (omega arith))
                (omega (arith, get_elements N I q k (omega arith))) refl
            go (at_least m) (at_least m') = let z : k ≡ k0 = omega arith in n (ap (process q) z ∙ e)

    -- what an idle process keeps
    untouched_keep : (q k : ℕ) → k < stops q → (process q k ≡ p → ⊥) → kind q k ≡ keep → A' q (rank q k) ≡ A q (rank q k)
    untouched_keep q k l n e = V'.rest q (rank q k) (rank_keep N R q k l e).1 (λ k0 h d o. away k0 h d (g.1 q k0 h d) refl o)
      where
        k_rises : rank q (suc k) ≡ suc (rank q k)
        k_rises = (rank_keep N R q k l e).0

        away : (k0 : ℕ) → k0 < stops q → process q k0 ≡ p → At N Use c q k0 → {K : Kind} → kind q k0 ≡ K
            → Own (soak q k0) (c (fire (process q k0))) (rank q k0) (rank q k) K → ⊥
        away k0 h d u t (in_hand o) = omega (arith, k_rises, rank_zero N R q (suc k) (L.moves q k0 h t (rw d (omega (arith, g.0)))) l)
        away k0 h d u t (in_keep o) = go (order k0 k) (order k k0)
          where
            go : Order k0 k → Order k k0 → ⊥
            go (less m) m' = omega (arith, (rank_keep N R q k0 h t).0, rank_mono N R q (suc k0) k m (omega arith))
            go (at_least m) (less m') = omega (arith, k_rises, rank_mono N R q (suc k) k0 m' (omega arith))
            go (at_least m) (at_least m') = let z : k ≡ k0 = omega arith in n (ap (process q) z ∙ d)

    fire_holds : (q k : ℕ) → k < stops q
        → Hold (elements q) (rank q k) (rank q (suc k)) (c (get q k)) (c (put q (suc k))) (A' q) (W'.hand q k) (W'.kept q k) (kind q k)
    fire_holds q k l = go (ℕ_discrete (process q k) p)
      where
        level_of : {r r' : ℕ} {K : Kind} → K ≡ through → Next r r' K → r' ≡ r
        level_of e (level d) = d
        level_of e (rise d) = absurd (let z : ◌≡◌ {A = ℕ} 0 1 = cc in omega arith)

        go : Dec (process q k ≡ p) → Hold (elements q) (rank q k) (rank q (suc k)) (c (get q k)) (c (put q (suc k))) (A' q) (W'.hand q k)
            (W'.kept q k) (kind q k)
        go (yes e) =
            hold_fire
            (λ t. rank_zero N R q (suc k) (L.moves q k l t (rw e (omega (arith, g.0)))) l)
            (rank_elements N R q (suc k) l)
            (get_elements N I q k (omega arith))
            (g.1 q k l e)
            (R.next q k l)
            (M.fired q k l e)
            (λ j o. V'.own q k j l e o)
            (λ j b o. V'.rest q j b (λ k0 h d o'. o (subst (λ (k : ℕ). Owns c q k j) (L.once q k0 k h l (d ∙ sym e)) o')))
            (F.holds q k l)
        go (no n) =
            let m = M.idle q k l n in
            hold_same
            m.0
            m.1
            (λ x y t. untouched_hand q k l n x (omega (arith, level_of t (R.next q k l))))
            (λ x t. untouched_hand q k l n (omega arith) (omega (arith, (rank_keep N R q k l t).0)))
            (λ x t. untouched_keep q k l n t)
            (F.holds q k l)

    fire_outs : (q i : ℕ) → i < c (get q (stops q)) → W'.out q i ≡ A' q i
    fire_outs q i h =
        let b = get_elements N I q (stops q) (le_refl _) in
        M.outs q i
        ∙ F.outs q i h
        ∙ sym
        (V'.rest
        q
        i
        (omega arith)
        (λ k l e o.
        clear
        L
        I
        q
        k
        l
        (rw e g.0)
        (stops q)
        i
        i
        (le_refl _)
        (λ x. absurd (omega arith))
        (λ x. omega (arith, (I.link q (stops q) (le_refl _)).0))
        (omega arith)
        refl
        (g.1 q k l e)
        (I.stop q k l)
        o
        (sym (wrap_end N R q i (omega arith)))))

    -- after a firing the words are again what counters and values say
    pub stored_fire : Stored N R c' A' W'
    stored_fire =
        record {
          links = λ q k a l u v.
              let u' : c (get q k) ≤ a = omega (arith, same_get q k) in
              let v' : a < c (put q k) = omega (arith, same_put q k) in
              rw (same_get q k) (M.links q k (a - c (get q k)) ∙ F.links q k a l u' v' ∙ sym (untouched q k a l u' v'));
          spare = λ q k i l u. M.links q k i ∙ F.spare q k i l (omega (arith, same_get q k, same_put q k));
          holds = λ q k l. rw (same_get q k, same_put q (suc k)) (fire_holds q k l);
          outs = λ q i h. fire_outs q i (omega (arith, same_get q (stops q)));
          blank = λ q i h. M.outs q i ∙ F.blank q i (omega (arith, same_get q (stops q)));
        }
