-- The words of the state: what each place holds follows from the counters and the elements' values; each rule keeps that. Assumes nothing.
use Rattle.std.specs.Prelude.{◌≡◌, refl, ℕ, zero, suc, ◌+◌, ◌-◌, ◌≤◌, ◌<◌}
use Rattle.std.proofs.Common.{sym, ◌∙◌, ap, subst, le_refl, arith}
use Rattle.abstract_network.specs.Cases.{Equal, same, other, equal}
use Rattle.abstract_network.specs.Counters.{Kind, through, keep, AtStop, passing, stop_order, Hand, empty, first, free, Offer, soaked}
use Rattle.abstract_network.specs.Counters.{drained}
use Rattle.abstract_network.specs.Counters.{used, passed, kept, Step, put, get, Counts, Net, Guard, Inv, OneMore, Hit, hit}
use Rattle.abstract_network.specs.Counters.{miss, hit?}
use Rattle.abstract_network.specs.Counters.{put≢get, below_head}
use Rattle.abstract_network.specs.Ranks.{wrap, Wrap, low, high, wrapped, Next, level, rise, Ranked, rank_keep, wrap_end}

-- a stop's hand word hv and keep word kv, the pipe's j-th element having the value B j
pub data Hold (n r r' x y : ℕ) (B : ℕ → ℕ) (hv kv : ℕ) : Kind → Type 0 where
  passes : (x ≡ y → hv ≡ 0) → (x ≡ suc y → hv ≡ B (wrap n (r' + y))) → kv ≡ 0 → Hold n r r' x y B hv kv through
  keeps : (x ≤ suc y → hv ≡ 0) → (x ≡ suc (suc y) → hv ≡ B (wrap n (r' + y))) → (x ≡ y → kv ≡ 0) → (y < x → kv ≡ B r)
      → Hold n r r' x y B hv kv keep

-- the rules on a stop's words: v is taken, v is given
pub data Taking (x y hv kv v hv' kv' : ℕ) : Kind → Type 0 where
  to_hand : hv' ≡ v → kv' ≡ kv → Taking x y hv kv v hv' kv' through
  to_keep_lem : x ≡ 0 → kv' ≡ v → hv' ≡ hv → Taking x y hv kv v hv' kv' keep
  past_keep : 0 < x → hv' ≡ v → kv' ≡ kv → Taking x y hv kv v hv' kv' keep

pub data Giving (x y hv kv v hv' kv' : ℕ) : Kind → Type 0 where
  of_hand : v ≡ hv → hv' ≡ 0 → kv' ≡ kv → Giving x y hv kv v hv' kv' through
  of_other : x ≡ suc (suc y) → v ≡ hv → hv' ≡ 0 → kv' ≡ kv → Giving x y hv kv v hv' kv' keep
  of_keep_lem : x ≡ suc y → v ≡ kv → kv' ≡ 0 → hv' ≡ hv → Giving x y hv kv v hv' kv' keep

module _ {n s t x y f r r' hv kv v hv' kv' : ℕ} {B : ℕ → ℕ} where
  hold_get : {K : Kind} → (K ≡ keep → r < n) → x < n → Next r r' K → AtStop n s t x y f K → Hand n s t x y f K → Hold n r r' x y B hv kv K
      → Taking x y hv kv v hv' kv' K → v ≡ B (wrap n (r + x)) → Hold n r r' (suc x) y B hv' kv' K
  hold_get w z (level d) S (empty e) (passes a b u) (to_hand g h) i =
      passes
      (λ l. absurd (omega arith))
      (λ l. let m : r + x ≡ r' + y = omega arith in g ∙ i ∙ ap (λ (g : ℕ). B (wrap n g)) m)
      (h ∙ u)
  hold_get w z (rise d) S H (keeps a b u u') (to_keep_lem e g h) i =
      keeps
      (λ l. h ∙ a (omega arith))
      (λ l. absurd (omega arith))
      (λ l. absurd (begun S l))
      (λ l. g ∙ i ∙ ap B (low_is (wrapped n (r + x))))
    where
      begun : AtStop n s t x y f keep → suc x ≡ y → ⊥
      begun S l = omega (arith, stop_order S)

      low_is : Wrap n (r + x) → wrap n (r + x) ≡ r
      low_is (low a b) = omega arith
      low_is (high a b) = absurd (omega (arith, w refl))
  hold_get w z (rise d) S (first e) (keeps a b u u') (past_keep l g h) i = absurd (omega arith)
  hold_get w z (rise d) S (free e) (keeps a b u u') (past_keep l g h) i =
      keeps
      (λ l. absurd (omega arith))
      (λ l. let m : r + x ≡ r' + y = omega arith in g ∙ i ∙ ap (λ (g : ℕ). B (wrap n g)) m)
      (λ l. absurd (omega arith))
      (λ l. h ∙ u' (omega arith))

  hold_put : {K : Kind} → AtStop n s t x y f K → Offer n s t x y f K → Hold n r r' x y B hv kv K → Giving x y hv kv v hv' kv' K
      → Hold n r r' x (suc y) B hv' kv' K
  hold_put (passing a b _ _) O (passes d e u) (of_hand g h i) = passes (λ l. h) (λ l. absurd (omega arith)) (i ∙ u)
  hold_put S O (keeps a b u u') (of_other e g h i) = keeps (λ l. h) (λ l. absurd (omega arith)) (λ l. absurd (omega arith))
      (λ l. i ∙ u' (omega arith))
  hold_put S O (keeps a b u u') (of_keep_lem e g h i) =
      keeps (λ l. i ∙ a (omega arith)) (λ l. absurd (omega arith)) (λ l. h) (λ l. absurd (omega arith))

  given_is : {K : Kind} → Next r r' K → AtStop n s t x y f K → Offer n s t x y f K → Hold n r r' x y B hv kv K
      → Giving x y hv kv v hv' kv' K → v ≡ B (wrap n (r' + y))
  given_is N (passing a b _ _) O (passes d e u) (of_hand g h i) = g ∙ e (offered O)
    where
      offered : Offer n s t x y f through → x ≡ suc y
      offered (soaked j _) = omega arith
      offered (drained j _) = omega arith
      offered (used j _) = omega arith
  given_is N S O (keeps a b u u') (of_other e g h i) = g ∙ b e
  given_is N S (passed d) (keeps a b u u') (of_keep_lem e g h i) = absurd (omega arith)
  given_is (rise k) S (kept d m l) (keeps a b u u') (of_keep_lem e g h i) = g ∙ u' (omega arith) ∙ ap B (high_is (wrapped n (r' + y)))
    where
      high_is : Wrap n (r' + y) → r ≡ wrap n (r' + y)
      high_is (low a b) = absurd (omega arith)
      high_is (high a b) = omega arith

-- the words of a state, and the received list
pub record Words : Type 0 where
  pub link : ℕ → ℕ → ℕ → ℕ  -- place i of link k of pipe q; 0 past its places
  pub hand : ℕ → ℕ → ℕ  -- at place k of pipe q
  pub kept : ℕ → ℕ → ℕ
  pub out : ℕ → ℕ → ℕ  -- received place i of pipe q

module _ (N : Net) (R : Ranked N) where
  open N use {stops, elements, hop, process, kind, soak, count}
  open R use {rank}

  -- what the words are, by the counters c and the values A of the pipes' elements
  pub record Stored (c : Counts) (A : ℕ → ℕ → ℕ) (W : Words) : Type 0 where
    pub links : (q k a : ℕ) → k ≤ stops q → c (get q k) ≤ a → a < c (put q k)
        → W.link q k (a - c (get q k)) ≡ A q (wrap (elements q) (rank q k + a))
    pub spare : (q k i : ℕ) → k ≤ stops q → c (put q k) ≤ c (get q k) + i → W.link q k i ≡ 0
    pub holds : (q k : ℕ) → k < stops q
        → Hold (elements q) (rank q k) (rank q (suc k)) (c (get q k)) (c (put q (suc k))) (A q) (W.hand q k)
        (W.kept q k) (kind q k)
    pub outs : (q i : ℕ) → i < c (get q (stops q)) → W.out q i ≡ A q i
    pub blank : (q i : ℕ) → c (get q (stops q)) ≤ i → W.out q i ≡ 0

  -- what send, take, give and receive do to the words; `moved` is the value that a put puts
  pub record Moves (waiting : ℕ → ℕ → ℕ) (c : Counts) (a : Step) (W W' : Words) : Type 0 where
    pub moved : ℕ
    pub send : (q : ℕ) → a ≡ put q 0 → moved ≡ waiting q (c (put q 0))
    pub give : (q k : ℕ) → a ≡ put q (suc k) → Giving (c (get q k)) (c (put q (suc k))) (W.hand q k) (W.kept q k) moved (W'.hand q k)
        (W'.kept q k) (kind q k)
    pub filled : (q k i : ℕ) → a ≡ put q k → c (put q k) ≡ c (get q k) + i → W'.link q k i ≡ moved
    pub unfilled : (q k i : ℕ) → a ≡ put q k → (c (put q k) ≡ c (get q k) + i → ⊥) → W'.link q k i ≡ W.link q k i
    pub take : (q k : ℕ) → k < stops q → a ≡ get q k → Taking (c (get q k)) (c (put q (suc k))) (W.hand q k) (W.kept q k) (W.link q k 0)
        (W'.hand q k) (W'.kept q k) (kind q k)
    pub shift : (q k i : ℕ) → a ≡ get q k → W'.link q k i ≡ W.link q k (suc i)
    pub receive : (q : ℕ) → a ≡ get q (stops q) → W'.out q (c (get q (stops q))) ≡ W.link q (stops q) 0
    pub received : (q i : ℕ) → (a ≡ get q (stops q) → c (get q (stops q)) ≡ i → ⊥) → W'.out q i ≡ W.out q i
    pub other_link : (q k i : ℕ) → (a ≡ put q k → ⊥) → (a ≡ get q k → ⊥) → W'.link q k i ≡ W.link q k i
    pub other_stop : (q k : ℕ) → (a ≡ get q k → ⊥) → (a ≡ put q (suc k) → ⊥) → (W'.hand q k ≡ W.hand q k) × (W'.kept q k ≡ W.kept q k)

  module _ {c c' : Counts} {a : Step} (B : OneMore c c' a) (I : Inv N c) (g : Guard N c a) (A : ℕ → ℕ → ℕ)
      (waiting : ℕ → ℕ → ℕ) {W W' : Words} (M : Moves waiting c a W W') (F : Stored c A W)
      (unsent : (q : ℕ) → c (put q 0) < elements q → A q (c (put q 0)) ≡ waiting q (c (put q 0))) where
    turned : {b : Step} → a ≡ b → Guard N c b
    turned {b} e = subst (λ (b : Step). Guard N c b) e g

    moved_is : (q k : ℕ) → k ≤ stops q → a ≡ put q k → M.moved ≡ A q (wrap (elements q) (rank q k + c (put q k)))
    moved_is q zero l e = M.send q e ∙ sym (unsent q (turned e).0) ∙ ap (A q) (first_is (wrapped (elements q) (rank q 0 + c (put q 0))))
      where
        first_is : Wrap (elements q) (rank q 0 + c (put q 0)) → c (put q 0) ≡ wrap (elements q) (rank q 0 + c (put q 0))
        first_is (low h d) = omega (arith, R.start q)
        first_is (high h d) = absurd (omega (arith, R.start q, (turned e).0))
    moved_is q (suc k) l e = given_is (R.next q k l) (I.stop q k l) (turned e).2 (F.holds q k l) (M.give q k e)

    head_is : (q k : ℕ) → k ≤ stops q → c (get q k) < c (put q k) → W.link q k 0 ≡ A q (wrap (elements q) (rank q k + c (get q k)))
    head_is q k l h = let e : c (get q k) - c (get q k) ≡ 0 = omega arith in rw e at (F.links q k (c (get q k)) l (le_refl _) h)

    step_links : (q k b : ℕ) → k ≤ stops q → c' (get q k) ≤ b → b < c' (put q k)
        → W'.link q k (b - c' (get q k)) ≡ A q (wrap (elements q) (rank q k + b))
    step_links q k b l h h' = go (hit? B (get q k)) (hit? B (put q k))
      where
        go : Hit B (get q k) → Hit B (put q k) → W'.link q k (b - c' (get q k)) ≡ A q (wrap (elements q) (rank q k + b))
        go (hit d u) (hit e v) = absurd (put≢get (sym e ∙ d))
        go (hit d u) (miss n v) =
            let e : suc (b - c' (get q k)) ≡ b - c (get q k) = omega arith in
            M.shift q k (b - c' (get q k)) d ∙ ap (W.link q k) e ∙ F.links q k b l (omega arith) (omega arith)
        go (miss n u) (hit e v) = new (equal (c (put q k)) b)
          where
            i : ℕ
            i = b - c' (get q k)

            new : Equal (c (put q k)) b → W'.link q k i ≡ A q (wrap (elements q) (rank q k + b))
            new (same z) = M.filled q k i e (omega arith) ∙ moved_is q k l e ∙ ap (λ (b : ℕ). A q (wrap (elements q) (rank q k + b))) z
            new (other z) =
                M.unfilled q k i e (omega arith) ∙ ap (λ (x : ℕ). W.link q k (b - x)) u ∙ F.links q k b l (omega arith) (omega arith)
        go (miss n u) (miss n' v) =
            M.other_link q k (b - c' (get q k)) n' n ∙ ap (λ (x : ℕ). W.link q k (b - x)) u ∙ F.links q k b l (omega arith) (omega arith)

    step_spare : (q k i : ℕ) → k ≤ stops q → c' (put q k) ≤ c' (get q k) + i → W'.link q k i ≡ 0
    step_spare q k i l h = go (hit? B (get q k)) (hit? B (put q k))
      where
        go : Hit B (get q k) → Hit B (put q k) → W'.link q k i ≡ 0
        go (hit d u) (hit e v) = absurd (put≢get (sym e ∙ d))
        go (hit d u) (miss n v) = M.shift q k i d ∙ F.spare q k (suc i) l (omega arith)
        go (miss n u) (hit e v) = M.unfilled q k i e (omega arith) ∙ F.spare q k i l (omega arith)
        go (miss n u) (miss n' v) = M.other_link q k i n' n ∙ F.spare q k i l (omega arith)

    step_holds : (q k : ℕ) → k < stops q
        → Hold (elements q) (rank q k) (rank q (suc k)) (c' (get q k)) (c' (put q (suc k))) (A q) (W'.hand q k) (W'.kept q k) (kind q k)
    step_holds q k l = go (hit? B (get q k)) (hit? B (put q (suc k)))
      where
        go : Hit B (get q k) → Hit B (put q (suc k))
            → Hold (elements q) (rank q k) (rank q (suc k)) (c' (get q k)) (c' (put q (suc k))) (A q) (W'.hand q k)
            (W'.kept q k) (kind q k)
        go (hit d u) (hit e v) = absurd (put≢get (sym e ∙ d))
        go (hit d u) (miss n v) =
            rw
            (u, v)
            (hold_get
            (λ e. (rank_keep N R q k l e).1)
            (omega (arith, (turned d).1, below_head N I q k (omega arith)))
            (R.next q k l)
            (I.stop q k l)
            ((turned d).2 l)
            (F.holds q k l)
            (M.take q k l d)
            (head_is q k (omega arith) (turned d).1))
        go (miss n u) (hit e v) = rw (u, v) (hold_put (I.stop q k l) (turned e).2 (F.holds q k l) (M.give q k e))
        go (miss n u) (miss n' v) = let s = M.other_stop q k n n' in rw (u, v, s.0, s.1) (F.holds q k l)

    step_outs : (q i : ℕ) → i < c' (get q (stops q)) → W'.out q i ≡ A q i
    step_outs q i h = go (hit? B (get q (stops q)))
      where
        go : Hit B (get q (stops q)) → W'.out q i ≡ A q i
        go (miss n u) = M.received q i (λ e x. n e) ∙ F.outs q i (omega arith)
        go (hit e u) = new (equal (c (get q (stops q))) i)
          where
            new : Equal (c (get q (stops q))) i → W'.out q i ≡ A q i
            new (same z) =
                ap (W'.out q) (sym z)
                ∙ M.receive q e
                ∙ head_is q (stops q) (le_refl _) (turned e).1
                ∙ ap (λ (b : ℕ). A q (wrap (elements q) (rank q (stops q) + b))) z
                ∙ ap (A q) (wrap_end N R q i (omega (arith, (turned e).1, below_head N I q (stops q) (le_refl _))))
            new (other z) = M.received q i (λ e x. z x) ∙ F.outs q i (omega arith)

    step_blank : (q i : ℕ) → c' (get q (stops q)) ≤ i → W'.out q i ≡ 0
    step_blank q i h = go (hit? B (get q (stops q)))
      where
        go : Hit B (get q (stops q)) → W'.out q i ≡ 0
        go (hit e u) = M.received q i (λ e x. omega arith) ∙ F.blank q i (omega arith)
        go (miss n u) = M.received q i (λ e x. n e) ∙ F.blank q i (omega arith)

    -- after such a step the words are again what counters and values say
    pub stored_move : Stored c' A W'
    stored_move = record { links = step_links; spare = step_spare; holds = step_holds; outs = step_outs; blank = step_blank }
