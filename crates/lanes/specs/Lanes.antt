-- Lanes: what one pass over the processes leaves of their pipes, by numbers alone. E p is the number of the entry of process p's line, C p
-- says whether p computes, and m whether the stream moves. Assumes nothing.
use Rattle.std.specs.Prelude.{◌≡◌, Bool, ◌&&◌, ◌⊎◌, List, T, length, set}
use Rattle.std.proofs.Math.Path.{refl, ap}
use Rattle.std.proofs.Common.{sym, ◌∙◌, subst, inl, inr, eq-or-lt_of_le, le_of_suc-le-suc, length-set}
use Rattle.std.proofs.Math.Bool.{true, false, cond}
use Prim.Native.Nat.{ℕ, zero, suc, ◌+◌, ◌≤◌, ◌<◌}
use Rattle.std.proofs.Math.Decide.{ℕ_discrete}
use native.Mathlib.Omega.{arith}
use Rattle.std.proofs.Math.Dec.{eqb}
use Rattle.std.proofs.Math.ListN.{get_or}
use Rattle.std.proofs.Math.Seq.{get_or-set_same, get_or-set_other}
use borrow.Author.Tests.{eq-eqb, ne_eqb}

-- 1,024 words each: the entry of a process; the marks; for an entry, how many compute on its line. Of a moving stream an entry's mark is
-- the number plus one of one of those, of a stationary one a process's mark is how many before it compute on its line.
abbrev pub placed : List ℕ → ℕ → ℕ → List ℕ
placed l p e = set l p e

abbrev stored : List ℕ → ℕ → ℕ → ℕ → ℕ → List ℕ
stored l p e i v = set (set (set l p e) (1024 + i) v) (2048 + e) (get_or l (2048 + e) 0 + 1)

-- whose mark a computing process makes, and which
abbrev pub marked_at : ℕ → ℕ → Bool → ℕ
marked_at p e m = cond m e p

abbrev pub mark_of : ℕ → ℕ → Bool → ℕ
mark_of p h m = cond m (p + 1) h

abbrev pub joined : List ℕ → ℕ → ℕ → Bool → List ℕ
joined l p e m = stored l p e (marked_at p e m) (mark_of p (get_or l (2048 + e) 0) m)

abbrev pub visited : List ℕ → ℕ → ℕ → Bool → Bool → List ℕ
visited l p e c m = cond c (joined l p e m) (placed l p e)

false_true : {b : Bool} → b ≡ false → T b → ⊥
false_true e t = subst (λ (b : Bool). T b) e t

module _ (E : ℕ → ℕ) (C : ℕ → Bool) where
  -- how many of the first k processes compute on the line that enters at e
  unfoldable pub held_by : ℕ → ℕ → ℕ
  held_by zero e = 0
  held_by (suc k) e = cond (C k && eqb (E k) e) (suc (held_by k e)) (held_by k e)

  pub held_le : (k e : ℕ) → held_by k e ≤ k
  unfolding held_by
  held_le zero e = omega arith
  held_le (suc k) e = go (C k && eqb (E k) e) (held_le k e)
    where
      go : (b : Bool) → held_by k e ≤ k → cond b (suc (held_by k e)) (held_by k e) ≤ suc k
      go true h = omega arith
      go false h = omega arith

  -- one of them, if there is one
  pub data One (k e w : ℕ) : Type 0 where
    nobody : w ≡ 0 → held_by k e ≡ 0 → One k e w
    somebody : (p : ℕ) → w ≡ suc p → p < k → T (C p) → E p ≡ e → One k e w

  -- the word of it is the same, and a further process computes elsewhere or not at all
  one_on : {k e w w' : ℕ} → held_by (suc k) e ≡ held_by k e → One k e w → w' ≡ w → One (suc k) e w'
  one_on i (nobody z s) r = nobody (r ∙ z) (i ∙ s)
  one_on i (somebody p z b t q) r = somebody p (r ∙ z) (omega arith) t q

  -- after k of n processes
  pub record Lanes (m : Bool) (n k : ℕ) (l : List ℕ) : Type 0 where
    pub words : length l ≡ 3072
    pub entries : (p : ℕ) → p < k → get_or l p 0 ≡ E p
    pub held : (e : ℕ) → e < n → get_or l (2048 + e) 0 ≡ held_by k e
    pub one : m ≡ true → (e : ℕ) → e < n → One k e (get_or l (1024 + e) 0)
    pub running : m ≡ false → (p : ℕ) → p < k → T (C p) → get_or l (1024 + p) 0 ≡ held_by p (E p)

  pub lanes_start : (m : Bool) (n : ℕ) (l : List ℕ) → n ≤ 1024 → length l ≡ 3072 → ((i : ℕ) → i < 3072 → get_or l i 0 ≡ 0) → Lanes m n 0 l
  unfolding held_by
  lanes_start m n l h w z =
      record {
        words = w;
        entries = λ p b. absurd (omega arith);
        held = λ e b. z (2048 + e) (omega arith);
        one = λ i e b. nobody (z (1024 + e) (omega arith)) refl;
        running = λ i p b. absurd (omega arith);
      }

  -- a null process
  module _ {m : Bool} {n k : ℕ} {l : List ℕ} (few : n ≤ 1024) (lt : k < n) (h : Lanes m n k l) where
    other : (i v : ℕ) → (i ≡ k → ⊥) → get_or (placed l k v) i 0 ≡ get_or l i 0
    other i v f = get_or-set_other l k i v 0 f

    entry_of : (p v : ℕ) → p < suc k → v ≡ E k → get_or (placed l k v) p 0 ≡ E p
    entry_of p v b e = go (eq-or-lt_of_le (le_of_suc-le-suc b))
      where
        go : (p ≡ k) ⊎ (p < k) → get_or (placed l k v) p 0 ≡ E p
        go (inl q) = rw q (get_or-set_same l k v 0 (omega (arith, h.words)) ∙ e)
        go (inr q) = other p v (λ (r : p ≡ k). omega arith) ∙ h.entries p q

    null_held : C k ≡ false → (e : ℕ) → held_by (suc k) e ≡ held_by k e
    unfolding held_by
    null_held c e = rw c refl

    null_step : C k ≡ false → Lanes m n (suc k) (placed l k (E k))
    null_step c =
        record {
          words = length-set l k (E k) ∙ h.words;
          entries = λ p b. entry_of p (E k) b refl;
          held = λ e b. other (2048 + e) (E k) (λ (r : 2048 + e ≡ k). omega arith) ∙ h.held e b ∙ sym (null_held c e);
          one = λ i e b. one_on (null_held c e) (h.one i e b) (other (1024 + e) (E k) (λ (r : 1024 + e ≡ k). omega arith));
          running = λ i p b t.
              other (1024 + p) (E k) (λ (r : 1024 + p ≡ k). omega arith)
              ∙ h.running i p (before p b t (eq-or-lt_of_le (le_of_suc-le-suc b))) t;
        }
      where
        before : (p : ℕ) → p < suc k → T (C p) → (p ≡ k) ⊎ (p < k) → p < k
        before p b t (inl q) = absurd (false_true c (subst (λ (i : ℕ). T (C i)) q t))
        before p b t (inr q) = q

    -- a computing one, with v as the mark of i
    module _ (c : C k ≡ true) (en : E k < n) (i v : ℕ) (room : i < 1024) where
      abbrev x : ℕ
      x = get_or l (2048 + E k) 0

      abbrev l1 : List ℕ
      l1 = set l k (E k)

      abbrev l2 : List ℕ
      l2 = set l1 (1024 + i) v

      abbrev l3 : List ℕ
      l3 = stored l k (E k) i v

      long1 : length l1 ≡ 3072
      long1 = length-set l k (E k) ∙ h.words

      long2 : length l2 ≡ 3072
      long2 = length-set l1 (1024 + i) v ∙ long1

      long3 : length l3 ≡ 3072
      long3 = length-set l2 (2048 + E k) (x + 1) ∙ long2

      second : (j : ℕ) → j < 2048 → get_or l3 j 0 ≡ get_or l2 j 0
      second j b = get_or-set_other l2 (2048 + E k) j (x + 1) 0 (λ (r : j ≡ 2048 + E k). omega arith)

      entry_past : (p : ℕ) → p < suc k → get_or l3 p 0 ≡ E p
      entry_past p b =
          second p (omega arith) ∙ get_or-set_other l1 (1024 + i) p v 0 (λ (r : p ≡ 1024 + i). omega arith) ∙ entry_of p (E k) b refl

      mark_same : get_or l3 (1024 + i) 0 ≡ v
      mark_same = second (1024 + i) (omega arith) ∙ get_or-set_same l1 (1024 + i) v 0 (omega (arith, long1))

      mark_other : (j : ℕ) → j < 1024 → (j ≡ i → ⊥) → get_or l3 (1024 + j) 0 ≡ get_or l (1024 + j) 0
      mark_other j b f =
          second (1024 + j) (omega arith) ∙ get_or-set_other l1 (1024 + i) (1024 + j) v 0 (λ (r : 1024 + j ≡ 1024 + i). f (omega arith))
          ∙ other (1024 + j) (E k) (λ (r : 1024 + j ≡ k). omega arith)

      hold : (e : ℕ) → e < n → Dec (e ≡ E k) → get_or l3 (2048 + e) 0 ≡ held_by (suc k) e
      unfolding held_by
      hold e b (yes q) =
          rw (c, eq-eqb (E k) e (sym q))
          (ap (λ (i : ℕ). get_or l3 (2048 + i) 0) q
          ∙ get_or-set_same l2 (2048 + E k) (x + 1) 0 (omega (arith, long2)) ∙ omega (arith, h.held (E k) en, ap (held_by k) q))
      hold e b (no f) =
          rw (c, ne_eqb (E k) e (λ r. f (sym r)))
          (get_or-set_other l2 (2048 + E k) (2048 + e) (x + 1) 0 (λ (r : 2048 + e ≡ 2048 + E k). f (omega arith))
          ∙ get_or-set_other l1 (1024 + i) (2048 + e) v 0 (λ (r : 2048 + e ≡ 1024 + i). omega arith)
          ∙ other (2048 + e) (E k) (λ (r : 2048 + e ≡ k). omega arith) ∙ h.held e b)

      still : (e : ℕ) → (e ≡ E k → ⊥) → held_by (suc k) e ≡ held_by k e
      unfolding held_by
      still e f = rw (c, ne_eqb (E k) e (λ r. f (sym r))) refl

      some_by : (m ≡ true → (e : ℕ) → e < n → One (suc k) e (get_or l3 (1024 + e) 0))
          → (m ≡ false → (p : ℕ) → p < suc k → T (C p) → get_or l3 (1024 + p) 0 ≡ held_by p (E p)) → Lanes m n (suc k) l3
      some_by one running =
          record {
            words = long3;
            entries = entry_past;
            held = λ e b. hold e b (ℕ_discrete e (E k));
            one = one;
            running = running;
          }

    -- of a moving stream it marks its entry, of a stationary one itself
    module _ (c : C k ≡ true) (en : E k < n) where
      one_moving : m ≡ true → (e : ℕ) → e < n → Dec (e ≡ E k) → One (suc k) e (get_or (joined l k (E k) true) (1024 + e) 0)
      one_moving i e b (yes q) =
          somebody k
          (ap (λ (i : ℕ). get_or (joined l k (E k) true) (1024 + i) 0) q ∙ mark_same c en (E k) (k + 1) (omega arith) ∙ omega arith)
          (omega arith) (subst T (sym c) tt) (sym q)
      one_moving i e b (no f) =
          one_on (still c en (E k) (k + 1) (omega arith) e f) (h.one i e b) (mark_other c en (E k) (k + 1) (omega arith) e (omega arith) f)

      running_still : m ≡ false → (p : ℕ) → p < suc k → T (C p) → (p ≡ k) ⊎ (p < k)
          → get_or (joined l k (E k) false) (1024 + p) 0 ≡ held_by p (E p)
      running_still i p b t (inl q) = rw q (mark_same c en k (get_or l (2048 + E k) 0) (omega arith) ∙ h.held (E k) en)
      running_still i p b t (inr q) =
          mark_other c en k (get_or l (2048 + E k) 0) (omega arith) p (omega arith) (λ (r : p ≡ k). omega arith) ∙ h.running i p q t

      some_step : Lanes m n (suc k) (joined l k (E k) m)
      some_step = go m refl
        where
          go : (b : Bool) → m ≡ b → Lanes m n (suc k) (joined l k (E k) b)
          go true i =
              some_by c en (E k) (k + 1) (omega arith) (λ i e b. one_moving i e b (ℕ_discrete e (E k)))
              (λ j. absurd (false_true j (subst T (sym i) tt)))
          go false i =
              some_by c en k (get_or l (2048 + E k) 0) (omega arith) (λ j. absurd (false_true i (subst T (sym j) tt)))
              (λ i p b t. running_still i p b t (eq-or-lt_of_le (le_of_suc-le-suc b)))

  -- a turn of the loop
  pub lanes_step : {m : Bool} {n k : ℕ} {l l' : List ℕ} → n ≤ 1024 → k < n → Lanes m n k l → (e : ℕ) → e ≡ E k → e < n → (c : Bool)
      → c ≡ C k → l' ≡ visited l k e c m → Lanes m n (k + 1) l'
  lanes_step {m} {n} {k} {l} {l'} few lt h e p b c q r =
      let z : suc k ≡ k + 1 = omega arith in
      subst (λ (i : ℕ). Lanes m n i l') z
      (subst (Lanes m n (suc k))
      (sym (r ∙ ap (λ (e : ℕ). visited l k e c m) p ∙ ap (λ (c : Bool). visited l k (E k) c m) q)) (go (C k) refl))
    where
      go : (c : Bool) → C k ≡ c → Lanes m n (suc k) (visited l k (E k) c m)
      go true s = some_step few lt h s (subst (λ (i : ℕ). i < n) p b)
      go false s = null_step few lt h s
