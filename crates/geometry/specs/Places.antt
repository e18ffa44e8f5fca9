-- Where a point stands in a list: in a list without repetition a place and its member determine each other. Assumes nothing.
use Rattle.std.specs.Prelude.{◌≡◌, ◌⊎◌, Bool, not, cond, get_or, take}
use Rattle.std.proofs.Math.Path.{refl, sym, ap}
use Rattle.std.proofs.Common.{◌∙◌, subst, inl, inr, eq-or-lt_of_le, zero-add}
use Rattle.std.proofs.Math.Bool.{true, false}
use mathlib.Core.List.Memᴰ.{head as here}
use mathlib.Core.List.Memᴰ.{tail as there}
use mathlib.Core.List.{List, [], ◌∷◌, map, reverse, reverse_aux, Memᴰ as In}
use Prim.Native.Nat.{ℕ, zero, suc, ◌+◌, ◌-◌, ◌≤◌, ◌<◌}
use native.Mathlib.Omega.{arith}
use Rattle.std.proofs.Math.Decide.{dec_le}
use Rattle.std.proofs.Math.Dec.{T, not_T}
use Rattle.std.proofs.Math.ListN.{length}
use Rattle.integers.specs.declared.V2.{V2}
use Rattle.meaning.specs.Lists.{filter, position}
use Rattle.meaning.specs.Space.{eq2}
use Rattle.meaning.specs.Sorted.{Sorted, Sorted.none, Sorted.more, Distinct}
use Rattle.geometry.specs.Numbers.{yes_cond, no_cond, eq2_eq, eq_eq2}

module _ {A : Type 0} where
  pub get_d_in : (l : List A) (i : ℕ) (d : A) → i < length l → In (get_or l i d) l
  get_d_in [] i d h = absurd (omega arith)
  get_d_in (x ∷ l) zero d h = here refl
  get_d_in (x ∷ l) (suc i) d h = there (get_d_in l i d (omega arith))

  -- a member stands somewhere
  pub record Found (x : A) (l : List A) (d : A) : Type 0 where
    pub at : ℕ
    pub lt : at < length l
    pub is : get_or l at d ≡ x

  pub found : {x : A} {l : List A} (d : A) → In x l → Found x l d
  found d (here e) = record { at = 0; lt = omega arith; is = sym e }
  found d (there k) = let r = found d k in record { at = suc r.at; lt = omega (arith, r.lt); is = r.is }

  pub distinct_at : {l : List A} → Distinct l → (i j : ℕ) (d : A) → i < length l → j < length l → get_or l i d ≡ get_or l j d → i ≡ j
  distinct_at none i j d h k e = absurd (omega arith)
  distinct_at (more f s) zero zero d h k e = refl
  distinct_at (more {x} {l} f s) zero (suc j) d h k e = absurd (f (get_or l j d) (get_d_in l j d (omega arith)) e)
  distinct_at (more {x} {l} f s) (suc i) zero d h k e = absurd (f (get_or l i d) (get_d_in l i d (omega arith)) (sym e))
  distinct_at (more f s) (suc i) (suc j) d h k e = ap suc (distinct_at s i j d (omega arith) (omega arith) e)

  -- of two members of a sorted list the one at the smaller place comes first, and the other way round
  pub sorted_at : {R : A → A → Type 0} {l : List A} → Sorted R l → (i j : ℕ) (d : A) → i < j → j < length l
      → R (get_or l i d) (get_or l j d)
  sorted_at none i j d h k = absurd (omega arith)
  sorted_at (more f s) i zero d h k = absurd (omega arith)
  sorted_at (more {x} {l} f s) zero (suc j) d h k = f (get_or l j d) (get_d_in l j d (omega arith))
  sorted_at (more f s) (suc i) (suc j) d h k = sorted_at s i j d (omega arith) (omega arith)

  pub sorted_from : {R : A → A → Type 0} (l : List A) (d : A)
      → ((i j : ℕ) → i < j → j < length l → R (get_or l i d) (get_or l j d)) → Sorted R l
  sorted_from [] d f = none
  sorted_from {R} (x ∷ l) d f =
      more {x = x} {l = l} (λ y k. let r = found d k in subst (R x) r.is (f 0 (suc r.at) (omega arith) (omega (arith, r.lt))))
      (sorted_from l d (λ i j h k. f (suc i) (suc j) (omega arith) (omega arith)))

  pub at_sorted : {R : A → A → Type 0} {l : List A} → ((x : A) → R x x → ⊥) → ((x y : A) → R x y → R y x → ⊥)
      → Sorted R l → (i j : ℕ) (d : A) → i < length l → j < length l → R (get_or l i d) (get_or l j d) → i < j
  at_sorted {R} {l} irr asym s i j d h k r = go (dec_le i j)
    where
      go : Dec (i ≤ j) → i < j
      go (no f) = absurd (asym (get_or l i d) (get_or l j d) r (sorted_at s j i d (omega arith) h))
      go (yes f) = other (eq-or-lt_of_le f)
        where
          other : (i ≡ j) ⊎ (i < j) → i < j
          other (inl e) = absurd (irr (get_or l j d) (subst (λ (c : ℕ). R (get_or l c d) (get_or l j d)) e r))
          other (inr f) = f

  -- the place of the first member that passes a test
  pub position_is : (f : A → Bool) (l : List A) (q : ℕ) (d : A) → q < length l → T (f (get_or l q d))
      → ((j : ℕ) → j < q → T (f (get_or l j d)) → ⊥) → position f l ≡ q
  unfolding position
  position_is f [] q d h t g = absurd (omega arith)
  position_is f (x ∷ l) zero d h t g = yes_cond (f x) 0 (suc (position f l)) t
  position_is f (x ∷ l) (suc q) d h t g =
      no_cond (f x) 0 (suc (position f l)) (not_T (f x) (g 0 (omega arith)))
      ∙ ap suc (position_is f l q d (omega arith) t (λ j k u. g (suc j) (omega arith) u))

module _ {A : Type 0} where
  -- and in the list reversed: of what is put before the rest, none passes
  pub position_past : (f : A → Bool) (l m : List A) → ((x : A) → In x l → T (f x) → ⊥)
      → position f (reverse_aux l m) ≡ length l + position f m
  unfolding position
  position_past f [] m g = sym (zero-add (position f m))
  position_past f (x ∷ l) m g =
      position_past f l (x ∷ m) (λ y i. g y (there i))
      ∙ ap (λ (c : ℕ). length l + c) (no_cond (f x) 0 (suc (position f m)) (not_T (f x) (g x (here refl)))) ∙ one (length l) (position f m)
    where
      one : (a b : ℕ) → a + suc b ≡ suc a + b
      one a b = omega arith

  -- the last that passes stands at place q
  pub position_last : (f : A → Bool) (l : List A) (q : ℕ) (d : A) → q < length l → T (f (get_or l q d))
      → ((j : ℕ) → q < j → j < length l → T (f (get_or l j d)) → ⊥) → position f (reverse l) ≡ length l - suc q
  unfolding position
  position_last f l q d h t g = go l [] q h t g
    where
      go : (l m : List A) (q : ℕ) → q < length l → T (f (get_or l q d)) → ((j : ℕ) → q < j → j < length l → T (f (get_or l j d)) → ⊥)
          → position f (reverse_aux l m) ≡ length l - suc q
      go [] m q h t g = absurd (omega arith)
      go (x ∷ l) m zero h t g =
          position_past f l (x ∷ m)
          (λ y i u. let r = found d i in g (suc r.at) (omega arith) (omega (arith, r.lt)) (subst (λ z. T (f z)) (sym r.is) u))
          ∙ ap (λ (c : ℕ). length l + c) (yes_cond (f x) 0 (suc (position f m)) t) ∙ omega arith
      go (x ∷ l) m (suc q) h t g = go l (x ∷ m) q (omega arith) t (λ j a b. g (suc j) (omega arith) (omega arith)) ∙ omega arith

-- where a point stands in a list of points: how many are before it
abbrev pub ahead : V2 → List V2 → ℕ
ahead e l = position (λ p. eq2 p e) l

-- e stands where `ahead` says
pub get_d_ahead : (e : V2) {l : List V2} (d : V2) → In e l → get_or l (ahead e l) d ≡ e
unfolding position
get_d_ahead e d (here {x = p} {xs = l} q) = go (eq2 p e) (eq_eq2 p e (sym q))
  where
    go : (b : Bool) → T b → get_or (p ∷ l) (cond b 0 (suc (ahead e l))) d ≡ e
    go true t = sym q
    go false t = absurd t
get_d_ahead e d (there {x = p} {xs = l} k) = go (eq2 p e) (eq2_eq p e) (get_d_ahead e d k)
  where
    go : (b : Bool) → (T b → p ≡ e) → get_or l (ahead e l) d ≡ e → get_or (p ∷ l) (cond b 0 (suc (ahead e l))) d ≡ e
    go true f ih = f tt
    go false f ih = ih

pub ahead_lt : (e : V2) {l : List V2} → In e l → ahead e l < length l
unfolding position
ahead_lt e (here {x = p} {xs = l} q) = go (eq2 p e) (eq_eq2 p e (sym q))
  where
    go : (b : Bool) → T b → cond b 0 (suc (ahead e l)) < suc (length l)
    go true t = omega arith
    go false t = absurd t
ahead_lt e (there {x = p} {xs = l} k) = go (eq2 p e) (ahead_lt e k)
  where
    go : (b : Bool) → ahead e l < length l → cond b 0 (suc (ahead e l)) < suc (length l)
    go true ih = omega arith
    go false ih = omega arith

pub ahead_get_d : (l : List V2) (i : ℕ) (d : V2) → Distinct l → i < length l → ahead (get_or l i d) l ≡ i
ahead_get_d l i d s h =
    let k = get_d_in l i d h in
    distinct_at s (ahead (get_or l i d) l) i d (ahead_lt (get_or l i d) k) h (get_d_ahead (get_or l i d) d k)

-- a function that is one to one there keeps places
pub ahead_map : (f : V2 → V2) (y : V2) (l : List V2) → In y l → ((p : V2) → In p l → f p ≡ f y → p ≡ y) → ahead (f y) (map f l) ≡ ahead y l
unfolding position
ahead_map f y [] i g = refl
ahead_map f y (p ∷ l) i g =
    go (eq2 (f p) (f y)) (eq2_eq (f p) (f y)) (eq2 p y) (eq2_eq p y) (eq_eq2 (f p) (f y)) (eq_eq2 p y) i
    (λ k. ahead_map f y l k (λ q j. g q (there j)))
  where
    go : (b : Bool) → (T b → f p ≡ f y) → (c : Bool) → (T c → p ≡ y) → (f p ≡ f y → T b) → (p ≡ y → T c) → In y (p ∷ l)
        → (In y l → ahead (f y) (map f l) ≡ ahead y l)
        → ◌≡◌ {A = ℕ} (cond b 0 (suc (ahead (f y) (map f l)))) (cond c 0 (suc (ahead y l)))
    go true u true v u' v' i ih = refl
    go true u false v u' v' i ih = absurd (v' (g p (here refl) (u tt)))
    go false u true v u' v' i ih = absurd (u' (ap f (v tt)))
    go false u false v u' v' (here e) ih = absurd (v' (sym e))
    go false u false v u' v' (there k) ih = ap suc (ih k)

-- ---- ranks: how many members before place k pass a test

module _ {A : Type 0} (f : A → Bool) where
  abbrev pub rank : ℕ → List A → ℕ
  rank k l = length (filter f (take k l))

  pub rank_zero : (l : List A) → rank 0 l ≡ 0
  unfolding filter
  rank_zero [] = refl
  rank_zero (x ∷ l) = refl

  pub rank_yes : (l : List A) (k : ℕ) (d : A) → k < length l → T (f (get_or l k d)) → rank (suc k) l ≡ suc (rank k l)
  unfolding filter
  rank_yes [] k d h t = absurd (omega arith)
  rank_yes (x ∷ l) zero d h t = ap length (yes_cond (f x) (x ∷ filter f (take 0 l)) (filter f (take 0 l)) t) ∙ ap suc (rank_zero l)
  rank_yes (x ∷ l) (suc k) d h t = go (f x) (rank_yes l k d (omega arith) t)
    where
      go : (b : Bool) → rank (suc k) l ≡ suc (rank k l)
          → length (cond b (x ∷ filter f (take (suc k) l)) (filter f (take (suc k) l)))
          ≡ suc (length (cond b (x ∷ filter f (take k l)) (filter f (take k l))))
      go true e = ap suc e
      go false e = e

  pub rank_no : (l : List A) (k : ℕ) (d : A) → k < length l → T (not (f (get_or l k d))) → rank (suc k) l ≡ rank k l
  unfolding filter
  rank_no [] k d h t = absurd (omega arith)
  rank_no (x ∷ l) zero d h t = ap length (no_cond (f x) (x ∷ filter f (take 0 l)) (filter f (take 0 l)) t) ∙ rank_zero l
  rank_no (x ∷ l) (suc k) d h t = go (f x) (rank_no l k d (omega arith) t)
    where
      go : (b : Bool) → rank (suc k) l ≡ rank k l
          → length (cond b (x ∷ filter f (take (suc k) l)) (filter f (take (suc k) l)))
          ≡ length (cond b (x ∷ filter f (take k l)) (filter f (take k l)))
      go true e = ap suc e
      go false e = e

-- a point's place among those that pass is its rank
pub ahead_filter : (f : V2 → Bool) {l : List V2} → Distinct l → (k : ℕ) (d : V2) → k < length l → T (f (get_or l k d))
    → ahead (get_or l k d) (filter f l) ≡ rank f k l
unfolding filter position
ahead_filter f none k d h t = absurd (omega arith)
ahead_filter f (more {x} {l} g s) zero d h t =
    ap (ahead x) (yes_cond (f x) (x ∷ filter f l) (filter f l) t) ∙ yes_cond (eq2 x x) 0 (suc (ahead x (filter f l))) (eq_eq2 x x refl)
ahead_filter f (more {x} {l} g s) (suc k) d h t = go (f x) (ahead_filter f s k d (omega arith) t)
  where
    p : V2
    p = get_or l k d

    go : (b : Bool) → ahead p (filter f l) ≡ rank f k l
        → ahead p (cond b (x ∷ filter f l) (filter f l)) ≡ length (cond b (x ∷ filter f (take k l)) (filter f (take k l)))
    go true e =
        no_cond (eq2 x p) 0 (suc (ahead p (filter f l))) (not_T (eq2 x p) (λ q. g p (get_d_in l k d (omega arith)) (eq2_eq x p q)))
        ∙ ap suc e
    go false e = e
