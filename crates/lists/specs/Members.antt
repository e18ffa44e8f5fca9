-- What is in a list: of members that pass a test, of lists mapped, joined and reversed, and of numbers in a row. Assumes nothing.
use Rattle.std.specs.Prelude.{◌≡◌, ◌⊎◌, Bool, cond, take}
use Rattle.std.proofs.Math.Path.{refl, sym, ap, subst}
use Rattle.std.proofs.Common.{◌∙◌, ap₂, inl, inr, append_assoc, eq-or-lt_of_le, zero-add, add_assoc}
use Rattle.std.proofs.Math.Bool.{true, false}
use mathlib.Core.List.Memᴰ.{head as here}
use mathlib.Core.List.Memᴰ.{tail as there}
use mathlib.Core.List.{List, [], ◌∷◌, ◌++◌, map, reverse, reverse_aux, Memᴰ as In}
use mathlib.Core.List.Memᴰ
use Prim.Native.Nat.{ℕ, zero, suc, ◌+◌, ◌*◌, ◌≤◌, ◌<◌}
use native.Mathlib.Omega.{arith}
use Rattle.std.proofs.Math.Dec.{T}
use Rattle.std.proofs.Math.ListN.{length, get_or, length-append, get_or-append}
use Rattle.std.proofs.Math.Seq.{get_or-append-add}
use Rattle.meaning.specs.Lists.{filter, any, total, each, numbers_from}

module _ {A : Type 0} where
  -- ---- tests

  -- what is in a filtered list is what is in the list and passes
  pub in_filter : (f : A → Bool) {x : A} {l : List A} → In x l → T (f x) → In x (filter f l)
  unfolding filter
  in_filter f {x} (here {x = y} {xs = l} e) t = go (f y) (subst (λ z. T (f z)) e t)
    where
      go : (b : Bool) → T b → In x (cond b (y ∷ filter f l) (filter f l))
      go true t = here e
      go false t = absurd t
  in_filter f {x} (there {x = y} {xs = l} k) t = go (f y) (in_filter f k t)
    where
      go : (b : Bool) → In x (filter f l) → In x (cond b (y ∷ filter f l) (filter f l))
      go true i = there i
      go false i = i

  pub record Kept (f : A → Bool) (x : A) (l : List A) : Type 0 where
    pub mem : In x l
    pub ok : T (f x)

  pub filter_in : (f : A → Bool) {x : A} (l : List A) → In x (filter f l) → Kept f x l
  unfolding filter
  filter_in f {x} [] h = elim h [ ]
  filter_in f {x} (y ∷ l) h = go (f y) (λ t. t) (filter_in f l) h
    where
      go : (b : Bool) → (T b → T (f y)) → (In x (filter f l) → Kept f x l)
          → In x (cond b (y ∷ filter f l) (filter f l)) → Kept f x (y ∷ l)
      go true t ih (here e) = record { mem = here e; ok = subst (λ z. T (f z)) (sym e) (t tt) }
      go true t ih (there k) = let r = ih k in record { mem = there r.mem; ok = r.ok }
      go false t ih k = let r = ih k in record { mem = there r.mem; ok = r.ok }

  -- a list of which nothing is a member
  pub no_members : (l : List A) → ((x : A) → In x l → ⊥) → l ≡ []
  no_members [] f = refl
  no_members (x ∷ l) f = absurd (f x (here refl))

  -- some member passes exactly if `any` says so
  pub record Some (f : A → Bool) (l : List A) : Type 0 where
    pub it : A
    pub mem : In it l
    pub ok : T (f it)

  pub any_yes : (f : A → Bool) (l : List A) → T (any f l) → Some f l
  unfolding any
  any_yes f [] t = absurd t
  any_yes f (x ∷ l) t = go (f x) (λ u. u) (any_yes f l) t
    where
      go : (b : Bool) → (T b → T (f x)) → (T (any f l) → Some f l) → T (cond b true (any f l)) → Some f (x ∷ l)
      go true u ih t = record { it = x; mem = here refl; ok = u tt }
      go false u ih t = let r = ih t in record { it = r.it; mem = there r.mem; ok = r.ok }

  pub yes_any : (f : A → Bool) {x : A} {l : List A} → In x l → T (f x) → T (any f l)
  unfolding any
  yes_any f {x} (here {x = y} {xs = l} e) t = go (f y) (subst (λ z. T (f z)) e t)
    where
      go : (b : Bool) → T b → T (cond b true (any f l))
      go true u = tt
      go false u = absurd u
  yes_any f {x} (there {x = y} {xs = l} k) t = go (f y) (yes_any f k t)
    where
      go : (b : Bool) → T (any f l) → T (cond b true (any f l))
      go true u = tt
      go false u = u

  -- the same of two lists with the same members
  pub any_same : (f : A → Bool) {l m : List A} → ((x : A) → In x l → In x m) → ((x : A) → In x m → In x l) → any f l ≡ any f m
  any_same f {l} {m} p q =
      go (any f l) (any f m) (λ t. let r = any_yes f l t in yes_any f (p r.it r.mem) r.ok)
      (λ t. let r = any_yes f m t in yes_any f (q r.it r.mem) r.ok)
    where
      go : (a b : Bool) → (T a → T b) → (T b → T a) → a ≡ b
      go true true g h = refl
      go true false g h = absurd (g tt)
      go false true g h = absurd (h tt)
      go false false g h = refl

  -- ---- backwards

  in_reverse_aux : {x : A} (l m : List A) → In x l ⊎ In x m → In x (reverse_aux l m)
  in_reverse_aux [] m (inl h) = elim h [ ]
  in_reverse_aux [] m (inr h) = h
  in_reverse_aux (y ∷ l) m (inl (here e)) = in_reverse_aux l (y ∷ m) (inr (here e))
  in_reverse_aux (y ∷ l) m (inl (there k)) = in_reverse_aux l (y ∷ m) (inl k)
  in_reverse_aux (y ∷ l) m (inr h) = in_reverse_aux l (y ∷ m) (inr (there h))

  reverse_aux_in : {x : A} (l m : List A) → In x (reverse_aux l m) → In x l ⊎ In x m
  reverse_aux_in [] m h = inr h
  reverse_aux_in {x} (y ∷ l) m h = go (reverse_aux_in l (y ∷ m) h)
    where
      go : In x l ⊎ In x (y ∷ m) → In x (y ∷ l) ⊎ In x m
      go (inl k) = inl (there k)
      go (inr (here e)) = inl (here e)
      go (inr (there k)) = inr k

  pub in_reverse : {x : A} (l : List A) → In x l → In x (reverse l)
  in_reverse l h = in_reverse_aux l [] (inl h)

  pub reverse_in : {x : A} (l : List A) → In x (reverse l) → In x l
  reverse_in {x} l h = go (reverse_aux_in l [] h)
    where
      go : In x l ⊎ In x [] → In x l
      go (inl k) = k
      go (inr k) = elim k [ ]

module _ {A B : Type 0} where
  -- ---- mapped: what is there comes from a member, and stands where that stands

  pub record Mapped (f : A → B) (y : B) (l : List A) : Type 0 where
    pub from : A
    pub mem : In from l
    pub is : y ≡ f from

  pub map_in : (f : A → B) {y : B} (l : List A) → In y (map f l) → Mapped f y l
  map_in f [] h = elim h [ ]
  map_in f (x ∷ l) (here e) = record { from = x; mem = here refl; is = e }
  map_in f (x ∷ l) (there k) = let r = map_in f l k in record { from = r.from; mem = there r.mem; is = r.is }

  pub map_at : (f : A → B) (l : List A) (i : ℕ) (d : A) (e : B) → i < length l → get_or (map f l) i e ≡ f (get_or l i d)
  map_at f [] i d e h = absurd (omega arith)
  map_at f (x ∷ l) zero d e h = refl
  map_at f (x ∷ l) (suc i) d e h = map_at f l i d e (omega arith)

  -- two functions that agree on the members
  pub map_same : (f g : A → B) (l : List A) → ((x : A) → In x l → f x ≡ g x) → map f l ≡ map g l
  map_same f g [] h = refl
  map_same f g (x ∷ l) h = ap₂ ◌∷◌ (h x (here refl)) (map_same f g l (λ y i. h y (there i)))

  -- ---- joined: what is there is in the list of some member

  pub in_each : (f : A → List B) {x : A} {y : B} {l : List A} → In x l → In y (f x) → In y (each f l)
  unfolding each
  in_each f {y} (here {x = z} {xs} e) k = Memᴰ.append_left (each f xs) (subst (λ w. In y (f w)) e k)
  in_each f (there {x = z} j) k = Memᴰ.append_right (f z) (in_each f j k)

  pub record Reached (f : A → List B) (y : B) (l : List A) : Type 0 where
    pub from : A
    pub mem : In from l
    pub is : In y (f from)

  pub each_in : (f : A → List B) {y : B} (l : List A) → In y (each f l) → Reached f y l
  unfolding each
  each_in f [] h = elim h [ ]
  each_in f {y} (x ∷ l) h = go (Memᴰ.append_cases (f x) h) (each_in f l)
    where
      go : In y (f x) ⊎ In y (each f l) → (In y (each f l) → Reached f y l) → Reached f y (x ∷ l)
      go (inl k) ih = record { from = x; mem = here refl; is = k }
      go (inr k) ih = let r = ih k in record { from = r.from; mem = there r.mem; is = r.is }

  pub each_append : (f : A → List B) (l l' : List A) → each f (l ++ l') ≡ each f l ++ each f l'
  unfolding each
  each_append f [] l' = refl
  each_append f (x ∷ l) l' = ap (λ (r : List B). f x ++ r) (each_append f l l') ∙ sym (append_assoc (f x) (each f l) (each f l'))

  pub each_length : (f : A → List B) (l : List A) → length (each f l) ≡ total (λ x. length (f x)) l
  unfolding each total
  each_length f [] = refl
  each_length f (x ∷ l) = length-append (f x) (each f l) ∙ ap (λ (c : ℕ). length (f x) + c) (each_length f l)

  -- where all lists have w members, member i w + j is member j of list i
  pub each_at : (f : A → List B) (w : ℕ) → ((x : A) → length (f x) ≡ w) → (l : List A) (i j : ℕ) (d : A) (e : B) → i < length l → j < w
      → get_or (each f l) (i * w + j) e ≡ get_or (f (get_or l i d)) j e
  unfolding each
  each_at f w g [] i j d e h k = absurd (omega arith)
  each_at f w g (x ∷ l) zero j d e h k =
      ap (λ (c : ℕ). get_or (f x ++ each f l) c e) (nil w j) ∙ get_or-append (f x) (each f l) e j (omega (arith, g x))
    where
      nil : (w j : ℕ) → 0 * w + j ≡ j
      nil w j = omega arith
  each_at f w g (x ∷ l) (suc i) j d e h k =
      ap (λ (c : ℕ). get_or (f x ++ each f l) c e) (one (length (f x)) (g x)) ∙ get_or-append-add (f x) (each f l) (i * w + j) e
      ∙ each_at f w g l i j d e (omega arith) k
    where
      one : (c : ℕ) → c ≡ w → suc i * w + j ≡ c + (i * w + j)
      one c p = omega arith

  -- member i of list q stands after all lists before that one
  pub each_part : (f : A → List B) (l : List A) (q i : ℕ) (d : A) (e : B) → q < length l → i < length (f (get_or l q d))
      → get_or (each f l) (total (λ x. length (f x)) (take q l) + i) e ≡ get_or (f (get_or l q d)) i e
  unfolding each total
  each_part f [] q i d e h k = absurd (omega arith)
  each_part f (x ∷ l) zero i d e h k = ap (λ (c : ℕ). get_or (f x ++ each f l) c e) (zero-add i) ∙ get_or-append (f x) (each f l) e i k
  each_part f (x ∷ l) (suc q) i d e h k =
      ap (λ (c : ℕ). get_or (f x ++ each f l) c e) (add_assoc (length (f x)) (total (λ x. length (f x)) (take q l)) i)
      ∙ get_or-append-add (f x) (each f l) (total (λ x. length (f x)) (take q l) + i) e ∙ each_part f l q i d e (omega arith) k

-- ---- c numbers from i on

pub numbers_in : (i c : ℕ) {j : ℕ} → In j (numbers_from i c) → (i ≤ j) × (j < i + c)
unfolding numbers_from
numbers_in i zero h = elim h [ ]
numbers_in i (suc c) (here e) = (omega arith, omega arith)
numbers_in i (suc c) (there k) = let r = numbers_in (suc i) c k in (omega (arith, r.0), omega (arith, r.1))

pub in_numbers : (i c j : ℕ) → i ≤ j → j < i + c → In j (numbers_from i c)
unfolding numbers_from
in_numbers i zero j h k = absurd (omega arith)
in_numbers i (suc c) j h k = go (eq-or-lt_of_le h) (λ l. in_numbers (suc i) c j l (omega arith))
  where
    go : (i ≡ j) ⊎ (i < j) → (suc i ≤ j → In j (numbers_from (suc i) c)) → In j (i ∷ numbers_from (suc i) c)
    go (inl e) ih = here (sym e)
    go (inr l) ih = there (ih (omega arith))

pub numbers_length : (i c : ℕ) → length (numbers_from i c) ≡ c
unfolding numbers_from
numbers_length i zero = refl
numbers_length i (suc c) = ap suc (numbers_length (suc i) c)

pub numbers_at : (i c j d : ℕ) → j < c → get_or (numbers_from i c) j d ≡ i + j
unfolding numbers_from
numbers_at i zero j d h = absurd (omega arith)
numbers_at i (suc c) zero d h = omega arith
numbers_at i (suc c) (suc j) d h = numbers_at (suc i) c j d (omega arith) ∙ one i j
  where
    one : (i j : ℕ) → suc i + j ≡ i + suc j
    one i j = omega arith
