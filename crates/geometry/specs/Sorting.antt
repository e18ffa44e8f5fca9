-- Sorted lists, and lists without repetition: a sorted list is determined by its members, and one without repetition is as long as it has
-- members. Assumes nothing.
use Rattle.std.specs.Prelude.{◌≡◌, refl, ◌⊎◌, Bool, cond, ℕ, zero, suc, ◌≤◌, ◌<◌, length}
use Rattle.std.proofs.Common.{sym, ◌∙◌, ap, subst, inl, inr, arith}
use Rattle.std.proofs.Math.Bool.{true, false}
use mathlib.Core.List.Memᴰ.{head as here}
use mathlib.Core.List.Memᴰ.{tail as there}
use mathlib.Core.List.{List, [], ◌∷◌, ◌++◌, map, reverse, reverse_aux, Memᴰ as In}
use mathlib.Core.List.Memᴰ
use mathlib.Core.List.Memᴰ.{map as in_map}
use mathlib.Core.List.Permᴰ.{nil as Rearranged·nil}
use mathlib.Core.List.{Permᴰ as Rearranged}
use mathlib.Core.List.Permᴰ.{cons as Rearranged·cons}
use mathlib.Core.List.Permᴰ.{swap as Rearranged·swap}
use mathlib.Core.List.Permᴰ.{trans as Rearranged·trans}
use mathlib.Core.List.Permᴰ.{refl as unchanged}
use Rattle.std.proofs.lemmas.List.{length-map}
use Rattle.meaning.specs.Lists.{filter, each, numbers_from, numbers}
use Rattle.meaning.specs.Sorted.{Sorted, Sorted.none, Sorted.more, Distinct}
use Rattle.lists.specs.Members.{filter_in, map_in, each_in, numbers_in, in_numbers, numbers_length}

module _ {A : Type 0} where
  -- another order that the first implies
  pub sorted_map : {R S : A → A → Type 0} → ((x y : A) → R x y → S x y) → {l : List A} → Sorted R l → Sorted S l
  sorted_map f none = none
  sorted_map f (more {x} h s) = more (λ y k. f x y (h y k)) (sorted_map f s)

  -- with what is known of the members
  pub sorted_with : {R : A → A → Type 0} (P : A → Type 0) {l : List A} → ((x : A) → In x l → P x) → Sorted R l
      → Sorted (λ x y. P x × P y × R x y) l
  sorted_with P f none = none
  sorted_with P f (more {x} h s) = more (λ y k. (f x (here refl), f y (there k), h y k)) (sorted_with P (λ y k. f y (there k)) s)

  pub sorted_filter : {R : A → A → Type 0} (f : A → Bool) {l : List A} → Sorted R l → Sorted R (filter f l)
  unfolding filter
  sorted_filter f none = none
  sorted_filter {R} f (more {x} {l} h s) = go (f x) (sorted_filter f s)
    where
      go : (b : Bool) → Sorted R (filter f l) → Sorted R (cond b (x ∷ filter f l) (filter f l))
      go true ih = more (λ y k. h y (filter_in f l k).mem) ih
      go false ih = ih

-- ---- joined, mapped, reversed

pub sorted_append : {A : Type 0} {S : A → A → Type 0} {l m : List A} → Sorted S l → Sorted S m → ((x y : A) → In x l → In y m → S x y)
    → Sorted S (l ++ m)
sorted_append none k f = k
sorted_append {A} {S} {m} (more {x} {l} h s) k f =
    more (λ y i. both y (Memᴰ.append_cases l i)) (sorted_append s k (λ u v i j. f u v (there i) j))
  where
    both : (y : A) → In y l ⊎ In y m → S x y
    both y (inl i) = h y i
    both y (inr j) = f x y (here refl) j

module _ {A B : Type 0} where
  pub sorted_by_map : {R : A → A → Type 0} {S : B → B → Type 0} (f : A → B) → ((x y : A) → R x y → S (f x) (f y))
      → {l : List A} → Sorted R l → Sorted S (map f l)
  sorted_by_map f g none = none
  sorted_by_map {S} f g (more {x} {l} h s) =
      more (λ y k. let r = map_in f l k in subst (λ w. S (f x) w) (sym r.is) (g x r.from (h r.from r.mem)))
      (sorted_by_map f g s)

  -- lists that are sorted, one for each member of a sorted list
  pub sorted_each : {R : A → A → Type 0} {S : B → B → Type 0} (f : A → List B) → ((x : A) → Sorted S (f x))
      → ((x y : A) (u v : B) → R x y → In u (f x) → In v (f y) → S u v) → {l : List A} → Sorted R l → Sorted S (each f l)
  unfolding each
  sorted_each f p q none = none
  sorted_each f p q (more {x} {l} h s) =
      sorted_append (p x) (sorted_each f p q s)
      (λ u v i j. let r = each_in f l j in q x r.from u v (h r.from r.mem) i r.is)

  pub distinct_map : (f : A → B) {l : List A} → Distinct l → ((x y : A) → In x l → In y l → f x ≡ f y → x ≡ y) → Distinct (map f l)
  distinct_map f none g = none
  distinct_map f (more {x} {l} h s) g =
      more (λ z k e. let r = map_in f l k in h r.from r.mem (g x r.from (here refl) (there r.mem) (e ∙ r.is)))
      (distinct_map f s (λ x y i j e. g x y (there i) (there j) e))

module _ {A : Type 0} where
  sorted_reverse_aux : {R : A → A → Type 0} {l m : List A} → Sorted R l → Sorted (λ x y. R y x) m → ((x y : A) → In x m → In y l → R x y)
      → Sorted (λ x y. R y x) (reverse_aux l m)
  sorted_reverse_aux none t f = t
  sorted_reverse_aux {R} {m} (more {x} {l} h s) t f = sorted_reverse_aux s (more (λ y k. f y x k (here refl)) t) go
    where
      go : (u w : A) → In u (x ∷ m) → In w l → R u w
      go u w (here e) k = subst (λ z. R z w) (sym e) (h w k)
      go u w (there j) k = f u w j (there k)

  pub sorted_reverse : {R : A → A → Type 0} {l : List A} → Sorted R l → Sorted (λ x y. R y x) (reverse l)
  sorted_reverse s = sorted_reverse_aux s none (λ x y k j. elim k [ ])

pub numbers_sorted : (i c : ℕ) → Sorted (λ a b. a < b) (numbers_from i c)
unfolding numbers_from
numbers_sorted i zero = none
numbers_sorted i (suc c) =
    more {x = i} {l = numbers_from (suc i) c} (λ j k. omega (arith, (numbers_in (suc i) c k).0)) (numbers_sorted (suc i) c)

-- ---- one sorted list for one set of members

module _ {A : Type 0} {R : A → A → Type 0} (irr : (x : A) → R x x → ⊥) (asym : (x y : A) → R x y → R y x → ⊥) where
  -- the tail's members, where the heads are one
  tail_in : (x y z : A) (l m : List A) → x ≡ y → ((w : A) → In w l → R x w) → ((w : A) → In w (x ∷ l) → In w (y ∷ m)) → In z l → In z m
  tail_in x y z l m e h f k = go (f z (there k))
    where
      go : In z (y ∷ m) → In z m
      go (here p) = absurd (irr x (subst (λ w. R x w) (p ∙ sym e) (h z k)))
      go (there q) = q

  -- the heads are one
  heads : (x y : A) (l m : List A) → ((w : A) → In w l → R x w) → ((w : A) → In w m → R y w) → In x (y ∷ m) → In y (x ∷ l) → x ≡ y
  heads x y l m h k (here e) j = e
  heads x y l m h k (there i) (here e) = sym e
  heads x y l m h k (there i) (there j) = absurd (asym x y (h y j) (k x i))

  pub sorted_unique : {l m : List A} → Sorted R l → Sorted R m → ((x : A) → In x l → In x m) → ((x : A) → In x m → In x l) → l ≡ m
  sorted_unique none none f g = refl
  sorted_unique none (more {x} h s) f g = elim (g x (here refl)) [ ]
  sorted_unique (more {x} h s) none f g = elim (f x (here refl)) [ ]
  sorted_unique (more {x} {l} h s) (more {x = y} {l = m} k t) f g =
      let e = heads x y l m h k (f x (here refl)) (g y (here refl)) in
      let p = sorted_unique s t (λ z i. tail_in x y z l m e h f i) (λ z i. tail_in y x z m l (sym e) k g i) in
      λ i. e i ∷ p i

-- ---- counting

module _ {A : Type 0} where
  -- the second list is the first with a put in somewhere
  data Ins (a : A) : List A → List A → Type 0 where
    front : {l : List A} → Ins a l (a ∷ l)
    behind : {x : A} {l l' : List A} → Ins a l l' → Ins a (x ∷ l) (x ∷ l')

  record Out (a : A) (l : List A) : Type 0 where
    pub rest : List A
    pub ins : Ins a rest l

  take_out : {a : A} {l : List A} → In a l → Out a l
  take_out {a} (here {x} {xs} e) = record { rest = xs; ins = subst (λ z. Ins a xs (z ∷ xs)) e front }
  take_out (there {x} k) = let r = take_out k in record { rest = x ∷ r.rest; ins = behind r.ins }

  ins_length : {a : A} {l l' : List A} → Ins a l l' → length l' ≡ suc (length l)
  ins_length front = refl
  ins_length (behind i) = ap suc (ins_length i)

  ins_other : {a b : A} {l l' : List A} → Ins a l l' → (a ≡ b → ⊥) → In b l' → In b l
  ins_other front f (here e) = absurd (f (sym e))
  ins_other front f (there k) = k
  ins_other (behind i) f (here e) = here e
  ins_other (behind i) f (there k) = there (ins_other i f k)

  -- a list of different members that are all in another is no longer than that one
  pub fewer : {l m : List A} → Distinct l → ((x : A) → In x l → In x m) → length l ≤ length m
  fewer none f = omega arith
  fewer {m} (more {x} {l} h s) f =
      let o = take_out (f x (here refl)) in
      let k : length l ≤ length o.rest = fewer s (λ y i. ins_other o.ins (h y i) (f y (there i))) in
      omega (arith, ins_length o.ins)

  -- the one with a put in somewhere, and a in front of it
  ins_rearranged : {a : A} {l l' : List A} → Ins a l l' → Rearranged (a ∷ l) l'
  ins_rearranged (front {l}) = unchanged _
  ins_rearranged (behind i) = Rearranged·trans (Rearranged·swap refl refl) (Rearranged·cons refl (ins_rearranged i))

  -- a list of different members that are all in another, no longer one, is a rearrangement of it
  pub rearranged : {l m : List A} → Distinct l → ((x : A) → In x l → In x m) → length m ≤ length l → Rearranged l m
  rearranged {m = []} none f h = Rearranged·nil
  rearranged {m = y ∷ m} none f h = absurd (omega arith)
  rearranged {m} (more {x} {l} d s) f h =
      let o = take_out (f x (here refl)) in
      Rearranged·trans
      (Rearranged·cons refl (rearranged s (λ y i. ins_other o.ins (d y i) (f y (there i))) (omega (arith, ins_length o.ins))))
      (ins_rearranged o.ins)

  pub record Listed (e : ℕ → A) (n : ℕ) (x : A) : Type 0 where
    pub at : ℕ
    pub lt : at < n
    pub eq : x ≡ e at

  -- a list of different members that are just e 0, .., e (n − 1) has n of them
  pub counted : (e : ℕ → A) (n : ℕ) {l : List A} → Distinct l → ((i j : ℕ) → e i ≡ e j → i ≡ j)
      → ((i : ℕ) → i < n → In (e i) l) → ((x : A) → In x l → Listed e n x) → length l ≡ n
  counted e n {l} d one f g =
      let a : length l ≤ length (map e (numbers n)) =
      fewer d (λ x k. let r = g x k in Memᴰ.cast r.eq (in_map e (in_numbers 0 n r.at (omega arith) (omega (arith, r.lt))))) in
      let b : length (map e (numbers n)) ≤ length l =
      fewer (distinct_map e (sorted_map less (numbers_sorted 0 n)) (λ i j _ _ q. one i j q))
      (λ x k. let r = map_in e (numbers n) k in Memᴰ.cast r.is (f r.from (omega (arith, (numbers_in 0 n r.mem).1)))) in
      omega (arith, length-map (numbers n) e, numbers_length 0 n)
    where
      less : (i j : ℕ) → i < j → i ≡ j → ⊥
      less i j h e = omega arith
