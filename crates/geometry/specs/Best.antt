-- The best member of a list is a member, and none is better, for a test that goes by an order; in a sorted list it stands at an end.
-- Assumes nothing.
use Rattle.std.specs.Prelude.{◌≡◌, ◌⊎◌, Bool, not, cond, T}
use Rattle.std.proofs.Math.Path.{refl, ap, subst}
use Rattle.std.proofs.Common.{sym, ◌∙◌}
use Rattle.std.proofs.Math.Logic.{inl, inr}
use Rattle.std.proofs.Math.Bool.{true, false}
use mathlib.Core.List.Memᴰ.{head as here}
use mathlib.Core.List.Memᴰ.{tail as there}
use mathlib.Core.List.{List, [], ◌∷◌, Memᴰ as In}
use Rattle.meaning.specs.Lists.{best, best_or}
use Rattle.meaning.specs.Sorted.{Sorted, Sorted.none, Sorted.more}

module _ {A : Type 0} (better : A → A → Bool) where
  best_in : (x : A) (l : List A) → (best better x l ≡ x) ⊎ In (best better x l) l
  unfolding best
  best_in x [] = inl refl
  best_in x (y ∷ l) = go (better y x) (best_in y l) (best_in x l)
    where
      go : (b : Bool) → (best better y l ≡ y) ⊎ In (best better y l) l → (best better x l ≡ x) ⊎ In (best better x l) l
          → (best better (cond b y x) l ≡ x) ⊎ In (best better (cond b y x) l) (y ∷ l)
      go true (inl e) j = inr (here e)
      go true (inr k) j = inr (there k)
      go false i (inl e) = inl e
      go false i (inr k) = inr (there k)

  pub best_or_in : (d : A) {x : A} (l : List A) → In x l → In (best_or d better l) l
  unfolding best_or
  best_or_in d {x} [] h = elim h [ ]
  best_or_in d {x} (y ∷ l) h = go (best_in y l)
    where
      go : (best better y l ≡ y) ⊎ In (best better y l) l → In (best better y l) (y ∷ l)
      go (inl e) = here e
      go (inr k) = there k

  module _ (Le : A → A → Type 0) (le_refl : (x : A) → Le x x) (le_trans : (x y z : A) → Le x y → Le y z → Le x z)
      (yes_le : (x y : A) → T (better x y) → Le x y) (no_le : (x y : A) → T (not (better x y)) → Le y x) where
    best_start : (x : A) (l : List A) → Le (best better x l) x
    unfolding best
    best_start x [] = le_refl x
    best_start x (y ∷ l) = go (better y x) (yes_le y x) (best_start y l) (best_start x l)
      where
        go : (b : Bool) → (T b → Le y x) → Le (best better y l) y → Le (best better x l) x → Le (best better (cond b y x) l) x
        go true t p q = le_trans (best better y l) y x p (t tt)
        go false t p q = q

    best_le : (x : A) {z : A} (l : List A) → In z l → Le (best better x l) z
    unfolding best
    best_le x {z} [] h = elim h [ ]
    best_le x {z} (y ∷ l) (here e) = go (better y x) (no_le y x)
      where
        at : Le (best better y l) y → Le (best better y l) z
        at p = subst (λ w. Le (best better y l) w) (sym e) p

        go : (b : Bool) → (T (not b) → Le x y) → Le (best better (cond b y x) l) z
        go true t = at (best_start y l)
        go false t = subst (λ w. Le (best better x l) w) (sym e) (le_trans (best better x l) x y (best_start x l) (t tt))
    best_le x {z} (y ∷ l) (there k) = go (better y x) (best_le y l k) (best_le x l k)
      where
        go : (b : Bool) → Le (best better y l) z → Le (best better x l) z → Le (best better (cond b y x) l) z
        go true p q = p
        go false p q = q

    pub best_or_le : (d : A) {z : A} (l : List A) → In z l → Le (best_or d better l) z
    unfolding best_or
    best_or_le d {z} [] h = elim h [ ]
    best_or_le d {z} (y ∷ l) (here e) = subst (λ w. Le (best better y l) w) (sym e) (best_start y l)
    best_or_le d {z} (y ∷ l) (there k) = best_le y l k

-- ---- sorted lists

module _ {A : Type 0} where
  -- the last member, or the first one, d if there is none
  unfoldable pub end_or : Bool → A → List A → A
  end_or last d [] = d
  end_or last d (x ∷ l) = cond last (end_or last x l) x

  module _ (better : A → A → Bool) where
    best_last : (x : A) {l : List A} → Sorted (λ u v. better v u ≡ true) (x ∷ l) → best better x l ≡ end_or true x l
    unfolding best end_or
    best_last x {l = []} s = refl
    best_last x {l = y ∷ l} (more h s) = ap (λ (b : Bool). best better (cond b y x) l) (h y (here refl)) ∙ best_last y s

    best_first : (x : A) {l : List A} → Sorted (λ u v. better v u ≡ false) (x ∷ l) → best better x l ≡ x
    unfolding best
    best_first x {l = []} s = refl
    best_first x {l = y ∷ l} (more h (more k s)) =
        ap (λ (b : Bool). best better (cond b y x) l) (h y (here refl)) ∙ best_first x {l = l} (more (λ z i. h z (there i)) s)

    -- where each member is better than all before it the last is the best, where none is, the first
    pub best_or_end : (last : Bool) (d : A) {l : List A} → Sorted (λ u v. better v u ≡ last) l → best_or d better l ≡ end_or last d l
    unfolding best_or end_or
    best_or_end last d none = refl
    best_or_end true d (more {x} h s) = best_last x (more h s)
    best_or_end false d (more {x} h s) = best_first x (more h s)
