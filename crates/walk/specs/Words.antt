-- Instances as words of 8 bits in a list, three for each, and lines of them stored one after the other. Assumes nothing.
use Rattle.std.specs.Prelude.{◌≡◌, refl, ◌⊎◌, List, ℕ, ◌+◌, ◌*◌, ◌^◌, ◌≤◌, ◌<◌, length, get_or, set, ℤ, pos, negsuc, nat_abs}
use Rattle.std.proofs.Common.{sym, ◌∙◌, ap, subst, inl, inr, eq-or-lt_of_le, arith, length-set, get_or-set_same, get_or-set_other, SFits}
use Rattle.std.proofs.Common.{to_z, of_z, to_z-of_z}
use Rattle.std.specs.Int.Signed.{mag}
use Rattle.std.specs.Int.{Width, w8, w32}
use Rattle.std.proofs.Math.Facts.{sfits_widen}
use Rattle.integers.specs.Differences.{Abs}
use Rattle.integers.specs.Vectors.{same3, shift3}
use Rattle.integers.specs.declared.V3.{V3}
use Rattle.vectors.specs.Within.{Within}

-- ---- a coordinate in a word

-- a cast of a number that both widths hold
module _ {u w : Width} {z : ℤ} (f : SFits u z) (g : SFits w z) where
  cast_fits : SFits w (to_z u (of_z u z))
  cast_fits = subst (SFits w) (sym (to_z-of_z f)) g

  cast_same : to_z w (of_z w (to_z u (of_z u z))) ≡ z
  cast_same = ap (λ (y : ℤ). to_z w (of_z w y)) (to_z-of_z f) ∙ to_z-of_z g

-- what 8 bits hold is read as it is
pub widened : {y z : ℤ} → y ≡ to_z w8 (of_z w8 z) → mag z < 2 ^ 7 → to_z w32 (of_z w32 y) ≡ z
widened {y} {z} e h =
    let f : SFits w8 z = record { sfits = h } in
    ap (λ (x : ℤ). to_z w32 (of_z w32 x)) e ∙ cast_same {u = w8} {w = w32} f (sfits_widen tt f)

-- and a coordinate, which they hold, stored as it is
in_byte : {z : ℤ} → Abs z 64 → SFits w8 z
in_byte {z} h = record { sfits = go z h.abs }
  where
    go : (z : ℤ) → nat_abs z ≤ 64 → mag z < 2 ^ 7
    go (pos n) b = omega arith
    go (negsuc n) b = omega arith

pub narrows : {z : ℤ} → Abs z 64 → SFits w8 (to_z w32 (of_z w32 z))
narrows h = cast_fits {u = w32} {w = w8} (sfits_widen tt (in_byte h)) (in_byte h)

pub narrowed : {z : ℤ} → Abs z 64 → to_z w8 (of_z w8 (to_z w32 (of_z w32 z))) ≡ z
narrowed h = cast_same {u = w32} {w = w8} (sfits_widen tt (in_byte h)) (in_byte h)

-- ---- an instance in three

-- instance k
abbrev pub vector_at : List ℤ → ℕ → V3
vector_at w k = record { x = get_or w (3 * k) (pos 0); y = get_or w (3 * k + 1) (pos 0); z = get_or w (3 * k + 2) (pos 0) }

-- put there
abbrev pub put : List ℤ → ℕ → V3 → List ℤ
put w k v = set (set (set w (3 * k) v.x) (3 * k + 1) v.y) (3 * k + 2) v.z

-- from words that hold its coordinates
pub put_by : (w : List ℤ) (k : ℕ) (v : V3) {a b c : ℤ} → a ≡ v.x → b ≡ v.y → c ≡ v.z
    → set (set (set w (3 * k) a) (3 * k + 1) b) (3 * k + 2) c ≡ put w k v
put_by w k v {a} {b} {c} p q r =
    ap (λ (x : ℤ). set (set (set w (3 * k) x) (3 * k + 1) b) (3 * k + 2) c) p
    ∙ ap (λ (y : ℤ). set (set (set w (3 * k) v.x) (3 * k + 1) y) (3 * k + 2) c) q
    ∙ ap (λ (z : ℤ). set (set (set w (3 * k) v.x) (3 * k + 1) v.y) (3 * k + 2) z) r

pub put_length : (w : List ℤ) (k : ℕ) (v : V3) → length (put w k v) ≡ length w
put_length w k v = simp length-set refl

pub put_same : (w : List ℤ) (k : ℕ) (v : V3) → 3 * k + 2 < length w → vector_at (put w k v) k ≡ v
put_same w k v h =
    let a = set w (3 * k) v.x in
    let b = set a (3 * k + 1) v.y in
    let la = length-set w (3 * k) v.x in
    let lb = length-set a (3 * k + 1) v.y in
    same3
    (get_or-set_other b (3 * k + 2) (3 * k) v.z (pos 0) (λ (e : 3 * k ≡ 3 * k + 2). omega arith)
    ∙ get_or-set_other a (3 * k + 1) (3 * k) v.y (pos 0) (λ (e : 3 * k ≡ 3 * k + 1). omega arith)
    ∙ get_or-set_same w (3 * k) v.x (pos 0) (omega arith))
    (get_or-set_other b (3 * k + 2) (3 * k + 1) v.z (pos 0) (λ (e : 3 * k + 1 ≡ 3 * k + 2). omega arith)
    ∙ get_or-set_same a (3 * k + 1) v.y (pos 0) (omega (arith, la)))
    (get_or-set_same b (3 * k + 2) v.z (pos 0) (omega (arith, la, lb)))

pub put_other : (w : List ℤ) (k j : ℕ) (v : V3) → (j ≡ k → ⊥) → vector_at (put w k v) j ≡ vector_at w j
put_other w k j v f =
    same3 (kept (3 * j) 0 (omega arith) (omega arith)) (kept (3 * j + 1) 1 (omega arith) (omega arith))
    (kept (3 * j + 2) 2 (omega arith) (omega arith))
  where
    apart : (i o : ℕ) → i < 3 → o < 3 → 3 * j + i ≡ 3 * k + o → ⊥
    apart i o h l e = f (omega arith)

    kept : (m i : ℕ) → m ≡ 3 * j + i → i < 3 → get_or (put w k v) m (pos 0) ≡ get_or w m (pos 0)
    kept m i q h =
        get_or-set_other (set (set w (3 * k) v.x) (3 * k + 1) v.y) (3 * k + 2) m v.z (pos 0)
        (λ e. apart i 2 h (omega arith) (sym q ∙ e))
        ∙ get_or-set_other (set w (3 * k) v.x) (3 * k + 1) m v.y (pos 0) (λ e. apart i 1 h (omega arith) (sym q ∙ e))
        ∙ get_or-set_other w (3 * k) m v.x (pos 0) (λ (e : m ≡ 3 * k). apart i 0 h (omega arith) (omega arith))

-- ---- a line stored from a place on

-- what it is stored by
pub record Running (first increment : V3) (count from : ℕ) (w : List ℤ) : Type 0 where
  pub small : Within 64 first
  pub inside : (k : ℕ) → k < count → Within 64 (shift3 first (pos k) increment)
  pub short : Within 200 increment
  pub fits : from + count ≤ 4096
  pub room : length w ≡ 12288

-- of the second words: those before are the first's, and count places from there on hold the line
pub record Lined (line : ℕ → V3) (from count : ℕ) (w w' : List ℤ) : Type 0 where
  pub long : length w' ≡ length w
  pub before : (k : ℕ) → k < from → vector_at w' k ≡ vector_at w k
  pub stored : (k : ℕ) → k < count → vector_at w' (from + k) ≡ line k

pub lined_none : (line : ℕ → V3) (from : ℕ) (w : List ℤ) → Lined line from 0 w w
lined_none line from w = record { long = refl; before = λ k h. refl; stored = λ k h. absurd (omega arith) }

-- one more
pub lined_on : {line : ℕ → V3} {from count : ℕ} {w w' : List ℤ} {v : V3} → Lined line from count w w'
    → 3 * (from + count) + 2 < length w → v ≡ line count → Lined line from (count + 1) w (put w' (from + count) v)
lined_on {line} {from} {count} {w} {w'} {v} l h e =
    record {
      long = put_length w' (from + count) v ∙ l.long;
      before = λ k b. put_other w' (from + count) k v (λ (q : k ≡ from + count). omega arith) ∙ l.before k b;
      stored = λ k b. go k (eq-or-lt_of_le (let c : k ≤ count = omega arith in c));
    }
  where
    go : (k : ℕ) → (k ≡ count) ⊎ (k < count) → vector_at (put w' (from + count) v) (from + k) ≡ line k
    go k (inl q) =
        ap (λ (j : ℕ). vector_at (put w' (from + count) v) (from + j)) q ∙ put_same w' (from + count) v (omega (arith, l.long)) ∙ e
        ∙ ap line (sym q)
    go k (inr b) = put_other w' (from + count) (from + k) v (λ (q : from + k ≡ from + count). omega arith) ∙ l.stored k b
