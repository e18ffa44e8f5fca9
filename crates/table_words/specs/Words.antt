-- Values and rows of the table as words, and lists with words laid over them. Assumes nothing.
use Rattle.std.specs.Prelude.{◌≡◌, length, get_or, take, drop, ℤ}
use Rattle.std.proofs.Math.Path.{refl, sym, ap, ap₂}
use Rattle.std.proofs.Common.{◌∙◌, le_refl, add-one, arith, length-append, take-suc, drop-drop, to_z, of_z}
use mathlib.Core.List.{List, [], ◌∷◌, ◌++◌, append_assoc, append-nil}
use Prim.Native.Nat.{ℕ, zero, suc, ◌+◌, ◌*◌, ◌^◌, ◌≤◌, ◌<◌}
use Rattle.std.proofs.Math.Seq.{paste, take-length, take-append_seam, drop-append-add}
use Rattle.std.specs.Int.Signed.{mag}
use Rattle.std.specs.Int.{w32}
use Rattle.integers.specs.Words.{tower}
use Rattle.integers.specs.declared.V3.{V3}
use Rattle.meaning.specs.declared.Row.{Row}

-- the values in front, and the words past them as they were
abbrev pub laid : List ℕ → List ℕ → List ℕ
laid values words = values ++ drop (length values) words

-- a signed number as its 32 bits
abbrev pub bits3 : V3 → List ℕ
bits3 v = of_z w32 v.x ∷ of_z w32 v.y ∷ of_z w32 v.z ∷ []

-- the words of the six streams
abbrev pub six : List ℕ → List ℕ
six ws = get_or ws 0 0 ∷ get_or ws 1 0 ∷ get_or ws 2 0 ∷ get_or ws 3 0 ∷ get_or ws 4 0 ∷ get_or ws 5 0 ∷ []

-- a row: point 2, count 1, first 3, last 3, soak 6, drain 6
abbrev pub row_words : Row → List ℕ
row_words r =
    of_z w32 r.point.a ∷ of_z w32 r.point.b ∷ r.count ∷ (bits3 r.first ++ (bits3 r.last ++ (six r.soak ++ six r.drain)))

-- rows one after another
unfoldable pub rows_words : List Row → List ℕ
rows_words [] = []
rows_words (r ∷ rs) = row_words r ++ rows_words rs

-- the rows by number, as a loop lays them
unfoldable pub words_of : (ℕ → Row) → ℕ → List ℕ
words_of f zero = []
words_of f (suc p) = words_of f p ++ row_words (f p)

-- ---- signed numbers

-- of a field that the code holds
pub bits_held : {r : ℕ} (z : ℤ) → mag z < 2 ^ 31 → r ≡ of_z w32 (to_z w32 (of_z w32 z)) → r ≡ of_z w32 z
bits_held z h e = e ∙ ap (of_z w32) (tower z h)

-- ---- laying words over a list

-- further values after those that lie there
laid_next : (a values words : List ℕ)
    → paste (laid a words) (length a) values (length values) ≡ laid (a ++ values) words
laid_next a values words =
    ap₂ (λ (p q : List ℕ). p ++ take (length values) values ++ q) (take-append_seam a (drop (length a) words))
    (drop-append-add a (drop (length a) words) (length values) ∙ drop-drop (length values) (length a) words)
    ∙ ap (λ (p : List ℕ). a ++ p ++ drop (length a + length values) words) (take-length values)
    ∙ ap (λ (n : ℕ). a ++ values ++ drop n words) (sym (length-append a values))

-- ---- rows

-- a row as the code makes it
pub row_made : (r : Row) {a b : ℕ} {f l : List ℕ} → a ≡ of_z w32 r.point.a → b ≡ of_z w32 r.point.b → f ≡ bits3 r.first
    → l ≡ bits3 r.last
    → a ∷ b ∷ r.count ∷ get_or f 0 0 ∷ get_or f 1 0 ∷ get_or f 2 0 ∷ get_or l 0 0 ∷ get_or l 1 0 ∷ get_or l 2 0
    ∷ (six r.soak ++ six r.drain) ≡ row_words r
row_made r a b f l = rw (a, b, f, l) refl

pub words_none : (f : ℕ → Row) → words_of f 0 ≡ []
unfolding words_of
words_none f = refl

words_next : (f : ℕ → Row) (p : ℕ) → words_of f (p + 1) ≡ words_of f p ++ row_words (f p)
unfolding words_of
words_next f p = ap (λ (k : ℕ). words_of f k) (add-one p)

words_length : (f : ℕ → Row) (p : ℕ) → length (words_of f p) ≡ 21 * p
unfolding words_of
words_length f zero = refl
words_length f (suc p) = length-append (words_of f p) (row_words (f p)) ∙ omega (arith, words_length f p)

rows_append : (xs : List Row) (r : Row) → rows_words (xs ++ (r ∷ [])) ≡ rows_words xs ++ row_words r
unfolding rows_words
rows_append [] r = append-nil (row_words r)
rows_append (x ∷ xs) r =
    ap (λ (ws : List ℕ). row_words x ++ ws) (rows_append xs r) ∙ sym (append_assoc (row_words x) (rows_words xs) (row_words r))

-- those of a list whose rows they are
module _ (f : ℕ → Row) (rows : List Row) (d : Row) (e : (p : ℕ) → p < length rows → f p ≡ get_or rows p d) where
  words_take : (n : ℕ) → n ≤ length rows → words_of f n ≡ rows_words (take n rows)
  unfolding words_of rows_words
  words_take zero h = refl
  words_take (suc n) h =
      ap₂ (λ (ws : List ℕ) (r : Row). ws ++ row_words r) (words_take n (omega arith)) (e n h)
      ∙ sym (rows_append (take n rows) (get_or rows n d)) ∙ ap rows_words (sym (take-suc rows n d h))

  pub words_rows : words_of f (length rows) ≡ rows_words rows
  words_rows = words_take (length rows) (le_refl (length rows)) ∙ ap rows_words (take-length rows)

-- one row more
pub rows_next : (f : ℕ → Row) (p : ℕ) (words₀ : List ℕ) {words row out : List ℕ} → words ≡ laid (words_of f p) words₀
    → row ≡ row_words (f p) → out ≡ paste words (21 * p) row (length row) → out ≡ laid (words_of f (p + 1)) words₀
rows_next f p words₀ {row} e g h =
    h ∙ ap₂ (λ (ws : List ℕ) (k : ℕ). paste ws k row (length row)) e (sym (words_length f p)) ∙ laid_next (words_of f p) row words₀
    ∙ ap (λ (ws : List ℕ). laid ws words₀) (ap (λ (ws : List ℕ). words_of f p ++ ws) g ∙ sym (words_next f p))
