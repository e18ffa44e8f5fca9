-- The words of a description written into a list of bytes one after another, as the loop leaves it: all of them are the made description,
-- and what stood behind it stays. Assumes nothing.
use Rattle.std.specs.Prelude.{◌≡◌, length, take, ℤ, pos}
use Rattle.std.proofs.Math.Path.{refl, ap, ap₂}
use Rattle.std.proofs.Common.{sym, ◌∙◌, subst, add-one, length-append, length-drop, take-suc, length-take-le, drop-drop, of_z}
use mathlib.Core.List.{List, [], ◌∷◌, ◌++◌, append_assoc}
use Prim.Native.Nat.{ℕ, zero, suc, ◌+◌, ◌*◌, ◌-◌, ◌≤◌, ◌<◌}
use native.Mathlib.Omega.{arith}
use Rattle.std.proofs.Math.ListN.{get_or, drop}
use Rattle.std.proofs.Math.Seq.{take-length, take-append_seam, drop-append-add}
use mir.Syntax.{w32}
use borrow.Rule.Slice.PartMut.{put_mid}
use Rattle.meaning.specs.declared.Sizes.{Sizes}
use Rattle.meaning.specs.Lists.{each}
use Rattle.meaning.specs.Description.{bytes_of, bytes, words_of}
use Rattle.meaning.specs.Generator.{after, drawn, made_words, made}
use Rattle.lists.specs.Members.{each_append}
use Rattle.lists.specs.Bytes.{bytes_length}
use Rattle.words.specs.Stored.{stored, stored_paste}
use Rattle.generated.specs.Made.{words_length, word_drawn}

-- the bits of word k
abbrev pub bits_of : List ℤ → ℕ → ℕ
bits_of ws k = of_z w32 (get_or ws k (pos 0))

-- the first n words
unfoldable pub words_to : List ℤ → ℕ → List ℕ → List ℕ
words_to ws zero out = out
words_to ws (suc n) out = stored (bytes_of (bits_of ws n)) (4 * n) 4 (words_to ws n out)

words_more : (ws : List ℤ) (out : List ℕ) (n : ℕ) → words_to ws (n + 1) out ≡ stored (bytes_of (bits_of ws n)) (4 * n) 4 (words_to ws n out)
unfolding words_to
words_more ws out n = ap (λ (k : ℕ). words_to ws k out) (add-one n)

-- a word, in one piece
pub put_is : (out : List ℕ) (i k u : ℕ) {bs : List ℕ} → k ≡ 4 → i + 4 ≤ length out → bs ≡ bytes_of u
    → put_mid i k out bs ≡ stored (bytes_of u) i 4 out
put_is out i k u e h b =
    let l : length (bytes_of u) ≡ 4 = refl in
    ap₂ (λ (k : ℕ) (bs : List ℕ). put_mid i k out bs) e b
    ∙ sym (stored_paste (bytes_of u) i out 4 h (omega arith)
    ∙ append_assoc (take i out) (bytes_of u) (drop (i + 4) out)
    ∙ ap (λ (l : List ℕ). take i out ++ (bytes_of u ++ l)) (sym (drop-drop 4 i out)))

-- ---- all of them

module _ (ws : List ℤ) (out : List ℕ) where
  -- a word behind the first n
  behind : (n : ℕ) (b : List ℕ) → n ≤ length ws → 4 * n + 4 ≤ length out → length b ≡ 4
      → stored b (4 * n) 4 (bytes (take n ws) ++ drop (4 * n) out) ≡ bytes (take n ws) ++ take 4 b ++ drop (4 * n + 4) out
  behind n b h l e =
      let front = bytes (take n ws) in
      let back = drop (4 * n) out in
      let m : length front ≡ 4 * n = bytes_length (take n ws) ∙ ap (λ (k : ℕ). 4 * k) (length-take-le n ws h) in
      stored_paste b (4 * n) (front ++ back) 4 (omega (arith, length-append front back, length-drop (4 * n) out)) (omega arith)
      ∙ ap₂ (λ (x y : List ℕ). x ++ take 4 b ++ y)
      (subst (λ (j : ℕ). take j (front ++ back) ≡ front) m (take-append_seam front back))
      (subst (λ (j : ℕ). drop (j + 4) (front ++ back) ≡ drop 4 back) m (drop-append-add front back 4) ∙ drop-drop 4 (4 * n) out)

  words_are : (n : ℕ) → n ≤ length ws → 4 * n ≤ length out → words_to ws n out ≡ bytes (take n ws) ++ drop (4 * n) out
  unfolding words_to each
  words_are zero h l = refl
  words_are (suc n) h l =
      let b = bytes_of (bits_of ws n) in
      let e : 4 * n + 4 ≡ 4 * suc n = omega arith in
      let w = get_or ws n (pos 0) in
      ap (stored b (4 * n) 4) (words_are n (omega arith) (omega arith)) ∙ behind n b (omega arith) (omega arith) refl
      ∙ ap₂ (λ (x : List ℕ) (k : ℕ). x ++ drop k out)
      (sym (ap bytes (take-suc ws n (pos 0) (omega arith)) ∙ each_append (λ w. bytes_of (of_z w32 w)) (take n ws) (w ∷ []))) e

-- of a made description
pub all_words : (z : Sizes) (seed : ℕ) (out : List ℕ) → 4 * words_of z ≤ length out
    → words_to (made_words z seed) (words_of z) out ≡ made z seed ++ drop (4 * words_of z) out
all_words z seed out h =
    let ws = made_words z seed in
    let e = words_length z seed in
    words_are ws out (words_of z) (omega arith) h
    ∙ ap (λ (vs : List ℤ). bytes vs ++ drop (4 * words_of z) out) (ap (λ (n : ℕ). take n ws) (sym e) ∙ take-length ws)

-- ---- as the loop comes by them

module _ (z : Sizes) (seed : ℕ) (out : List ℕ) where
  pub sizes_are : stored (bytes_of z.lines) 8 4 (stored (bytes_of z.streams) 4 4 (stored (bytes_of z.loops) 0 4 out))
      ≡ words_to (made_words z seed) 3 out
  unfolding words_to
  sizes_are = refl

  -- a word more
  pub drawn_more : {now : List ℕ} {u : ℕ} (k : ℕ) → 3 ≤ k → k < words_of z → now ≡ words_to (made_words z seed) k out
      → u ≡ of_z w32 (drawn z k (after (k - 2) seed)) → stored (bytes_of u) (4 * k) 4 now ≡ words_to (made_words z seed) (k + 1) out
  drawn_more k h l e f =
      ap₂ (λ (v : ℕ) (m : List ℕ). stored (bytes_of v) (4 * k) 4 m) (f ∙ ap (of_z w32) (sym (word_drawn z seed k h l))) e
      ∙ sym (words_more (made_words z seed) out k)
