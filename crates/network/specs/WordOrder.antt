-- The words of a state one after the other: the i-th of them stands at place i, so that the state is what they read. Assumes nothing.
use Rattle.std.specs.Prelude.{◌≡◌, length, get_or, take}
use Rattle.std.proofs.Math.Path.{refl, sym, ap, ap₂, subst}
use Rattle.std.proofs.Common.{◌∙◌, subst₂, le_refl, length-take-le, get_or-take, ext_get_or}
use mathlib.Core.List.{List, [], ◌∷◌, ◌++◌, map, map-append, map-map}
use Prim.Native.Nat.{ℕ, zero, suc, ◌+◌, ◌-◌, ◌≤◌, ◌<◌}
use native.Mathlib.Omega.{arith}
use Rattle.std.proofs.lemmas.List.{length-map}
use Rattle.std.proofs.Math.Seq.{take-length}
use Rattle.meaning.specs.Lists.{each, total, numbers, numbers_from}
use Rattle.meaning.specs.Array.{Array, Pipe, process_count, stream_count, pipe_number, no_pipe, pipe_at}
use Rattle.meaning.specs.State.{Word, Firings, Taken, Given, Hand, Keep, Place, Sent, Received, End, process_start, port_start, end_start}
use Rattle.meaning.specs.State.{index, word_count, port_words, process_words, pipe_words, words, read}
use Rattle.lists.specs.Sums.{total_next}
use Rattle.lists.specs.Rows.{length_numbers, get_d_first, same_numbers}
use Rattle.network.specs.Layout.{Live}

-- ---- the numbers from a up to b

record Upto (a b : ℕ) (l : List ℕ) : Type 0 where
  rises : a ≤ b
  is : l ≡ numbers_from a (b - a)

upto_none : (a : ℕ) → Upto a a []
unfolding numbers_from
upto_none a = let e : a - a ≡ 0 = omega arith in record { rises = le_refl a; is = ap (numbers_from a) (sym e) }

upto_more : {b : ℕ} {l : List ℕ} (a a' : ℕ) → a' ≡ suc a → Upto a' b l → Upto a b (a ∷ l)
unfolding numbers_from
upto_more {b} {l} a a' e u = record { rises = omega (arith, v.rises); is = ap (λ (l : List ℕ). a ∷ l) v.is ∙ ap (numbers_from a) d }
  where
    v : Upto (suc a) b l
    v = subst (λ (a : ℕ). Upto a b l) e u

    d : suc (b - suc a) ≡ b - a
    d = omega (arith, v.rises)

numbers_append : (i a b : ℕ) → numbers_from i a ++ numbers_from (i + a) b ≡ numbers_from i (a + b)
unfolding numbers_from
numbers_append i zero b = let e : i + 0 ≡ i = omega arith in let d : 0 + b ≡ b = omega arith in rw (e, d)
numbers_append i (suc a) b =
    let e : i + suc a ≡ suc i + a = omega arith in
    let d : suc a + b ≡ suc (a + b) = omega arith in
    rw (e, d) (ap (λ (l : List ℕ). i ∷ l) (numbers_append (suc i) a b))

upto_append : {a b c : ℕ} {l m : List ℕ} → Upto a b l → Upto b c m → Upto a c (l ++ m)
upto_append {a} {b} {c} u v =
    let h = u.rises in
    let k = v.rises in
    let e : a + (b - a) ≡ b = omega arith in
    let d : (b - a) + (c - b) ≡ c - a = omega arith in
    record {
      rises = omega arith;
      is = ap₂ ◌++◌ u.is (v.is ∙ ap (λ (i : ℕ). numbers_from i (c - b)) (sym e)) ∙ numbers_append a (b - a) (c - b)
          ∙ ap (numbers_from a) d;
    }

numbers_shift : (c j n : ℕ) → map (λ i. c + i) (numbers_from j n) ≡ numbers_from (c + j) n
unfolding numbers_from
numbers_shift c j zero = refl
numbers_shift c j (suc n) =
    let e : c + suc j ≡ suc (c + j) = omega arith in
    ap (λ (l : List ℕ). (c + j) ∷ l) (numbers_shift c (suc j) n ∙ ap (λ (i : ℕ). numbers_from i n) e)

upto_places : (c n : ℕ) → Upto c (c + n) (map (λ i. c + i) (numbers n))
upto_places c n =
    let e : c + 0 ≡ c = omega arith in
    let d : n ≡ c + n - c = omega arith in
    record { rises = omega arith; is = numbers_shift c 0 n ∙ ap₂ numbers_from e d }

-- blocks, the k-th from at k up to at (k + 1)
upto_each : {X : Type 0} (f : X → ℕ) (block : ℕ → List X) (at : ℕ → ℕ) (i n : ℕ)
    → ((k : ℕ) → i ≤ k → k < i + n → Upto (at k) (at (suc k)) (map f (block k)))
    → Upto (at i) (at (i + n)) (map f (each block (numbers_from i n)))
unfolding each numbers_from
upto_each f block at i zero h = let e : i ≡ i + 0 = omega arith in subst (λ (b : ℕ). Upto (at i) b []) (ap at e) (upto_none (at i))
upto_each f block at i (suc n) h =
    let e : suc i + n ≡ i + suc n = omega arith in
    subst₂ (λ (b : ℕ) (l : List ℕ). Upto (at i) b l) (ap at e) (sym (map-append f (block i) (each block (numbers_from (suc i) n))))
    (upto_append (h i (le_refl i) (omega arith)) (upto_each f block at (suc i) n (λ k l m. h k (omega arith) (omega arith))))

-- ---- the words

module _ (A : Array) where
  -- the places of a link, from c on
  places_stand : (f : ℕ → Word) (c n b : ℕ) → ((i : ℕ) → index A (f i) ≡ c + i) → c + n ≡ b → Upto c b (map (index A) (map f (numbers n)))
  places_stand f c n b g e =
      subst₂ (λ (b : ℕ) (l : List ℕ). Upto c b l) e
      (sym (map-map (index A) f (numbers n) ∙ same_numbers _ _ 0 n (λ i l m. g i))) (upto_places c n)

  port_stands : (p s : ℕ) → s < stream_count A → Upto (port_start A p s) (port_start A p (suc s)) (map (index A) (port_words A p s))
  port_stands p s h =
      let c = port_start A p s in
      upto_more c (c + 1) (omega arith)
      (upto_more (c + 1) (c + 2) (omega arith)
      (upto_more (c + 2) (c + 3) (omega arith)
      (upto_more (c + 3) (c + 4) (omega arith)
      (places_stand (Place p s) (c + 4) (get_or A.hops s 0) (port_start A p (suc s)) (λ i. refl)
      (omega (arith, total_next (λ h. 4 + h) A.hops s 0 h))))))

  process_stands : (p : ℕ) → Upto (process_start A p) (process_start A (suc p)) (map (index A) (process_words A p))
  unfolding total
  process_stands p =
      upto_more (process_start A p) (port_start A p 0) first
      (subst (λ (b : ℕ). Upto (port_start A p 0) b (map (index A) (each (port_words A p) (numbers (stream_count A))))) last
      (upto_each (index A) (port_words A p) (port_start A p) 0 (stream_count A) (λ s l m. port_stands p s (omega arith))))
    where
      first : port_start A p 0 ≡ suc (process_start A p)
      first = omega arith

      last : port_start A p (0 + stream_count A) ≡ process_start A (suc p)
      last =
          let e : 0 + stream_count A ≡ stream_count A = omega arith in
          ap (port_start A p) e ∙ omega (arith, ap (λ (hs : List ℕ). total (λ h. 4 + h) hs) (take-length A.hops))

  pipe_stands : (q : ℕ) → q < pipe_number A → Upto (end_start A q) (end_start A (suc q)) (map (index A) (pipe_words A q))
  pipe_stands q h =
      let c = end_start A q in
      upto_more c (c + 1) (omega arith)
      (upto_more (c + 1) (c + 2) (omega arith)
      (places_stand (End q) (c + 2) (pipe_at A q).hop (end_start A (suc q)) (λ i. refl)
      (omega (arith, total_next (λ (r : Pipe). 2 + r.hop) A.pipes q no_pipe h))))

  all_stand : Upto (process_start A 0) (end_start A (0 + pipe_number A)) (map (index A) (words A))
  unfolding total
  all_stand =
      subst (λ (l : List ℕ). Upto (process_start A 0) (end_start A (0 + pipe_number A)) l)
      (sym (map-append (index A) (each (process_words A) (numbers (process_count A))) (each (pipe_words A) (numbers (pipe_number A)))))
      (upto_append
      (subst (λ (b : ℕ). Upto (process_start A 0) b (map (index A) (each (process_words A) (numbers (process_count A))))) between
      (upto_each (index A) (process_words A) (process_start A) 0 (process_count A) (λ p l m. process_stands p)))
      (upto_each (index A) (pipe_words A) (end_start A) 0 (pipe_number A) (λ q l m. pipe_stands q (omega arith))))
    where
      between : process_start A (0 + process_count A) ≡ end_start A 0
      between = let e : 0 + process_count A ≡ process_count A = omega arith in ap (process_start A) e ∙ omega arith

  -- the words of a state stand one after the other
  pub words_stand : map (index A) (words A) ≡ numbers (word_count A)
  words_stand = all_stand.is ∙ ap₂ numbers_from first last
    where
      first : process_start A 0 ≡ 0
      first = omega arith

      last : end_start A (0 + pipe_number A) - process_start A 0 ≡ word_count A
      last =
          let e : 0 + pipe_number A ≡ pipe_number A = omega arith in
          omega (
            arith,
            ap (λ (q : ℕ). total (λ (r : Pipe). 2 + r.hop) (take q A.pipes)) e,
            ap (λ (rs : List Pipe). total (λ r. 2 + r.hop) rs) (take-length A.pipes),
          )

  pub words_length : length (words A) ≡ word_count A
  words_length =
      sym (length-map (words A) (index A)) ∙ ap length words_stand ∙ sym (length-map (numbers (word_count A)) (λ i. i))
      ∙ length_numbers (λ i. i) 0 (word_count A)

  -- a state is what its words read
  pub words_read : (st : List ℕ) → word_count A ≤ length st → take (word_count A) st ≡ map (read A st) (words A)
  words_read st h =
      ext_get_or 0 (take (word_count A) st) (map (λ i. get_or st i 0) (numbers (word_count A)))
      (length-take-le (word_count A) st h ∙ sym (length_numbers (λ i. get_or st i 0) 0 (word_count A)))
      (λ i l.
      let m : i < word_count A = omega (arith, length-take-le (word_count A) st h) in
      get_or-take (word_count A) st i 0 m ∙ sym (get_d_first (λ i. get_or st i 0) 0 (word_count A) i m))
      ∙ ap (map (λ i. get_or st i 0)) (sym words_stand)
      ∙ map-map (λ i. get_or st i 0) (index A) (words A)

  -- ---- functions that agree on the words of a state

  module _ (f g : Word → ℕ) where
    same_each : (block : ℕ → List Word) (i n : ℕ) → ((k : ℕ) → i ≤ k → k < i + n → map f (block k) ≡ map g (block k))
        → map f (each block (numbers_from i n)) ≡ map g (each block (numbers_from i n))
    unfolding each numbers_from
    same_each block i zero h = refl
    same_each block i (suc n) h =
        map-append f (block i) (each block (numbers_from (suc i) n))
        ∙ ap₂ ◌++◌ (h i (le_refl i) (omega arith)) (same_each block (suc i) n (λ k l m. h k (omega arith) (omega arith)))
        ∙ sym (map-append g (block i) (each block (numbers_from (suc i) n)))

    same_places : (w : ℕ → Word) (n : ℕ) → ((i : ℕ) → i < n → f (w i) ≡ g (w i)) → map f (map w (numbers n)) ≡ map g (map w (numbers n))
    same_places w n h = map-map f w (numbers n) ∙ same_numbers _ _ 0 n (λ i l m. h i (omega arith)) ∙ sym (map-map g w (numbers n))

    pub same_words : ((w : Word) → Live A w → f w ≡ g w) → map f (words A) ≡ map g (words A)
    same_words h =
        map-append f (each (process_words A) (numbers (process_count A))) (each (pipe_words A) (numbers (pipe_number A)))
        ∙ ap₂ ◌++◌
        (same_each (process_words A) 0 (process_count A) (λ p l m. process p (omega arith)))
        (same_each (pipe_words A) 0 (pipe_number A) (λ q l m. pipe q (omega arith)))
        ∙ sym (map-append g (each (process_words A) (numbers (process_count A))) (each (pipe_words A) (numbers (pipe_number A))))
      where
        port : (p s : ℕ) → p < process_count A → s < stream_count A → map f (port_words A p s) ≡ map g (port_words A p s)
        port p s k l i =
            h (Taken p s) (k, l) i ∷ h (Given p s) (k, l) i ∷ h (Hand p s) (k, l) i ∷ h (Keep p s) (k, l) i
            ∷ same_places (Place p s) (get_or A.hops s 0) (λ j m. h (Place p s j) (k, l, m)) i

        process : (p : ℕ) → p < process_count A → map f (process_words A p) ≡ map g (process_words A p)
        process p k i =
            h (Firings p) k i ∷ same_each (port_words A p) 0 (stream_count A) (λ s l m. port p s k (omega arith)) i

        pipe : (q : ℕ) → q < pipe_number A → map f (pipe_words A q) ≡ map g (pipe_words A q)
        pipe q k i = h (Sent q) k i ∷ h (Received q) k i ∷ same_places (End q) (pipe_at A q).hop (λ j m. h (End q j) (k, m)) i
