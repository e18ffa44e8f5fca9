-- Fire on a state is the firing of the abstract network: the words that the process uses get what the body makes of them, and no other.
-- Assumes nothing.
use Rattle.std.specs.Prelude.{◌≡◌, Bool, true, false, cond, length, get_or}
use Rattle.std.proofs.Math.Path.{refl, sym, ap, ap₂, subst}
use Rattle.std.proofs.Common.{◌∙◌, le_refl}
use mathlib.Core.List.{List, [], ◌∷◌, map}
use Prim.Native.Nat.{ℕ, zero, suc, ◌+◌, ◌≤◌, ◌<◌}
use native.Mathlib.Omega.{arith}
use Rattle.meaning.specs.Lists.{numbers, numbers_from}
use Rattle.meaning.specs.Array.{Array, instance_at, process_count, stream_count, stops_on, stop_at, pipe_through}
use Rattle.meaning.specs.State.{Word, Firings, Hand, Keep, word_count, read, write}
use Rattle.meaning.specs.Rules.{process_on, stream_on, used_word, used_words, write_all, body_at, increase, do_fire}
use Rattle.lists.specs.Rows.{length_numbers, same_numbers}
use Rattle.abstract_network.specs.Counters.{fire, OneMore}
use Rattle.abstract_network.specs.Firing.{Firing, hand_used, keep_used, Fires}
use Rattle.network.specs.Wiring.{kind_of, net_of, Wired, HasPort, port_is, ranked_of, place_at, keeps_at}
use Rattle.network.specs.Programs.{length_body}
use Rattle.network.specs.Slots.{Slot, fired, hand, kept, place, sort, first, second, counter, Has, word_of, view, view_is}
use Rattle.network.proofs.Slots.{view_same}
use Rattle.network.specs.Slots.{counts_of, words_of}
use Rattle.network.proofs.Slots.{view_other}
use Rattle.network.proofs.Links.{counter_sort, Written, nothing, also, written_length, more_other, more_written, one_more}
use Rattle.network.specs.Moving.{chosen, chosen_sort, chosen_at, chosen_has, chosen_word}

map_numbers : {X Y : Type 0} (f : X → Y) (g : ℕ → X) (i n : ℕ) → map f (map g (numbers_from i n)) ≡ map (λ j. f (g j)) (numbers_from i n)
unfolding numbers_from
map_numbers f g i zero = refl
map_numbers f g i (suc n) = ap (λ (l : List _). f (g i) ∷ l) (map_numbers f g (suc i) n)

module _ {A : Array} (W : Wired A) where
  -- ---- values written to the slots g i, g (i + 1), ..

  module _ (g : ℕ → Slot) where
    words_from : ℕ → ℕ → List Word
    words_from i n = map (λ j. word_of A (g j)) (numbers_from i n)

    Range : ℕ → ℕ → Type 0
    Range i n = (j : ℕ) → i ≤ j → j < i + n → Has A (g j)

    all_written : (n i : ℕ) (st st' vs : List ℕ) → Range i n → Written W st st' → Written W st (write_all A st' (words_from i n) vs)
    unfolding write_all words_from numbers_from Range
    all_written zero i st st' vs h w = w
    all_written (suc n) i st st' [] h w = w
    all_written (suc n) i st st' (v ∷ vs) h w =
        all_written n (suc i) st (write A st' (word_of A (g i)) v) vs (λ j a b. h j (omega arith) (omega arith))
        (also w (g i) v (h i (le_refl i) (omega arith)))

    all_other : (n i : ℕ) (st vs : List ℕ) → Range i n → (b : Slot) → ((j : ℕ) → i ≤ j → j < i + n → g j ≡ b → ⊥)
        → view A (write_all A st (words_from i n) vs) b ≡ view A st b
    unfolding write_all words_from numbers_from Range
    all_other zero i st vs h b f = refl
    all_other (suc n) i st [] h b f = refl
    all_other (suc n) i st (v ∷ vs) h b f =
        all_other n (suc i) (write A st (word_of A (g i)) v) vs (λ j u w. h j (omega arith) (omega arith)) b
        (λ j u w. f j (omega arith) (omega arith))
        ∙ view_other A W st (g i) b v (h i (le_refl i) (omega arith)) (f i (le_refl i) (omega arith))

    all_there : (n i : ℕ) (st vs : List ℕ) → word_count A ≤ length st → Range i n
        → ((j j' : ℕ) → i ≤ j → j < j' → j' < i + n → g j' ≡ g j → ⊥)
        → n ≤ length vs → (j : ℕ) → j < n → view A (write_all A st (words_from i n) vs) (g (i + j)) ≡ get_or vs j 0
    unfolding write_all words_from numbers_from Range
    all_there zero i st vs l h d m j o = absurd (omega arith)
    all_there (suc n) i st [] l h d m j o = absurd (omega arith)
    all_there (suc n) i st (v ∷ vs) l h d m zero o =
        let e : i + 0 ≡ i = omega arith in
        rw e
        (all_other n (suc i) (write A st (word_of A (g i)) v) vs (λ j u w. h j (omega arith) (omega arith)) (g i)
        (λ j u w. d i j (le_refl i) u (omega arith))
        ∙ view_same A W st (g i) v l (h i (le_refl i) (omega arith)))
    all_there (suc n) i st (v ∷ vs) l h d m (suc j) o =
        let e : suc i + j ≡ i + suc j = omega arith in
        rw e at
        (all_there n (suc i) (write A st (word_of A (g i)) v) vs
        (omega (arith, written_length W (also {st' = st} nothing (g i) v (h i (le_refl i) (omega arith)))))
        (λ j u w. h j (omega arith) (omega arith)) (λ a b u w z. d a b (omega arith) w (omega arith)) (omega arith) j (omega arith))

  -- ---- a firing of process p, which stands on a pipe of every stream

  module _ (st : List ℕ) (long : word_count A ≤ length st) (p : ℕ) (there : p < process_count A)
      (port : (s : ℕ) → s < stream_count A → HasPort A p s)
    where
      -- the slot that a stop uses, and that of p and stream s
      abbrev own : ℕ → ℕ → Slot
      own q k = chosen q k (stop_at A q k).keeps

      abbrev slot : ℕ → Slot
      slot s = own (pipe_through A p s) (place_at A p s)

      own_at : (q k : ℕ) → (first (own q k) ≡ q) × (second (own q k) ≡ k)
      own_at q k = chosen_at q k (stop_at A q k).keeps

      -- a slot that p uses is what the stop there uses, and p stands there
      lands : (s : ℕ) (d : Slot) → slot s ≡ d → own (first d) (second d) ≡ d
      lands s d e =
          ap₂ own (ap first (sym e) ∙ (own_at (pipe_through A p s) (place_at A p s)).0)
          (ap second (sym e) ∙ (own_at (pipe_through A p s) (place_at A p s)).1)
          ∙ e

      lands_at : (s : ℕ) (d : Slot) → s < stream_count A → slot s ≡ d
          → (process_on A (first d) (second d) ≡ p) × (stream_on A (first d) ≡ s)
      lands_at s d l e =
          let q = ap first (sym e) ∙ (own_at (pipe_through A p s) (place_at A p s)).0 in
          let k = ap second (sym e) ∙ (own_at (pipe_through A p s) (place_at A p s)).1 in
          (ap₂ (process_on A) q k ∙ (port s l).process, ap (stream_on A) q ∙ (port s l).stream)

      slot_has : (s : ℕ) → s < stream_count A → Has A (slot s)
      slot_has s l = chosen_has A (pipe_through A p s) (place_at A p s) (keeps_at A p s) (port s l).place_lt

      slot_sort : (s : ℕ) → (3 < sort (slot s)) × (sort (slot s) < 6)
      slot_sort s = chosen_sort (pipe_through A p s) (place_at A p s) (keeps_at A p s)

      slot_word : (s : ℕ) → s < stream_count A
          → used_word A (keeps_at A p s) p s ≡ word_of A (slot s)
      slot_word s l =
          let b : Bool = keeps_at A p s in
          ap₂ (λ (p s : ℕ). cond b (Keep p s) (Hand p s)) (sym (port s l).process) (sym (port s l).stream)
          ∙ sym (chosen_word A (pipe_through A p s) (place_at A p s) b)

      -- the values found, what the body makes of them, and the state after it
      found : List ℕ
      found = map (λ s. view A st (slot s)) (numbers (stream_count A))

      made : List ℕ
      made = body_at A (instance_at A p (read A st (Firings p))) found

      length_made : length made ≡ stream_count A
      unfolding made found
      length_made =
          length_body A (instance_at A p (read A st (Firings p))) found ∙ length_numbers (λ s. view A st (slot s)) 0 (stream_count A)

      st₁ : List ℕ
      st₁ = write_all A st (words_from slot 0 (stream_count A)) made

      after : List ℕ
      after = increase A st₁ (Firings p)

      -- this is what the rule does
      after_is : do_fire A st p ≡ after
      unfolding after st₁ made found words_from
      after_is =
          ap₂ (λ (ws : List Word) (vs : List ℕ).
          increase A (write_all A st ws (body_at A (instance_at A p (read A st (Firings p))) vs)) (Firings p))
          same_words
          (map_numbers (read A st) (λ s. used_word A (keeps_at A p s) p s) 0 (stream_count A)
          ∙ same_numbers _ _ 0 (stream_count A) (λ s u v. ap (read A st) (slot_word s (omega arith))
          ∙ sym (view_is A st (slot s) (slot_has s (omega arith)))))
        where
          same_words : used_words A p ≡ map (λ s. word_of A (slot s)) (numbers (stream_count A))
          same_words = same_numbers _ _ 0 (stream_count A) (λ s u v. slot_word s (omega arith))

      range : Range slot 0 (stream_count A)
      unfolding Range
      range j u v = slot_has j (omega arith)

      st₁_written : Written W st st₁
      unfolding st₁
      st₁_written = all_written slot (stream_count A) 0 st st made range nothing

      st₁_long : word_count A ≤ length st₁
      st₁_long = omega (arith, long, written_length W st₁_written)

      st₁_other : (b : Slot) → ((s : ℕ) → s < stream_count A → slot s ≡ b → ⊥) → view A st₁ b ≡ view A st b
      unfolding st₁
      st₁_other b f = all_other slot (stream_count A) 0 st made range b (λ s u v. f s (omega arith))

      -- each used slot has what the body made, all others are as before
      st₁_there : (s : ℕ) → s < stream_count A → view A st₁ (slot s) ≡ get_or made s 0
      unfolding st₁
      st₁_there s l =
          let e : 0 + s ≡ s = omega arith in
          rw e at
          (all_there slot (stream_count A) 0 st made long range
          (λ j j' u v w e. omega (arith, (lands_at j' (slot j) (omega arith) e).1, (lands_at j (slot j) (omega arith) refl).1))
          (omega (arith, length_made)) s l)

      -- a firing writes to slots only
      pub fire_written : Written W st (do_fire A st p)
      unfolding after
      fire_written =
          subst (λ (st' : List ℕ). Written W st st') (sym after_is) (more_written W st₁ st₁_long (fired p) there refl st₁_written)

      -- it counts one more firing
      pub fire_more : OneMore (counts_of A st) (counts_of A (do_fire A st p)) (fire p)
      unfolding after
      fire_more =
          subst (λ (st' : List ℕ). OneMore (counts_of A st) (counts_of A st') (fire p)) (sym after_is)
          (one_more W st₁ st₁_long (fired p) there refl (fire p) refl st
          (λ d. st₁_other (counter d) (λ s l e. omega (arith, ap sort e, counter_sort d, slot_sort s))))

      past : (d : Slot) → 3 < sort d → view A after d ≡ view A st₁ d
      unfolding after
      past d n = more_other W st₁ st₁_long (fired p) there refl d (λ e. omega (arith, ap sort e))

      -- at a stop of p: what it uses gets the new value, the other of hand and keep stays
      firing : (q k : ℕ) → k < stops_on A q → process_on A q k ≡ p → (v : ℕ) → get_or made (stream_on A q) 0 ≡ v
          → Firing (view A st (hand q k)) (view A st (kept q k)) v (view A after (hand q k)) (view A after (kept q k))
          (kind_of (stop_at A q k).keeps)
      firing q k l e v m = go (stop_at A q k).keeps refl
        where
          o : (stream_on A q < stream_count A) × (pipe_through A p (stream_on A q) ≡ q) × (place_at A p (stream_on A q) ≡ k)
          o = subst (λ (p : ℕ). (stream_on A q < stream_count A) × (pipe_through A p (stream_on A q) ≡ q)
              × (place_at A p (stream_on A q) ≡ k)) e
              (port_is W q k l)

          used : view A after (own q k) ≡ v
          used =
              past (own q k) (chosen_sort q k (stop_at A q k).keeps).0
              ∙ ap (view A st₁) (ap₂ own (sym o.1) (sym o.2))
              ∙ st₁_there (stream_on A q) o.0
              ∙ m

          left : (d : Slot) → first d ≡ q → second d ≡ k → 3 < sort d → (own q k ≡ d → ⊥) → view A after d ≡ view A st d
          left d u w r n = past d r ∙ st₁_other d (λ s l e. n (ap₂ own (sym u) (sym w) ∙ lands s d e))

          go : (b : Bool) → (stop_at A q k).keeps ≡ b
              → Firing (view A st (hand q k)) (view A st (kept q k)) v (view A after (hand q k)) (view A after (kept q k)) (kind_of b)
          go true i =
              let c : own q k ≡ kept q k = ap (chosen q k) i in
              keep_used (ap (view A after) (sym c) ∙ used)
              (left (hand q k) refl refl (omega arith) (λ j. omega (arith, ap sort (sym c ∙ j))))
          go false i =
              let c : own q k ≡ hand q k = ap (chosen q k) i in
              hand_used (ap (view A after) (sym c) ∙ used)
              (left (kept q k) refl refl (omega arith) (λ j. omega (arith, ap sort (sym c ∙ j))))

      idle : (q k : ℕ) → (process_on A q k ≡ p → ⊥) → (d : Slot) → first d ≡ q → second d ≡ k → 3 < sort d → view A after d ≡ view A st d
      idle q k n d u w r = past d r ∙ st₁_other d (λ s l e. n (ap₂ (process_on A) (sym u) (sym w) ∙ (lands_at s d l e).0))

      -- the firing, new values being by stream what the body makes
      pub fire_fires : (out : ℕ → ℕ → ℕ) (new : ℕ → ℕ → ℕ)
          → ((q k : ℕ) → k < stops_on A q → process_on A q k ≡ p
          → get_or (body_at A (instance_at A p (read A st (Firings p)))
          (map (λ s. view A st (chosen (pipe_through A p s) (place_at A p s) (keeps_at A p s)))
          (numbers (stream_count A)))) (stream_on A q) 0 ≡ new q k)
          → Fires (net_of A) (ranked_of W) (counts_of A st) p (words_of A st out) (words_of A (do_fire A st p) out) new
      unfolding made found
      fire_fires out new m =
          subst (λ (st' : List ℕ). Fires (net_of A) (ranked_of W) (counts_of A st) p (words_of A st out) (words_of A st' out) new)
          (sym after_is)
          (record {
            fired = λ q k l e. firing q k l e (new q k) (m q k l e);
            idle = λ q k l n. (idle q k n (hand q k) refl refl (omega arith), idle q k n (kept q k) refl refl (omega arith));
            links = λ q k i. past (place q k i) (omega arith) ∙ st₁_other (place q k i) (λ s l e. omega (arith, ap sort e, slot_sort s));
            outs = λ q i. refl;
          })
