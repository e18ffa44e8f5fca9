-- The stores of the rules on a state: what they write and what they leave. Putting into a link, taking the oldest out of it, counting.
-- Assumes nothing.
use Rattle.std.specs.Prelude.{◌≡◌, refl, List, length}
use Rattle.std.proofs.Common.{sym, ◌∙◌, ap, subst, le_refl}
use Prim.Native.Nat.{ℕ, zero, suc, ◌+◌, ◌-◌, ◌≤◌, ◌<◌}
use native.Mathlib.Omega.{arith}
use Rattle.meaning.specs.Array.{Array, pipe_number, pipe_at, stops_on}
use Rattle.meaning.specs.State.{Word, word_count, read, write}
use Rattle.meaning.specs.Rules.{link_place, fill, move_down, without_oldest, increase}
use Rattle.abstract_network.specs.Cases.{Order, less, at_least, order, Equal, same, other, equal}
use Rattle.abstract_network.specs.Counters.{Step, put, get, fire, OneMore}
use Rattle.network.specs.Layout.{Live}
use Rattle.network.proofs.Places.{length_write, read_other}
use Rattle.network.specs.Wiring.{Wired}
use Rattle.network.specs.Slots.{Slot, sent, taken, given, fired, hand, kept, place, sort, third, counter, Has, word_of, word_live}
use Rattle.network.specs.Slots.{view, view_is, counts_of}
use Rattle.network.proofs.Slots.{view_same, view_other}

-- ---- counters

-- the step that a slot counts
abbrev counted : Slot → Step
counted (sent q) = put q 0
counted (taken q k) = get q k
counted (given q k) = put q (suc k)
counted (fired p) = fire p
counted (hand q k) = fire 0
counted (kept q k) = fire 0
counted (place q k i) = fire 0

counted_counter : (a : Step) → counted (counter a) ≡ a
counted_counter (put q zero) = refl
counted_counter (put q (suc k)) = refl
counted_counter (get q k) = refl
counted_counter (fire p) = refl

-- different steps have different counters, and a counter is no hand, keep or place
pub counter_apart : {a b : Step} → (a ≡ b → ⊥) → counter a ≡ counter b → ⊥
counter_apart {a} {b} n e = n (sym (counted_counter a) ∙ ap counted e ∙ counted_counter b)

pub counter_sort : (a : Step) → sort (counter a) < 4
counter_sort (put q zero) = omega arith
counter_sort (put q (suc k)) = omega arith
counter_sort (get q k) = omega arith
counter_sort (fire p) = omega arith

module _ {A : Array} (W : Wired A) where
  -- ---- a state written to in some slots

  pub data Written (st : List ℕ) : List ℕ → Type 0 where
    nothing : Written st st
    also : {st' : List ℕ} → Written st st' → (a : Slot) (v : ℕ) → Has A a → Written st (write A st' (word_of A a) v)

  pub written_length : {st st' : List ℕ} → Written st st' → length st' ≡ length st
  written_length nothing = refl
  written_length (also {st'} w a v h) = length_write A st' (word_of A a) v ∙ written_length w

  -- a word that is no slot's is left
  pub written_past : {st st' : List ℕ} → Written st st' → (u : Word) → Live A u → ((a : Slot) → Has A a → word_of A a ≡ u → ⊥)
      → read A st' u ≡ read A st u
  written_past nothing u l n = refl
  written_past (also {st'} w a v h) u l n = read_other A st' (word_of A a) u v (word_live A W a h) l (n a h) ∙ written_past w u l n

  -- ---- a slot counted: a gets one more; w is its word

  module _ (st : List ℕ) (long : word_count A ≤ length st) (a : Slot) (ha : Has A a) {w : Word} (e : word_of A a ≡ w) where
    pub more_same : view A (increase A st w) a ≡ suc (view A st a)
    more_same =
        subst (λ (w : Word). view A (increase A st w) a ≡ suc (view A st a)) e
        (view_same A W st a (suc (read A st (word_of A a))) long ha ∙ ap suc (sym (view_is A st a ha)))

    pub more_other : (b : Slot) → (a ≡ b → ⊥) → view A (increase A st w) b ≡ view A st b
    more_other b n =
        subst (λ (w : Word). view A (increase A st w) b ≡ view A st b) e (view_other A W st a b (suc (read A st (word_of A a))) ha n)

    pub more_written : {st₀ : List ℕ} → Written st₀ st → Written st₀ (increase A st w)
    more_written {st₀} z = subst (λ (w : Word). Written st₀ (increase A st w)) e (also z a (suc (read A st (word_of A a))) ha)

    -- where no counter changed before it, the rule counts one more of a's step
    pub one_more : (b : Step) → a ≡ counter b → (st₀ : List ℕ) → ((d : Step) → view A st (counter d) ≡ view A st₀ (counter d))
        → OneMore (counts_of A st₀) (counts_of A (increase A st w)) b
    one_more b f st₀ g =
        record {
          up = subst (λ (a : Slot). view A (increase A st w) a ≡ suc (view A st a)) f more_same ∙ ap suc (g b);
          rest = λ d n. more_other (counter d) (λ i. counter_apart n (sym f ∙ i)) ∙ g d;
        }

  -- ---- one slot written before: t, whose word is u, gets v, then a one more

  module _ (st : List ℕ) (long : word_count A ≤ length st) (t : Slot) (ht : Has A t) {u : Word} (d : word_of A t ≡ u) (v : ℕ)
      (a : Slot) (ha : Has A a) {w : Word} (e : word_of A a ≡ w) where
    still_long : word_count A ≤ length (write A st u v)
    still_long = omega (arith, length_write A st u v)

    left : (b : Slot) → (t ≡ b → ⊥) → view A (write A st u v) b ≡ view A st b
    left b n = subst (λ (u : Word). view A (write A st u v) b ≡ view A st b) d (view_other A W st t b v ht n)

    pub set_there : (a ≡ t → ⊥) → view A (increase A (write A st u v) w) t ≡ v
    set_there n =
        more_other (write A st u v) still_long a ha e t n
        ∙ subst (λ (u : Word). view A (write A st u v) t ≡ v) d (view_same A W st t v long ht)

    pub set_other : (b : Slot) → (t ≡ b → ⊥) → (a ≡ b → ⊥) → view A (increase A (write A st u v) w) b ≡ view A st b
    set_other b m n = more_other (write A st u v) still_long a ha e b n ∙ left b m

    pub set_written : {st₀ : List ℕ} → Written st₀ st → Written st₀ (increase A (write A st u v) w)
    set_written {st₀} z =
        more_written (write A st u v) still_long a ha e (subst (λ (u : Word). Written st₀ (write A st u v)) d (also z t v ht))

    -- t being no counter, and no counter having changed before
    pub set_more : (b : Step) → a ≡ counter b → 3 < sort t → (st₀ : List ℕ) → ((d : Step) → view A st (counter d) ≡ view A st₀ (counter d))
        → OneMore (counts_of A st₀) (counts_of A (increase A (write A st u v) w)) b
    set_more b f l st₀ g =
        one_more (write A st u v) still_long a ha e b f st₀ (λ d. left (counter d) (λ i. omega (arith, ap sort i, counter_sort d)) ∙ g d)

  -- ---- the oldest goes out: places i to i + n of link k of pipe q move down

  module _ (q k : ℕ) (h : q < pipe_number A) (l : k ≤ stops_on A q) where
    move_written : (n i : ℕ) {st st' : List ℕ} → i + n < (pipe_at A q).hop → Written st st' → Written st (move_down A st' q k i n)
    unfolding move_down
    move_written zero i r w = also w (place q k i) 0 (h, l, omega arith)
    move_written (suc n) i {st} {st'} r w =
        move_written n (suc i) (omega arith) (also w (place q k i) (read A st' (link_place A q k (suc i))) (h, l, omega arith))

    move_other : (n i : ℕ) (st : List ℕ) → i + n < (pipe_at A q).hop → (b : Slot) → ((j : ℕ) → i ≤ j → j ≤ i + n → place q k j ≡ b → ⊥)
        → view A (move_down A st q k i n) b ≡ view A st b
    unfolding move_down
    move_other zero i st r b f = view_other A W st (place q k i) b 0 (h, l, omega arith) (f i (le_refl i) (omega arith))
    move_other (suc n) i st r b f =
        move_other n (suc i) (write A st (link_place A q k i) (read A st (link_place A q k (suc i)))) (omega arith) b
        (λ j u v. f j (omega arith) (omega arith))
        ∙ view_other A W st (place q k i) b (read A st (link_place A q k (suc i))) (h, l, omega arith) (f i (le_refl i) (omega arith))

    move_down_lem : (n i : ℕ) (st : List ℕ) → word_count A ≤ length st → i + n < (pipe_at A q).hop → (j : ℕ) → i ≤ j → j < i + n
        → view A (move_down A st q k i n) (place q k j) ≡ view A st (place q k (suc j))
    unfolding move_down
    move_down_lem zero i st z r j u v = absurd (omega arith)
    move_down_lem (suc n) i st z r j u v =
        go (order i j) (move_down_lem n (suc i) st₁ (omega (arith, length_write A st (link_place A q k i) x)) (omega arith)
        j)
      where
        x : ℕ
        x = read A st (link_place A q k (suc i))

        st₁ : List ℕ
        st₁ = write A st (link_place A q k i) x

        here : view A st₁ (place q k i) ≡ view A st (place q k (suc i))
        here = view_same A W st (place q k i) x z (h, l, omega arith) ∙ sym (view_is A st (place q k (suc i)) (h, l, omega arith))

        go : Order i j → (suc i ≤ j → j < suc i + n → view A (move_down A st₁ q k (suc i) n) (place q k j) ≡ view A st₁ (place q k (suc j)))
            → view A (move_down A st₁ q k (suc i) n) (place q k j) ≡ view A st (place q k (suc j))
        go (less o) ih = ih o (omega arith) ∙ view_other A W st (place q k i) (place q k (suc j)) x (h, l, omega arith)
            (λ e. omega (arith, ap third e))
        go (at_least o) ih =
            let e : j ≡ i = omega arith in
            move_other n (suc i) st₁ (omega arith) (place q k j) (λ j' a b d. omega (arith, ap third d))
            ∙ ap (λ (j : ℕ). view A st₁ (place q k j)) e ∙ here ∙ ap (λ (j : ℕ). view A st (place q k (suc j))) (sym e)

    move_end : (n i : ℕ) (st : List ℕ) → word_count A ≤ length st → i + n < (pipe_at A q).hop
        → view A (move_down A st q k i n) (place q k (i + n)) ≡ 0
    unfolding move_down
    move_end zero i st z r = let e : i + 0 ≡ i = omega arith in rw e (view_same A W st (place q k i) 0 z (h, l, omega arith))
    move_end (suc n) i st z r =
        let e : suc i + n ≡ i + suc n = omega arith in
        rw e at (move_end n (suc i) (write A st (link_place A q k i) (read A st (link_place A q k (suc i))))
        (omega (arith, length_write A st (link_place A q k i) (read A st (link_place A q k (suc i))))) (omega arith))

    module _ (st : List ℕ) (u : 0 < fill A st q k) (v : fill A st q k ≤ (pipe_at A q).hop) where
      pub oldest_written : Written st (without_oldest A st q k)
      oldest_written = move_written (fill A st q k - 1) 0 (omega arith) nothing

      pub oldest_other : (b : Slot) → ((j : ℕ) → place q k j ≡ b → ⊥) → view A (without_oldest A st q k) b ≡ view A st b
      oldest_other b f = move_other (fill A st q k - 1) 0 st (omega arith) b (λ j _ _. f j)

      -- where the places past the fill are 0, every place has what the next one had
      pub oldest_shift : word_count A ≤ length st → ((i : ℕ) → fill A st q k ≤ i → view A st (place q k i) ≡ 0)
          → (i : ℕ) → view A (without_oldest A st q k) (place q k i) ≡ view A st (place q k (suc i))
      oldest_shift z f i = go (order i (fill A st q k - 1)) (equal i (fill A st q k - 1))
        where
          go : Order i (fill A st q k - 1) → Equal i (fill A st q k - 1) → view A (without_oldest A st q k) (place q k i) ≡ view A st
              (place q k (suc i))
          go (less o) d = move_down_lem (fill A st q k - 1) 0 st z (omega arith) i (omega arith) (omega arith)
          go (at_least o) (same d) =
              let e : 0 + (fill A st q k - 1) ≡ i = omega arith in
              (rw e at (move_end (fill A st q k - 1) 0 st z (omega arith))) ∙ sym (f (suc i) (omega arith))
          go (at_least o) (other d) =
              move_other (fill A st q k - 1) 0 st (omega arith) (place q k i) (λ j a b e. d (omega (arith, ap third e)))
              ∙ f i (omega arith) ∙ sym (f (suc i) (omega arith))
