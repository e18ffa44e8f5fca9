-- Writing the word of a slot changes no other slot. Assumes nothing.
use Rattle.std.specs.Prelude.{◌≡◌, List, ℕ, ◌≤◌, length}
use Rattle.std.proofs.Common.{sym, ◌∙◌, ap}
use Rattle.meaning.specs.Array.{Array}
use Rattle.meaning.specs.State.{word_count, write}
use Rattle.network.proofs.Places.{read_same, read_other}
use Rattle.network.specs.Wiring.{Wired}
use Rattle.network.specs.Slots.{Slot, Has, has, word_of, word_live, slot_word, slot_of, view, view_is, view_none}

module _ (A : Array) where
  module _ (W : Wired A) where
    -- ---- reading after writing

    pub view_same : (st : List ℕ) (a : Slot) (v : ℕ) → word_count A ≤ length st → Has A a → view A (write A st (word_of A a) v) a ≡ v
    view_same st a v l h = view_is A (write A st (word_of A a) v) a h ∙ read_same A st (word_of A a) v l (word_live A W a h)

    -- and every other slot what it had
    pub view_other : (st : List ℕ) (a b : Slot) (v : ℕ) → Has A a → (a ≡ b → ⊥) → view A (write A st (word_of A a) v) b ≡ view A st b
    view_other st a b v h n = go (has A b)
      where
        go : Dec (Has A b) → view A (write A st (word_of A a) v) b ≡ view A st b
        go (yes l) =
            view_is A (write A st (word_of A a) v) b l
            ∙ read_other A st (word_of A a) (word_of A b) v (word_live A W a h) (word_live A W b l)
            (λ e. n (sym (slot_word A W a h) ∙ ap (slot_of A) e ∙ slot_word A W b l))
            ∙ sym (view_is A st b l)
        go (no m) = view_none A (write A st (word_of A a) v) b m ∙ sym (view_none A st b m)
