-- The finish: a list of granted steps from a cleared memory that brings all values out leaves every count at its total and every place,
-- hand and keep 0, whatever their order. Assumes nothing.
use Rattle.std.specs.Prelude.{◌≡◌, refl, true, List, map, length, take}
use Rattle.std.proofs.Common.{sym, ◌∙◌, le_refl}
use Rattle.std.proofs.Math.Path.{ap}
use Prim.Native.Nat.{ℕ, suc, ◌-◌, ◌≤◌}
use native.Mathlib.Omega.{arith}
use Rattle.meaning.specs.Array.{Array, Pipe, count_at, pipe_number, stops_on, elements_on, pipe_through}
use Rattle.meaning.specs.State.{Word, Firings, Taken, Given, Hand, Keep, Place, Sent, Received, End, index, word_count, words, read}
use Rattle.meaning.specs.Rules.{total_of, Memory, apply_all}
use Rattle.meaning.specs.declared.Step.{Step as RuleStep}
use Rattle.abstract_network.specs.Cases.{Order, less, at_least, order}
use Rattle.abstract_network.specs.Counters.{fire, all_put, all_get}
use Rattle.abstract_network.specs.Claims.{Out, done, finish_link, finish_stop}
use Rattle.network.specs.Layout.{Live}
use Rattle.network.proofs.Places.{layout}
use Rattle.network.specs.WordOrder.{words_read, same_words}
use Rattle.network.specs.Wiring.{net_of, Wired, no_pipe_lem, shape}
use Rattle.network.proofs.Programs.{system_of}
use Rattle.network.specs.Slots.{Slot, sent, taken, given, fired, hand, kept, place, Has, has, view, view_is, slot_of, on, word_slot}
use Rattle.network.specs.Slots.{no_slot, counts_of}
use Rattle.network.specs.Decide.{said}
use Rattle.network.proofs.Links.{Written, written_past}
use Rattle.network.specs.Runs.{Grants, all_done}
use Rattle.network.proofs.Runs.{Cleared, Reached, good_of}
use Rattle.network.proofs.Outcome.{reached_of, says_out}
use Rattle.network.proofs.Kept as Kept

module _ (A : Array) where
  -- every count is its total, every place, hand and keep 0
  abbrev pub final_word : Slot → ℕ
  final_word (sent q) = elements_on A q
  final_word (taken q k) = elements_on A q
  final_word (given q k) = elements_on A q
  final_word (fired p) = count_at A p
  final_word (hand q k) = 0
  final_word (kept q k) = 0
  final_word (place q k i) = 0

  total_is : (w : Word) → final_word (slot_of A w) ≡ total_of A w
  total_is (Firings p) = refl
  total_is (Taken p s) = refl
  total_is (Given p s) = refl
  total_is (Hand p s) = refl
  total_is (Keep p s) = refl
  total_is (Place p s i) = refl
  total_is (Sent q) = refl
  total_is (Received q) = refl
  total_is (End q i) = refl

  -- a count without a pipe has total 0
  no_elements : (q : ℕ) → pipe_number A ≤ q → elements_on A q ≡ 0
  no_elements q h = ap (λ (r : Pipe). length r.elements) (no_pipe_lem A q h)

  no_total : (w : Word) → Live A w → (Has A (slot_of A w) → ⊥) → total_of A w ≡ 0
  no_total (Firings p) h n = absurd (n h)
  no_total (Taken p s) h n = go (order (pipe_through A p s) (pipe_number A))
    where
      go : Order (pipe_through A p s) (pipe_number A) → elements_on A (pipe_through A p s) ≡ 0
      go (less l) = absurd (n (l, omega (arith, (on A p s l).place_lt)))
      go (at_least l) = no_elements (pipe_through A p s) l
  no_total (Given p s) h n = go (order (pipe_through A p s) (pipe_number A))
    where
      go : Order (pipe_through A p s) (pipe_number A) → elements_on A (pipe_through A p s) ≡ 0
      go (less l) = absurd (n (on A p s l).place_lt)
      go (at_least l) = no_elements (pipe_through A p s) l
  no_total (Hand p s) h n = refl
  no_total (Keep p s) h n = refl
  no_total (Place p s i) h n = refl
  no_total (Sent q) h n = absurd (n h)
  no_total (Received q) h n = absurd (n (h, le_refl (stops_on A q)))
  no_total (End q i) h n = refl

module _ {A : Array} (W : Wired A) (values : List ℕ) where
  -- what a slot has when all values are out
  pub final_word_lem : {t : ℕ} {M : Memory} → Reached W values t M → Out (system_of W values) (counts_of A M.state)
      → (a : Slot) → Has A a → view A M.state a ≡ final_word A a
  unfolding Out
  final_word_lem {M = M} R o (sent q) h = all_put (net_of A) (good_of W values R).inv (shape W) q (o q) (stops_on A q) 0 (omega arith)
  final_word_lem {M = M} R o (taken q k) h = go (order k (stops_on A q))
    where
      go : Order k (stops_on A q) → view A M.state (taken q k) ≡ elements_on A q
      go (less m) = (all_get (net_of A) (good_of W values R).inv (shape W) q (o q) k m).0
      go (at_least m) = let e : k ≡ stops_on A q = omega arith in ap (λ (k : ℕ). view A M.state (taken q k)) e ∙ o q
  final_word_lem {M = M} R o (given q k) h =
      all_put (net_of A) (good_of W values R).inv (shape W) q (o q) (stops_on A q - suc k) (suc k) (omega arith)
  final_word_lem {M = M} R o (fired p) h = go (order (view A M.state (fired p)) (count_at A p))
    where
      go : Order (view A M.state (fired p)) (count_at A p) → view A M.state (fired p) ≡ count_at A p
      go (less m) = absurd (done (system_of W values) (good_of W values R) W.has_stream o (fire p) m)
      go (at_least m) = omega (arith, (good_of W values R).inv.fires p)
  final_word_lem R o (hand q k) h = (finish_stop (system_of W values) (good_of W values R) o q k h).0
  final_word_lem R o (kept q k) h = (finish_stop (system_of W values) (good_of W values R) o q k h).1
  final_word_lem R o (place q k i) (h, l, r) = finish_link (system_of W values) (good_of W values R) o q k i l

  -- a word of a slot has what the slot has; others are never written, and have no total
  module _ (M₀ : Memory) (C : Cleared W values M₀) (l : List RuleStep) (G : Grants A M₀ l) (out : all_done A l ≡ true) where
    abbrev st : List ℕ
    st = (apply_all A M₀ l).state

    written : Written W M₀.state st
    written = (Kept.kept W C.fit.long (Kept.cleared_sound W values M₀ C) G).written

    word_final : (w : Word) → Live A w → read A st w ≡ total_of A w
    word_final w h = go (has A (slot_of A w))
      where
        go : Dec (Has A (slot_of A w)) → read A st w ≡ total_of A w
        go (yes k) =
            ap (read A st) (sym (word_slot A w k))
            ∙ sym (view_is A st (slot_of A w) k)
            ∙ final_word_lem (reached_of W values M₀ C l G) (said (says_out W values M₀ C l G) out) (slot_of A w) k
            ∙ total_is A w
        go (no n) =
            written_past W written w h (no_slot A W w n)
            ∙ C.state (index A w) ((layout A).below w h)
            ∙ sym (no_total A w h n)

    -- the words of the finish
    pub finish_words : take (word_count A) st ≡ map (total_of A) (words A)
    finish_words =
        words_read A st (omega (arith, (reached_of W values M₀ C l G).fit.long))
        ∙ same_words A (read A st) (total_of A) word_final
