-- The table as it is filled, rank by rank. Assumes nothing.
use Rattle.std.specs.Prelude.{◌≡◌, refl, Bool, true, false, List, ℕ, suc, ◌+◌, ◌≤◌, ◌<◌, eqb, length, get_or, set, replicate}
use Rattle.std.proofs.Common.{sym, ◌∙◌, ap, arith, length-set, get_or-set_same, get_or-set_other, eqb-true}
use Rattle.std.proofs.lemmas.List.{length-replicate}
use Rattle.std.proofs.lemmas.Bool.{eqb-false}
use Rattle.meaning.specs.Limits.{state_words_most}
use Rattle.lists.specs.Stores.{replicated}
use Rattle.port_table.specs.declared.Size.{Size}
use Rattle.step_order.specs.Ranks.{rank_count}
use Rattle.wakeups.specs.Wakeups.{none, foreign_by, Apart, WakeupsOf}

-- the ranks below k are in it
pub record Filled (b : List ℕ) (z : Size) (k : ℕ) (w : List ℕ) : Type 0 where
  pub words : length w ≡ 1 + state_words_most
  pub ranks : (i : ℕ) → get_or w i 0 ≤ k
  pub wakes : (r : ℕ) → r < k → foreign_by b z r < none → get_or w (foreign_by b z r) 0 ≡ suc r

module _ (b : List ℕ) (z : Size) where
  pub filled_none : {w : List ℕ} → w ≡ replicate (1 + state_words_most) 0 → Filled b z 0 w
  filled_none e =
      rw e (record {
        words = length-replicate {A = ℕ} (1 + state_words_most) 0;
        ranks = λ i. omega (arith, replicated {X = ℕ} 0 (1 + state_words_most) i);
        wakes = λ r h l. absurd (omega arith);
      })

  pub filled_next : {k : ℕ} {w : List ℕ} (i v : ℕ) → Apart b z → k < rank_count z → i ≡ foreign_by b z k → i ≤ none → v ≡ k + 1
      → Filled b z k w → Filled b z (k + 1) (set w i v)
  filled_next {k} {w} i v a h e l d f =
      record {
        words = length-set w i v ∙ f.words;
        ranks = λ j. rank j (eqb j i) refl;
        wakes = λ r m o. wakeups r m o (eqb (foreign_by b z r) i) refl;
      }
    where
      here : get_or (set w i v) i 0 ≡ v
      here = get_or-set_same w i v 0 (omega (arith, f.words))

      rank : (j : ℕ) (t : Bool) → eqb j i ≡ t → get_or (set w i v) j 0 ≤ k + 1
      rank j true t = let g : get_or (set w i v) j 0 ≡ v = ap (λ (j : ℕ). get_or (set w i v) j 0) (eqb-true j i t) ∙ here in omega arith
      rank j false t = omega (arith, get_or-set_other w i j v 0 (eqb-false j i t), f.ranks j)

      wakeups : (r : ℕ) → r < k + 1 → foreign_by b z r < none → (t : Bool) → eqb (foreign_by b z r) i ≡ t
          → get_or (set w i v) (foreign_by b z r) 0 ≡ suc r
      wakeups r m o true t =
          let g : foreign_by b z r ≡ i = eqb-true (foreign_by b z r) i t in
          let u : r ≡ k = a r k (omega arith) h o (g ∙ e) in
          ap (λ (j : ℕ). get_or (set w i v) j 0) g ∙ here ∙ omega arith
      wakeups r m o false t =
          let n = eqb-false (foreign_by b z r) i t in
          let u : r ≡ k → ⊥ = λ u. n (ap (foreign_by b z) u ∙ sym e) in
          get_or-set_other w i (foreign_by b z r) v 0 n ∙ f.wakes r (omega arith) o

  pub filled_all : {k : ℕ} {w : List ℕ} → k ≡ rank_count z → Filled b z k w → WakeupsOf b z w
  filled_all e f = record { words = f.words; ranks = λ i. omega (arith, f.ranks i); wakes = λ r h o. f.wakes r (omega arith) o }
