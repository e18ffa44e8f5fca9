-- The call's own refusals, and what it answers and leaves. Assumes nothing.
use Rattle.std.specs.Prelude.{◌≡◌, refl, cond, List, ◌++◌, ℕ, ◌≤◌, eqb, length, drop, replicate}
use Rattle.std.proofs.Common.{sym, ◌∙◌, ap}
use Rattle.std.proofs.Math.Path.{subst}
use borrow.Author.Tests.{ne_eqb}
use Rattle.integers.specs.Fill.{fill_by}
use Rattle.meaning.specs.declared.Description.{Description}
use Rattle.meaning.specs.declared.Figures.{Figures}
use Rattle.meaning.specs.declared.Limits.{Limits}
use Rattle.meaning.specs.Answers.{Answer, Done, Refused}
use Rattle.meaning.specs.Tests.{refusal}
use Rattle.meaning.specs.Description.{description_of}
use Rattle.meaning.specs.Body.{gather}
use Rattle.meaning.specs.Array.{array_of, pipe_order}
use Rattle.meaning.specs.Rules.{Memory, memory_of}
use Rattle.meaning.specs.Accept.{refusal_of, figures}
use Rattle.meaning.specs.Calls.{length_of, state_length, answer, start}
use Rattle.declines.specs.Tests.{start_lengths, start_fits}
use Rattle.figures.specs.Shares.{elements_most_lem}
use Rattle.element_places.specs.Order.{PlacesOf, Placeable}
use Rattle.lists.specs.Fills.{fill_one}
use Rattle.start.specs.Values.{Puttable, put, puttable, gathered, cleared_all}

-- what the call leaves where nothing is refused
abbrev pub started_by : Description → List ℕ → Memory → Memory
started_by d values M =
    record {
      waiting = gather values (pipe_order (array_of d));
      received = replicate (length_of d) 0;
      state = replicate (state_length d) 0 ++ drop (state_length d) M.state;
    }

-- the call's own refusal
abbrev pub own_refusal : Description → List ℕ → Memory → ℕ
own_refusal d values M =
    refusal (start_lengths (length_of d) (state_length d) (length values) (length M.waiting) (length M.received) (length M.state))

-- what it answers and leaves once its description is accepted
pub record Called (d : Description) (values : List ℕ) (M : Memory) (r : Answer) (M' : Memory) : Type 0 where
  pub answers : r ≡ answer (own_refusal d values M)
  pub leaves : M' ≡ cond (eqb (own_refusal d values M) 0) (started_by d values M) M

-- lists of the lengths that it asks for
pub record Fitting (d : Description) (f : Figures) (values : List ℕ) (M : Memory) : Type 0 where
  pub placeable : Placeable d
  pub figured : f ≡ figures d
  pub given : length values ≡ length_of d
  pub waiting : length M.waiting ≡ length_of d
  pub received : length M.received ≡ length_of d
  pub state : state_length d ≤ length M.state

-- the three lists filled
module _ {d : Description} {f : Figures} {values : List ℕ} {M : Memory} (h : Fitting d f values M) where
  pub elements_is : f.elements ≡ length_of d
  elements_is = ap (λ (f : Figures). f.elements) h.figured

  pub words_is : f.words ≡ state_length d
  words_is = ap (λ (f : Figures). f.words) h.figured

  pub putting : {places : List ℕ} → PlacesOf d places → 24576 ≤ length places → Puttable values places M.waiting
  putting of l = puttable h.placeable.laid of values M.waiting h.given h.waiting l (elements_most_lem h.placeable.described)

  pub memory_filled : {places waiting received state : List ℕ} → PlacesOf d places
      → waiting ≡ put values places (length values) M.waiting
      → received ≡ fill_by (λ p. 0) f.elements M.received → state ≡ fill_by (λ p. 0) f.words M.state
      → memory_of waiting received state ≡ started_by d values M
  memory_filled {places} {waiting} {received} {state} of w r s =
      let a : waiting ≡ gather values (pipe_order (array_of d)) = gathered h.placeable.laid of values M.waiting
      h.given h.waiting w in
      let b : received ≡ replicate (length_of d) 0 =
      r ∙ ap (λ (k : ℕ). fill_by (λ p. 0) k M.received) elements_is ∙ cleared_all (length_of d) M.received h.received in
      let c : state ≡ replicate (state_length d) 0 ++ drop (state_length d) M.state =
      s ∙ ap (λ (k : ℕ). fill_by (λ p. 0) k M.state) words_is ∙ fill_one 0 (state_length d) M.state h.state in
      λ i. record { waiting = a i; received = b i; state = c i }

module _ (d : Description) {f : Figures} (e : f ≡ figures d) (values : List ℕ) (M : Memory) {n : ℕ}
    (r : n ≡ refusal
    (start_lengths f.elements f.words (length values) (length M.waiting) (length M.received) (length M.state))) where
  own : n ≡ own_refusal d values M
  own =
      r
      ∙ ap (λ (f : Figures).
      refusal (start_lengths f.elements f.words (length values) (length M.waiting) (length M.received) (length M.state))) e

  -- none of them applies
  pub fitting : Placeable d → n ≡ 0 → Fitting d f values M
  fitting h z =
      let l = start_fits (length_of d) (state_length d) _ _ _ _ (sym own ∙ z) in
      record { placeable = h; figured = e; given = l.0; waiting = l.1; received = l.2; state = l.3 }

  pub call_done : n ≡ 0 → {M' : Memory} → M' ≡ started_by d values M → Called d values M Done M'
  call_done z g = let q = sym own ∙ z in record { answers = rw q refl; leaves = rw q g }

  pub call_refused : (n ≡ 0 → ⊥) → Called d values M (Refused n) M
  call_refused g = let q = ne_eqb n 0 g in record { answers = rw (← own, q) refl; leaves = rw (← own, q) refl }

-- the whole call
module _ (l : Limits) (s values : List ℕ) (M : Memory) {n : ℕ} (e : n ≡ refusal_of l s) where
  pub accepted_call : {d : Description} {r : Answer} {M' : Memory} → n ≡ 0 → d ≡ description_of s → Called d values M r M'
      → (r ≡ (start l s values M).answer) × (M' ≡ (start l s values M).memory)
  unfolding start
  accepted_call {r} {M'} z g h = let c = subst (λ (d : Description). Called d values M r M') g h in rw (← e, z) (c.answers, c.leaves)

  pub refused_call : (n ≡ 0 → ⊥)
      → (Refused n ≡ (start l s values M).answer) × (M ≡ (start l s values M).memory)
  unfolding start
  refused_call f = rw (← e, ne_eqb n 0 f, ne_eqb n 0 f) (refl, refl)
