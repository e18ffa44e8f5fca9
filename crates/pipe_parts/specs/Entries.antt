-- An entry of a pipe by the lanes: a process that is the entry of its own line, on which somebody computes. Assumes nothing.
use Rattle.std.specs.Prelude.{◌≡◌, refl, Bool, true, false, not, cond, List, [], ◌∷◌, ℕ, suc, ◌+◌, eqb, length, get_or, pos, neg_ℤ}
use Rattle.std.proofs.Common.{sym, ◌∙◌, ap, subst, arith, eq-eqb, ne_eqb, eqb-true}
use Rattle.integers.specs.Vectors.{zero2, shift2}
use Rattle.integers.specs.declared.V2.{V2}
use Rattle.meaning.specs.Lists.{filter, any}
use Rattle.meaning.specs.Space.{row_index, space, computing}
use Rattle.meaning.specs.Streams.{move}
use Rattle.meaning.specs.Pipes.{reach, pipe, before, is_entry, is_pipe}
use Rattle.geometry.specs.Numbers.{zero_shift}
use Rattle.geometry.specs.RowOrder.{row_number}
use Rattle.geometry.specs.Elements.{entry_is, entry_before}
use Rattle.geometry.specs.Positions.{pipe_length}
use Rattle.geometry.specs.Arrays.{one_number}
use Rattle.layout.specs.Spans.{process_of}
use Rattle.survey.specs.declared.Flow.{Flow}
use Rattle.pipes.specs.Elements.{Near, good, inside, held_there}

-- somebody passes
some_filter : {A : Type 0} (g : A → Bool) (l : List A) → any g l ≡ not (eqb (length (filter g l)) 0)
unfolding filter any
some_filter g [] = refl
some_filter g (x ∷ l) = go (g x) (some_filter g l)
  where
    go : (b : Bool) → any g l ≡ not (eqb (length (filter g l)) 0)
        → cond b true (any g l) ≡ not (eqb (length (cond b (x ∷ filter g l) (filter g l))) 0)
    go true e = sym (ap not (ne_eqb (suc (length (filter g l))) 0 (λ z. omega arith)))
    go false e = e

module _ {f : Flow} {spans lanes : List ℕ} {p : ℕ} (h : Near f spans lanes p) where
  abbrev y : V2
  y = process_of f.nest p

  -- it is the entry of its own line
  own : get_or lanes p 0 ≡ p → before f.nest f.stream y ≡ 0
  own e =
      let k = sym (h.seen.of_lanes.entries p h.lt) ∙ e ∙ sym (row_number (space f.nest) p zero2 h.lt) in
      let q = one_number (space f.nest) (entry_is (good h) (inside h)).inside (inside h) k in
      subst (λ (z : V2). before f.nest f.stream z ≡ 0) q (entry_is (good h) (inside h)).zero

  back : before f.nest f.stream y ≡ 0 → get_or lanes p 0 ≡ p
  back e =
      h.seen.of_lanes.entries p h.lt
      ∙ ap (λ (k : ℕ). row_index (space f.nest) (shift2 y (neg_ℤ (pos k)) (move f.nest f.stream))) e
      ∙ ap (row_index (space f.nest)) (zero_shift y (move f.nest f.stream)) ∙ row_number (space f.nest) p zero2 h.lt

  -- the test of the code: nobody stands before it, or somebody does
  pub none_before : {e : ℕ} → e ≡ get_or lanes p 0 → e ≡ p → eqb (before f.nest f.stream y) 0 ≡ true
  none_before r e = eq-eqb (before f.nest f.stream y) 0 (own (sym r ∙ e))

  pub one_before : {e : ℕ} → e ≡ get_or lanes p 0 → (e ≡ p → ⊥) → eqb (before f.nest f.stream y) 0 ≡ false
  one_before r g = ne_eqb (before f.nest f.stream y) 0 (λ z. g (r ∙ back z))

  pub entry_test : {e : ℕ} → e ≡ get_or lanes p 0 → e ≡ p → is_entry f.nest f.stream y ≡ true
  entry_test r e = entry_before (good h) (inside h) ∙ none_before r e

  pub no_entry : {e : ℕ} → e ≡ get_or lanes p 0 → (e ≡ p → ⊥) → is_entry f.nest f.stream y ≡ false
  no_entry r g = entry_before (good h) (inside h) ∙ one_before r g

  pub pipe_test : {k : ℕ} → k ≡ get_or lanes (2048 + get_or lanes p 0) 0 → not (eqb k 0) ≡ is_pipe f.nest f.stream y
  pipe_test e = ap (λ (k : ℕ). not (eqb k 0)) (e ∙ held_there h) ∙ sym (some_filter (computing f.nest) (pipe f.nest f.stream y))

  -- and its pipe goes on from it
  pub entry_length : {k : ℕ} → is_entry f.nest f.stream y ≡ true → k ≡ reach (space f.nest) (move f.nest f.stream) y
      → k + 2 ≡ suc (length (pipe f.nest f.stream y))
  entry_length e r =
      omega (arith, pipe_length (good h) y, eqb-true (before f.nest f.stream y) 0 (sym (entry_before (good h) (inside h)) ∙ e))
