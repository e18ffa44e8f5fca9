-- The call's own refusals, and what it answers and leaves. Assumes nothing.
use Rattle.std.specs.Prelude.{◌≡◌, refl, Bool, cond, List, ◌++◌, ℕ, eqb, length}
use Rattle.std.proofs.Common.{sym, ◌∙◌, ap, ap₂, arith, ne_eqb, eqb-true}
use Rattle.std.proofs.Math.Path.{subst}
use Rattle.std.proofs.lemmas.Bool.{not-false}
use Rattle.meaning.specs.declared.Description.{Description}
use Rattle.meaning.specs.declared.Limits.{Limits}
use Rattle.meaning.specs.Answers.{Answer, Done, Refused}
use Rattle.meaning.specs.Lists.{every, numbers}
use Rattle.meaning.specs.Tests.{Test, refusal}
use Rattle.meaning.specs.Limits.{gauge_limits}
use Rattle.meaning.specs.Description.{description_of}
use Rattle.meaning.specs.Array.{array_of}
use Rattle.meaning.specs.Accept.{refusal_of}
use Rattle.meaning.specs.Rules.{Memory}
use Rattle.meaning.specs.Calls.{length_of, or_else, memory_tests, refused_by, answer, all_out, result}
use Rattle.decode.specs.Refusals.{passed}
use Rattle.declines.specs.Tests.{result_tests}
use Rattle.element_places.specs.Order.{Placeable, placeable}
use Rattle.port_table.specs.declared.Size.{Size}
use Rattle.port_table.specs.PortsOf.{SizeOf, PortsOf, RowsFit}
use Rattle.opening.specs.Opening.{Opened, grounds, own_last}
use Rattle.opening.specs.Opened.{size_of_lem, fits}
use Rattle.result.specs.Out.{out_by, all_out_lem}
use Rattle.result.specs.Order.{element_order}

-- the call's own tests
abbrev tests_of : List ℕ → List ℕ → List ℕ → List Test
tests_of s state output = result_tests (all_out gauge_limits s state) (eqb (length output) (length_of (description_of s)))

-- what it answers and leaves once nothing else is refused
pub record Called (s received state output : List ℕ) (r : Answer) (out : List ℕ) : Type 0 where
  pub answers : r ≡ answer (refusal (tests_of s state output))
  pub leaves : out ≡ cond (eqb (refusal (tests_of s state output)) 0) (element_order (description_of s) received) output

-- an accepted description, the port table of its array, and a memory that fits them
pub record Drawable (s b : List ℕ) (z : Size) (received state : List ℕ) : Type 0 where
  pub accepted : refusal_of gauge_limits s ≡ 0
  pub table : PortsOf (array_of (description_of s)) b
  pub size : SizeOf (array_of (description_of s)) z
  pub rows : RowsFit (length state) b z
  pub long : length received ≡ length_of (description_of s)

module _ {s b : List ℕ} {z : Size} {received state : List ℕ} (h : Drawable s b z received state) (output : List ℕ) {n : ℕ} {out : Bool}
    (o : out ≡ every (out_by b state) (numbers z.pipes)) (r : n ≡ refusal (result_tests out (eqb (length output) (length received)))) where
  own : n ≡ refusal (tests_of s state output)
  own =
      r
      ∙ ap₂ (λ (out : Bool) (e : ℕ). refusal (result_tests out (eqb (length output) e)))
      (o ∙ all_out_lem gauge_limits s h.table h.size state) h.long

  -- none of them applies
  module _ (none : n ≡ 0) {d : Description} (e : d ≡ description_of s) where
    pub fillable : (Placeable d) × (length received ≡ length_of d) × (length output ≡ length_of d)
    fillable =
        let p25 = passed 25 _ _ (λ g. omega arith) (sym own ∙ none) in
        let p28 = passed 28 _ _ (λ g. omega arith) p25.1 in
        let l = eqb-true (length output) (length_of (description_of s)) (not-false _ p28.0) in
        subst (λ (d : Description). (Placeable d) × (length received ≡ length_of d) × (length output ≡ length_of d)) (sym e)
        (placeable s h.accepted, h.long, l)

    pub call_done : {left : List ℕ} → left ≡ element_order d received → Called s received state output Done left
    call_done g =
        let q = sym own ∙ none in
        record { answers = rw q refl; leaves = rw q (g ∙ ap (λ (d : Description). element_order d received) e) }

  pub call_refused : (n ≡ 0 → ⊥) → Called s received state output (Refused n) output
  call_refused g = let q = ne_eqb n 0 g in record { answers = rw (← own, q) refl; leaves = rw (← own, q) refl }

-- ---- the whole call

module _ {s : List ℕ} {M : Memory} {b : List ℕ} {z : Size} where
  pub drawable : Opened s M b z → Drawable s b z M.received M.state
  drawable o =
      let g = grounds s o.accepted in
      record {
        accepted = o.accepted;
        table = o.stood.table;
        size = size_of_lem g o.stood;
        rows = fits g o.stood;
        long = o.stood.received;
      }

module _ (l : Limits) (s output : List ℕ) (M : Memory) {n : ℕ} (e : n ≡ refused_by l s (memory_tests (description_of s) M)) where
  abbrev tests : List Test
  tests = tests_of s M.state output

  whole : refused_by l s (memory_tests (description_of s) M ++ tests) ≡ or_else n (refusal tests)
  whole = own_last l s M tests ∙ ap (λ (k : ℕ). or_else k (refusal tests)) (sym e)

  abbrev Answers : Answer → List ℕ → ℕ → Type 0
  Answers r out k = (r ≡ answer k) × (out ≡ cond (eqb k 0) (element_order (description_of s) M.received) output)

  answered : {r : Answer} {out : List ℕ} {k : ℕ} → or_else n (refusal tests) ≡ k → Answers r out k
      → (r ≡ (result l s output M).answer) × (out ≡ (result l s output M).output)
  unfolding result
  answered {r} {out} q a = subst (Answers r out) (sym (whole ∙ q)) a

  pub opened_call : {r : Answer} {out : List ℕ} → n ≡ 0 → Called s M.received M.state output r out
      → (r ≡ (result l s output M).answer) × (out ≡ (result l s output M).output)
  opened_call z c = answered (ap (λ (k : ℕ). or_else k (refusal tests)) z) (c.answers, c.leaves)

  pub refused_call : (n ≡ 0 → ⊥) → (Refused n ≡ (result l s output M).answer) × (output ≡ (result l s output M).output)
  refused_call f = let q = ne_eqb n 0 f in answered {k = n} (rw q refl) (rw q refl, rw q refl)
