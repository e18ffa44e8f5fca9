-- Demand 2 beside the conditions, for every description that Accept accepts: what Table leaves, that every pass of the loops is run by one
-- processor, and what Plain run leaves. Assumes nothing.
use Rattle.std.specs.Prelude.{◌≡◌, Bool, ℕ, ◌≤◌, eqb, length}
use Rattle.std.proofs.Common.{sym, ◌∙◌, ap₂, le-ltb, eq-eqb}
use Rattle.std.proofs.Math.Path.{ap, subst}
use Rattle.std.proofs.Math.Bool.{not, cond}
use mathlib.Core.List.{List, [], ◌∷◌}
use Rattle.std.proofs.Math.Dec.{ltb}
use Rattle.meaning.specs.declared.Limits.{Limits}
use Rattle.meaning.specs.declared.Nest.{Nest}
use Rattle.meaning.specs.declared.Row.{Row}
use Rattle.meaning.specs.Answers.{Done}
use Rattle.meaning.specs.Tests.{Test, ◌if◌, refusal}
use Rattle.meaning.specs.Loops.{instances}
use Rattle.meaning.specs.Space.{processes}
use Rattle.meaning.specs.Description.{description_of}
use Rattle.meaning.specs.Body.{final_values}
use Rattle.meaning.specs.Accept.{refusal_of}
use Rattle.meaning.specs.Calls.{length_of, answer, refused_by, table, Written, plain_run}
use Rattle.meaning.specs.Demand2.{TableSays, EveryPass, WrittenOrder, PlainSays, DemandTwo}
use Rattle.geometry.specs.Instances.{within_in, in_within, instances_sorted, distinct}
use Rattle.geometry.specs.Descriptions.{laid}
use Rattle.geometry.proofs.Passes.{every_pass}
use Rattle.guarantee.specs.Acceptance.{accepted_not_refused}
use Rattle.guarantee.specs.TableRows.{left_rows, rows_are, table_says}

module _ (l : Limits) (s : List ℕ) (ok : refusal_of l s ≡ 0) where
  abbrev n : Nest
  n = (description_of s).nest

  -- a call whose own tests do not apply is not declined
  not_declined : (ts : List Test) → refusal ts ≡ 0 → refused_by l s ts ≡ 0
  not_declined ts e = ap (λ (k : ℕ). cond (eqb k 0) (refusal ts) k) ok ∙ e

  of_table : (lent : List Row) → length (processes n) ≤ length lent
      → ((table l s lent).answer ≡ Done) × TableSays (description_of s) lent (table l s lent).rows
      × EveryPass (description_of s) (table l s lent).rows
  unfolding table refusal
  of_table lent h =
      let ts : List Test = (18 if ltb (length lent) (length (processes n))) ∷ [] in
      let e = not_declined ts (ap (λ (b : Bool). cond b 18 0) (le-ltb (length lent) (length (processes n)) h)) in
      let r : (table l s lent).rows ≡ left_rows l s lent = ap (λ (k : ℕ). cond (eqb k 0) (left_rows l s lent) lent) e in (
        ap answer e,
        subst (TableSays (description_of s) lent) (sym r) (table_says l s ok lent h),
        subst (EveryPass (description_of s)) (sym r)
            (every_pass (description_of s) (laid l s ok).layout (left_rows l s lent) (rows_are l s ok lent h)),
      )

  written_order : WrittenOrder n (instances n)
  written_order =
      let dirs = (laid l s ok).layout.dirs in
      record { members = λ x. (in_within dirs, within_in dirs); once = distinct dirs; sorted = instances_sorted dirs }

  -- lists of the right lengths: Plain run leaves the final values
  pub plain_done : (values output : List ℕ) → length values ≡ length_of (description_of s) → length output ≡ length_of (description_of s)
      → plain_run l s values output ≡ record { answer = Done; output = final_values (description_of s) values }
  unfolding plain_run refusal
  plain_done values output h k =
      let m = length_of (description_of s) in
      let ts : List Test = (20 if not (eqb (length values) m)) ∷ (28 if not (eqb (length output) m)) ∷ [] in
      let e =
      not_declined ts
      (ap₂ (λ (b c : Bool). cond (not b) 20 (cond (not c) 28 0)) (eq-eqb (length values) m h) (eq-eqb (length output) m k)) in
      ap {B = Written l s}
      (λ (k : ℕ). record { answer = answer k; output = cond (eqb k 0) (final_values (description_of s) values) output }) e

  of_plain : (values output : List ℕ) → length values ≡ length_of (description_of s) → length output ≡ length_of (description_of s)
      → ((plain_run l s values output).answer ≡ Done) × PlainSays (description_of s) values (plain_run l s values output).output
  of_plain values output h k =
      let e = plain_done values output h k in (
        ap (λ (w : Written l s). w.answer) e,
        record { order = instances n; written = written_order; leaves = ap (λ (w : Written l s). w.output) e },
      )

-- DEMAND 2
pub demand_two : DemandTwo
demand_two l s e =
    let ok = accepted_not_refused l s e in
    record { table = of_table l s ok; plain = of_plain l s ok }
