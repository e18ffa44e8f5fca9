-- What Result answers on a memory that passes the tests of a memory, and that values in pipe order come out in element order.
-- Assumes nothing.
use Rattle.std.specs.Prelude.{◌≡◌, refl, Bool, true, false, not, cond, List, map, ℕ, ◌<◌, eqb, length, get_or}
use Rattle.std.proofs.Math.Path.{sym, ap}
use Rattle.std.proofs.Common.{◌∙◌, arith, ext_get_or}
use borrow.Author.Tests.{eqb-true, eq-eqb}
use Rattle.meaning.specs.declared.Limits.{Limits}
use Rattle.meaning.specs.declared.Description.{Description}
use Rattle.meaning.specs.Lists.{position}
use Rattle.meaning.specs.Tests.{refusal}
use Rattle.meaning.specs.Loops.{instances}
use Rattle.meaning.specs.Description.{description_of}
use Rattle.meaning.specs.Body.{final_values}
use Rattle.meaning.specs.Array.{Array, array_of, pipe_order}
use Rattle.meaning.specs.Rules.{Memory}
use Rattle.meaning.specs.Answers.{answer_number, Done, Refused}
use Rattle.meaning.specs.Calls.{length_of, answer, refused_by, all_out, in_element_order, Written, result_tests, result}
use Rattle.meaning.specs.Demand3.{CallResult, final_value}
use Rattle.lists.specs.Tests.{position_passes, any_position}
use Rattle.lists.specs.Rows.{length_numbers, get_d_first}
use Rattle.network.specs.Wiring.{Wired}
use Rattle.network.specs.Parts.{get_d_map}
use Rattle.network.specs.Declined.{numbers_are, Usable, declined_own}
use Rattle.network.specs.Plain.{Described, execute_length}

module _ (l : Limits) (s : List ℕ) {M : Memory} (u : Usable l s M) (output : List ℕ) where
  -- what Result leaves where n refuses it
  abbrev answered : ℕ → Written l s
  answered n = record { answer = answer n; output = cond (eqb n 0) (in_element_order l s M.received) output }

  number_is : refused_by l s (result_tests l s output M)
      ≡ cond (not (all_out l s M.state)) 25 (cond (not (eqb (length output) (length_of (description_of s)))) 28 0)
  unfolding refusal
  number_is = sym ((numbers_are l s).result output M) ∙ declined_own l s u (CallResult output)

  pub result_early : all_out l s M.state ≡ false → result l s output M ≡ record { answer = Refused 25; output = output }
  unfolding result
  result_early e = let n : refused_by l s (result_tests l s output M) ≡ 25 = number_is ∙ rw e in ap answered n

  pub result_only_early : answer_number (result l s output M).answer ≡ 25 → all_out l s M.state ≡ false
  result_only_early e = go (all_out l s M.state) (eqb (length output) (length_of (description_of s)))
      (sym number_is ∙ sym ((numbers_are l s).result output M) ∙ e)
    where
      go : (a b : Bool) → ◌≡◌ {A = ℕ} (cond (not a) 25 (cond (not b) 28 0)) 25 → a ≡ false
      go false b e = refl
      go true true e = absurd (omega arith)
      go true false e = absurd (omega arith)

  pub result_late : all_out l s M.state ≡ true → length output ≡ length_of (description_of s)
      → result l s output M ≡ record { answer = Done; output = in_element_order l s M.received }
  unfolding result
  result_late e k =
      let n : refused_by l s (result_tests l s output M) ≡ 0 = number_is
      ∙ rw (e, eq-eqb (length output) (length_of (description_of s)) k) in ap answered n

-- each element's value is found where the element waits
module _ (l : Limits) (s values : List ℕ) (W : Wired (array_of (description_of s))) (D : Described (description_of s) W)
    (fits : length values ≡ length_of (description_of s)) where
  abbrev d : Description
  d = description_of s

  abbrev A : Array
  A = array_of d

  pub in_element_order_lem : in_element_order l s (map (final_value d values) (pipe_order A)) ≡ final_values d values
  in_element_order_lem =
      ext_get_or 0 _ (final_values d values) (long ∙ sym (execute_length d (instances d.nest) values ∙ fits))
      (λ e h. let h : e < length_of d = omega (arith, long) in get_d_first _ 0 (length_of d) e h ∙ there e h)
    where
      long : length (in_element_order l s (map (final_value d values) (pipe_order A))) ≡ length_of d
      long = length_numbers _ 0 (length_of d)

      there : (e : ℕ) → e < length_of d
          → get_or (map (final_value d values) (pipe_order A)) (position (eqb e) (pipe_order A)) 0 ≡ final_value d values e
      there e h =
          let k = any_position (eqb e) (pipe_order A) (D.element_waits e h) in
          get_d_map (final_value d values) (pipe_order A) (position (eqb e) (pipe_order A)) k
          ∙ ap (final_value d values)
          (sym (eqb-true e (get_or (pipe_order A) (position (eqb e) (pipe_order A)) 0) (position_passes (eqb e) 0 (pipe_order A) k)))
