-- What a step by its name answers and leaves, once the memory is opened. Assumes nothing.
use Rattle.std.specs.Prelude.{◌≡◌, refl, true, false, not, cond, Some, None, List, [], ◌∷◌, ℕ, eqb, length}
use Rattle.std.proofs.Common.{sym, ◌∙◌}
use Rattle.meaning.specs.declared.Step.{Step}
use Rattle.meaning.specs.declared.Limits.{Limits}
use Rattle.meaning.specs.Answers.{Answer, Done, Refused}
use Rattle.meaning.specs.Loops.{increment}
use Rattle.meaning.specs.Tests.{Test, ◌if◌, refusal}
use Rattle.meaning.specs.Description.{description_of}
use Rattle.meaning.specs.Array.{array_of}
use Rattle.meaning.specs.Rules.{Memory, Found, at, nothing, ready}
use Rattle.meaning.specs.Calls.{answer, step_of, is_nothing, ready_at, applied}
use Rattle.vectors.specs.Within.{Within}
use Rattle.layout.specs.Spans.{Spans}
use Rattle.port_table.specs.declared.Size.{Size}
use Rattle.port_table.specs.PortsOf.{RowsFit, PartsFit}
use Rattle.step_rules.specs.declared.Program.{Program}
use Rattle.step_rules.specs.Steps.{program_of, can_by, act_by}
use Rattle.step_rules.specs.Fits.{Programmed, Inside}
use Rattle.step_rules.specs.Meaning.{Stands, can_is, act_is}
use Rattle.opening.specs.Opening.{Grounds, Opened, grounds}
use Rattle.opening.specs.Opened.{fits, waiting_fits, received_fits, programmed, stands, performs}
use Rattle.named_step.specs.Named.{named_by, found, named_is, named_inside}

-- the call's own tests of what was found
abbrev pub own_tests : Limits → List ℕ → Memory → Found → List Test
own_tests l s M f = (23 if is_nothing l s f) ∷ (24 if not (ready_at l s M.state f)) ∷ []

-- what it answers and leaves under any limits once the memory is opened
pub record Stepped (s : List ℕ) (kind number stream : ℕ) (M : Memory) (r : Answer) (M' : Memory) : Type 0 where
  pub answers : (l : Limits) → r ≡ answer (refusal (own_tests l s M (step_of l s kind number stream)))
  pub leaves : (l : Limits) → M' ≡ cond (eqb (refusal (own_tests l s M (step_of l s kind number stream))) 0)
      (applied l s M (step_of l s kind number stream)) M

module _ {s : List ℕ} {M : Memory} {b : List ℕ} {z : Size} (o : Opened s M b z) (kind number stream : ℕ) where
  ground : Grounds (description_of s)
  ground = grounds s o.accepted

  stand : Stands (array_of (description_of s)) b z
  stand = stands ground o.stood

  -- what the calls find is what the code finds
  found_is : (l : Limits) → step_of l s kind number stream ≡ found (named_by b z kind number stream)
  found_is l = named_is l s stand ground.on kind number stream

  -- no step has that name
  pub unnamed : named_by b z kind number stream ≡ None → Stepped s kind number stream M (Refused 23) M
  unfolding refusal
  unnamed e = record { answers = λ l. rw (none l) refl; leaves = λ l. rw (none l) refl }
    where
      none : (l : Limits) → step_of l s kind number stream ≡ nothing
      none l = found_is l ∙ rw e refl

  module _ {a : Step} (e : named_by b z kind number stream ≡ Some a) where
    inside : Inside z a
    inside = named_inside b z kind number stream e

    named : (l : Limits) → step_of l s kind number stream ≡ at a
    named l = found_is l ∙ rw e refl

    tested : can_by b M.state z.streams a ≡ ready (array_of (description_of s)) M.state a
    tested = can_is stand M o.stood.sound a inside

    -- what testing it asks, and doing it
    pub tests : (RowsFit (length M.state) b z) × (Inside z a)
    tests = (fits ground o.stood, inside)

    -- it has, but the step is not ready
    pub unready : can_by b M.state z.streams a ≡ false → Stepped s kind number stream M (Refused 24) M
    unfolding refusal
    unready c = let r = sym tested ∙ c in record { answers = λ l. rw (named l, r) refl; leaves = λ l. rw (named l, r) refl }

    -- the step is done
    module _ (c : can_by b M.state z.streams a ≡ true) where
      pub asks : {spans : List ℕ} {g : Program} → g ≡ program_of (description_of s) → Within 200 g.increment
          → Spans (description_of s).nest spans → length spans ≡ 3072
          → (RowsFit (length M.state) b z) × (Programmed g spans b z) × (Inside z a) × (PartsFit (length M.waiting) b z)
          × (PartsFit (length M.received) b z) × (can_by b M.state z.streams a ≡ true)
      asks d w h l =
          let i : Within 200 (increment (description_of s).nest) = rw d at w in
          (tests.0, rw d (programmed ground o.stood h l i), inside, waiting_fits ground o.stood, received_fits ground o.stood, c)

      pub done : {g : Program} {M' : Memory} → g ≡ program_of (description_of s) → M' ≡ act_by g z.streams b M a
          → Stepped s kind number stream M Done M'
      unfolding refusal
      done d m =
          let r = sym tested ∙ c in
          let n = m ∙ rw d (act_is stand M o.stood.sound (program_of (description_of s)) (performs ground) a inside r) in
          record { answers = λ l. rw (named l, r) refl; leaves = λ l. rw (named l, r) n }
