-- By which number a call is declined: that of its tests. A memory that passes the tests of a memory leaves a call's own. Assumes nothing.
use Rattle.std.specs.Prelude.{◌≡◌, refl, Bool, true, false, not, cond, ◌||◌, ℕ, suc, ◌≤◌, ◌<◌, eqb, ltb, length}
use Rattle.std.proofs.Common.{sym, ◌∙◌, ap, subst, arith}
use mathlib.Core.List.{List, [], ◌∷◌, ◌++◌}
use Rattle.std.proofs.Math.Decide.{ℕ_discrete}
use borrow.Author.Tests.{ltb-false, le-ltb, eqb-true, eq-eqb, ne_eqb, not-false}
use Rattle.meaning.specs.declared.Limits.{Limits}
use Rattle.meaning.specs.declared.Description.{Description}
use Rattle.meaning.specs.declared.Stream.{Stream}
use Rattle.meaning.specs.Tests.{Test, ◌if◌, refusal}
use Rattle.meaning.specs.Description.{description_of, streams_of}
use Rattle.meaning.specs.Accept.{tests_from, refusal_of, answer_of, accept}
use Rattle.meaning.specs.Array.{array_of, pipe_number}
use Rattle.meaning.specs.Rules.{sound, Memory}
use Rattle.meaning.specs.Answers.{accept_number, answer_number, ran_number, ready_number, made_number}
use Rattle.meaning.specs.Calls.{length_of, state_length, or_else, memory_tests, refused_by, table_tests, table, start_tests, start, step_of}
use Rattle.meaning.specs.Calls.{is_nothing, ready_at, step_tests, step, run, ready_tests, ready_call, window, all_out, result_tests, result}
use Rattle.meaning.specs.Calls.{plain_tests, plain_run}
use Rattle.meaning.specs.Generator.{fill_tests, fill, make_tests, make}
use Rattle.meaning.specs.StepVectors.{vector_tests, step_vectors}
use Rattle.meaning.specs.Demand1.{Numbers}
use Rattle.meaning.specs.Alike.{DeclinedBy}
use Rattle.meaning.specs.Demand3.{Call, CallStep, CallRun, CallReady, CallWindow, CallResult, declined_by, NotByMemory}
use Rattle.network.specs.Calls.{refusal_none, or_else_lem}

-- ---- the number of an answer

-- 0 for what is not declined, or the number
chosen : {B : Type 0} (number : B → ℕ) (n : ℕ) {a r : B} → number a ≡ 0 → number r ≡ n → number (cond (eqb n 0) a r) ≡ n
chosen {B} number n {a} {r} za zr = go (eqb n 0) (eqb-true n 0)
  where
    go : (b : Bool) → (b ≡ true → n ≡ 0) → number (cond b a r) ≡ n
    go true h = za ∙ sym (h refl)
    go false h = zr

pub numbers_are : (l : Limits) (s : List ℕ) → Numbers l s
unfolding accept table start step run ready_call window result plain_run fill make step_vectors
numbers_are l s =
    record {
      accept = chosen accept_number (refusal_of l s) refl refl;
      table = λ rows. chosen answer_number (refused_by l s (table_tests l s rows)) refl refl;
      start = λ values M. chosen answer_number (refused_by l s (start_tests l s values M)) refl refl;
      step = λ kind number stream M. chosen answer_number (refused_by l s (step_tests l s (step_of l s kind number stream) M)) refl refl;
      run = λ n M. chosen ran_number (refused_by l s (memory_tests (description_of s) M)) refl refl;
      ready = λ words M. chosen ready_number (refused_by l s (ready_tests l s words M)) refl refl;
      window = λ pipe side waiting received. refl;
      result = λ output M. chosen answer_number (refused_by l s (result_tests l s output M)) refl refl;
      plain = λ values output. chosen answer_number (refused_by l s (plain_tests l s values output)) refl refl;
      fill = λ seed n list. chosen answer_number (refusal (fill_tests seed n list)) refl refl;
      make = λ seed z out. chosen made_number (refusal (make_tests seed z out)) refl refl;
      vectors = λ k lent. chosen answer_number (refusal (vector_tests l s k)) refl refl;
    }

-- what is refused is declined by every call
pub declined : (l : Limits) (s : List ℕ) (k : ℕ) → (k ≡ 0 → ⊥) → refusal_of l s ≡ k → DeclinedBy l s k
unfolding accept
declined l s k n e =
    record {
      accept = ap (answer_of s) e ∙ rw (ne_eqb k 0 n);
      table = λ rows. by _ (m.table rows);
      start = λ values M. by _ (m.start values M);
      step = λ kind number stream M. by _ (m.step kind number stream M);
      run = λ n M. by _ (m.run n M);
      ready = λ words M. by _ (m.ready words M);
      window = λ pipe side waiting received. by _ (m.window pipe side waiting received);
      result = λ output M. by _ (m.result output M);
      plain = λ values output. by _ (m.plain values output);
    }
  where
    m : Numbers l s
    m = numbers_are l s

    by : {a : ℕ} (r : ℕ) → a ≡ or_else (refusal_of l s) r → a ≡ k
    by r h = h ∙ ap (λ (c : ℕ). or_else c r) e ∙ ap (λ (b : Bool). cond b r k) (ne_eqb k 0 n)

-- ---- a memory that a call is not declined by

pub record Passes (d : Description) (M : Memory) : Type 0 where
  pub waits : length M.waiting ≡ length_of d
  pub list : length M.received ≡ length_of d
  pub long : state_length d ≤ length M.state
  pub sound : sound (array_of d) M.state ≡ true

-- a call that is not declined, whatever its own tests are, is lent one, of a description that is not refused
pub record Usable (l : Limits) (s : List ℕ) (M : Memory) : Type 0 where
  pub accepted : refusal_of l s ≡ 0
  pub passes : Passes (description_of s) M

pub usable : (l : Limits) (s : List ℕ) (M : Memory) (ts : List Test)
    → refused_by l s (memory_tests (description_of s) M ++ ts) ≡ 0 → Usable l s M
usable l s M ts e =
    let r = or_else_lem (refusal_of l s) _ e in
    let a = refusal_none _ _ (omega arith) r.1 in
    let b = refusal_none _ _ (omega arith) a.1 in
    let c = refusal_none _ _ (omega arith) b.1 in
    let g = refusal_none _ _ (omega arith) c.1 in
    let d = description_of s in
    record {
      accepted = r.0;
      passes =
          record {
            waits = eqb-true (length M.waiting) (length_of d) (not-false (eqb (length M.waiting) (length_of d)) a.0);
            list = eqb-true (length M.received) (length_of d) (not-false (eqb (length M.received) (length_of d)) b.0);
            long = ltb-false (length M.state) (state_length d) c.0;
            sound = not-false (sound (array_of d) M.state) g.0;
          };
    }

-- ---- numbers that are no memory's

fine_low : (n : ℕ) → n < 20 → NotByMemory n
fine_low n h = record { not20 = λ e. omega arith; not26 = λ e. omega arith; not21 = λ e. omega arith; not22 = λ e. omega arith }

fine_high : (n : ℕ) → 22 < n → (n ≡ 26 → ⊥) → NotByMemory n
fine_high n h k = record { not20 = λ e. omega arith; not26 = k; not21 = λ e. omega arith; not22 = λ e. omega arith }

fine_none : NotByMemory (refusal [])
unfolding refusal
fine_none = fine_low 0 (omega arith)

fine_more : (t : Test) (ts : List Test) → NotByMemory t.number → NotByMemory (refusal ts) → NotByMemory (refusal (t ∷ ts))
unfolding refusal
fine_more t ts h k = go t.applies
  where
    go : (b : Bool) → NotByMemory (cond b t.number (refusal ts))
    go true = h
    go false = k

-- ---- a call on such a memory is left with its own tests

module _ (l : Limits) (s : List ℕ) {M : Memory} (u : Usable l s M) where
  own_left : (ts : List Test) → refused_by l s (memory_tests (description_of s) M ++ ts) ≡ refusal ts
  unfolding refusal
  own_left ts =
      let d = description_of s in
      let p = u.passes in
      rw (
        u.accepted,
        eq-eqb (length M.waiting) (length_of d) p.waits,
        eq-eqb (length M.received) (length_of d) p.list,
        le-ltb (length M.state) (state_length d) p.long,
        p.sound,
      )

  -- the tests that are left
  abbrev own : Call → List Test
  own (CallStep kind number stream) =
      let f = step_of l s kind number stream in (23 if is_nothing l s f) ∷ (24 if not (ready_at l s M.state f)) ∷ []
  own (CallRun n) = []
  own (CallReady words) = (27 if ltb (length words) 16) ∷ []
  own (CallWindow pipe side) = (19 if (not (ltb pipe (pipe_number (array_of (description_of s)))) || not (ltb side 2))) ∷ []
  own (CallResult output) = (25 if not (all_out l s M.state)) ∷ (28 if not (eqb (length output) (length_of (description_of s)))) ∷ []

  pub declined_own : (c : Call) → declined_by l s M c ≡ refusal (own c)
  unfolding refusal
  declined_own (CallStep kind number stream) = (numbers_are l s).step kind number stream M ∙ own_left (own (CallStep kind number stream))
  declined_own (CallRun n) = (numbers_are l s).run n M ∙ own_left []
  declined_own (CallReady words) = (numbers_are l s).ready words M ∙ own_left (own (CallReady words))
  declined_own (CallWindow pipe side) =
      let d = description_of s in
      (numbers_are l s).window pipe side M.waiting M.received
      ∙ rw (
        u.accepted,
        eq-eqb (length M.waiting) (length_of d) u.passes.waits,
        eq-eqb (length M.received) (length_of d) u.passes.list,
      )
  declined_own (CallResult output) = (numbers_are l s).result output M ∙ own_left (own (CallResult output))

  -- none of them is one of the memory's
  own_fine : (c : Call) → NotByMemory (refusal (own c))
  own_fine (CallStep kind number stream) =
      fine_more _ _ (fine_high 23 (omega arith) (λ e. omega arith))
      (fine_more _ _ (fine_high 24 (omega arith) (λ e. omega arith)) fine_none)
  own_fine (CallRun n) = fine_none
  own_fine (CallReady words) = fine_more _ _ (fine_high 27 (omega arith) (λ e. omega arith)) fine_none
  own_fine (CallWindow pipe side) = fine_more _ _ (fine_low 19 (omega arith)) fine_none
  own_fine (CallResult output) =
      fine_more _ _ (fine_high 25 (omega arith) (λ e. omega arith))
      (fine_more _ _ (fine_high 28 (omega arith) (λ e. omega arith)) fine_none)

  own_not_by_memory : (c : Call) → NotByMemory (declined_by l s M c)
  own_not_by_memory c = subst NotByMemory (sym (declined_own c)) (own_fine c)

-- ---- nor is one of Accept's numbers

low : (n : ℕ) → n < 20 → (b : Bool) (ts : List Test) → NotByMemory (refusal ts) → NotByMemory (refusal ((n if b) ∷ ts))
low n h b ts k = fine_more (n if b) ts (fine_low n h) k

streams_fine : (l : Limits) (d : Description) (i : ℕ) (ss : List Stream) → NotByMemory (refusal (tests_from l d i ss))
unfolding tests_from
streams_fine l d i [] = fine_none
streams_fine l d i (s ∷ ss) =
    low 11 (omega arith) _ _ (low 12 (omega arith) _ _ (low 13 (omega arith) _ _ (low 14 (omega arith) _ _ (low 15 (omega arith) _ _
    (low 16 (omega arith) _ _ (low 17 (omega arith) _ _ (streams_fine l d (suc i) ss)))))))

accept_fine : (l : Limits) (s : List ℕ) → NotByMemory (refusal_of l s)
unfolding refusal_of
accept_fine l s =
    let d = description_of s in
    fine_more _ _ (fine_high 33 (omega arith) (λ e. omega arith))
    (low 1 (omega arith) _ _ (low 2 (omega arith) _ _ (low 3 (omega arith) _ _ (low 4 (omega arith) _ _ (low 5 (omega arith) _ _
    (low 6 (omega arith) _ _
    (low 7 (omega arith) _ _ (low 8 (omega arith) _ _ (low 10 (omega arith) _ _ (streams_fine l d 0 (streams_of d)))))))))))

-- ---- so no call on such a memory is declined by it, whatever limits it is told

-- such a call of a list on a description that is refused
declined_first : (l : Limits) (s : List ℕ) (M : Memory) → (refusal_of l s ≡ 0 → ⊥) → (c : Call) → declined_by l s M c ≡ refusal_of l s
declined_first l s M f c = go c
  where
    by : DeclinedBy l s (refusal_of l s)
    by = declined l s (refusal_of l s) f refl

    go : (c : Call) → declined_by l s M c ≡ refusal_of l s
    go (CallStep kind number stream) = by.step kind number stream M
    go (CallRun n) = by.run n M
    go (CallReady words) = by.ready words M
    go (CallWindow pipe side) = by.window pipe side M.waiting M.received
    go (CallResult output) = by.result output M

pub not_by_memory : (l : Limits) (s : List ℕ) {M : Memory} → Passes (description_of s) M → (c : Call) → NotByMemory (declined_by l s M c)
not_by_memory l s {M} p c = go (ℕ_discrete (refusal_of l s) 0)
  where
    go : Dec (refusal_of l s ≡ 0) → NotByMemory (declined_by l s M c)
    go (yes e) = own_not_by_memory l s (record { accepted = e; passes = p }) c
    go (no f) = subst NotByMemory (sym (declined_first l s M f c)) (accept_fine l s)
