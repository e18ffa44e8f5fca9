-- Lists of calls: every call does granted steps only, and nothing else changes. Assumes nothing.
use Rattle.std.specs.Prelude.{◌≡◌, Bool, not, cond, ◌&&◌, eqb}
use Rattle.std.proofs.Math.Path.{refl, sym, ap, subst}
use Rattle.std.proofs.Common.{◌∙◌, arith, ltb-true, eqb-true}
use Rattle.std.proofs.Math.Bool.{true, false}
use mathlib.Core.List.{List, [], ◌∷◌, ◌++◌}
use Prim.Native.Nat.{ℕ, zero, suc, ◌<◌}
use Rattle.std.proofs.Math.Dec.{ltb}
use Rattle.std.proofs.lemmas.Bool.{eqb-false, not-false}
use Rattle.meaning.specs.declared.Limits.{Limits}
use Rattle.meaning.specs.Tests.{Test, ◌if◌, refusal}
use Rattle.meaning.specs.Description.{description_of}
use Rattle.meaning.specs.Accept.{refusal_of}
use Rattle.meaning.specs.Array.{Array, array_of, process_count, stream_count, pipe_number, on_pipe}
use Rattle.meaning.specs.declared.Step.{Step}
use Rattle.meaning.specs.declared.Step.TheVariants.{Send, Take, Fire, Give, Receive}
use Rattle.meaning.specs.Rules.{Memory, ready, apply, in_order, Found, at, nothing, lowest}
use Rattle.meaning.specs.Rules.{run_steps}
use Rattle.meaning.specs.Rules.{apply_all}
use Rattle.meaning.specs.Calls.{or_else, memory_tests, refused_by, has_port, if_there, step_of, is_nothing, ready_at, applied, step, run}
use Rattle.meaning.specs.Demand3.{Call, CallStep, CallRun, CallReady, CallWindow, CallResult, Told, leaves, as_list, grants, memory_after}
use Rattle.meaning.specs.Demand3.{granted_by}
use Rattle.lists.specs.Tests.{both_true}
use Rattle.network.specs.Ready.{There}
use Rattle.network.specs.Members.{listed, ready_there, found_passes}
use Rattle.network.specs.Runs.{Grants, none}
use Rattle.network.specs.Runs as Runs

-- ---- refusals that did not apply

pub refusal_none : (t : Test) (l : List Test) → 0 < t.number → refusal (t ∷ l) ≡ 0 → (t.applies ≡ false) × (refusal l ≡ 0)
unfolding refusal
refusal_none t l h e = go t.applies refl e
  where
    go : (b : Bool) → t.applies ≡ b → cond b t.number (refusal l) ≡ 0 → (t.applies ≡ false) × (refusal l ≡ 0)
    go true d e = absurd (omega arith)
    go false d e = (d, e)

pub or_else_lem : (a b : ℕ) → or_else a b ≡ 0 → (a ≡ 0) × (b ≡ 0)
or_else_lem a b e = go (eqb a 0) refl e
  where
    go : (c : Bool) → eqb a 0 ≡ c → cond c b a ≡ 0 → (a ≡ 0) × (b ≡ 0)
    go true d e = (eqb-true a 0 d, e)
    go false d e = absurd (eqb-false a 0 d e)

no_step : (a : Step) → nothing ≡ at a → ⊥
no_step a e = let z : ◌≡◌ {A = ℕ} 0 1 = cc in omega arith

same_step : (a b : Step) → at a ≡ at b → a ≡ b
same_step a b e = cc

-- ---- lists of steps one after the other

module _ (A : Array) where
  pub grants_append : {M : Memory} {l l' : List Step} → Grants A M l → Grants A (apply_all A M l) l' → Grants A M (l ++ l')
  unfolding apply_all
  grants_append none g' = g'
  grants_append (Runs.step h e g) g' = Runs.step h e (grants_append g g')

  pub apply_append : (M : Memory) (l l' : List Step) → apply_all A M (l ++ l') ≡ apply_all A (apply_all A M l) l'
  unfolding apply_all
  apply_append M [] l' = refl
  apply_append M (a ∷ l) l' = apply_append (apply A M a) l l'

  abbrev follow : Found → (Step → List Step) → List Step
  follow nothing f = []
  follow (at a) f = f a

  -- the steps that Run does are granted
  pub run_grants : (n : ℕ) (M : Memory) → Grants A M (run_steps A n M)
  unfolding run_steps
  run_grants zero M = none
  run_grants (suc n) M = go (lowest A M.state) refl (λ a. run_grants n (apply A M a))
    where
      go : (f : Found) → lowest A M.state ≡ f → ((a : Step) → Grants A (apply A M a) (run_steps A n (apply A M a)))
          → Grants A M (follow f (λ a. a ∷ run_steps A n (apply A M a)))
      go nothing e ih = none
      go (at a) e ih =
          let r = found_passes (ready A M.state) (in_order A) a e in
          Runs.step (ready_there A M.state a (listed A a r.0) r.1) r.1 (ih a)

-- ---- calls

module _ (l : Limits) (s : List ℕ) where
  abbrev A : Array
  A = array_of (description_of s)

  -- what is found is one of the array's steps
  Sure : Found → Type 0
  Sure f = (a : Step) → f ≡ at a → There A a

  sure_if : (b : Bool) (x : Step) → (b ≡ true → There A x) → Sure (if_there l s b x)
  unfolding Sure
  sure_if true x h a e = subst (There A) (same_step x a e) (h refl)
  sure_if false x h a e = absurd (no_step a e)

  sure_cond : (b : Bool) (f g : Found) → Sure f → Sure g → Sure (cond b f g)
  sure_cond true f g h k = h
  sure_cond false f g h k = k

  step_there : (kind number stream : ℕ) → Sure (step_of l s kind number stream)
  unfolding Sure
  step_there kind number stream =
      sure_cond (eqb kind 0) _ _ (sure_if (ltb number (pipe_number A)) (Send number) (ltb-true number (pipe_number A)))
      (sure_cond (eqb kind 1) _ _ (sure_if (has_port l s number stream) (Take number stream) on)
      (sure_cond (eqb kind 2) _ _ (sure_if (ltb number (process_count A)) (Fire number) (ltb-true number (process_count A)))
      (sure_cond (eqb kind 3) _ _ (sure_if (has_port l s number stream) (Give number stream) on)
      (sure_cond (eqb kind 4) _ _ (sure_if (ltb number (pipe_number A)) (Receive number) (ltb-true number (pipe_number A)))
      (λ a e. absurd (no_step a e))))))
    where
      on : has_port l s number stream ≡ true → on_pipe A number stream ≡ true
      on e = (both_true (ltb number (process_count A) && ltb stream (stream_count A)) (on_pipe A number stream) e).1

  -- a call's steps are granted, and they are what it does
  pub record Does (M : Memory) (c : Call) : Type 0 where
    pub granted : Grants A M (grants l s M c)
    pub leaves_is : leaves l s M c ≡ apply_all A M (grants l s M c)

  -- a step that is not declined is one granted step, a declined one none
  step_does : (kind number stream : ℕ) (M : Memory) → Does M (CallStep kind number stream)
  unfolding step apply_all Sure
  step_does kind number stream M = go (eqb n 0) refl
    where
      f : Found
      f = step_of l s kind number stream

      n : ℕ
      n = refused_by l s (memory_tests (description_of s) M ++ ((23 if is_nothing l s f) ∷ (24 if not (ready_at l s M.state f)) ∷ []))

      -- nothing is refused: a step is named, and it is ready
      fine : n ≡ 0 → (is_nothing l s f ≡ false) × (not (ready_at l s M.state f) ≡ false)
      fine e =
          let a = refusal_none _ _ (omega arith) (or_else_lem (refusal_of l s) _ e).1 in
          let b = refusal_none _ _ (omega arith) a.1 in
          let c = refusal_none _ _ (omega arith) b.1 in
          let d = refusal_none _ _ (omega arith) c.1 in
          let g = refusal_none _ _ (omega arith) d.1 in
          let h = refusal_none _ _ (omega arith) g.1 in
          (g.0, h.0)

      one : (f : Found) → Sure f → is_nothing l s f ≡ false → not (ready_at l s M.state f) ≡ false
          → Grants A M (as_list l s f) × (applied l s M f ≡ apply_all A M (as_list l s f))
      one nothing h e r = absurd (let z : ◌≡◌ {A = ℕ} 0 1 = cc in omega arith)
      one (at a) h e r = (Runs.step (h a refl) (not-false (ready A M.state a) r) none, refl)

      go : (b : Bool) → eqb n 0 ≡ b → Does M (CallStep kind number stream)
      go true e =
          let o = one f (step_there kind number stream) (fine (eqb-true n 0 e)).0 (fine (eqb-true n 0 e)).1 in
          record {
            granted = rw e o.0;
            leaves_is = rw e o.1;
          }
      go false e = record { granted = rw (e, e) none; leaves_is = rw (e, e) }

  -- a run's steps are granted
  run_does : (k : ℕ) (M : Memory) → Does M (CallRun k)
  unfolding run apply_all
  run_does k M = go (eqb n 0) refl
    where
      n : ℕ
      n = refused_by l s (memory_tests (description_of s) M)

      go : (b : Bool) → eqb n 0 ≡ b → Does M (CallRun k)
      go true e = record { granted = rw e (run_grants A k M); leaves_is = rw e }
      go false e = record { granted = rw (e, e) none; leaves_is = rw (e, e) }

  -- every call
  pub call_does : (M : Memory) (c : Call) → Does M c
  unfolding apply_all
  call_does M (CallStep kind number stream) = step_does kind number stream M
  call_does M (CallRun n) = run_does n M
  call_does M (CallReady words) = record { granted = none; leaves_is = refl }
  call_does M (CallWindow pipe side) = record { granted = none; leaves_is = refl }
  call_does M (CallResult output) = record { granted = none; leaves_is = refl }

-- ---- lists of calls

module _ (s : List ℕ) where
  abbrev B : Array
  B = array_of (description_of s)

  -- the steps of a list of calls are granted, whatever limits each is told
  pub calls_granted : (M : Memory) (cs : List Told) → Grants B M (granted_by s M cs)
  unfolding granted_by
  calls_granted M [] = none
  calls_granted M (c ∷ cs) =
      let d = call_does c.limits s M c.call in
      let N = leaves c.limits s M c.call in
      grants_append B d.granted (subst (λ (M : Memory). Grants B M (granted_by s N cs)) d.leaves_is (calls_granted N cs))

  -- and nothing else changes
  pub calls_leave : (M : Memory) (cs : List Told) → memory_after s M cs ≡ apply_all B M (granted_by s M cs)
  unfolding granted_by memory_after apply_all
  calls_leave M [] = refl
  calls_leave M (c ∷ cs) =
      let N = leaves c.limits s M c.call in
      calls_leave N cs
      ∙ ap (λ (M : Memory). apply_all B M (granted_by s N cs)) (call_does c.limits s M c.call).leaves_is
      ∙ sym (apply_append B M (grants c.limits s M c.call) (granted_by s N cs))
