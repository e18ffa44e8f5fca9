-- No call changes what stands past the words of a state, on any memory, of any description: a call that is not declined has a sound state,
-- and does granted steps only. Assumes that the array of an accepted description is wired.
use Rattle.std.specs.Prelude.{◌≡◌, Bool, true, false, ◌⊎◌, ℕ, eqb}
use Rattle.std.proofs.Math.Path.{refl, ap, subst}
use Rattle.std.proofs.Common.{sym, ◌∙◌, inl, inr, arith, eqb-true}
use mathlib.Core.List.{List, [], ◌∷◌}
use Rattle.std.proofs.Math.ListN.{drop}
use Rattle.meaning.specs.declared.Limits.{Limits}
use Rattle.meaning.specs.declared.Description.{Description}
use Rattle.meaning.specs.Description.{description_of}
use Rattle.meaning.specs.Accept.{refusal_of}
use Rattle.meaning.specs.Array.{Array, array_of}
use Rattle.meaning.specs.declared.Step.{Step}
use Rattle.meaning.specs.Rules.{Memory, apply_all}
use Rattle.meaning.specs.Answers.{answer_number, ran_number}
use Rattle.meaning.specs.Calls.{state_length, step, run}
use Rattle.meaning.specs.Demand3.{Call, CallStep, CallRun, CallReady, CallWindow, CallResult, Told, leaves, grants, memory_after}
use Rattle.network.specs.Wiring.{Wired}
use Rattle.network.specs.Calls.{call_does}
use Rattle.network.specs.Declined.{numbers_are, Usable, usable}
use Rattle.network.specs.Figures.{words_are}
use Rattle.network.proofs.Kept.{written_beyond, kept}

module _ (l : Limits) (s : List ℕ) where
  abbrev d : Description
  d = description_of s

  abbrev A : Array
  A = array_of d

  -- a call that is granted a step is not declined
  granted_usable : (M : Memory) (c : Call) → (grants l s M c ≡ []) ⊎ Usable l s M
  granted_usable M (CallStep kind number stream) = go (eqb n 0) refl
    where
      n : ℕ
      n = answer_number (step l s kind number stream M).answer

      go : (b : Bool) → eqb n 0 ≡ b → (grants l s M (CallStep kind number stream) ≡ []) ⊎ Usable l s M
      go true e = inr (usable l s M _ (sym ((numbers_are l s).step kind number stream M) ∙ eqb-true n 0 e))
      go false e = inl (rw e)
  granted_usable M (CallRun k) = go (eqb n 0) refl
    where
      n : ℕ
      n = ran_number (run l s k M).answer

      go : (b : Bool) → eqb n 0 ≡ b → (grants l s M (CallRun k) ≡ []) ⊎ Usable l s M
      go true e = inr (usable l s M [] (sym ((numbers_are l s).run k M) ∙ eqb-true n 0 e))
      go false e = inl (rw e)
  granted_usable M (CallReady words) = inl refl
  granted_usable M (CallWindow pipe side) = inl refl
  granted_usable M (CallResult output) = inl refl

  module _ (wired : refusal_of l s ≡ 0 → Wired A) where
    pub call_beyond : (M : Memory) (c : Call) → drop (state_length d) (leaves l s M c).state ≡ drop (state_length d) M.state
    unfolding apply_all
    call_beyond M c = ap (λ (N : Memory). drop (state_length d) N.state) (call_does l s M c).leaves_is ∙ go (granted_usable M c)
      where
        go : (grants l s M c ≡ []) ⊎ Usable l s M
            → drop (state_length d) (apply_all A M (grants l s M c)).state ≡ drop (state_length d) M.state
        go (inl e) = ap (λ (ss : List Step). drop (state_length d) (apply_all A M ss).state) e
        go (inr u) =
            subst (λ (n : ℕ). drop n (apply_all A M (grants l s M c)).state ≡ drop n M.state) (words_are d)
            (written_beyond (wired u.accepted)
            (kept (wired u.accepted) (omega (arith, u.passes.long, words_are d)) u.passes.sound
            (call_does l s M c).granted).written)

-- a list of calls, whatever limits each is told
module _ (s : List ℕ) (wired : (l : Limits) → refusal_of l s ≡ 0 → Wired (array_of (description_of s))) where
  pub calls_beyond : (M : Memory) (cs : List Told)
      → drop (state_length (description_of s)) (memory_after s M cs).state ≡ drop (state_length (description_of s)) M.state
  unfolding memory_after
  calls_beyond M [] = refl
  calls_beyond M (c ∷ cs) = calls_beyond (leaves c.limits s M c.call) cs ∙ call_beyond c.limits s (wired c.limits) M c.call
