-- A start that is not declined: its description is accepted, and it clears. After it and any calls the memory passes the tests of a memory.
-- Assumes nothing.
use Rattle.std.specs.Prelude.{◌≡◌, Bool, true, false, not, ◌||◌, List, eqb, length, get_or, drop, replicate}
use Rattle.std.proofs.Math.Path.{refl}
use Rattle.std.proofs.Common.{◌∙◌, ap, arith, length-append, eqb-true}
use Prim.Native.Nat.{ℕ}
use Rattle.std.proofs.lemmas.List.{length-map, length-replicate, get_or-replicate}
use Rattle.std.proofs.Math.ListN.{get_or-append}
use Rattle.std.proofs.lemmas.Bool.{not-false}
use Rattle.meaning.specs.declared.Limits.{Limits}
use Rattle.meaning.specs.declared.Description.{Description}
use Rattle.meaning.specs.Answers.{Done, Refused}
use Rattle.meaning.specs.Description.{description_of}
use Rattle.meaning.specs.Accept.{refusal_of}
use Rattle.meaning.specs.Array.{Array, array_of, pipe_order}
use Rattle.meaning.specs.Rules.{Memory, apply_all}
use Rattle.meaning.specs.Calls.{length_of, state_length, refused_by, started, start_tests, start}
use Rattle.meaning.specs.Demand3.{Told, granted_by}
use Rattle.network.specs.Wiring.{Wired}
use Rattle.network.specs.Parts.{waiting_is}
use Rattle.network.proofs.Links.{written_length}
use Rattle.network.proofs.Steps.{all_waiting, all_length}
use Rattle.network.proofs.Runs.{Cleared}
use Rattle.network.proofs.Kept.{kept, cleared_sound}
use Rattle.network.specs.Calls.{refusal_none, or_else_lem, calls_granted}
use Rattle.network.specs.Declined.{Passes}
use Rattle.network.specs.Plain.{Described}
use Rattle.network.specs.Figures.{words_are}

module _ (l : Limits) (s values : List ℕ) (M₀ : Memory) where
  abbrev d : Description
  d = description_of s

  abbrev A : Array
  A = array_of d

  -- what it leaves
  abbrev M₁ : Memory
  M₁ = started l s values M₀

  -- what a start that is not declined was lent
  pub record Proper : Type 0 where
    pub accepted : refusal_of l s ≡ 0
    pub values_length : length values ≡ length_of d
    pub memory : (start l s values M₀).memory ≡ M₁

  pub proper : (start l s values M₀).answer ≡ Done → Proper
  unfolding start
  proper e = go (eqb n 0) refl
    where
      n : ℕ
      n = refused_by l s (start_tests l s values M₀)

      first : (a b : Bool) → (a || b) ≡ false → a ≡ false
      first true b e = e
      first false b e = refl

      go : (b : Bool) → eqb n 0 ≡ b → Proper
      go true i =
          let r = or_else_lem (refusal_of l s) _ (eqb-true n 0 i) in
          let a = refusal_none _ _ (omega arith) r.1 in
          record {
            accepted = r.0;
            values_length =
                eqb-true (length values) (length_of d)
                (not-false (eqb (length values) (length_of d)) (first (not (eqb (length values) (length_of d)))
                (not (eqb (length M₀.waiting) (length_of d))) a.0));
            memory = rw i;
          }
      go false i = absurd (refused (rw i at e))
        where
          refused : Refused n ≡ Done → ⊥
          refused e = let z : ◌≡◌ {A = ℕ} 0 1 = cc in omega arith

  module _ (W : Wired A) (D : Described d W) where
    -- a start clears
    pub cleared : Cleared W values M₁
    cleared =
        record {
          fit =
              record {
                long =
                    let a = length-append (replicate (state_length d) 0) (drop (state_length d) M₀.state) in
                    let b = length-replicate {A = ℕ} (state_length d) 0 in
                    let c = words_are d in omega arith;
                list = let a = length-replicate {A = ℕ} (length_of d) 0 in let b = D.elements_add in omega arith;
                waits = waiting_is A values;
              };
          state = λ i h.
              let b = length-replicate {A = ℕ} (state_length d) 0 in
              let c = words_are d in
              get_or-append (replicate (state_length d) 0) (drop (state_length d) M₀.state) 0 i (omega arith)
              ∙ get_or-replicate (state_length d) i 0 0 (omega arith);
          received = λ i h. let b = D.elements_add in get_or-replicate (length_of d) i 0 0 (omega arith);
        }

    -- after any calls the memory passes the tests
    pub passes_after : (cs : List Told) → Passes d (apply_all A M₁ (granted_by s M₁ cs))
    passes_after cs =
        let k = kept W cleared.fit.long (cleared_sound W values M₁ cleared) (calls_granted s M₁ cs) in
        record {
          waits = ap length (all_waiting A M₁ (granted_by s M₁ cs)) ∙ length-map (pipe_order A) (λ e. get_or values e 0) ∙ D.elements_add;
          list = all_length A M₁ (granted_by s M₁ cs) ∙ length-replicate {A = ℕ} (length_of d) 0;
          long = omega (arith, cleared.fit.long, written_length W k.written, words_are d);
          sound = k.sound;
        }
