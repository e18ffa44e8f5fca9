-- Request 2.4, "walk by process": a whole walk comes to every instance exactly once and to nothing else, in that order, and Accept answers
-- every description as before. Assumes nothing.
use Rattle.std.specs.Prelude.{◌≡◌, refl, ◌⊎◌, Bool, true, false, not, cond, ℕ, suc, ◌≤◌, T, leb, take}
use Rattle.std.proofs.Math.Path.{sym, ap}
use Rattle.std.proofs.Common.{◌∙◌, ap₂, inl, inr, arith, leb→le}
use mathlib.Core.List.{List, [], ◌∷◌, ◌++◌}
use Rattle.std.proofs.Math.Decide.{ℕ_discrete}
use Rattle.meaning.specs.declared.Limits.{Limits}
use Rattle.meaning.specs.declared.Nest.{Nest}
use Rattle.meaning.specs.declared.Stream.{Stream}
use Rattle.meaning.specs.declared.Description.{Description}
use Rattle.meaning.specs.Lists.{any, every}
use Rattle.meaning.specs.Tests.{Test, ◌if◌, refusal}
use Rattle.meaning.specs.Streams.{elements, touches}
use Rattle.meaning.specs.Description.{description_of, streams_of, written}
use Rattle.meaning.specs.Accept.{refused33, refused17, stream_tests, nest_tests, byte_tests, tests_from, refusal_of, answer_of, accept}
use Rattle.meaning.specs.Answers.{accept_number}
use Rattle.meaning.specs.Walk.{walk_tests, walk_refusal, untouched_on_walk, walking_from, walking_accept, WalkByProcess}
use Rattle.geometry.specs.Tests.{one_applies}
use Rattle.geometry.specs.Processes.{Layout}
use Rattle.geometry.specs.Descriptions.{walk_passes, walk_layout}
use Rattle.geometry.proofs.Walk.{whole_walk, any_on_walk}
use Rattle.guarantee.specs.Acceptance.{accepted_not_refused}
use Rattle.guarantee.proofs.Demand1.{demand_one}

-- ---- the check along the walk

-- an element is touched by no instance exactly if the walk comes to none that touches it
untouched_same : {n : Nest} → Layout n → (s : Stream) → untouched_on_walk n s ≡ refused17 n s
untouched_same {n} layout s = λ i. any (λ e. not (any_on_walk layout (λ x. touches s x e) i)) (elements n s)

walking_same : (l : Limits) (d : Description) → Layout d.nest → (i : ℕ) (ss : List Stream) → walking_from l d i ss ≡ tests_from l d i ss
unfolding walking_from tests_from
walking_same l d layout i [] = refl
walking_same l d layout i (s ∷ ss) =
    ap₂ (λ (b : Bool) (t : List Test). (take 6 (stream_tests l d.nest (written d i) s) ++ ((17 if b) ∷ [])) ++ t)
    (untouched_same layout s) (walking_same l d layout (suc i) ss)

-- ---- numbers

-- a refusal has the number of a test
refusal_most : (m : ℕ) (l : List Test) → T (every (λ t. leb t.number m) l) → refusal l ≤ m
unfolding refusal every
refusal_most m [] h = omega arith
refusal_most m (t ∷ l) h = go (leb t.number m) (leb→le t.number m) h t.applies (refusal_most m l)
  where
    go : (b : Bool) → (T b → t.number ≤ m) → T (cond b (every (λ t. leb t.number m) l) false) → (a : Bool)
        → (T (every (λ t. leb t.number m) l) → refusal l ≤ m) → cond a t.number (refusal l) ≤ m
    go true f h true ih = f tt
    go true f h false ih = ih h
    go false f h a ih = absurd h

module _ (l : Limits) (s : List ℕ) where
  abbrev d : Description
  d = description_of s

  walk_most : (walk_refusal l s ≡ 33) ⊎ (walk_refusal l s ≤ 10)
  unfolding walk_refusal every refusal
  walk_most = go (refused33 l)
    where
      after : List Test
      after = byte_tests s ++ nest_tests l d.nest

      go : (b : Bool) → (cond b 33 (refusal after) ≡ 33) ⊎ (cond b 33 (refusal after) ≤ 10)
      go true = inl refl
      go false = inr (refusal_most 10 after tt)

  -- one of the refusals 1 to 10 is Accept's, whatever comes after them
  refused : (walk_refusal l s ≡ 0 → ⊥) → walk_refusal l s ≡ accept_number (accept l s)
  unfolding walk_refusal refusal_of
  refused f = one_applies (walk_tests l s) (tests_from l d 0 (streams_of d)) f ∙ sym (demand_one l s).numbers.accept

  by_stream_lem : 11 ≤ accept_number (accept l s) → accept_number (accept l s) ≤ 17 → walk_refusal l s ≡ 0
  by_stream_lem h k = go (ℕ_discrete (walk_refusal l s) 0)
    where
      none : (walk_refusal l s ≡ 0 → ⊥) → (walk_refusal l s ≡ 33) ⊎ (walk_refusal l s ≤ 10) → ⊥
      none f (inl e) = omega (arith, refused f)
      none f (inr e) = omega (arith, refused f)

      go : Dec (walk_refusal l s ≡ 0) → walk_refusal l s ≡ 0
      go (yes e) = e
      go (no f) = absurd (none f walk_most)

  as_before : walking_accept l s ≡ accept l s
  unfolding walk_refusal refusal_of accept
  as_before = ap (answer_of s) (go (ℕ_discrete (walk_refusal l s) 0))
    where
      go : Dec (walk_refusal l s ≡ 0) → refusal (walk_tests l s ++ walking_from l d 0 (streams_of d)) ≡ refusal_of l s
      go (yes e) = ap (λ (t : List Test). refusal (walk_tests l s ++ t)) (walking_same l d (walk_layout l s e) 0 (streams_of d))
      go (no f) =
          sym (one_applies (walk_tests l s) (walking_from l d 0 (streams_of d)) f)
          ∙ one_applies (walk_tests l s) (tests_from l d 0 (streams_of d)) f

-- REQUEST 2.4
pub walk_by_process : (l : Limits) (s : List ℕ) → WalkByProcess l s
walk_by_process l s =
    record {
      whole = λ e. whole_walk (walk_layout l s e);
      accepted = λ e. walk_passes l s (accepted_not_refused l s e);
      by_stream_lem = by_stream_lem l s;
      refused = refused l s;
      as_before = as_before l s;
    }
