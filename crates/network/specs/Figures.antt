-- The figures that Accept answers, read off the array: the words of a state, and the steps. Assumes nothing.
use Rattle.std.specs.Prelude.{◌≡◌, refl, List, [], ◌∷◌, map, length}
use Rattle.std.proofs.Common.{◌∙◌, ap}
use Rattle.std.proofs.Math.Path.{ap₂}
use Prim.Native.Nat.{ℕ, suc, ◌+◌, ◌*◌}
use Rattle.std.proofs.lemmas.List.{length-map}
use Rattle.integers.specs.declared.V2.{V2}
use Rattle.meaning.specs.declared.Nest.{Nest}
use Rattle.meaning.specs.declared.Stream.{Stream}
use Rattle.meaning.specs.declared.Description.{Description}
use Rattle.meaning.specs.Lists.{total}
use Rattle.meaning.specs.Loops.{instances}
use Rattle.meaning.specs.Space.{processes}
use Rattle.meaning.specs.Streams.{elements, hop}
use Rattle.meaning.specs.Pipes.{pipe, entries, pipe_elements}
use Rattle.meaning.specs.Description.{streams_of}
use Rattle.meaning.specs.Accept.{state_words, total_steps}
use Rattle.meaning.specs.Array.{Pipe, runs, pipe_of, pipes_from, array_of, stop_of}
use Rattle.meaning.specs.State.{word_count}
use Rattle.lists.specs.Sums.{total_map, total_ext, total_same, total_append}
use Rattle.network.specs.Wiring.{Wired}
use Rattle.network.specs.Outcome.{step_total}

-- a sum over the pipes is one over the streams and their entries
pipes_total : (f : Pipe → ℕ) (g : Stream → V2 → ℕ) (n : Nest) → ((i e : ℕ) (s : Stream) (y : V2) → f (pipe_of n i e s y) ≡ g s y)
    → (i e : ℕ) (ss : List Stream) → total f (pipes_from n i e ss) ≡ total (λ s. total (g s) (entries n s)) ss
unfolding pipes_from total
pipes_total f g n h i e [] = refl
pipes_total f g n h i e (s ∷ ss) =
    total_append f (map (pipe_of n i e s) (entries n s)) (pipes_from n (suc i) (e + length (elements n s)) ss)
    ∙ ap₂ ◌+◌ (total_map f (pipe_of n i e s) (entries n s) ∙ total_ext _ _ (h i e s) (entries n s))
    (pipes_total f g n h (suc i) (e + length (elements n s)) ss)

module _ (d : Description) where
  -- the words that Accept counts are those of the state
  pub words_are : word_count (array_of d) ≡ state_words d.nest (streams_of d)
  unfolding array_of
  words_are =
      ap₂ ◌+◌
      (ap₂ ◌*◌ (length-map (processes d.nest) (runs d.nest))
      (ap (λ (n : ℕ). 1 + n) (total_map (λ h. 4 + h) (hop d.nest) (streams_of d))))
      (pipes_total (λ r. 2 + r.hop) (λ s y. 2 + hop d.nest s) d.nest (λ i e s y. refl) 0 0 (streams_of d)
      ∙ total_ext _ _ (λ s. total_same _ (2 + hop d.nest s) (λ y. refl) (entries d.nest s)) (streams_of d))

  -- and the steps that it answers are the total
  pub steps_are : (W : Wired (array_of d)) → W.instances ≡ length (instances d.nest) → step_total W ≡ total_steps d.nest (streams_of d)
  unfolding array_of
  steps_are W e =
      ap₂ ◌+◌ e
      (pipes_total (λ r. 2 * (length r.elements * suc (length r.stops)))
      (λ s y. 2 * (length (pipe_elements d.nest s y) * suc (length (pipe d.nest s y)))) d.nest
      (λ i e s y. ap₂ (λ (a b : ℕ). 2 * (a * suc b)) (length-map (pipe_elements d.nest s y) _)
      (length-map (pipe d.nest s y) (stop_of d.nest s))) 0 0 (streams_of d))
