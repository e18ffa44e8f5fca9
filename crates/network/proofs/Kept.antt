-- What granted steps keep on any sound state, whether a start leads to it or not: it stays sound, and only words of slots are written, so
-- that what stands past the words is kept. Assumes nothing.
use Rattle.std.specs.Prelude.{◌≡◌, refl, true, List, ℕ, ◌≤◌, length, drop}
use Rattle.std.proofs.Common.{◌∙◌, arith, drop-set-lt}
use Rattle.meaning.specs.Array.{Array}
use Rattle.meaning.specs.State.{Taken, Given, index, word_count}
use Rattle.meaning.specs.Rules.{sound, Memory, apply_all}
use Rattle.meaning.specs.declared.Step.{Step as RuleStep}
use Rattle.network.proofs.Places.{layout}
use Rattle.network.specs.Wiring.{Wired}
use Rattle.network.specs.Slots.{word_of, word_live}
use Rattle.network.specs.Decide.{said, says_true}
use Rattle.network.specs.Ready.{says_ready}
use Rattle.network.proofs.Links.{Written, nothing, also, written_length}
use Rattle.network.proofs.Steps.{step_written}
use Rattle.network.proofs.States.{Off, Port, says_sound, sound_kept}
use Rattle.network.specs.Runs.{Grants, none, step}
use Rattle.network.proofs.Runs.{Cleared, reached_start, sound_of}

module _ {A : Array} (W : Wired A) where
  written_then : {st st' st'' : List ℕ} → Written W st st' → Written W st' st'' → Written W st st''
  written_then w nothing = w
  written_then w (also v a x h) = also (written_then w v) a x h

  -- a slot's word is below the number of words
  pub written_beyond : {st st' : List ℕ} → Written W st st' → drop (word_count A) st' ≡ drop (word_count A) st
  written_beyond nothing = refl
  written_beyond (also {st'} w a v h) =
      drop-set-lt (word_count A) st' (index A (word_of A a)) v ((layout A).below (word_of A a) (word_live A W a h)) ∙ written_beyond w

  -- a list of granted steps
  pub record Kept (M M' : Memory) : Type 0 where
    pub sound : sound A M'.state ≡ true
    pub written : Written W M.state M'.state

  pub kept : {M : Memory} {l : List RuleStep} → word_count A ≤ length M.state → sound A M.state ≡ true → Grants A M l
      → Kept M (apply_all A M l)
  unfolding apply_all
  kept long e none = record { sound = e; written = nothing }
  kept {M} long e (step {a = a} h r g) =
      let z = said (says_sound W M.state) e in
      let w = step_written W M long z.0 a h (said (says_ready A M.state W z.0 a h) r) in
      let k = kept (omega (arith, long, written_length W w)) (sound_kept W M a long e h r) g in
      record { sound = k.sound; written = written_then w k.written }

  -- a cleared state is sound
  pub cleared_sound : (values : List ℕ) (M : Memory) → Cleared W values M → sound A M.state ≡ true
  unfolding Off Port
  cleared_sound values M C =
      says_true (says_sound W M.state) (
        sound_of W values (reached_start W values M C),
        λ p s h l e.
            let a = C.state (index A (Taken p s)) ((layout A).below (Taken p s) (h, l)) in
            let b = C.state (index A (Given p s)) ((layout A).below (Given p s) (h, l)) in
            (omega (arith, a), omega (arith, b)),
      )
