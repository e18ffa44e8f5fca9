-- Request 2.3, "a generated load". Assumes nothing.
use Rattle.std.specs.Prelude.{◌≡◌, true, List, ℕ, ◌*◌, ◌-◌, ◌≤◌, ◌<◌, length, ℤ}
use Rattle.std.proofs.Common.{sym, ◌∙◌, ap}
use Rattle.integers.specs.Bytes.{word_at}
use Rattle.meaning.specs.declared.Sizes.{Sizes}
use Rattle.meaning.specs.Description.{in_range}
use Rattle.meaning.specs.Conditions.{SizesFit, word_total}
use Rattle.meaning.specs.Generator.{after, before, drawn}
use Rattle.meaning.specs.GeneratedLoad.{Seed, description_from, Draws, GeneratedLoad}
use Rattle.generated.specs.Rounds.{zero_stays, before_word, after_before, rounds}
use Rattle.generated.specs.Drawn.{direction_even, direction_odd, drawn_remainder, drawn_in_range, drawn_by}
use Rattle.requests.specs.Fills.{fills}
use Rattle.requests.specs.Makes.{word_is, makes}

-- a seed that comes to a state
seed_before : (n x : ℕ) → Seed x → Seed (before n x)
seed_before n x s =
    record {
      word = before_word n x s.word;
      not_zero = λ e. s.not_zero (sym (after_before n x s.word) ∙ ap (after n) e ∙ zero_stays n);
    }

module _ (z : Sizes) (k : ℕ) where
  -- every word of its range stands in some made description
  stands : SizesFit z → (w : ℤ) → in_range z k w ≡ true → 3 ≤ k → k < word_total z → (out : List ℕ) → 4 * word_total z ≤ length out
      → (seed : ℕ) × Seed seed × (word_at (description_from seed z out) k ≡ w)
  stands f w e h l out long =
      let d = drawn_by z k f w e in
      let x = d.0 in
      let seed = before (k - 2) x in
      let s = seed_before (k - 2) x d.1 in (
        seed,
        s,
        word_is seed z out ((makes seed z out).whole s.not_zero f long) k h l
            ∙ ap (drawn z k) (after_before (k - 2) x d.1.word) ∙ d.2,
      )

  draws : Draws z k
  draws =
      record {
        even = direction_even z k;
        odd = direction_odd z k;
        remainder = drawn_remainder z k;
        in_range_lem = drawn_in_range z k;
        reached = drawn_by z k;
        made = stands;
      }

-- REQUEST 2.3
pub generated_load : GeneratedLoad
generated_load = record { rounds = rounds; fills = fills; makes = makes; draws = draws }
