-- Request 2.5, "guards on body lines": descriptions of the older length are declined by 3, guards out of range by 4, and a line runs only
-- if its index compares so. Assumes nothing.
use Rattle.std.specs.Prelude.{◌≡◌, refl, ℕ, ◌+◌, ◌*◌, ◌-◌, ◌^◌, ◌<◌, length, get_or}
use Rattle.std.proofs.Common.{sym, arith}
use Rattle.std.proofs.Math.Path.{subst}
use mathlib.Core.List.Memᴰ.{head as here}
use mathlib.Core.List.Memᴰ.{tail as there}
use mathlib.Core.List.{List, [], ◌∷◌, Memᴰ as In}
use Rattle.integers.specs.Bytes.{word_at}
use Rattle.integers.specs.declared.V3.{V3}
use Rattle.meaning.specs.declared.Limits.{Limits}
use Rattle.meaning.specs.declared.Sizes.{Sizes}
use Rattle.meaning.specs.declared.Line.{Line}
use Rattle.meaning.specs.Answers.{Refused}
use Rattle.meaning.specs.Operations.{last_operation}
use Rattle.meaning.specs.Guards.{index_of}
use Rattle.meaning.specs.Description.{sizes_of, body_line, no_line, description_of, lines_of}
use Rattle.meaning.specs.Accept.{accept, Accepts}
use Rattle.meaning.specs.Conditions.{Known, SizesFit, former_total, GuardFits, WordsFit, Meets, Condition, Condition.Board}
use Rattle.meaning.specs.Conditions.{Condition.Begins}
use Rattle.meaning.specs.Conditions.{Condition.Sizes-fit, Condition.Long, Condition.Words-fit, Asks}
use Rattle.meaning.specs.FixedPoint.{conditions_after}
use Rattle.meaning.specs.Alike.{DeclinedBy}
use Rattle.meaning.specs.Leaves.{Compares, Compares.always, Runs}
use Rattle.meaning.specs.GuardedLines.{HasWords, conditions_before, GuardedLines}
use Rattle.guarantee.specs.Acceptance.{accepted_not_refused, refused_exactly}
use Rattle.requests.specs.BodyLines.{Allowed, word_bits, line_at_lem, allowed}
use Rattle.requests.specs.Answered.{refused_declines}
use Rattle.requests.specs.AnyGuard.{any_guard}
use Rattle.requests.specs.Guards.{index_is}
use Rattle.requests.specs.RunsLoops.{accepted_meets, runs_loops}

-- a line of comparison 0 runs
always_runs : (x : V3) (t : Line) → Allowed t → t.comparison ≡ 0 → Runs x t
always_runs x t h e =
    record {
      index = index_of t.index x;
      is_index = index_is x t.index h.index;
      compares = subst (Compares (index_of t.index x) t.bound) (sym e) always;
    }

module _ (l : Limits) (s : List ℕ) where
  abbrev z : Sizes
  z = sizes_of s

  -- ---- refusals

  older_length : Known l → SizesFit z → length s ≡ 4 * former_total z → DeclinedBy l s 3
  older_length known f e =
      refused_declines l s 3 (λ g. omega arith)
      ((refused_exactly l s 3).1
      (record {
        passed = Board ∷ Begins ∷ Sizes-fit ∷ [];
        failed = Long;
        rest = Words-fit ∷ conditions_after z.streams;
        order = refl;
        number = refl;
        holds = held;
        fails = λ now. omega (arith, f.lines.0);
      }))
    where
      held : (c : Condition) → In c (Board ∷ Begins ∷ Sizes-fit ∷ []) → Asks l s c
      held c (here p) = subst (Asks l s) (sym p) known
      held c (there (here p)) = subst (Asks l s) (sym p) (omega arith)
      held c (there (there (here p))) = subst (Asks l s) (sym p) f
      held c (there (there (there p))) = elim p [ ]

  covered : ((c : Condition) → In c conditions_before → Asks l s c) → (i : ℕ) → i < z.lines → (GuardFits s z i → ⊥) → accept l s ≡ Refused 4
  covered held i h n =
      (refused_exactly l s 4).1
      (record {
        passed = conditions_before;
        failed = Words-fit;
        rest = conditions_after z.streams;
        order = refl;
        number = refl;
        holds = held;
        fails = λ f. n (f.guard i h);
      })

  -- ---- lines

  meets : Accepts l s → Meets l s
  meets e = accepted_meets l s (accepted_not_refused l s e)

  words : Accepts l s → (i : ℕ) → i < z.lines → HasWords s i (get_or (lines_of (description_of s)) i no_line)
  unfolding body_line word_at
  words e i h = subst (HasWords s i) (sym (line_at_lem s i h)) has
    where
      m : Meets l s
      m = meets e

      w : WordsFit s z
      w = m.words

      g : GuardFits s z i
      g = w.guard i h

      few : z.streams + 1 < 2 ^ 31
      few = omega (arith, m.sizes.streams.1)

      loops : z.loops - 1 < 2 ^ 31
      loops = omega (arith, m.sizes.loops.1)

      has : HasWords s i (body_line s z i)
      has =
          record {
            operation = word_bits _ last_operation (omega arith) (w.operation i h);
            target = word_bits _ (z.streams + 1) few (w.target i h);
            first = word_bits _ (z.streams + 1) few (w.first i h);
            second = word_bits _ (z.streams + 1) few (w.second i h);
            index = word_bits _ (z.loops - 1) loops g.index;
            comparison = word_bits _ 3 (omega arith) g.comparison;
            bound = refl;
          }

  always_running : Accepts l s → (t : Line) → In t (lines_of (description_of s)) → t.comparison ≡ 0 → (x : V3) → Runs x t
  always_running e t k c x =
      let m = meets e in always_runs x t (allowed s m.sizes m.words t k) c

-- REQUEST 2.5
pub guarded_lines : GuardedLines
guarded_lines l s =
    record {
      words = words l s;
      older_length = older_length l s;
      covered = covered l s;
      any_guard = λ t o. any_guard o l;
      always = always_running l s;
      runs = runs_loops l s;
    }
