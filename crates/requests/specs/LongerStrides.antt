-- Request 2.2, "longer strides": Accept without refusal 9 beside Accept with it. What was refused by 9 is answered by what comes after it,
-- all else as before, and first and last of Table's rows are outermost. Assumes nothing.
use Rattle.std.specs.Prelude.{◌≡◌, List, ℕ}
use Rattle.std.proofs.Math.Path.{refl, ap}
use Rattle.std.proofs.Common.{sym, ◌∙◌, subst}
use mathlib.Core.List.Memᴰ.{head as here}
use mathlib.Core.List.Memᴰ.{tail as there}
use Rattle.integers.specs.declared.V3.{V3}
use Rattle.meaning.specs.declared.Limits.{Limits}
use Rattle.meaning.specs.declared.Nest.{Nest}
use Rattle.meaning.specs.Answers.{Refused}
use Rattle.meaning.specs.Tests.{refusal}
use Rattle.meaning.specs.Loops.{increment}
use Rattle.meaning.specs.Points.{IsLine}
use Rattle.meaning.specs.Description.{sizes_of, description_of}
use Rattle.meaning.specs.Accept.{refusal_of, answer_of, accept}
use Rattle.meaning.specs.Conditions.{Small, Condition.Place-rank, Condition.Increment}
use Rattle.meaning.specs.LongerStrides.{former_nine, tests_before, tests_after, former_tests, former_accept, conditions_before}
use Rattle.meaning.specs.LongerStrides.{conditions_after}
use Rattle.meaning.specs.LongerStrides.{WasNine, LongerStrides}
use Rattle.geometry.specs.Tests.{numbered}
use Rattle.geometry.specs.Lines.{line_unique}
use Rattle.network.specs.Decide.{Says, says_as, says_and, says_not}
use Rattle.guarantee.specs.Refusals.{says_small, numbered as conditions-numbered}
use Rattle.guarantee.specs.NestConditions.{line_found}
use Rattle.guarantee.specs.Acceptance.{tries, refused_exactly}
use Rattle.requests.specs.Dropped.{Held, Compared, Compared.same, Compared.given, Dropped, dropped}
use Rattle.requests.specs.Outermost.{table_outermost}

-- ---- 9 as it was

abbrev Short : V3 → Type 0
Short u = Small u.x × Small u.y × Small u.z

-- it was given exactly where a component of the increment is outside −1 to 1
says_stride : (n : Nest) → Says (Short (increment n) → ⊥) (former_nine n)
says_stride n =
    let u = increment n in
    says_not (says_as (λ p. (p.0.0, p.0.1, p.1)) (λ p. ((p.0, p.1), p.2))
    (says_and (says_and (says_small u.x) (says_small u.y)) (says_small u.z)))

module _ (l : Limits) (s : List ℕ) where
  abbrev n : Nest
  n = (description_of s).nest

  -- where 1 to 8 hold there is an increment
  increment_line : Held l s conditions_before → IsLine n n.place (increment n)
  increment_line h =
      line_found n n.place (h Place-rank (there (there (there (there (there (there (there (here refl)))))))))
      (h Increment (there (there (there (there (there (there (there (there (here refl))))))))))

  abbrev Was : Type 0
  Was = Compared l s conditions_before (Short (increment n) → ⊥) 9 (refusal (former_tests l s))

  nine : Dropped l s conditions_before (conditions_after (sizes_of s).streams) (Short (increment n) → ⊥) 9 (refusal (former_tests l s))
  unfolding refusal_of numbered
  nine =
      dropped l s conditions_before (conditions_after (sizes_of s).streams) (tests_before l s) (tests_after l s) 9
      (says_stride n) refl tt (tries l s) refl

  -- ---- the claims

  never_nine : accept l s ≡ Refused 9 → ⊥
  never_nine e = let f = (refused_exactly l s 9).0 e in (conditions-numbered f.failed).1 f.number

  as_before : (former_accept l s ≡ Refused 9 → ⊥) → accept l s ≡ former_accept l s
  unfolding accept
  as_before other = go nine.compared
    where
      go : Was → answer_of s (refusal_of l s) ≡ former_accept l s
      go (same g) = ap (answer_of s) (sym g)
      go (given h b g) = absurd (other (ap (answer_of s) g))

  was_nine : former_accept l s ≡ Refused 9 → WasNine l s
  unfolding accept
  was_nine e = go nine.compared
    where
      go : Was → WasNine l s
      go (same g) = absurd (never_nine (ap (answer_of s) (sym g) ∙ e))
      go (given h b g) = record { held = h; stride = record { increment = increment n; is_line = increment_line h; long = b } }

  nine_was : WasNine l s → former_accept l s ≡ Refused 9
  nine_was w =
      ap (answer_of s) (nine.was_given w.held
      (λ x. w.stride.long (subst Short (line_unique (increment_line w.held) w.stride.is_line) x)))

-- REQUEST 2.2
pub longer_strides : LongerStrides
longer_strides l s =
    record {
      never_nine = never_nine l s;
      as_before = as_before l s;
      was_nine = (was_nine l s, nine_was l s);
      answered_after = λ w. (nine l s).answered_after w.held;
      outermost = λ e lent h. table_outermost l s lent e h;
    }
