-- Request 2.1, "fixed point products": an operation word of 6 no longer meets refusal 4, and the plain run and the network have it.
-- Assumes nothing.
use Rattle.std.specs.Prelude.{◌≡◌, ◌↔◌, List, ℕ, ◌≤◌, ◌<◌, pos}
use Rattle.std.proofs.Math.Path.{refl, ap}
use Rattle.std.proofs.Common.{sym}
use native.Mathlib.Omega.{arith}
use Rattle.integers.specs.Bytes.{bits_at, word_at}
use Rattle.meaning.specs.declared.Limits.{Limits}
use Rattle.meaning.specs.declared.Sizes.{Sizes}
use Rattle.meaning.specs.declared.Line.{Line}
use Rattle.meaning.specs.declared.Description.{Description}
use Rattle.meaning.specs.Tests.{refusal}
use Rattle.meaning.specs.Points.{Between}
use Rattle.meaning.specs.Description.{sizes_of, line_at, body_line, description_of, lines_of}
use Rattle.meaning.specs.Accept.{refusal_of, answer_of, accept}
use Rattle.meaning.specs.Conditions.{WordsFit}
use Rattle.meaning.specs.FixedPoint.{tests_before, HasSix, has_six, tests_after, former_tests, former_accept, conditions_before}
use Rattle.meaning.specs.FixedPoint.{conditions_after}
use Rattle.meaning.specs.FixedPoint.{WasFour, FixedPoint}
use Rattle.geometry.specs.Tests.{numbered}
use Rattle.network.specs.Decide.{Says}
use Rattle.guarantee.specs.StreamConditions.{says_line}
use Rattle.guarantee.specs.Acceptance.{tries}
use Rattle.requests.specs.Dropped.{Compared, Compared.same, Compared.given, Dropped, dropped}
use Rattle.requests.specs.BodyLines.{bits_most, between_bits, line_of_lem, of_line}
use Rattle.requests.specs.AnyOperation.{any_operation}
use Rattle.requests.specs.RunsLoops.{runs_loops}

-- ---- Accept

says_six : (d : Description) → Says (HasSix d) (has_six d)
says_six d = says_line (λ t. t.operation) 6 (lines_of d)

module _ (l : Limits) (s : List ℕ) where
  abbrev d : Description
  d = description_of s

  abbrev z : Sizes
  z = sizes_of s

  four : Dropped l s conditions_before (conditions_after (sizes_of s).streams) (HasSix d) 4 (refusal (former_tests l s))
  unfolding refusal_of numbered
  four = dropped l s conditions_before (conditions_after (sizes_of s).streams) (tests_before l s) (tests_after l s) 4
      (says_six d) refl tt (tries l s) refl

  as_before : (WasFour l s → ⊥) → accept l s ≡ former_accept l s
  unfolding accept
  as_before other = go four.compared
    where
      go : Compared l s conditions_before (HasSix d) 4 (refusal (former_tests l s)) → answer_of s (refusal_of l s) ≡ former_accept l s
      go (same g) = ap (answer_of s) (sym g)
      go (given h six g) = absurd (other (record { held = h; six = six }))

  -- ---- the former 4

  former_four : WordsFit s z → (HasSix d → ⊥) ↔ ((i : ℕ) → i < z.lines → Between (pos 0) (pos 5) (word_at s (line_at z i)))
  unfolding body_line word_at
  former_four f = (
    λ none i h.
        let u = bits_at s (line_at z i) in
        let m : u ≤ 6 = bits_most u 6 (f.operation i h) in
        between_bits u 5 (not_six u m (λ e. none (body_line s z i, of_line s i h, e))) (omega arith),
    λ five p. let r = line_of_lem s p.1 in
        omega (arith, bits_most (bits_at s (line_at z r.0)) 5 (five r.0 r.1), ap (λ (u : Line). u.operation) r.2, p.2),
  )
    where
      not_six : (u : ℕ) → u ≤ 6 → (u ≡ 6 → ⊥) → u ≤ 5
      not_six u h n = omega arith

-- REQUEST 2.1
pub fixed_point : FixedPoint
fixed_point l s =
    record {
      former_four = former_four l s;
      any_operation = λ t o. any_operation o l;
      was_four = λ w. ap (answer_of s) ((four l s).was_given w.held w.six);
      answered_after = λ w. (four l s).answered_after w.held;
      as_before = as_before l s;
      runs = runs_loops l s;
    }
