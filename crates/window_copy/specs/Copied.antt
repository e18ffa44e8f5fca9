-- What a list is once values are copied into it, and what a refused call of Window has for that. Assumes nothing.
use Rattle.std.specs.Prelude.{◌≡◌, refl, List, [], ◌++◌, ℕ, min, length, take, drop}
use Rattle.std.proofs.Common.{◌∙◌, arith, ne_eqb}
use Rattle.meaning.specs.declared.Limits.{Limits}
use Rattle.meaning.specs.Calls.{refused_by, window_tests, window}

-- values over the first places of a list, as far as there is room
abbrev pub copied : List ℕ → List ℕ → List ℕ
copied values to = let n = min (length values) (length to) in take n values ++ drop n to

pub copied_none : (to : List ℕ) → to ≡ copied [] to
copied_none to = let e : min 0 (length to) ≡ 0 = omega arith in rw e refl

-- a refused call has an empty part
pub nothing_seen : (l : Limits) (s : List ℕ) (pipe side : ℕ) (waiting received : List ℕ)
    → ((window l s pipe side waiting received).refusal ≡ 0 → ⊥) → (window l s pipe side waiting received).part ≡ []
unfolding window
nothing_seen l s pipe side waiting received f =
    rw (ne_eqb (refused_by l s (window_tests l s pipe side waiting received)) 0 f) refl
