-- Instances, and pairs of a process and a number below its count, are the same thing: every instance is run by one process, as one firing
-- of it, and a process runs nothing else. Assumes directions of 1 or −1 and an increment of positive step, which `Layout` says.
use Rattle.std.specs.Prelude.{◌≡◌, refl, not, ℕ, zero, suc, ◌+◌, ◌*◌, ◌/◌, ◌<◌, T, eqb, length, ℤ, pos, negsuc, ◌+ℤ◌, ◌-ℤ◌, ◌*ℤ◌, ◌<ℤ◌}
use Rattle.std.proofs.Common.{sym, ◌∙◌, ap, subst, mul-div_cancel, arith, eqb→eq}
use mathlib.Core.List.{List, [], ◌∷◌, Memᴰ as In}
use Rattle.std.proofs.Math.Dec.{not_T}
use Rattle.integers.specs.Differences.{gaps, parts, up, lt_out}
use Rattle.integers.specs.Variables.{linear}
use Rattle.integers.specs.Vectors.{shift3}
use Rattle.integers.proofs.Vectors.{dot_shift}
use Rattle.integers.specs.declared.V3.{V3}
use Rattle.integers.specs.declared.V2.{V2}
use Rattle.meaning.specs.declared.Nest.{Nest}
use Rattle.meaning.specs.Loops.{step_of, place_of, increment}
use Rattle.meaning.specs.Space.{instances_at, count, first, computing}
use Rattle.meaning.specs.Points.{IsLine as Line, Directed, Within, At}
use Rattle.geometry.specs.Numbers.{shift_shift3}
use Rattle.geometry.specs.Lines.{along}
use Rattle.geometry.specs.Segments.{at_in, first_at, segment, numbered, instance}

-- what of the nest every theorem below asks
pub record Layout (n : Nest) : Type 0 where
  pub dirs : Directed n
  pub inc : Line n n.place (increment n)

-- x is an instance of process y
abbrev pub RunAt : Nest → V2 → V3 → Type 0
RunAt n y x = At n n.place y x

-- firing i of a process runs this instance; an instance is this firing of its process
abbrev pub run_at : Nest → V2 → ℕ → V3
run_at n y i = shift3 (first n y) (pos i) (increment n)

abbrev pub firing_of : Nest → V3 → ℕ
firing_of n x = up (step_of n x -ℤ step_of n (first n (place_of n x))) / up (step_of n (increment n))

module _ {n : Nest} (layout : Layout n) where
  pub is_computing : {y : V2} {x : V3} → RunAt n y x → T (computing n y)
  is_computing {y} {x} a = go (instances_at n y) (at_in layout.dirs a)
    where
      go : (l : List V3) → In x l → T (not (eqb (length l) 0))
      go [] i = elim i [ ]
      go (u ∷ l) i = not_T (eqb (suc (length l)) 0) (λ t. absurd (omega (arith, eqb→eq (suc (length l)) 0 t)))

  pub computing_count : {y : V2} {x : V3} → RunAt n y x → 0 < count n y
  computing_count a = omega (arith, (segment layout.dirs layout.inc a).size)
