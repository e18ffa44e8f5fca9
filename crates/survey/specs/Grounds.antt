-- The tests of the loops, 6, 7, 8 and 10, by their ground. Assumes nothing.
use Rattle.std.specs.Prelude.{◌≡◌, Bool, ℕ, eqb, ltb, pos}
use Rattle.std.proofs.Common.{◌∙◌, ap}
use Rattle.integers.specs.Words.{eq_z}
use Rattle.integers.specs.declared.V3.{V3}
use Rattle.meaning.specs.declared.Limits.{Limits}
use Rattle.meaning.specs.declared.Nest.{Nest}
use Rattle.meaning.specs.Loops.{step_of}
use Rattle.meaning.specs.Accept.{refused6, refused7, refused8, refused10}
use Rattle.survey.specs.Small.{rank_by_divisor}
use Rattle.survey.specs.declared.Ground.{Ground}
use Rattle.survey.specs.Surveys.{GroundOf}

module _ {n : Nest} {g : Ground} (h : GroundOf n g) {r : Bool} where
  pub six : (l : Limits) → r ≡ ltb l.instances g.instances → r ≡ refused6 l n
  six l e = e ∙ ap (ltb l.instances) h.instances_is

  pub seven : r ≡ eqb g.divisor 0 → r ≡ refused7 n
  seven e = e ∙ ap (λ (k : ℕ). eqb k 0) h.divisor_is ∙ rank_by_divisor n.place

  pub eight : r ≡ eq_z (step_of n g.increment) (pos 0) → r ≡ refused8 n
  eight e = e ∙ ap (λ (v : V3). eq_z (step_of n v) (pos 0)) h.increment_is

  pub ten : (l : Limits) → r ≡ ltb l.processes g.processes → r ≡ refused10 l n
  ten l e = e ∙ ap (ltb l.processes) h.processes_is
