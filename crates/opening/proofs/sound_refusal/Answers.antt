-- `opening::sound_refusal` meets its contract: a state is sound by the rows of the port table exactly if it is sound by the array.
-- Assumes nothing.
use mathlib.Core.Path.{◌∙◌, ap}
use mathlib.Core.Bool.{Bool}
use native.Mathlib.Omega.{arith}
use Rattle.meaning.specs.Tests.{refusal}
use Rattle.declines.specs.Tests.{state_tests}
use Rattle.opening.specs.Opening.{rows_fit_in, sound_by}
use Rattle.opening.proofs.sound_refusal.Goals as goal

pub fill_ports-requires : goal.fill_ports-requires
fill_ports-requires c =
    let p = c.requires in
    (p.0.grounds.described, p.0.grounds.laid, p.1, omega arith, p.2)

pub sound-requires : goal.sound-requires
sound-requires c =
    rows_fit_in c.requires.0
    c.fill_ports.ensures

pub returns : goal.returns
returns c =
    let p = c.fill_ports.ensures in
    let e = c.sound.ensures
    ∙ sound_by c.requires.0 p in
    (c.of_state.ensures ∙ ap (λ (b : Bool). refusal (state_tests b)) e, p)
