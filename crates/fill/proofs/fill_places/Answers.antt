-- `fill::fill_places` meets its contract: the state is that after i rounds, and the first i places have those before it. Assumes nothing.
use mathlib.Core.Path.{sym, ◌∙◌, ap}
use native.Mathlib.Numerals.{add-one}
use Rattle.integers.specs.Fill.{fill_zero, fill_step}
use Rattle.meaning.specs.Generator.{round}
use Rattle.generated.specs.Rounds.{after_none, after_more}
use Rattle.fill.proofs.fill_places.Goals as goal

pub loop-i-init : goal.loop-i-init
loop-i-init c = (sym (after_none _), sym (fill_zero _ _))

pub loop-i-preserved : goal.loop-i-preserved
loop-i-preserved c =
    let v = c.loop-i.invariant in
    let e = c.next-next.ensures ∙ ap round v.0 ∙ sym (after_more _ _) in
    (e, rw (fill_step, v.1, e, add-one))
