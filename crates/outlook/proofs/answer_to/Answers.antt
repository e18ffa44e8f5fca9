-- `outlook::answer_to` meets its contract. Assumes nothing.
use mathlib.Core.Path.{sym, ◌∙◌, ap, subst}
use lib.IntN.{ℤ}
use Rattle.integers.specs.Differences.{Abs}
use Rattle.integers.specs.Words.{held}
use Rattle.outlook.specs.Outlooks.{answer_at}
use Rattle.outlook.proofs.answer_to.Goals as goal

pub answer_at-requires : goal.answer_at-requires
answer_at-requires c =
    let d = c.dot_of in
    subst (λ (z : ℤ). Abs z 4800) (d.ensures.0 ∙ sym (held d.type_inv d.ensures.0)) d.ensures.1

pub returns : goal.returns
returns c =
    let d = c.dot_of in
    let a = c.args in c.answer_at.ensures ∙ ap (answer_at a.o a.hop) (held d.type_inv d.ensures.0)
