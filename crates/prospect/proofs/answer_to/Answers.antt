-- `prospect::answer_to` meets its contract. Assumes nothing.
use mathlib.Core.Path.{refl, sym, ◌∙◌, ap}
use lib.IntN.{ℤ, pos}
use borrow.Author.Tests.{eq-eqb, ne_eqb}
use Rattle.integers.specs.Words.{eq_z}
use Rattle.vectors.specs.Within.{zero_bits}
use Rattle.prospect.proofs.answer_to.Goals as goal

pub dot_of-requires : goal.dot_of-requires
dot_of-requires c = (c.requires.vector, c.requires.increment)

pub streams_answer-requires : goal.streams_answer-requires
streams_answer-requires c =
    (c.requires.vector, c.requires.few, c.requires.lines c.if-p.false)

pub returns-then-dot_of-eq0 : goal.returns-then-dot_of-eq0
returns-then-dot_of-eq0 c =
    let d = c.dot_of in
    rw (sym (zero_bits tt d.ensures.1 ∙ ap (λ (z : ℤ). eq_z z (pos 0)) d.ensures.0) ∙ eq-eqb _ _ c.if-dot_of-eq0.true) refl

-- the increment moves
pub returns-then-p : goal.returns-then-p
returns-then-p c =
    let d = c.dot_of in
    rw (
      sym (zero_bits tt d.ensures.1 ∙ ap (λ (z : ℤ). eq_z z (pos 0)) d.ensures.0) ∙ ne_eqb _ _ c.if-dot_of-eq0.false,
      c.if-p.true,
    ) refl

pub returns : goal.returns
returns c =
    let d = c.dot_of in
    rw (
      sym (zero_bits tt d.ensures.1 ∙ ap (λ (z : ℤ). eq_z z (pos 0)) d.ensures.0) ∙ ne_eqb _ _ c.if-dot_of-eq0.false,
      c.if-p.false,
    ) c.streams_answer.ensures
