-- `opening::open_accepted` meets its contract: the test of 22 comes last, and those of the lengths before it leave the state long enough
-- for it. Assumes nothing.
use mathlib.Core.Path.{◌≡◌, refl, ◌∙◌}
use native.Mathlib.Omega.{arith}
use borrow.Author.Rules.{rules}
use Rattle.refusals.specs.Numbers.{number_of, refusal_number, number-positive}
use Rattle.meaning.specs.Rules.{memory_of}
use Rattle.opening.specs.Opening.{size_is, lengths_hold, lengths_passed, lengths_refused, stands_lem}
use Rattle.opening.proofs.open_accepted.Goals as goal

pub figures_of-f-requires : goal.figures_of-f-requires
figures_of-f-requires c =
    let p = c.requires in (p.0.described, p.1, omega arith, p.2)

pub sound_refusal-requires : goal.sound_refusal-requires
sound_refusal-requires c =
    let a = c.args in
    let f = c.figures_of-f.ensures in
    let M = memory_of a.waiting.now a.received.now a.state.now in
    let l = lengths_hold a.v.description f.0 M c.in_ok-of_memory.ensures refl in (
      record {
        grounds = c.requires.0;
        size = c.size_of-z.ensures ∙ size_is a.v.description f.0;
        long = l.2;
      },
      c.requires.1,
      f.1,
    )

pub returns : goal.returns
returns c =
    let a = c.args in
    let f = c.figures_of-f.ensures in
    let r = c.in_ok-sound_refusal.ensures in
    let d = a.v.description in
    let M = memory_of a.waiting.now a.received.now a.state.now in
    record {
      number = lengths_passed d f.0 M c.in_ok-of_memory.ensures refl r.0;
      opened = record {
        survey_is = refl;
        stood = stands_lem d f.0 M c.in_ok-of_memory.ensures refl (c.size_of-z.ensures ∙ size_is d f.0) r.0 r.1;
        lanes = f.1;
      };
    }

pub returns-in_err-of_memory-clause-number : goal.returns-in_err-of_memory-clause-number
returns-in_err-of_memory-clause-number c =
    let a = c.args in
    let e = c.in_err-of_memory.field-0.0 in
    let k : refusal_number c.from_residual.result ≡ number_of e = search rules in
    k ∙ lengths_refused a.v.description c.figures_of-f.ensures.0 (memory_of a.waiting.now a.received.now a.state.now)
    c.in_err-of_memory.ensures (λ z. omega (arith, number-positive e))

pub returns-in_err-sound_refusal-clause-number : goal.returns-in_err-sound_refusal-clause-number
returns-in_err-sound_refusal-clause-number c =
    let a = c.args in
    let e = c.in_err-sound_refusal.field-0.0 in
    let k : refusal_number c.from_residual-in_err-sound_refusal.result ≡ number_of e = search rules in
    k ∙ lengths_passed a.v.description c.figures_of-f.ensures.0 (memory_of a.waiting.now a.received.now a.state.now)
    c.in_ok-of_memory.ensures refl c.in_err-sound_refusal.ensures.0
