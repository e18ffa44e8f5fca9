-- `start::start_accepted` meets its contract: where no test of its own applies the lists have the lengths that the filling asks for; else
-- they stay. Assumes nothing.
use borrow.Author.Rules.{rules}
use mathlib.Core.Path.{◌≡◌, refl, sym, subst}
use native.Mathlib.Omega.{arith}
use Rattle.refusals.specs.Numbers.{number_of, numbered, number-positive}
use Rattle.meaning.specs.Answers.{Answer, Refused}
use Rattle.meaning.specs.Rules.{memory_of}
use Rattle.start.specs.Call.{Called, fitting, call_done, call_refused}
use Rattle.start.proofs.start_accepted.Goals as goal

pub figures_of-f-requires : goal.figures_of-f-requires
figures_of-f-requires c = let p = c.requires in (p.0.described, p.1, omega arith, refl)

pub fill_memory-requires : goal.fill_memory-requires
fill_memory-requires c =
    let a = c.args in (
      fitting a.v.description c.figures_of-f.ensures.0 a.values.now
          (memory_of a.waiting.now a.received.now a.state.now)
          c.in_ok-of_start.ensures c.requires.0 refl,
      c.requires.1,
      c.figures_of-f.ensures.1,
    )

pub returns : goal.returns
returns c =
    let a = c.args in
    call_done a.v.description c.figures_of-f.ensures.0 a.values.now
    (memory_of a.waiting.now a.received.now a.state.now)
    c.in_ok-of_start.ensures refl c.fill_memory.ensures

pub returns-in_err-of_start : goal.returns-in_err-of_start
returns-in_err-of_start c =
    let a = c.args in
    let d = a.v.description in
    let M = memory_of a.waiting.now a.received.now a.state.now in
    let e = c.in_err-of_start.field-0.0 in
    let k : numbered c.from_residual.result ≡ Refused (number_of e) = search rules in
    subst (λ (r : Answer). Called d a.values.now M r M) (sym k)
    (call_refused d c.figures_of-f.ensures.0 a.values.now M c.in_err-of_start.ensures (λ z. omega (arith, number-positive e)))
