-- `named_step::step_opened` meets its contract: by the port table of an opened memory a name is that of a step, and the step is ready,
-- exactly where it is so by the array. Assumes nothing.
use Rattle.std.proofs.Common.{◌≡◌, sym, ◌∙◌}
use native.Mathlib.Omega.{arith}
use Rattle.meaning.specs.Description.{description_of}
use Rattle.step_rules.specs.Steps.{program_of}
use Rattle.opening.specs.Opening.{grounds}
use Rattle.opening.specs.Opened.{fits}
use Rattle.named_step.specs.Named.{rows_of}
use Rattle.named_step.specs.Stepped.{unnamed, tests, unready, asks, done}
use Rattle.named_step.proofs.step_opened.Goals as goal

pub named-requires : goal.named-requires
named-requires c = let o = c.requires.0 in rows_of (fits (grounds _ o.accepted) o.stood)

pub returns-in_default : goal.returns-in_default
returns-in_default c =
    let a = c.args in unnamed c.requires.0 a.kind a.number a.stream (sym c.named.ensures ∙ c.in_default.is)

pub can-requires : goal.can-requires
can-requires c =
    let a = c.args in tests c.requires.0 a.kind a.number a.stream (sym c.named.ensures ∙ c.in-Some.is)

pub returns-then-not-can : goal.returns-then-not-can
returns-then-not-can c =
    let a = c.args in
    unready c.requires.0 a.kind a.number a.stream (sym c.named.ensures ∙ c.in-Some.is) (sym c.can.ensures ∙ c.if-not-can.true)

pub act-requires : goal.act-requires
act-requires c =
    let a = c.args in
    let p = c.requires in
    let g = c.program_of-g.ensures in
    let d : c.program_of-g.result ≡ program_of (description_of a.s.now) = rw p.1.description_is at g.0 in
    asks p.0 a.kind a.number a.stream (sym c.named.ensures ∙ c.in-Some.is) (sym c.can.ensures ∙ c.if-not-can.false) d g.1 p.2 (omega arith)

pub returns : goal.returns
returns c =
    let a = c.args in
    let p = c.requires in
    let d : c.program_of-g.result ≡ program_of (description_of a.s.now) = rw p.1.description_is at c.program_of-g.ensures.0 in
    done p.0 a.kind a.number a.stream (sym c.named.ensures ∙ c.in-Some.is) (sym c.can.ensures ∙ c.if-not-can.false) d c.act.ensures
