-- `element_places::put_own` meets its contract. Assumes nothing.
use mathlib.Core.Path.{ap}
use Prim.Native.Nat.{ℕ, ◌+◌}
use native.Mathlib.Omega.{arith}
use Rattle.layout.specs.Spans.{process_of}
use Rattle.element_places.specs.Walked.{own_none, own_one}
use Rattle.element_places.specs.Lent.{elements_spanning, inside_elements, number_is, number_fits}
use Rattle.element_places.specs.Lines.{null_here, computes_here, at_here}
use Rattle.element_places.proofs.put_own.Goals as goal

pub bounds-spans-q : goal.bounds-spans-q
bounds-spans-q c = let p = c.requires in omega (arith, p.lt, p.flows.laid.processes, p.long)

pub returns-then-spans-q-eq0 : goal.returns-then-spans-q-eq0
returns-then-spans-q-eq0 c =
    let a = c.args in
    own_none a.f.nest a.f.stream a.first (process_of a.f.nest a.q) a.place a.places.now
    (null_here c.requires c.if-spans-q-eq0.true)

pub first_element-requires : goal.first_element-requires
first_element-requires c = at_here c.requires c.if-spans-q-eq0.false

pub row_number-requires : goal.row_number-requires
row_number-requires c =
    let p = c.requires in
    (elements_spanning p.flows, inside_elements (at_here p c.if-spans-q-eq0.false) c.first_element.ensures)

pub overflow_add-e : goal.overflow_add-e
overflow_add-e c =
    let a = at_here c.requires c.if-spans-q-eq0.false in
    let e = c.first_element.ensures in
    record { fits = omega (arith, number_fits a e c.args.first c.requires.fits c.row_number.ensures) }

pub overflow_cast-places : goal.overflow_cast-places
overflow_cast-places c = let p = c.requires in omega (arith, p.low)

pub bounds-places-e : goal.bounds-places-e
bounds-places-e c =
    let a = at_here c.requires c.if-spans-q-eq0.false in
    omega (
      arith,
      number_fits a c.first_element.ensures c.args.first c.requires.fits c.row_number.ensures,
      c.requires.words,
    )

pub returns : goal.returns
returns c =
    let a = c.args in
    let g = c.if-spans-q-eq0.false in
    own_one a.f.nest a.f.stream a.first (process_of a.f.nest a.q) a.place a.places.now (computes_here c.requires g)
    (ap (λ (i : ℕ). a.first + i) (number_is (at_here c.requires g) c.first_element.ensures c.row_number.ensures))
