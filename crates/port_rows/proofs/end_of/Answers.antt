-- `port_rows::end_of` meets its contract: the last process of the pipe stands as far on as the box reaches. Assumes nothing.
use mathlib.Core.Path.{refl, ◌∙◌, ap}
use Prim.Native.Nat.{ℕ, ◌+◌}
use native.Mathlib.Omega.{arith}
use lib.IntN.{pos}
use Rattle.integers.specs.Vectors.{shift2}
use Rattle.meaning.specs.Space.{row_index, space}
use Rattle.meaning.specs.Streams.{move}
use Rattle.layout.specs.Spans.{process_of}
use Rattle.ports.specs.Ends.{same_end}
use Rattle.lanes.specs.Flow.{spanning, point_lt, going_on, reach_on}
use Rattle.port_rows.specs.Strands.{port_index}
use Rattle.port_rows.proofs.end_of.Goals as goal

pub point_at-y-requires : goal.point_at-y-requires
point_at-y-requires c = let p = c.requires in (spanning p.0, point_lt p.0 p.1)

pub reach_of-requires : goal.reach_of-requires
reach_of-requires c =
    let p = c.requires in going_on p.0 p.1 c.point_at-y.ensures

pub number_on-requires : goal.number_on-requires
number_on-requires c = let p = c.requires in
    (p.0, p.1, omega (arith, reach_on p.0 p.1 c.point_at-y.ensures c.reach_of.ensures.0))

pub returns : goal.returns
returns c =
    let n = c.args.f.nest in
    let t = c.args.f.stream in
    let e = reach_on c.requires.0 c.requires.1 c.point_at-y.ensures
    c.reach_of.ensures.0 in
    let l = c.port_at-last.ensures.0
    ∙ ap (port_index c.args.g) (c.number_on.ensures.0
    ∙ ap (λ (k : ℕ). row_index (space n) (shift2 (process_of n c.args.p) (pos k) (move n t))) e) in
    let a = c.port_at-first.ensures.0 in
    let b = c.end_at-sent.ensures.0 in
    same_end b a (ap (λ (k : ℕ). k + 4) a) (ap (λ (k : ℕ). k + 1) l) (ap (λ (k : ℕ). k + 1) b) (ap (λ (k : ℕ). k + 2) b) refl
    c.requires.4 refl
