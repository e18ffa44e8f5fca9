-- `port_rows::port_of` meets its contract: `sent` is the index of the ends of the process's own pipe, by which its links are found; a count
-- is at most the instances, so it fits. Assumes nothing.
use mathlib.Core.Path.{refl, ◌∙◌, ap}
use native.Mathlib.Omega.{arith}
use Rattle.pipes.specs.Elements.{few}
use Rattle.port_rows.specs.Strands.{end_index, count_fits, port_row_lem}
use Rattle.port_rows.proofs.port_of.Goals as goal

pub offset_bounds-spans-p : goal.offset_bounds-spans-p
offset_bounds-spans-p c =
    let p = c.requires.0.near in record { fits = omega (arith, p.lt, few p) }

pub bounds-spans-p : goal.bounds-spans-p
bounds-spans-p c =
    let p = c.requires.0.near in omega (arith, p.lt, few p, p.seen.long)

pub overflow_cast-p-2 : goal.overflow_cast-p-2
overflow_cast-p-2 c =
    let p = c.requires.0.near in record { fits = omega (arith, p.lt, few p) }

pub port_at-requires : goal.port_at-requires
port_at-requires c =
    let p = c.requires in (p.2, omega (arith, p.0.near.lt, few p.0.near))

pub soak_of-requires : goal.soak_of-requires
soak_of-requires c =
    let p = c.requires in
    (p.0.near, p.1)

pub overflow_cast-result-8 : goal.overflow_cast-result-8
overflow_cast-result-8 c =
    record { fits = omega (arith, count_fits c.requires.0.near) }

pub returns : goal.returns
returns c =
    port_row_lem c.args.g c.requires.0.near c.end_at-sent.result
    (c.end_at-sent.ensures.0 ∙ ap (end_index c.args.g) c.pipe_number.ensures.0)
    c.port_at.ensures.0
    c.before_of.ensures
    c.link_of-link.ensures.0 c.link_of-link.ensures.1 refl refl c.soak_of.ensures refl c.requires.1 c.keeps.ensures
