-- `layout::fill_processes` meets its contract: the table holds the process of every instance, and the test says which way the increment
-- leads, so that what is met first and last is the first and the last one of each process; the codes of the firsts lie between the counts
-- and the lasts. Assumes nothing.
use mathlib.Core.Path.{◌∙◌, ap}
use native.Mathlib.Omega.{arith}
use borrow.Rule.Slice.PartMut.{mid_len}
use Rattle.meaning.specs.Accept.{against}
use Rattle.vectors.specs.Within.{directions_small}
use Rattle.sweeps.specs.Tables.{filled_table, table_listed}
use Rattle.layout.specs.Spans.{first_le, ends_are}
use Rattle.layout.proofs.fill_processes.Goals as goal

pub against-back-requires : goal.against-back-requires
against-back-requires c =
    (directions_small c.requires.0.directed, c.requires.1.increment_small)

pub fill_spans-requires : goal.fill_spans-requires
fill_spans-requires c =
    let t = filled_table _ c.fill_numbers.ensures c.requires.1.instances_is c.requires.1.processes_is in
    record { table = table_listed c.requires.0.directed t; few = omega (arith, t.sized, c.requires.4); words = c.requires.5 }

pub fill_firsts-requires : goal.fill_firsts-requires
fill_firsts-requires c =
    let v = c.fill_spans.new.spans in
    let t = filled_table _ c.fill_numbers.ensures c.requires.1.instances_is c.requires.1.processes_is in
    let b = c.against-back.ensures ∙ ap (against c.args.n.direction) c.requires.1.increment_is in (
      c.requires.0,
      omega (arith, t.sized, c.requires.4, mid_len 1024 2048 v (omega (arith, c.fill_spans.auto.spans, c.requires.5))),
      first_le c.requires.2 t b c.fill_spans.ensures (omega (arith, t.sized, c.requires.4)),
    )

pub returns : goal.returns
returns c =
    let t = filled_table _ c.fill_numbers.ensures c.requires.1.instances_is c.requires.1.processes_is in
    let b = c.against-back.ensures ∙ ap (against c.args.n.direction) c.requires.1.increment_is in
    ends_are c.requires.2 t b c.fill_spans.ensures (omega (arith, t.sized, c.requires.4)) c.requires.0
    (c.fill_spans.auto.spans ∙ c.requires.5) _ c.fill_firsts.ensures
