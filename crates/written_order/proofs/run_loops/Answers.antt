-- `written_order::run_loops` meets its contract: the columns of all streams make a table of which row k holds the elements that instance k
-- touches. Assumes nothing.
use mathlib.Core.Path.{sym, ◌∙◌, ap, subst}
use Prim.Native.Nat.{ℕ}
use lib.ListN.{length, length-replicate}
use Rattle.written_order.specs.Places.{Table, columns_length, columns_table}
use Rattle.written_order.proofs.run_loops.Goals as goal

pub slice_bounds-run_instances-end : goal.slice_bounds-run_instances-end
slice_bounds-run_instances-end c =
    sym (ap length c.fill_table.ensures ∙ columns_length _ _ _ ∙ length-replicate {A = ℕ} 24576 0)

pub run_instances-requires : goal.run_instances-requires
run_instances-requires c =
    let p = c.requires in
    let d = c.args.v.description in
    let t = columns_table d c.args.v.surveyed.in_use p.0 _ (length-replicate {A = ℕ} 24576 0) in
    (p.0, subst (Table d) (sym c.fill_table.ensures) t, p.1)
