-- The run of the instances one by one. Assumes nothing.
use Rattle.std.specs.Prelude.{◌≡◌, refl, List, ℕ, ◌+◌, ◌*◌, ◌-◌, ◌≤◌, ◌<◌, length, get_or, take, drop}
use Rattle.std.proofs.Common.{◌∙◌, ap₂, add-one, arith, drop_of_length-le}
use Rattle.std.proofs.Math.Seq.{drop-cons}
use Rattle.integers.specs.Vectors.{zero3}
use Rattle.integers.specs.declared.V3.{V3}
use Rattle.meaning.specs.declared.Description.{Description}
use Rattle.meaning.specs.Loops.{instances}
use Rattle.meaning.specs.Description.{lines_of}
use Rattle.meaning.specs.Body.{execute, execute_all}
use Rattle.numbering.specs.Turns.{turning, all_some, instances_length}
use Rattle.survey.specs.declared.Survey.{Survey}
use Rattle.survey.specs.InRange.{nest_bounded}
use Rattle.body.specs.Execute.{execute_at, execute_touched}
use Rattle.written_order.specs.Places.{Fitting, Table, lent}

module _ (d : Description) (xs : List V3) (k : ℕ) (store : List ℕ) where
  pub run_next : k < length xs → execute_all d (drop (k + 1) xs) (execute d (get_or xs k zero3) store) ≡ execute_all d (drop k xs) store
  unfolding execute_all
  run_next h = rw (add-one, drop-cons xs k zero3 h)

  pub run_end : length xs ≤ k → store ≡ execute_all d (drop k xs) store
  unfolding execute_all
  run_end h = rw (drop_of_length-le xs h)

-- instance k, on its row of the table
pub executed : (d : Description) (k : ℕ) {x : V3} (table store : List ℕ) {out : List ℕ} → Table d table → k < length (instances d.nest)
    → x ≡ get_or (instances d.nest) k zero3
    → out ≡ execute_at x (lines_of d) store (take (6 * k + d.sizes.streams - 6 * k) (drop (6 * k) table))
    → out ≡ execute d (get_or (instances d.nest) k zero3) store
executed d k table store h l e o =
    o ∙ ap₂ (λ (x : V3) (ps : List ℕ). execute_at x (lines_of d) store ps) e (lent d table k h l)
    ∙ execute_touched d (get_or (instances d.nest) k zero3) store
