-- On a moving pipe the elements of a process's firings follow each other. Assumes an accepted stream that moves.
use Rattle.std.specs.Prelude.{◌≡◌, Bool, true, false, not, cond, ℕ, suc, ◌+◌, T, length, pos, ◌+ℤ◌}
use Rattle.std.proofs.Common.{sym, ◌∙◌, ap, ap₂, arith}
use mathlib.Core.List.{reverse, Memᴰ as In}
use Rattle.integers.specs.Differences.{eq_out}
use Rattle.integers.specs.Vectors.{neg2, shift2, image}
use Rattle.integers.proofs.Vectors.{image_shift}
use Rattle.integers.specs.declared.V3.{V3}
use Rattle.integers.specs.declared.V2.{V2}
use Rattle.meaning.specs.declared.Nest.{Nest}
use Rattle.meaning.specs.declared.Stream.{Stream}
use Rattle.meaning.specs.Lists.{any}
use Rattle.meaning.specs.Loops.{place_of, increment}
use Rattle.meaning.specs.Space.{box_of, first}
use Rattle.meaning.specs.Streams.{stationary, pass}
use Rattle.meaning.specs.Pipes.{reach, line_in, pipe, uses, used_on, backward, pipe_elements}
use Rattle.meaning.specs.Points.{Inside, RowOrder as Row}
use Rattle.meaning.specs.Sorted.{Sorted}
use Rattle.lists.specs.Members.{in_reverse, reverse_in}
use Rattle.geometry.specs.Sorting.{sorted_filter, sorted_reverse, sorted_unique}
use Rattle.geometry.specs.Places.{ahead}
use Rattle.geometry.specs.Lines.{coordinates, image_other}
use Rattle.geometry.specs.Boxes.{row_irr, row_asym, points_sorted, box_has}
use Rattle.geometry.specs.Segments.{at_box, first_at}
use Rattle.geometry.specs.Processes.{RunAt, run_at}
use Rattle.geometry.specs.Reach.{back_shift}
use Rattle.geometry.specs.BoxLines.{Way, Way.on, Way.back, way, march_on, march_back, OnLine, line_length, line_on, on_line_in}
use Rattle.geometry.specs.BoxLines.{ahead_line}
use Rattle.geometry.specs.Pipes.{Accepted, On, moving_move, moving_elements, passes, in_space_lem, used_in_lem, in_used}
use Rattle.geometry.specs.Moving.{index_is}

module _ {n : Nest} {s : Stream} (h : Accepted n s) (moves : T (not (stationary n s))) where
  -- that of firing i stands i places after the first one's
  pub index_on : {y : V2} {x : V3} (i : ℕ) → RunAt n y x → RunAt n y (run_at n y i)
      → ahead (image s.map (run_at n y i)) (pipe_elements n s y) ≡ ahead (image s.map (first n y)) (pipe_elements n s y) + i
  index_on {y} i a b =
      let f = first_at h.layout.dirs a in
      index_is h moves b
      ∙ natural _ (reach (box_of n s.map) (neg2 (pass n s)) (image s.map (first n y)))
      (back_shift (box_of n s.map) (passes h moves) (pos i) (box_has h.layout.dirs s.map f.within)
      (box_has h.layout.dirs s.map b.within) (image_shift s.map (first n y) (increment n) (pos i)))
      ∙ ap (λ (k : ℕ). k + i) (sym (index_is h moves f))
    where
      natural : (u v : ℕ) → pos u ≡ pos v +ℤ pos i → u ≡ v + i
      natural u v e = omega (arith, eq_out e)
