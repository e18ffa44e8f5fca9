-- Moving pipes: their elements are the points of the stream's box on one line, and the elements of a process's instances follow each other
-- on it. Assumes an accepted stream that moves.
use Rattle.std.specs.Prelude.{◌≡◌, Bool, true, false, not, cond, ℕ, suc, ◌+◌, T, length, pos, ◌+ℤ◌}
use Rattle.std.proofs.Common.{sym, ◌∙◌, ap, ap₂, arith}
use mathlib.Core.List.{reverse, Memᴰ as In}
use Rattle.integers.specs.Differences.{eq_out}
use Rattle.integers.specs.Vectors.{neg2, shift2, image}
use Rattle.integers.proofs.Vectors.{image_shift}
use Rattle.integers.specs.declared.V3.{V3}
use Rattle.integers.specs.declared.V2.{V2}
use Rattle.meaning.specs.declared.Nest.{Nest}
use Rattle.meaning.specs.declared.Stream.{Stream}
use Rattle.meaning.specs.Lists.{any}
use Rattle.meaning.specs.Loops.{place_of, increment}
use Rattle.meaning.specs.Space.{box_of, first}
use Rattle.meaning.specs.Streams.{stationary, pass}
use Rattle.meaning.specs.Pipes.{reach, line_in, pipe, uses, used_on, backward, pipe_elements}
use Rattle.meaning.specs.Points.{Inside, RowOrder as Row}
use Rattle.meaning.specs.Sorted.{Sorted}
use Rattle.lists.specs.Members.{in_reverse, reverse_in}
use Rattle.geometry.specs.Sorting.{sorted_filter, sorted_reverse, sorted_unique}
use Rattle.geometry.specs.Places.{ahead}
use Rattle.geometry.specs.Lines.{coordinates, image_other}
use Rattle.geometry.specs.Boxes.{row_irr, row_asym, points_sorted, box_has}
use Rattle.geometry.specs.Segments.{at_box, first_at}
use Rattle.geometry.specs.Processes.{RunAt, run_at}
use Rattle.geometry.specs.Reach.{back_shift}
use Rattle.geometry.specs.BoxLines.{Way, Way.on, Way.back, way, march_on, march_back, OnLine, line_length, line_on, on_line_in}
use Rattle.geometry.specs.BoxLines.{ahead_line}
use Rattle.geometry.specs.Pipes.{Accepted, On, moving_move, moving_elements, passes, in_space_lem, used_in_lem, in_used}

module _ {n : Nest} {s : Stream} (h : Accepted n s) (moves : T (not (stationary n s))) where
  -- ---- G5: the elements of a pipe are a whole segment along index map times increment

  -- what is in the box on the line through one of them is touched on the pipe
  line_used : {y e : V2} {x : V3} → RunAt n y x → OnLine (box_of n s.map) (pass n s) (image s.map x) e → On n s y e
  line_used {x} a l =
      let t = h.full _ l.inside in
      let c = coordinates h.lin h.layout.inc x t.by l.by (t.at.to ∙ l.eq) in
      record {
        by = t.by;
        at = t.at;
        place = record {
          by = c.by;
          eq =
              ap (place_of n) c.eq ∙ image_other h.lin h.layout.inc x l.by c.by
              ∙ ap₂ (λ (p d : V2). shift2 p c.by d) a.to (sym (moving_move h moves));
        };
      }

  -- and all that is touched there is on the line
  used_line : {y e : V2} {x : V3} → RunAt n y x → On n s y e → OnLine (box_of n s.map) (pass n s) (image s.map x) e
  used_line {x} a o =
      let k = o.place.by in
      let c =
      coordinates h.layout.inc h.lin x o.by k
      (o.place.eq ∙ ap₂ (λ (p d : V2). shift2 p k d) (sym a.to) (moving_move h moves)) in
      record {
        inside = at_box h.layout.dirs o.at;
        by = c.by;
        eq = sym o.at.to ∙ ap (image s.map) c.eq ∙ image_other h.layout.inc h.lin x k c.by;
      }

  -- so from each instance of the pipe its elements, in order, are that line in the box
  pub pipe_line : {y : V2} {x : V3} → RunAt n y x → pipe_elements n s y ≡ line_in (box_of n s.map) (pass n s) (image s.map x)
  unfolding line_in used_on
  pipe_line {y} {x} a = moving_elements h moves y ∙ go (backward (pass n s)) (way (pass n s) (passes h moves))
    where
      in_box : Inside (box_of n s.map) (image s.map x)
      in_box = box_has h.layout.dirs s.map a.within

      into : (e : V2) → In e (used_on n s y) → In e (line_in (box_of n s.map) (pass n s) (image s.map x))
      into e i = on_line_in (box_of n s.map) (passes h moves) in_box (used_line a (in_used h (in_space_lem h a) i))

      out_of : (e : V2) → In e (line_in (box_of n s.map) (pass n s) (image s.map x)) → In e (used_on n s y)
      out_of e i = used_in_lem h (in_space_lem h a) (line_used a (line_on (box_of n s.map) (passes h moves) in_box i))

      used_sorted : Sorted Row (used_on n s y)
      used_sorted = sorted_filter (λ e. any (λ p. uses n s p e) (pipe n s y)) (points_sorted (box_of n s.map))

      go : (b : Bool) → Way (pass n s) b
          → cond b (reverse (used_on n s y)) (used_on n s y) ≡ line_in (box_of n s.map) (pass n s) (image s.map x)
      go false (on r) = sorted_unique row_irr row_asym used_sorted (march_on (pass n s) r _ _) into out_of
      go true (back r) =
          sorted_unique (λ p q. row_irr p q) (λ p q i j. row_asym q p i j) (sorted_reverse used_sorted) (march_back (pass n s) r _ _)
          (λ e i. into e (reverse_in (used_on n s y) i)) (λ e i. in_reverse (used_on n s y) (out_of e i))

  -- where the element of an instance stands, and how many there are
  pub index_is : {y : V2} {x : V3} → RunAt n y x
      → ahead (image s.map x) (pipe_elements n s y) ≡ reach (box_of n s.map) (neg2 (pass n s)) (image s.map x)
  index_is {x} a =
      ap (ahead (image s.map x)) (pipe_line a) ∙ ahead_line (box_of n s.map) (pass n s) (passes h moves) (image s.map x)

  pub length_is : {y : V2} {x : V3} → RunAt n y x
      → length (pipe_elements n s y)
      ≡ reach (box_of n s.map) (neg2 (pass n s)) (image s.map x) + suc (reach (box_of n s.map) (pass n s) (image s.map x))
  length_is {x} a = ap length (pipe_line a) ∙ line_length (box_of n s.map) (pass n s) (image s.map x)
