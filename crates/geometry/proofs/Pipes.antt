-- Which instances the elements of a pipe have, and that an element is on one pipe only. Assumes what `Accepted` says.
use Rattle.std.specs.Prelude.{◌≡◌, ◌⊎◌, Bool, true, false, not, T, length, ℤ, pos, neg_ℤ, ◌+ℤ◌}
use Rattle.std.proofs.Math.Path.{refl, ap, subst}
use Rattle.std.proofs.Common.{sym, ◌∙◌, inl, inr, T_not}
use Rattle.std.proofs.Math.Bool.{cond}
use mathlib.Core.List.Memᴰ
use mathlib.Core.List.Memᴰ.{map as in_map}
use mathlib.Core.List.{List, [], map, reverse, Memᴰ as In}
use Rattle.std.proofs.lemmas.List.{length-map}
use Rattle.std.proofs.Math.IntN.{ℤ_discrete}
use Rattle.integers.specs.Vectors.{zero2, shift2, image, same2}
use Rattle.integers.proofs.Vectors.{image_shift}
use Rattle.integers.specs.declared.V3.{V3}
use Rattle.integers.specs.declared.V2.{V2}
use Rattle.meaning.specs.declared.Nest.{Nest}
use Rattle.meaning.specs.declared.Stream.{Stream}
use Rattle.meaning.specs.Lists.{filter, any}
use Rattle.meaning.specs.Loops.{place_of, increment}
use Rattle.meaning.specs.Space.{box_of, space, instances_at, first, computing}
use Rattle.meaning.specs.Streams.{line, stationary, move, elements, touches, pass}
use Rattle.meaning.specs.Pipes.{pipe, is_pipe, uses, used_on, backward, pipe_elements}
use Rattle.meaning.specs.Points.{IsLine as Line, Inside, At}
use Rattle.lists.specs.Members.{in_filter, filter_in, no_members, any_yes, yes_any, in_reverse, reverse_in, map_in}
use Rattle.geometry.specs.Numbers.{decide, yes_cond, no_cond, eq2_eq, eq_eq2, zero_shift, shift_shift, shift_still, shift_undo}
use Rattle.geometry.specs.Lines.{on_line, not_sent, one_line}
use Rattle.geometry.specs.Boxes.{inside_points, box_has}
use Rattle.geometry.specs.Segments.{at_in, in_at, at_box, first_at}
use Rattle.geometry.specs.Processes.{Layout, RunAt, is_computing}
use Rattle.geometry.proofs.Processes.{computes}
use Rattle.geometry.specs.BoxLines.{line_on, on_line_in, line_self, line_same}
use Rattle.geometry.specs.Pipes.{Accepted, On, OnePipe, flip_pipe, join_pipe, still_elements, in_pipe, in_used, moving_elements}
use Rattle.geometry.specs.Pipes.{pipe_in_lem, in_space_lem, one_pipe, still_place}

module _ {n : Nest} {s : Stream} (h : Accepted n s) where
  pub in_on : {y e : V2} → Inside (space n) y → In e (pipe_elements n s y) → On n s y e
  in_on {y} {e} hy i = go (decide (stationary n s))
    where
      go : T (stationary n s) ⊎ T (not (stationary n s)) → On n s y e
      go (inl t) =
          let c = map_in (λ p. image s.map (first n p)) (filter (computing n) (pipe n s y)) (subst (In e) (still_elements h t y) i) in
          let k = filter_in (computing n) (pipe n s y) c.mem in
          let a = computes h.layout c.from k.ok in
          record {
            by = first n c.from;
            at = record { within = a.within; to = sym c.is };
            place = subst (OnePipe n s y) (sym a.to) (in_pipe h hy k.mem).1;
          }
      go (inr t) = in_used h hy (turned (backward (pass n s)) (subst (In e) (moving_elements h t y) i))
        where
          turned : (b : Bool) → In e (cond b (reverse (used_on n s y)) (used_on n s y)) → In e (used_on n s y)
          turned true i = reverse_in (used_on n s y) i
          turned false i = i

  -- a line of processes that has no computing one has no elements
  pub no_pipe_lem : {y : V2} → Inside (space n) y → T (not (is_pipe n s y)) → pipe_elements n s y ≡ []
  no_pipe_lem {y} hy t = no_members (pipe_elements n s y) (λ e i. not_there (in_on hy i))
    where
      not_there : {e : V2} → On n s y e → ⊥
      not_there o =
          let a : RunAt n (place_of n o.by) o.by = record { within = o.at.within; to = refl } in
          T_not (is_pipe n s y) t (yes_any (computing n) (pipe_in_lem h hy (in_space_lem h a) o.place) (is_computing h.layout a))

  -- G7, one half: an element is on one pipe only
  pub one_home : {y y' e : V2} → Inside (space n) y → Inside (space n) y' → In e (pipe_elements n s y) → In e (pipe_elements n s y')
      → OnePipe n s y y'
  one_home hy hy' i i' =
      let o = in_on hy i in
      let o' = in_on hy' i' in
      join_pipe (join_pipe o.place (one_pipe h o.by o'.by (o.at.to ∙ sym o'.at.to))) (flip_pipe o'.place)

  -- two processes of it hold two elements
  pub held_one : T (stationary n s) → (p q : V2) → T (computing n p) → T (computing n q)
      → image s.map (first n p) ≡ image s.map (first n q) → p ≡ q
  held_one t p q i j e =
      sym (computes h.layout p i).to ∙ sym (still_place h t (first n p) (first n q) e) ∙ (computes h.layout q j).to
