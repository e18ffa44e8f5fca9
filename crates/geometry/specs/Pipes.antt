-- Pipes of an accepted stream, moving or stationary: which processes, instances and elements are on one. Assumes what `Accepted` says.
use Rattle.std.specs.Prelude.{◌≡◌, ◌⊎◌, Bool, true, false, not, T, length, ℤ, pos, neg_ℤ, ◌+ℤ◌}
use Rattle.std.proofs.Math.Path.{refl, ap, subst}
use Rattle.std.proofs.Common.{sym, ◌∙◌, inl, inr, T_not}
use Rattle.std.proofs.Math.Bool.{cond}
use mathlib.Core.List.Memᴰ
use mathlib.Core.List.Memᴰ.{map as in_map}
use mathlib.Core.List.{List, [], map, reverse, Memᴰ as In}
use Rattle.std.proofs.lemmas.List.{length-map}
use Rattle.std.proofs.Math.IntN.{ℤ_discrete}
use Rattle.integers.specs.Vectors.{zero2, shift2, image, same2}
use Rattle.integers.proofs.Vectors.{image_shift}
use Rattle.integers.specs.declared.V3.{V3}
use Rattle.integers.specs.declared.V2.{V2}
use Rattle.meaning.specs.declared.Nest.{Nest}
use Rattle.meaning.specs.declared.Stream.{Stream}
use Rattle.meaning.specs.Lists.{filter, any}
use Rattle.meaning.specs.Loops.{place_of, increment}
use Rattle.meaning.specs.Space.{box_of, space, instances_at, first, computing}
use Rattle.meaning.specs.Streams.{line, stationary, move, elements, touches, pass}
use Rattle.meaning.specs.Pipes.{pipe, is_pipe, uses, used_on, backward, pipe_elements}
use Rattle.meaning.specs.Points.{IsLine as Line, Inside, At}
use Rattle.lists.specs.Members.{in_filter, filter_in, no_members, any_yes, yes_any, in_reverse, reverse_in, map_in}
use Rattle.geometry.specs.Numbers.{decide, yes_cond, no_cond, eq2_eq, eq_eq2, zero_shift, shift_shift, shift_still, shift_undo}
use Rattle.geometry.specs.Lines.{on_line, not_sent, one_line}
use Rattle.geometry.specs.Boxes.{inside_points, box_has}
use Rattle.geometry.specs.Segments.{at_in, in_at, at_box, first_at}
use Rattle.geometry.specs.Processes.{Layout, RunAt, is_computing}
use Rattle.geometry.specs.BoxLines.{line_on, on_line_in, line_self, line_same}

-- some instance touches e
pub record Touched (n : Nest) (s : Stream) (e : V2) : Type 0 where
  pub by : V3
  pub at : At n s.map e by

-- what the theorems ask of a stream: its nest is laid out, its line's step is positive, its move or loading vector is not zero, and its
-- whole box is touched
pub record Accepted (n : Nest) (s : Stream) : Type 0 where
  pub layout : Layout n
  pub lin : Line n s.map (line n s)
  pub goes : move n s ≡ zero2 → ⊥
  pub full : (e : V2) → Inside (box_of n s.map) e → Touched n s e

-- two processes are on one pipe
pub record OnePipe (n : Nest) (s : Stream) (y y' : V2) : Type 0 where
  pub by : ℤ
  pub eq : y' ≡ shift2 y by (move n s)

-- an instance of the pipe through y touches e
pub record On (n : Nest) (s : Stream) (y e : V2) : Type 0 where
  pub by : V3
  pub at : At n s.map e by
  pub place : OnePipe n s y (place_of n by)

pub flip_pipe : {n : Nest} {s : Stream} {y y' : V2} → OnePipe n s y y' → OnePipe n s y' y
flip_pipe {n} {s} o = record { by = neg_ℤ o.by; eq = shift_undo (move n s) o.by o.eq }

pub join_pipe : {n : Nest} {s : Stream} {y y' y'' : V2} → OnePipe n s y y' → OnePipe n s y' y'' → OnePipe n s y y''
join_pipe {n} {s} {y} o o' =
    record {
      by = o.by +ℤ o'.by;
      eq = o'.eq ∙ ap (λ (w : V2). shift2 w o'.by (move n s)) o.eq ∙ shift_shift y (move n s) o.by o'.by;
    }

-- the elements that a stationary pipe's processes hold, in the order in which it passes them
abbrev pub held : Nest → Stream → V2 → List V2
held n s y = map (λ p. image s.map (first n p)) (filter (computing n) (pipe n s y))

module _ {n : Nest} {s : Stream} (h : Accepted n s) where
  -- ---- the two kinds

  pub still_move : T (stationary n s) → place_of n (line n s) ≡ zero2
  still_move t = eq2_eq (place_of n (line n s)) zero2 t

  pub moving_move : T (not (stationary n s)) → move n s ≡ place_of n (line n s)
  moving_move t = no_cond (stationary n s) s.loading (place_of n (line n s)) t

  pub moving_not : T (not (stationary n s)) → place_of n (line n s) ≡ zero2 → ⊥
  moving_not t e = T_not (stationary n s) t (eq_eq2 (place_of n (line n s)) zero2 e)

  pub still_elements : T (stationary n s) → (y : V2) → pipe_elements n s y ≡ held n s y
  unfolding pipe_elements
  still_elements t y = yes_cond (stationary n s) _ _ t

  pub moving_elements : T (not (stationary n s)) → (y : V2)
      → pipe_elements n s y ≡ cond (backward (pass n s)) (reverse (used_on n s y)) (used_on n s y)
  unfolding pipe_elements
  moving_elements t y = no_cond (stationary n s) _ _ t

  -- L4: a moving stream's index map does not send the increment to zero
  pub passes : T (not (stationary n s)) → pass n s ≡ zero2 → ⊥
  passes t = not_sent h.layout.inc h.lin (moving_not t)

  -- a stationary one's does
  pub still_pass : T (stationary n s) → pass n s ≡ zero2
  still_pass t = go (ℤ_discrete (pass n s).a (pos 0)) (ℤ_discrete (pass n s).b (pos 0))
    where
      no_move : (pass n s ≡ zero2 → ⊥) → ⊥
      no_move f = not_sent h.lin h.layout.inc f (still_move t)

      go : Dec ((pass n s).a ≡ pos 0) → Dec ((pass n s).b ≡ pos 0) → pass n s ≡ zero2
      go (yes e) (yes f) = same2 e f
      go (yes e) (no f) = absurd (no_move (λ z. f (ap (λ (w : V2). w.b) z)))
      go (no e) f = absurd (no_move (λ z. e (ap (λ (w : V2). w.a) z)))

  -- L5: so its line is the increment
  pub still_line : T (stationary n s) → line n s ≡ increment n
  still_line t = one_line h.lin h.layout.inc (still_pass t) (still_move t)

  -- ---- processes

  pub in_space_lem : {y : V2} {x : V3} → RunAt n y x → Inside (space n) y
  in_space_lem a = at_box h.layout.dirs a

  pub pipe_in_lem : {y y' : V2} → Inside (space n) y → Inside (space n) y' → OnePipe n s y y' → In y' (pipe n s y)
  unfolding pipe
  pipe_in_lem hy hy' o = on_line_in (space n) h.goes hy (record { inside = hy'; by = o.by; eq = o.eq })

  pub in_pipe : {y y' : V2} → Inside (space n) y → In y' (pipe n s y) → Inside (space n) y' × OnePipe n s y y'
  unfolding pipe
  in_pipe hy i = let l = line_on (space n) h.goes hy i in (l.inside, record { by = l.by; eq = l.eq })

  pub pipe_self : {y : V2} → Inside (space n) y → In y (pipe n s y)
  unfolding pipe
  pipe_self hy = line_self (space n) h.goes hy

  -- one pipe has one list of processes and one list of elements
  pub same_pipe : {y y' : V2} → Inside (space n) y → Inside (space n) y' → OnePipe n s y y' → pipe n s y' ≡ pipe n s y
  unfolding pipe
  same_pipe {y} {y'} hy hy' o = line_same (space n) h.goes y y' o.by hy hy' o.eq

  pub same_elements : {y y' : V2} → Inside (space n) y → Inside (space n) y' → OnePipe n s y y' → pipe_elements n s y' ≡ pipe_elements n s y
  unfolding pipe_elements used_on
  same_elements hy hy' o =
      ap (λ (l : List V2).
      let u = filter (λ e. any (λ p. uses n s p e) l) (elements n s) in
      cond (stationary n s) (map (λ p. image s.map (first n p)) (filter (computing n) l)) (cond (backward (pass n s)) (reverse u) u))
      (same_pipe hy hy' o)

  -- ---- G4: all instances that touch one element are on one pipe

  pub one_pipe : (x x' : V3) → image s.map x ≡ image s.map x' → OnePipe n s (place_of n x) (place_of n x')
  one_pipe x x' e =
      let r = on_line h.lin x x' e in
      go (decide (stationary n s)) r.by (ap (place_of n) r.eq ∙ image_shift n.place x (line n s) r.by)
    where
      go : T (stationary n s) ⊎ T (not (stationary n s)) → (j : ℤ) → place_of n x' ≡ shift2 (place_of n x) j (place_of n (line n s))
          → OnePipe n s (place_of n x) (place_of n x')
      go (inl t) j e =
          record { by = pos 0; eq = e ∙ shift_still (place_of n x) j (still_move t) ∙ sym (zero_shift (place_of n x) (move n s)) }
      go (inr t) j e = record { by = j; eq = e ∙ ap (shift2 (place_of n x) j) (sym (moving_move t)) }

  -- of a stationary stream: one element, one process, and one process, one element
  pub still_place : T (stationary n s) → (x x' : V3) → image s.map x ≡ image s.map x' → place_of n x' ≡ place_of n x
  still_place t x x' e =
      let r = on_line h.lin x x' e in
      ap (place_of n) r.eq ∙ image_shift n.place x (line n s) r.by ∙ shift_still (place_of n x) r.by (still_move t)

  pub still_element : T (stationary n s) → (x x' : V3) → place_of n x ≡ place_of n x' → image s.map x' ≡ image s.map x
  still_element t x x' e =
      let r = on_line h.layout.inc x x' e in
      ap (image s.map) r.eq ∙ image_shift s.map x (increment n) r.by ∙ shift_still (image s.map x) r.by (still_pass t)

  -- ---- the elements of a pipe are those that its instances touch

  pub used_in_lem : {y e : V2} → Inside (space n) y → On n s y e → In e (used_on n s y)
  unfolding used_on
  used_in_lem {y} {e} hy o =
      in_filter (λ w. any (λ p. uses n s p w) (pipe n s y)) {x = e} (inside_points (box_of n s.map) e (at_box h.layout.dirs o.at))
      (yes_any (λ p. uses n s p e) (pipe_in_lem hy (box_has h.layout.dirs n.place o.at.within) o.place)
      (yes_any (λ x. touches s x e) (at_in h.layout.dirs (record { within = o.at.within; to = refl }))
      (eq_eq2 (image s.map o.by) e o.at.to)))

  pub in_used : {y e : V2} → Inside (space n) y → In e (used_on n s y) → On n s y e
  unfolding used_on
  in_used {y} {e} hy i =
      let r = filter_in (λ w. any (λ p. uses n s p w) (pipe n s y)) (elements n s) i in
      let p = any_yes (λ p. uses n s p e) (pipe n s y) r.ok in
      let x = any_yes (λ x. touches s x e) (instances_at n p.it) p.ok in
      let a = in_at h.layout.dirs p.it x.it x.mem in
      record {
        by = x.it;
        at = record { within = a.within; to = eq2_eq (image s.map x.it) e x.ok };
        place = subst (OnePipe n s y) (sym a.to) (in_pipe hy p.mem).1;
      }

  pub on_in : {y e : V2} → Inside (space n) y → On n s y e → In e (pipe_elements n s y)
  on_in {y} {e} hy o = go (decide (stationary n s))
    where
      go : T (stationary n s) ⊎ T (not (stationary n s)) → In e (pipe_elements n s y)
      go (inl t) =
          let p = place_of n o.by in
          let a : RunAt n p o.by = record { within = o.at.within; to = refl } in
          let i : In (image s.map (first n p)) (held n s y) =
          in_map (λ p. image s.map (first n p))
          (in_filter (computing n) (pipe_in_lem hy (in_space_lem a) o.place) (is_computing h.layout a)) in
          subst (In e) (sym (still_elements t y))
          (Memᴰ.cast (sym o.at.to ∙ still_element t (first n p) o.by (first_at h.layout.dirs a).to) i)
      go (inr t) = subst (In e) (sym (moving_elements t y)) (turned (backward (pass n s)) (used_in_lem hy o))
        where
          turned : (b : Bool) → In e (used_on n s y) → In e (cond b (reverse (used_on n s y)) (used_on n s y))
          turned true i = in_reverse (used_on n s y) i
          turned false i = i

  pub touched_in : {y : V2} {x : V3} → RunAt n y x → In (image s.map x) (pipe_elements n s y)
  touched_in {y} {x} a =
      on_in (in_space_lem a)
      (record {
        by = x;
        at = record { within = a.within; to = refl };
        place = record { by = pos 0; eq = a.to ∙ sym (zero_shift y (move n s)) };
      })

  -- ---- G6: a stationary pipe

  -- it has as many elements as computing processes
  pub still_length : T (stationary n s) → (y : V2) → length (pipe_elements n s y) ≡ length (filter (computing n) (pipe n s y))
  still_length t y = ap length (still_elements t y) ∙ length-map (filter (computing n) (pipe n s y)) (λ p. image s.map (first n p))
