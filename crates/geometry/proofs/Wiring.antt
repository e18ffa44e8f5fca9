-- An accepted stream has what the network asks of the geometry.
use Rattle.std.specs.Prelude.{◌≡◌, refl, not, ◌&&◌, ℕ, suc, ◌+◌, ◌<◌, T, length, get_or, pos, ◌-ℤ◌}
use Rattle.std.proofs.Common.{sym, ◌∙◌, ap, subst, arith}
use mathlib.Core.List.Memᴰ.{head as here}
use mathlib.Core.List.Memᴰ.{tail as there}
use mathlib.Core.List.{List, Memᴰ as In}
use Rattle.std.proofs.Math.Seq.{take-length}
use Rattle.integers.specs.Vectors.{zero3, zero2, shift2, image}
use Rattle.integers.specs.declared.V3.{V3}
use Rattle.integers.specs.declared.V2.{V2}
use Rattle.meaning.specs.declared.Nest.{Nest}
use Rattle.meaning.specs.declared.Stream.{Stream}
use Rattle.meaning.specs.Lists.{filter, total}
use Rattle.meaning.specs.Loops.{instances, place_of}
use Rattle.meaning.specs.Space.{box_of, space, processes, count, first, computing}
use Rattle.meaning.specs.Streams.{line, stationary, move, hop, elements}
use Rattle.meaning.specs.Pipes.{pipe, before, is_pipe, is_entry, entries, pipe_elements, soak, drain}
use Rattle.meaning.specs.Points.{Within, Earlier, Inside}
use Rattle.lists.specs.Members.{filter_in, any_yes}
use Rattle.geometry.specs.Numbers.{and_right, zero_shift}
use Rattle.geometry.specs.Places.{ahead, get_d_in, get_d_ahead, ahead_get_d, rank, ahead_filter}
use Rattle.geometry.specs.Instances.{in_within, number_earlier}
use Rattle.geometry.specs.Boxes.{inside_points}
use Rattle.geometry.specs.Segments.{at_box, first_at}
use Rattle.geometry.specs.Processes.{RunAt, run_at, firing_of}
use Rattle.geometry.proofs.Processes.{firing_lt, instance_firing, instance_at_lem, computes}
use Rattle.geometry.specs.Pipes.{Accepted, OnePipe, flip_pipe, join_pipe, in_space_lem, in_pipe, pipe_self, same_pipe, same_elements}
use Rattle.geometry.specs.Pipes.{still_element, touched_in, still_length}
use Rattle.geometry.proofs.Pipes.{in_on}
use Rattle.geometry.proofs.Soaks.{soak_first, soak_rank, still_total, element_index, element_at_lem, total_is}
use Rattle.geometry.specs.Positions.{pipe_distinct, before_is, pipe_length, pipe_at_lem, at_inside, at_pipe, before_at, pipe_next}
use Rattle.geometry.specs.Positions.{hop_positive}
use Rattle.geometry.specs.Clock.{Clock, clock_from}
use Rattle.geometry.proofs.Clock.{clock}
use Rattle.geometry.specs.Elements.{entry_of, home_of, index_of, entry_pipe, entry_is, entry_same, one_entry, entries_entry, entry_in}
use Rattle.geometry.specs.Elements.{home_in, index_lt, element_home}
use Rattle.geometry.proofs.Elements.{elements_distinct, home_is, pipes_total, home_element}
use Rattle.geometry.proofs.Order.{written_moving, written_still}
use Rattle.geometry.specs.Wiring.{process_at, element_at, Wired, Flowing, Keeping, Meeting, entry_back}

module _ {n : Nest} {s : Stream} (h : Accepted n s) where
  -- a process's pipe, by its entry
  entry_elements : {p : V2} → Inside (space n) p → pipe_elements n s (entry_of n s p) ≡ pipe_elements n s p
  entry_elements {p} hp = same_elements h hp (entry_is h hp).inside (entry_pipe h p)

  -- an entry's pipe has a computing process
  computing_on : {y : V2} → In y (entries n s) → (p : V2) × Inside (space n) p × OnePipe n s y p × T (computing n p)
  computing_on {y} i =
      let k = filter_in (λ y. is_entry n s y && is_pipe n s y) (processes n) i in
      let c = any_yes (computing n) (pipe n s y) (and_right (is_entry n s y) (is_pipe n s y) k.ok) in
      let l = in_pipe h (entries_entry h i).inside c.mem in
      (c.it, l.0, l.1, c.ok)

  pub wired : Wired n s
  wired =
      record {
        enters = λ y i.
            let a = entries_entry h i in
            let c = computing_on i in
            let b = computes h.layout c.0 c.3 in
            let l : 0 < length (pipe n s y) = omega (arith, pipe_length h y) in (
              l,
              pipe_at_lem h y 0 zero2 l ∙ ap (λ (k : ℕ). shift2 y (pos 0 -ℤ pos k) (move n s)) a.zero ∙ zero_shift y (move n s),
              subst (λ (l : List V2). 0 < length l) (same_elements h a.inside c.1 c.2) (touched_some b),
            );
        back = λ y k i l.
            let a = entries_entry h i in
            let p = at_inside h a.inside k zero2 l in
            (p, entry_back h i p (at_pipe h y k zero2 l), before_at h a.inside k zero2 l);
        next = λ y k i l. pipe_next h y k zero2 l;
        on = λ p c.
            let b = computes h.layout p c in
            let hp = in_space_lem h b in (
              entry_in h b,
              subst (λ (l : List V2). before n s p < length l) (sym (entry_same h hp)) (omega (arith, pipe_length h p)),
              ap (λ (l : List V2). get_or l (before n s p) zero2) (entry_same h hp)
                  ∙ ap (λ (k : ℕ). get_or (pipe n s p) k zero2) (sym (before_is h p)) ∙ get_d_ahead p zero2 (pipe_self h hp),
            );
        places = hop_positive h;
        home = λ e i. ((home_in h i).0, index_lt h i, element_home h zero2 i);
        element = λ y j i l.
            let m = get_d_in (pipe_elements n s y) j zero2 l in
            let o = in_on h (entries_entry h i).inside m in (
              inside_points (box_of n s.map) _ (at_box h.layout.dirs o.at),
              (home_element h y j zero2 i l).0,
              (home_element h y j zero2 i l).1,
            );
        total_elements = pipes_total h;
      }
    where
      touched_some : {p : V2} {x : V3} → RunAt n p x → 0 < length (pipe_elements n s p)
      touched_some b = positive (touched_in h b)
        where
          positive : {e : V2} {l : List V2} → In e l → 0 < length l
          positive (here e) = omega arith
          positive (there k) = omega arith

  -- what an instance touches stands in its process's pipe
  here_in : {x : V3} → Within n x → In (image s.map x) (pipe_elements n s (entry_of n s (place_of n x)))
  here_in {x} w =
      let b : RunAt n (place_of n x) x = record { within = w; to = refl } in
      subst (In (image s.map x)) (sym (entry_elements (in_space_lem h b))) (touched_in h b)

  -- so it determines the pipe and the index
  there_is : (x : V3) (y : V2) (j : ℕ) → Within n x → In y (entries n s) → j < length (pipe_elements n s y)
      → image s.map x ≡ element_at n s y j
      → (entry_of n s (place_of n x) ≡ y) × (ahead (image s.map x) (pipe_elements n s (place_of n x)) ≡ j)
  there_is x y j w i l e =
      let b : RunAt n (place_of n x) x = record { within = w; to = refl } in
      let q : entry_of n s (place_of n x) ≡ y = sym (home_is h (entry_in h b) (here_in w)) ∙ ap (home_of n s) e
      ∙ (home_element h y j zero2 i l).0 in (
        q,
        ap (λ (l : List V2). ahead (image s.map x) l) (sym (entry_elements (in_space_lem h b)) ∙ ap (pipe_elements n s) q)
            ∙ ap (λ (e : V2). ahead e (pipe_elements n s y)) e ∙ ahead_get_d (pipe_elements n s y) j zero2 (elements_distinct h y) l,
      )

  pub flowing : T (not (stationary n s)) → Flowing n s
  flowing moves =
      record {
        room = λ p c.
            let b = computes h.layout p c in
            sym (ap length (entry_elements (in_space_lem h b)) ∙ total_is h moves b);
        uses_element = λ p i l.
            sym (ap (λ (r : List V2). get_or r (soak n s p + i) zero2) (entry_elements (in_space_lem h (instance_at_lem h.layout p i l)))
            ∙ element_at_lem h moves p i zero2 l);
        touches_element = λ x y j w i l e.
            let r = there_is x y j w i l e in
            let p = place_of n x in
            let b : RunAt n p x = record { within = w; to = refl } in (
              r.0,
              sym (element_index h moves (firing_of n x) b (instance_at_lem h.layout p (firing_of n x) (firing_lt h.layout w)))
                  ∙ ap (λ (v : V3). ahead (image s.map v) (pipe_elements n s p)) (instance_firing h.layout w) ∙ r.1,
            );
        clocked = λ y i. let c = computing_on i in clock_from (clock h moves (computes h.layout c.0 c.3)) c.2;
      }

  pub keeping : T (stationary n s) → Keeping n s
  keeping still =
      record {
        ranked = λ y k i l c.
            let a = entries_entry h i in
            let p = at_inside h a.inside k zero2 l in
            soak_rank h still p c ∙ ap (λ (r : List V2). ahead (process_at n s y k) (filter (computing n) r))
            (same_pipe h a.inside p (at_pipe h y k zero2 l))
            ∙ ahead_filter (computing n) (pipe_distinct h y) k zero2 l c;
        all_ranks = λ y i. ap (λ (r : List V2). length (filter (computing n) r)) (take-length (pipe n s y)) ∙ sym (still_length h still y);
        room_kept = λ p c.
            let b = computes h.layout p c in
            still_total h still b ∙ ap length (sym (entry_elements (in_space_lem h b)));
        keeps_element = λ p i l.
            let b = instance_at_lem h.layout p i l in
            let f = first_at h.layout.dirs b in
            still_element h still (first n p) (run_at n p i) (f.to ∙ sym b.to)
            ∙ sym (ap (λ (r : List V2). get_or r (soak n s p) zero2) (entry_elements (in_space_lem h b))
            ∙ ap (λ (k : ℕ). get_or (pipe_elements n s p) k zero2) (soak_first h b)
            ∙ get_d_ahead (image s.map (first n p)) zero2 (touched_in h f));
        touches_kept = λ x y j w i l e.
            let r = there_is x y j w i l e in
            let p = place_of n x in
            let b : RunAt n p x = record { within = w; to = refl } in (
              r.0,
              soak_first h b
                  ∙ ap (λ (e : V2). ahead e (pipe_elements n s p))
                  (sym (still_element h still (first n p) x (first_at h.layout.dirs b).to)) ∙ r.1,
            );
      }

  pub meeting : Earlier n.direction zero3 (line n s) → Meeting n s
  meeting leads =
      record {
        meets_flowing = λ t i i' k l e. written_moving h leads (inside i (omega arith)) (inside i' l) e (order i i' k l) t;
        meets_kept = λ t i i' k l e. written_still h leads (inside i (omega arith)) (inside i' l) e (order i i' k l) t;
      }
    where
      inside : (i : ℕ) → i < length (instances n) → Within n (get_or (instances n) i zero3)
      inside i l = in_within h.layout.dirs (get_d_in (instances n) i zero3 l)

      order : (i i' : ℕ) → i < i' → i' < length (instances n)
          → Earlier n.direction (get_or (instances n) i zero3) (get_or (instances n) i' zero3)
      order i i' k l = number_earlier h.layout.dirs i i' zero3 k l
