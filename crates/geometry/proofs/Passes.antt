-- Every pass of the loops is run by one processor, once, and no processor runs anything else. Assumes what `Layout` says.
use Rattle.std.specs.Prelude.{◌≡◌, refl, true, ℕ, suc, ◌<◌, T, ltb, length, get_or, pos}
use Rattle.std.proofs.Common.{sym, ◌∙◌, ap, subst, subst₂, arith, ltb→lt}
use mathlib.Core.List.{List, []}
use Rattle.std.proofs.Math.ListN.{length-map}
use Rattle.integers.specs.Vectors.{zero3, zero2, shift3}
use Rattle.integers.specs.declared.V3.{V3}
use Rattle.integers.specs.declared.V2.{V2}
use Rattle.meaning.specs.declared.Nest.{Nest}
use Rattle.meaning.specs.declared.Description.{Description}
use Rattle.meaning.specs.declared.Row.{Row}
use Rattle.meaning.specs.Lists.{every, numbers}
use Rattle.meaning.specs.Loops.{place_of, increment}
use Rattle.meaning.specs.Space.{row_index, space, processes, count, first, last}
use Rattle.meaning.specs.Array.{runs, array_of, runs_of, count_at, instance_at, process_count, stream_count}
use Rattle.meaning.specs.State.{Firings, read}
use Rattle.meaning.specs.declared.Step.TheVariants.{Fire}
use Rattle.meaning.specs.Rules.{ready, ready_to_use, fire_instance}
use Rattle.meaning.specs.Points.{Within, At}
use Rattle.meaning.specs.Demand2.{row_at, RunBy, RunOnce, EveryPass}
use Rattle.lists.specs.Members.{map_at}
use Rattle.geometry.specs.Numbers.{and_left}
use Rattle.geometry.specs.Boxes.{box_has}
use Rattle.geometry.specs.RowOrder.{row_at_lem, row_lt, row_number}
use Rattle.geometry.specs.Segments.{segment}
use Rattle.geometry.specs.Processes.{Layout, run_at, firing_of}
use Rattle.geometry.proofs.Processes.{firing_lt, instance_firing, instance_at_lem, firing_instance}
use Rattle.geometry.proofs.Firings.{runs_length, runs_at}
use Rattle.geometry.specs.Passes.{RowOf}

module _ (d : Description) (layout : Layout d.nest) where
  -- process p runs the instances of the point with that number, in step order
  at_number : (p : ℕ) → p < length (processes d.nest) → runs_of (array_of d) p ≡ runs d.nest (get_or (processes d.nest) p zero2)
  unfolding array_of
  at_number p h = map_at (runs d.nest) (processes d.nest) p zero2 [] h

  process_count_lem : process_count (array_of d) ≡ length (processes d.nest)
  unfolding array_of
  process_count_lem = length-map (processes d.nest) (runs d.nest)

  -- firing f of process p
  pub instance_is : (p f : ℕ) → p < process_count (array_of d) → f < count_at (array_of d) p
      → (f < count d.nest (get_or (processes d.nest) p zero2))
      × (instance_at (array_of d) p f ≡ run_at d.nest (get_or (processes d.nest) p zero2) f)
  instance_is p f h k =
      let y = get_or (processes d.nest) p zero2 in
      let e = at_number p (omega (arith, process_count_lem)) in
      let c : f < count d.nest y = subst (λ (c : ℕ). f < c) (ap length e ∙ runs_length layout y) k in
      (c, ap (λ (r : List V3). get_or r f zero3) e ∙ runs_at layout y f zero3 c)

module _ (d : Description) (layout : Layout d.nest) (rows : List Row)
    (row : (p : ℕ) → p < length (processes d.nest) → RowOf d.nest (get_or (processes d.nest) p zero2) (row_at rows p)) where
  abbrev n : Nest
  n = d.nest

  abbrev point : ℕ → V2
  point p = get_or (processes d.nest) p zero2

  -- the row's f-th pass is the process's f-th firing
  pass_is : (p f : ℕ) → p < length (processes n) → shift3 (row_at rows p).first (pos f) (increment n) ≡ run_at n (point p) f
  pass_is p f l = ap (λ (x : V3). shift3 x (pos f) (increment n)) (row p l).first

  run_by : {x : V3} {p f : ℕ} → RunBy n rows x p f → (f < count n (point p)) × (run_at n (point p) f ≡ x)
  run_by {p} {f} b = (subst (λ (c : ℕ). f < c) (row p b.process).count b.firing, sym (pass_is p f b.process) ∙ b.same)

  once : (x : V3) → Within n x → RunOnce n rows x
  once x w =
      record {
        process = p;
        firing = firing_of n x;
        by = record {
          process = l;
          firing = subst (λ (c : ℕ). firing_of n x < c) (sym ((row p l).count ∙ ap (count n) e)) (firing_lt layout w);
          same = pass_is p (firing_of n x) l ∙ ap (λ (y : V2). run_at n y (firing_of n x)) e ∙ instance_firing layout w;
        };
        only = λ q f b.
            let c = run_by b in
            let o : place_of n x ≡ point q = ap (place_of n) (sym c.1) ∙ (instance_at_lem layout (point q) f c.0).to in (
              sym (ap (row_index (space n)) o ∙ row_number (space n) q zero2 b.process),
              sym (ap (firing_of n) (sym c.1) ∙ firing_instance layout (point q) f c.0),
            );
      }
    where
      p : ℕ
      p = row_index (space n) (place_of n x)

      l : p < length (processes n)
      l = row_lt (space n) (place_of n x) (box_has layout.dirs n.place w)

      e : point p ≡ place_of n x
      e = row_at_lem (space n) (place_of n x) zero2 (box_has layout.dirs n.place w)

  -- a process that is ready to fire has an instance left
  left : (st : List ℕ) (p : ℕ) → ready (array_of d) st (Fire p) ≡ true → read (array_of d) st (Firings p) < count_at (array_of d) p
  left st p e =
      let A = array_of d in
      let b = ltb (read A st (Firings p)) (count_at A p) in
      ltb→lt (read A st (Firings p)) (count_at A p)
      (and_left b (every (ready_to_use A st p) (numbers (stream_count A))) (subst T (sym e) tt))

  pub every_pass : EveryPass d rows
  every_pass =
      record {
        once = once;
        nothing_else = λ x p f b.
            let c = run_by b in subst₂ (At n n.place) (sym (row p b.process).point) c.1 (instance_at_lem layout (point p) f c.0);
        ends = λ p f l e.
            let c : count n (point p) ≡ suc f = sym (row p l).count ∙ e in
            let w = segment layout.dirs layout.inc (instance_at_lem layout (point p) 0 (omega arith)) in
            (row p l).last ∙ w.end ∙ ap (run_at n (point p)) (omega (arith, w.size)) ∙ sym (pass_is p f l);
        fires = λ st p l e.
            let f = read (array_of d) st (Firings p) in
            let c = instance_is d layout p f (omega (arith, process_count_lem d layout)) (left st p e) in (
              record { process = l; firing = subst (λ (k : ℕ). f < k) (sym (row p l).count) c.0; same = refl },
              ap (fire_instance (array_of d) st p) (c.1 ∙ sym (pass_is p f l)),
            );
      }
