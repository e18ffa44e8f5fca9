-- A description at a step that its increment moves along: its words are in range, and its loops are laid out. Assumes nothing.
use Rattle.std.specs.Prelude.{◌≡◌, refl, Bool, true, false, not, ◌≤◌, T, length, ℤ, pos}
use Rattle.std.proofs.Common.{sym, ◌∙◌, ap, subst}
use Rattle.integers.specs.Words.{eq_z, eq_z→eq}
use Rattle.integers.specs.Bounds.{Abs-wider}
use Rattle.integers.specs.Ring.{ring, quotes, literal}
use Rattle.integers.proofs.Ring.{solve}
use Rattle.integers.specs.Vectors.{zero3, dot, same3}
use Rattle.integers.specs.declared.V3.{V3}
use Rattle.meaning.specs.declared.Nest.{Nest}
use Rattle.meaning.specs.declared.Description.{Description}
use Rattle.meaning.specs.Limits.{gauge_limits}
use Rattle.meaning.specs.Loops.{instances, increment}
use Rattle.meaning.specs.Accept.{is_zero3, refused7, refused8}
use Rattle.meaning.specs.HowManyWork.{stepped, with_nest}
use Rattle.geometry.specs.Lines.{line_some}
use Rattle.geometry.specs.Processes.{Layout}
use Rattle.geometry.specs.Accept.{layout_of}
use Rattle.choices.specs.Turning.{still_by}
use Rattle.vectors.specs.Within.{Within}
use Rattle.decode.specs.Ranged.{Ranged}
use Rattle.survey.specs.declared.Survey.{Survey}
use Rattle.survey.specs.InRange.{nest_bounded}

-- a vector that is not zero moves along the step of its first component that is not 0
module _ (u : V3) where
  abbrev step : ℤ → ℤ → ℤ → V3
  step x y z = record { x = x; y = y; z = z }

  first_is : dot (step (pos 1) (pos 0) (pos 0)) u ≡ u.x
  first_is = go u
    where
      go : (u : V3) → dot (step (pos 1) (pos 0) (pos 0)) u ≡ u.x
      go = ring 1 0 _ λ ρ. simp (quotes, literal ρ) (solve ρ _ _ tt)

  second_is : dot (step (pos 0) (pos 1) (pos 0)) u ≡ u.y
  second_is = go u
    where
      go : (u : V3) → dot (step (pos 0) (pos 1) (pos 0)) u ≡ u.y
      go = ring 1 0 _ λ ρ. simp (quotes, literal ρ) (solve ρ _ _ tt)

  third_is : dot (step (pos 0) (pos 0) (pos 1)) u ≡ u.z
  third_is = go u
    where
      go : (u : V3) → dot (step (pos 0) (pos 0) (pos 1)) u ≡ u.z
      go = ring 1 0 _ λ ρ. simp (quotes, literal ρ) (solve ρ _ _ tt)

  pub along_first : (u.x ≡ pos 0 → ⊥) → dot (step (pos 1) (pos 0) (pos 0)) u ≡ pos 0 → u ≡ zero3
  along_first n e = absurd (n (sym first_is ∙ e))

  pub along_second : (u.y ≡ pos 0 → ⊥) → dot (step (pos 0) (pos 1) (pos 0)) u ≡ pos 0 → u ≡ zero3
  along_second n e = absurd (n (sym second_is ∙ e))

  pub along_third : u.x ≡ pos 0 → u.y ≡ pos 0 → dot (step (pos 0) (pos 0) (pos 1)) u ≡ pos 0 → u ≡ zero3
  along_third p q e = same3 p q (sym third_is ∙ e)

-- loops at a step of their own: along it the increment moves, unless place has low rank
pub record Moved (n r : Nest) : Type 0 where
  pub same : r ≡ stepped n r.step
  pub small : Within 1 r.step
  pub moves : refused7 n ≡ false → refused8 r ≡ false

pub own_moves : (n : Nest) (v : V3) → (dot v (increment n) ≡ pos 0 → increment n ≡ zero3) → refused7 n ≡ false
    → refused8 (stepped n v) ≡ false
own_moves n v f r = still_by n v ∙ go (eq_z (dot v (increment n)) (pos 0)) refl
  where
    go : (b : Bool) → eq_z (dot v (increment n)) (pos 0) ≡ b → b ≡ false
    go false e = refl
    go true e =
        absurd (line_some n n.place (λ z. subst T (sym (ap is_zero3 z) ∙ r) tt) (f (eq_z→eq (dot v (increment n)) (pos 0) e)))

-- the survey of a description at such a step
pub record Own (d : Description) (v : Survey) : Type 0 where
  pub same : v.description ≡ with_nest d (stepped d.nest v.description.nest.step)
  pub ranged : Ranged v.description
  pub moves : refused7 d.nest ≡ false → refused8 v.description.nest ≡ false

pub own_ranged : {d : Description} {v : V3} → Ranged d → Within 1 v → Ranged (with_nest d (stepped d.nest v))
own_ranged h w =
    record {
      sized = h.sized;
      nest = record {
        left = h.nest.left;
        right = h.nest.right;
        ordered = h.nest.ordered;
        direction = h.nest.direction;
        step = record { x = Abs-wider tt w.xs; y = Abs-wider tt w.ys; z = Abs-wider tt w.zs };
        place = h.nest.place;
      };
      streams = h.streams;
      lines = h.lines;
    }

-- one that can be walked
pub record Laid (v : Survey) : Type 0 where
  pub ranged : Ranged v.description
  pub layout : Layout v.description.nest
  pub instances : length (instances v.description.nest) ≤ gauge_limits.instances

pub own_laid : {d : Description} {v : Survey} → Own d v → refused7 d.nest ≡ false
    → length (instances d.nest) ≤ gauge_limits.instances → Laid v
unfolding instances
own_laid {d} {v} o r few =
    record {
      ranged = o.ranged;
      layout =
          layout_of (nest_bounded o.ranged.nest).directed (passed (ap (λ (d : Description). refused7 d.nest) o.same ∙ r))
          (passed (o.moves r));
      instances =
          subst (λ (d : Description). length (instances d.nest) ≤ gauge_limits.instances) (sym o.same) few;
    }
  where
    passed : {b : Bool} → b ≡ false → T (not b)
    passed e = subst (λ (b : Bool). T (not b)) (sym e) tt
