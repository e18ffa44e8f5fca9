-- First and last of a computing process's row, as Table leaves it, are the outermost whole points of the process's own line in the bounds.
-- Nothing is asked of the increment's components. Assumes nothing.
use Rattle.std.specs.Prelude.{◌≡◌, refl, List, ℕ, ◌≤◌, ◌<◌, length, get_or, ℤ, pos, negsuc, ◌+ℤ◌}
use Rattle.std.proofs.Common.{sym, ◌∙◌, ap, subst, arith}
use Rattle.integers.specs.Differences.{eq_out}
use Rattle.integers.specs.Vectors.{zero2, shift3, image}
use Rattle.integers.specs.declared.V3.{V3}
use Rattle.integers.specs.declared.V2.{V2}
use Rattle.meaning.specs.declared.Limits.{Limits}
use Rattle.meaning.specs.declared.Nest.{Nest}
use Rattle.meaning.specs.declared.Description.{Description}
use Rattle.meaning.specs.declared.Row.{Row}
use Rattle.meaning.specs.Loops.{increment}
use Rattle.meaning.specs.Space.{processes}
use Rattle.meaning.specs.Points.{Within, At, IsLine}
use Rattle.meaning.specs.Description.{description_of}
use Rattle.meaning.specs.Accept.{Accepts}
use Rattle.meaning.specs.Calls.{table}
use Rattle.meaning.specs.Demand2.{ComputingRow, row_at}
use Rattle.meaning.specs.LongerStrides.{Outermost, TableOutermost}
use Rattle.geometry.specs.Numbers.{shift_shift3}
use Rattle.geometry.specs.Lines.{along, on_line, ahead_of, ahead_le, one_along}
use Rattle.guarantee.specs.Demand2.{demand_two}

-- ---- a row of least and greatest step, whose passes are the increments on from first

module _ {d : Description} {y : V2} {r : Row} (line : IsLine d.nest d.nest.place (increment d.nest)) (row : ComputingRow d y r)
    (passes : (k : ℕ) → k < r.count → At d.nest d.nest.place y (shift3 r.first (pos k) (increment d.nest))) where
  abbrev n : Nest
  n = d.nest

  -- an instance is some increments on from first, and no further than last
  numbered : (x : V3) → At n n.place y x → (k : ℕ) × (k < r.count) × (x ≡ shift3 r.first (pos k) (increment n))
  numbered x a =
      let at = ahead_of line r.first x (row.first.here.to ∙ sym a.to) (row.first.least x a) in
      let most = ahead_le line r.first at (record { at = row.steps.0; eq = row.steps.1 }) (row.last.greatest x a) in
      (at.at, omega (arith, most, row.steps.2), at.eq)

  -- so of the points of the line just these are inside the bounds
  inside : (i : ℤ) → Within n (shift3 r.first i (increment n)) → (k : ℕ) × (k < r.count) × (i ≡ pos k)
  inside i w =
      let p = numbered _ (record { within = w; to = along line r.first i ∙ row.first.here.to }) in
      (p.0, p.1, one_along line r.first i (pos p.0) p.2)

  before : Within n (shift3 r.first (negsuc 0) (increment n)) → ⊥
  before w = let p = inside (negsuc 0) w in omega (arith, eq_out p.2)

  after : Within n (shift3 r.last (pos 1) (increment n)) → ⊥
  after w =
      let k = row.steps.0 in
      let e = ap (λ (x : V3). shift3 x (pos 1) (increment n)) row.steps.1 ∙ shift_shift3 r.first (increment n) (pos k) (pos 1) in
      let p = inside (pos k +ℤ pos 1) (subst (Within n) e w) in
      omega (arith, eq_out p.2, p.1, row.steps.2)

  row_outermost : Outermost n y r
  row_outermost =
      record {
        own_line = λ x. (
          λ e. let r = on_line line r.first x (row.first.here.to ∙ sym e) in (r.by, r.eq),
          λ p. ap (λ (x : V3). image n.place x) p.1 ∙ along line r.first p.0 ∙ row.first.here.to,
        );
        first_inside = row.first.here.within;
        last_inside = row.last.here.within;
        outside_before = before;
        outside_after = after;
        instances = λ x. (numbered x, λ p. subst (At n n.place y) (sym p.2) (passes p.0 p.1));
      }

-- ---- what Table leaves

module _ (l : Limits) (s : List ℕ) (lent : List Row) where
  abbrev nest : Nest
  nest = (description_of s).nest

  abbrev left : ℕ → Row
  left p = row_at (table l s lent).rows p

  abbrev pass : ℕ → ℕ → V3
  pass p k = shift3 (left p).first (pos k) (increment nest)

  pub table_outermost : Accepts l s → length (processes nest) ≤ length lent → TableOutermost l s lent
  table_outermost e h p q c =
      let says = (demand_two l s e).table lent h in
      let row = says.1.rows p q in
      let passes : (k : ℕ) → k < (left p).count → At nest nest.place (get_or (processes nest) p zero2) (pass p k) =
      λ k i. subst (λ (y : V2). At nest nest.place y (pass p k)) row.point
      (says.2.nothing_else (pass p k) p k (record { process = q; firing = i; same = refl })) in
      row_outermost says.1.increment (row.computing (pass p 0) (passes 0 c)) passes
