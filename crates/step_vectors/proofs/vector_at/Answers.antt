-- `step_vectors::vector_at` meets its contract: the entries are the digits of the place. Assumes nothing.
use mathlib.Core.Path.{◌≡◌, refl, sym, ◌∙◌, ap, subst}
use mathlib.Core.List.{[]}
use Prim.Native.Nat.{ℕ, ◌+◌, ◌*◌, ◌≤◌, ◌<◌}
use native.Mathlib.Omega.{arith}
use lib.ListN.{length, get_or}
use lib.IntN.{ℤ, pos, ◌-ℤ◌}
use Rattle.integers.specs.Differences.{Abs}
use Rattle.integers.specs.Bounds.{Abs-wider}
use Rattle.integers.specs.Words.{held}
use Rattle.integers.specs.Vectors.{same3}
use Rattle.meaning.specs.StepVectors.{vectors}
use Rattle.meaning.specs.HowManyWork.{step_vector}
use Rattle.step_vectors.specs.Places.{Placed, two_digits, three_digits, entry_small}
use Rattle.step_vectors.proofs.vector_at.Goals as goal

-- the place, with two entries and with three
two : {k loops j : ℕ} → Placed k loops j → loops ≡ 2 → j < length (vectors k 2)
two {k} {loops} {j} p e = subst (λ (r : ℕ). j < length (vectors k r)) e p.place

three_loops : {k loops j : ℕ} → Placed k loops j → (loops ≡ 2 → ⊥) → loops ≡ 3
three_loops p n = omega (arith, p.least, p.most, n)

three : {k loops j : ℕ} → Placed k loops j → (loops ≡ 2 → ⊥) → j < length (vectors k 3)
three {k} {loops} {j} p n = subst (λ (r : ℕ). j < length (vectors k r)) (three_loops p n) p.place

pub entry-requires : goal.entry-requires
entry-requires c = (c.requires.few, (two_digits c.args.k c.args.j (two c.requires c.if-loops-eq2.true)).0)

pub entry-requires-then-loops-eq2 : goal.entry-requires-then-loops-eq2
entry-requires-then-loops-eq2 c = (c.requires.few, (two_digits c.args.k c.args.j (two c.requires c.if-loops-eq2.true)).1)

pub entry-requires-else-loops-eq2 : goal.entry-requires-else-loops-eq2
entry-requires-else-loops-eq2 c = (c.requires.few, (three_digits c.args.k c.args.j (three c.requires c.if-loops-eq2.false)).0)

pub entry-requires-else-loops-eq2-2 : goal.entry-requires-else-loops-eq2-2
entry-requires-else-loops-eq2-2 c = (c.requires.few, (three_digits c.args.k c.args.j (three c.requires c.if-loops-eq2.false)).1)

pub entry-requires-else-loops-eq2-3 : goal.entry-requires-else-loops-eq2-3
entry-requires-else-loops-eq2-3 c =
    (c.requires.few, (three_digits c.args.k c.args.j (three c.requires c.if-loops-eq2.false)).2)

-- an entry is small, however it is written
small : {z : ℤ} {k i : ℕ} → k ≤ 3 → i < 2 * k + 1 → z ≡ pos i -ℤ pos k → Abs z 8
small {k = k} {i = i} h l e = subst (λ (z : ℤ). Abs z 8) (sym e) (Abs-wider tt (entry_small k i h l))

pub returns-then-loops-eq2 : goal.returns-then-loops-eq2
returns-then-loops-eq2 c =
    let k = c.args.k in
    let d = two_digits k c.args.j (two c.requires c.if-loops-eq2.true) in
    let x = held c.entry.type_inv c.entry.ensures in
    let y = held c.entry-then-loops-eq2.type_inv c.entry-then-loops-eq2.ensures in (
      same3 x y refl ∙ sym (ap (λ (r : ℕ). step_vector (get_or (vectors k r) c.args.j [])) c.if-loops-eq2.true ∙ d.2),
      record { xs = small c.requires.few d.0 x; ys = small c.requires.few d.1 y; zs = record { abs = omega arith } },
    )

pub returns-else-loops-eq2 : goal.returns-else-loops-eq2
returns-else-loops-eq2 c =
    let k = c.args.k in
    let d = three_digits k c.args.j (three c.requires c.if-loops-eq2.false) in
    let x = held c.entry-else-loops-eq2.type_inv c.entry-else-loops-eq2.ensures in
    let y = held c.entry-else-loops-eq2-2.type_inv c.entry-else-loops-eq2-2.ensures in
    let z = held c.entry-else-loops-eq2-3.type_inv c.entry-else-loops-eq2-3.ensures in (
      same3 x y z
          ∙ sym (ap (λ (r : ℕ). step_vector (get_or (vectors k r) c.args.j [])) (three_loops c.requires c.if-loops-eq2.false) ∙ d.3),
      record { xs = small c.requires.few d.0 x; ys = small c.requires.few d.1 y; zs = small c.requires.few d.2 z },
    )
