-- The guards as propositions: a line runs exactly where `admits` says so, for loop numbers and comparisons that there are. Assumes nothing.
use Rattle.std.specs.Prelude.{◌≡◌, refl, ℕ, zero, suc, ◌≤◌, ℤ, ◌≤ℤ◌}
use Rattle.std.proofs.Common.{subst, arith}
use Rattle.integers.specs.declared.V3.{V3}
use Rattle.meaning.specs.declared.Line.{Line}
use Rattle.meaning.specs.Guards.{last_comparison, index_of, compares, admits}
use Rattle.meaning.specs.Leaves.{Index, Index.of_first, Index.of_second, Index.of_third, Compares, Compares.always, Compares.equal}
use Rattle.meaning.specs.Leaves.{Compares.at_most, Compares.at_least, Runs}
use Rattle.network.specs.Decide.{Says, Says.holds, says_as}
use Rattle.guarantee.specs.Refusals.{says_eq_z, says_le_z}

-- ---- the index

pub index_is : (x : V3) (i : ℕ) → i ≤ 2 → Index x i (index_of i x)
index_is x zero h = of_first
index_is x (suc zero) h = of_second
index_is x (suc (suc zero)) h = of_third
index_is x (suc (suc (suc i))) h = absurd (omega arith)

one_index : {x : V3} {i : ℕ} {v : ℤ} → Index x i v → v ≡ index_of i x
one_index of_first = refl
one_index of_second = refl
one_index of_third = refl

-- ---- the comparison

module _ (v bound : ℤ) where
  says_compares : (c : ℕ) → c ≤ last_comparison → Says (Compares v bound c) (compares c v bound)
  says_compares zero h = holds always
  says_compares (suc zero) h = says_as equal is_equal (says_eq_z v bound)
    where
      is_equal : Compares v bound 1 → v ≡ bound
      is_equal (equal e) = e
  says_compares (suc (suc zero)) h = says_as at_most is_most (says_le_z v bound)
    where
      is_most : Compares v bound 2 → v ≤ℤ bound
      is_most (at_most e) = e
  says_compares (suc (suc (suc zero))) h = says_as at_least is_least (says_le_z bound v)
    where
      is_least : Compares v bound 3 → bound ≤ℤ v
      is_least (at_least e) = e
  says_compares (suc (suc (suc (suc c)))) h = absurd (omega arith)

-- ---- the guard

pub runs_exactly : (x : V3) (t : Line) → t.index ≤ 2 → t.comparison ≤ last_comparison → Says (Runs x t) (admits t x)
runs_exactly x t i c =
    says_as (λ h. record { index = index_of t.index x; is_index = index_is x t.index i; compares = h })
    (λ r. subst (λ (v : ℤ). Compares v t.bound t.comparison) (one_index r.is_index) r.compares)
    (says_compares (index_of t.index x) t.bound t.comparison c)
