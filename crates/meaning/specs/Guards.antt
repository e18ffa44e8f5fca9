-- Request 2.5, the guards of body lines: whether a line runs at an instance. That they compare as the request says, in plain propositions,
-- is `runs-exactly` of requests.
use Rattle.std.specs.Prelude.{Bool, true, cond, ℕ, eqb, ℤ}
use Rattle.std.specs.Int.Signed.{le_z}
use Rattle.integers.specs.Words.{eq_z}
use Rattle.integers.specs.declared.V3.{V3}
use Rattle.meaning.specs.declared.Line.{Line}

-- comparison words run from 0 to this one
abbrev pub last_comparison : ℕ
last_comparison = 3

-- the index of loop i at instance x, which is its coordinate
abbrev pub index_of : ℕ → V3 → ℤ
index_of i x = cond (eqb i 0) x.x (cond (eqb i 1) x.y x.z)

-- "0 always, 1 equal, 2 at most, 3 at least"
abbrev pub compares : ℕ → ℤ → ℤ → Bool
compares c v bound = cond (eqb c 0) true (cond (eqb c 1) (eq_z v bound) (cond (eqb c 2) (le_z v bound) (le_z bound v)))

-- "the line runs only if that index compares so"
abbrev pub admits : Line → V3 → Bool
admits l x = compares l.comparison (index_of l.index x) l.bound
