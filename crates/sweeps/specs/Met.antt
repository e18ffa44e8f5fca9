-- What a pass makes of the entries of a point: the number of its instances, and the instance met first or last, by its number plus one.
-- Assumes nothing.
use Rattle.std.specs.Prelude.{◌≡◌, refl, Bool, true, false, List, [], ◌∷◌, map, ℕ, zero, suc, ◌+◌, length}
use Rattle.std.proofs.Common.{◌∙◌, arith}
use Rattle.geometry.specs.Best.{end_or}
use Rattle.sweeps.specs.Sweep.{visits, run}

-- how many instances of a table are at p
abbrev pub count_in : List ℕ → ℕ → ℕ
count_in l p = length (visits p 0 l)

-- the last or the first of them, by its number plus one, 0 if there is none
abbrev pub end_in : Bool → List ℕ → ℕ → ℕ
end_in last l p = end_or last 0 (map suc (visits p 0 l))

-- an instance counted
abbrev pub more : ℕ → ℕ → ℕ
more k x = x + 1

-- instance k after what was met before it: the last one is new each time, the first one stays
unfoldable pub met : Bool → ℕ → ℕ → ℕ
met true k x = suc k
met false k zero = suc k
met false k (suc j) = suc j

-- what they make of 0
run_on : (x : ℕ) (l : List ℕ) → run more x l ≡ x + length l
unfolding run
run_on x [] = omega arith
run_on x (k ∷ l) = run_on (x + 1) l ∙ omega arith

pub run_more : (l : List ℕ) → run more 0 l ≡ length l
run_more l = run_on 0 l ∙ omega arith

run_last : (x : ℕ) (l : List ℕ) → run (met true) x l ≡ end_or true x (map suc l)
unfolding run met end_or
run_last x [] = refl
run_last x (k ∷ l) = run_last (suc k) l

run_first : (j : ℕ) (l : List ℕ) → run (met false) (suc j) l ≡ suc j
unfolding run met
run_first j [] = refl
run_first j (k ∷ l) = run_first j l

pub run_met : (last : Bool) (l : List ℕ) → run (met last) 0 l ≡ end_or last 0 (map suc l)
unfolding run met end_or
run_met true l = run_last 0 l
run_met false [] = refl
run_met false (k ∷ l) = run_first k l
