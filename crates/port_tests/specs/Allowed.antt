-- Document 01's conditions of take and give over the numbers of a port. Assumes nothing.
use Rattle.std.specs.Prelude.{◌≡◌, refl, Bool, true, false, cond, ◌&&◌, ◌||◌, ℕ, ◌+◌, ◌<◌, eqb, leb, ltb}
use Rattle.std.proofs.Common.{arith, ltb-true, eqb-true}
use Rattle.ports.specs.declared.Port.{Port}
use Rattle.lists.specs.Tests.{both_true}

-- ---- take: n elements stand in the link into the port, x were taken and y given

unfoldable pub takes : Bool → ℕ → ℕ → ℕ → Bool
takes keeps n x y = ltb 0 n && cond keeps (eqb x 0 || eqb x (y + 1)) (eqb x y)

-- where the element goes: counted from `at`, the keep is word 3 and the hand word 2
unfoldable pub takes_to : Bool → ℕ → ℕ
takes_to keeps x = cond (keeps && eqb x 0) 3 2

pub takes_some : (keeps : Bool) (n x y : ℕ) → takes keeps n x y ≡ true → 0 < n
unfolding takes
takes_some keeps n x y h = ltb-true _ _ (both_true _ _ h).0

-- ---- give: n elements stand in the link out of the port, x were taken and y given, f instances have fired

unfoldable pub passes : ℕ → ℕ → ℕ → ℕ → ℕ → Bool
passes soak count x y f = eqb x (y + 1) && (ltb y soak || leb (soak + count) y || ltb y (soak + f))

unfoldable pub releases : ℕ → ℕ → ℕ → ℕ → ℕ → Bool
releases total count x y f = eqb x (y + 2) || (eqb x (y + 1) && eqb x total && eqb f count)

unfoldable pub gives : Port → ℕ → ℕ → ℕ → ℕ → Bool
gives k n x y f = ltb n k.hop && cond k.keeps (releases k.total k.count x y f) (passes k.soak k.count x y f)

-- where the element stands
unfoldable pub gives_from : Bool → ℕ → ℕ → ℕ
gives_from keeps x y = cond (keeps && eqb x (y + 1)) 3 2

-- what a give that is allowed says of the counts
passes_facts : (soak count x y f : ℕ) → passes soak count x y f ≡ true → y < x
unfolding passes
passes_facts soak count x y f h = omega (arith, eqb-true x (y + 1) (both_true _ _ h).0)

releases_facts : (total count x y f : ℕ) → releases total count x y f ≡ true → y < x
unfolding releases
releases_facts total count x y f = go (eqb x (y + 2)) _ refl refl
  where
    go : (a b : Bool) → eqb x (y + 2) ≡ a → (eqb x (y + 1) && eqb x total && eqb f count) ≡ b → (a || b) ≡ true → y < x
    go true b e d h = omega (arith, eqb-true x (y + 2) e)
    go false true e d h = omega (arith, eqb-true x (y + 1) (both_true _ _ (both_true _ _ d).0).0)
    go false false e d h = absurd (let z : ◌≡◌ {A = ℕ} 0 1 = cc in omega arith)

pub gives_facts : (k : Port) (n x y f : ℕ) → gives k n x y f ≡ true → (n < k.hop) × (y < x)
unfolding gives
gives_facts k n x y f h = let z = both_true _ _ h in (ltb-true _ _ z.0, go k.keeps z.1)
  where
    go : (b : Bool) → cond b (releases k.total k.count x y f) (passes k.soak k.count x y f) ≡ true → y < x
    go true h = releases_facts _ _ x y f h
    go false h = passes_facts _ _ x y f h
