-- Tests on small words as the code makes them: chains of them; the step of a line; rank by the divisor.
-- Assumes nothing.
use Rattle.std.specs.Prelude.{◌≡◌, refl, Bool, true, false, ◌&&◌, ◌||◌, T, eqb, pos, nat_abs}
use Rattle.std.proofs.Common.{sym, ◌∙◌, ap, subst, eqb-true}
use Rattle.std.specs.Int.Signed.{lt_z}
use Rattle.std.proofs.lemmas.Bool.{eqb-false}
use Rattle.integers.specs.Differences.{up}
use Rattle.integers.specs.Words.{eq_z, eq_z→eq}
use Rattle.integers.specs.Vectors.{zero3, same3}
use Rattle.integers.specs.declared.V2.{V2}
use Rattle.integers.specs.declared.V3.{V3}
use Rattle.integers.specs.declared.Matrix.{Matrix}
use Rattle.lattice.specs.declared.Short.{Short}
use Rattle.lattice.specs.Shorten.{divisor_zero}
use Rattle.lattice.proofs.Shortening.{shortens}
use Rattle.meaning.specs.declared.Nest.{Nest}
use Rattle.meaning.specs.Loops.{step_of, line_of, unshortened, divisor}
use Rattle.meaning.specs.Pipes.{backward}
use Rattle.meaning.specs.Accept.{is_zero3, low_rank}
use Rattle.geometry.specs.Lines.{turn_ahead}
use Rattle.geometry.specs.Numbers.{eq_z_eq, and_left, and_right, up_abs}

-- ---- chains of `&&`, from what a call ensures of its flag f: a test that holds, and one that fails

pub and_goes : {f a r b : Bool} → f ≡ a → f ≡ true → r ≡ b → r ≡ a && b
and_goes {b} e t h = h ∙ ap (λ (x : Bool). x && b) (sym (sym e ∙ t))

pub and_stops : {f a : Bool} (b : Bool) → f ≡ a → f ≡ false → f ≡ a && b
and_stops b e t = t ∙ ap (λ (x : Bool). x && b) (sym (sym e ∙ t))

-- ---- the step of a line is not negative, and so its own magnitude

pub step_up : (n : Nest) (m : Matrix) → nat_abs (step_of n (line_of n m)) ≡ up (step_of n (line_of n m))
unfolding line_of
step_up n m = up_abs (step_of n (line_of n m)) (turn_ahead n.step _)

-- ---- a vector that leads back, by the test of its first component

pub back_level : (v : V2) → eq_z v.a (pos 0) ≡ true → lt_z v.b (pos 0) ≡ backward v
back_level v e = rw (eq_z→eq v.a (pos 0) e) refl

pub back_steep : (v : V2) → eq_z v.a (pos 0) ≡ false → lt_z v.a (pos 0) ≡ backward v
back_steep v e = rw e (go (lt_z v.a (pos 0)))
  where
    go : (b : Bool) → b ≡ (b || false)
    go true = refl
    go false = refl

-- ---- a matrix has low rank exactly if its divisor is 0

pub rank_by_divisor : (m : Matrix) → eqb (divisor m) 0 ≡ low_rank m
rank_by_divisor m = go (eqb (divisor m) 0) refl
  where
    v : V3
    v = unshortened m

    all_zero : T (is_zero3 v) → v ≡ zero3
    all_zero t =
        let l = and_left (eq_z v.x (pos 0) && eq_z v.y (pos 0)) (eq_z v.z (pos 0)) t in
        same3 (eq_z_eq v.x (pos 0) (and_left (eq_z v.x (pos 0)) (eq_z v.y (pos 0)) l))
        (eq_z_eq v.y (pos 0) (and_right (eq_z v.x (pos 0)) (eq_z v.y (pos 0)) l))
        (eq_z_eq v.z (pos 0) (and_right (eq_z v.x (pos 0) && eq_z v.y (pos 0)) (eq_z v.z (pos 0)) t))

    some : (b : Bool) → is_zero3 v ≡ b → eqb (divisor m) 0 ≡ false → false ≡ b
    some true h e =
        let z = ap (λ (r : Short). r.divisor) ((shortens v).zero (all_zero (subst T (sym h) tt))) in
        absurd (eqb-false (divisor m) 0 e z)
    some false h e = refl

    go : (b : Bool) → eqb (divisor m) 0 ≡ b → b ≡ low_rank m
    go true e = subst (λ (w : V3). true ≡ is_zero3 w) (sym (divisor_zero (shortens v) (eqb-true (divisor m) 0 e))) refl
    go false e = some (is_zero3 v) refl e
