-- `lattice::shorten` meets its contract: what Euclid's rule finds is the one divisor, and each component is divided by it. Assumes nothing.
use mathlib.Core.Path.{◌≡◌, sym, ◌∙◌, ap₂, subst}
use Prim.Native.Nat.{ℕ}
use lib.IntN.{ℤ, pos}
use lib.Signed.{quot_z}
use Rattle.integers.specs.Words.{tower, held}
use Rattle.integers.specs.declared.V3.{V3}
use Rattle.lattice.specs.declared.Short.{Short}
use Rattle.lattice.specs.Shorten.{Shortens, shortened}
use Rattle.lattice.proofs.Shortening.{shortens}
use Rattle.lattice.proofs.shorten.Goals as goal

-- a component, from what the code holds of its parts
component : {r t z : ℤ} {m d : ℕ} → r ≡ quot_z t (pos m) → t ≡ z → m ≡ d → r ≡ quot_z z (pos d)
component e f g = e ∙ ap₂ (λ (t : ℤ) (m : ℕ). quot_z t (pos m)) f g

short : {x x' y y' z z' : ℤ} {d d' : ℕ} → d ≡ d' → x ≡ x' → y ≡ y' → z ≡ z'
    → ◌≡◌ {A = Short} (record { vector = record { x = x; y = y; z = z }; divisor = d })
    (record { vector = record { x = x'; y = y'; z = z' }; divisor = d' })
short e f g h = rw (e, f, g, h)

-- the one that Euclid's rule finds is the one
meets : (v : V3) {r : Short} → r ≡ shortened v → Shortens v r
meets v e = subst (Shortens v) (sym e) (shortens v)

pub returns : goal.returns
returns c =
    let v = c.args.v in
    let d = c.divisor-d.ensures in
    let x = c.quotient in
    let y = c.quotient-2 in
    let z = c.quotient-3 in
    meets v
    (short d (held x.type_inv (component x.ensures (tower v.x c.struct_told-1.given.0.1) d))
    (held y.type_inv (component y.ensures (tower v.y c.struct_told-2-1.given.1.0.1) d))
    (held z.type_inv (component z.ensures (tower v.z c.struct_told-3-1.given.1.1.0.1) d)))
