-- `port_rows::off_of` meets its contract. Assumes nothing.
use mathlib.Core.Path.{refl, ap}
use Prim.Native.Nat.{ℕ, ◌+◌}
use Rattle.ports.specs.Ports.{same_port}
use Rattle.port_rows.proofs.off_of.Goals as goal

pub returns : goal.returns
returns c =
    let e = c.port_at-at.ensures.0 in
    same_port e e (ap (λ (a : ℕ). a + 1) e) (ap (λ (a : ℕ). a + 4) e) refl refl refl refl refl refl
