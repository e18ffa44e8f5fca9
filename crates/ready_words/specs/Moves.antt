-- Whether a process can move, by the rows of a port table, as the code has it. Assumes nothing.
use Rattle.std.specs.Prelude.{◌≡◌, Bool, ◌||◌, List, ℕ}
use Rattle.std.proofs.Math.Path.{refl}
use Rattle.std.proofs.Math.Bool.{true, false}
use Rattle.meaning.specs.Lists.{any, numbers}
use Rattle.ports.specs.declared.Port.{Port}
use Rattle.take_give.specs.Moves.{can_take, can_give}
use Rattle.fire.specs.Firing.{can_fire}
use Rattle.port_table.specs.PortsOf.{port_at, ports_at}

module _ (b st : List ℕ) where
  -- process p can take or give on stream i
  unfoldable pub passes_by : ℕ → ℕ → Bool
  passes_by p i = can_take st (port_at b p i) || can_give st (port_at b p i)

  -- or fire
  unfoldable pub moves_by : ℕ → ℕ → Bool
  moves_by m p = any (passes_by p) (numbers m) || can_fire st (ports_at b p) m

  -- ---- as the code tests it

  module _ (p i : ℕ) {k : Port} (e : k ≡ port_at b p i) where
    pub passes_taking : can_take st k ≡ true → passes_by p i ≡ true
    unfolding passes_by
    passes_taking t = let u : can_take st (port_at b p i) ≡ true = rw e at t in rw u refl

    pub passes_giving : can_take st k ≡ false → passes_by p i ≡ can_give st k
    unfolding passes_by
    passes_giving t = let u : can_take st (port_at b p i) ≡ false = rw e at t in rw (u, e) refl

  module _ (m p : ℕ) where
    pub moves_passing : any (passes_by p) (numbers m) ≡ true → moves_by m p ≡ true
    unfolding moves_by
    moves_passing t = rw t refl

    pub moves_firing : any (passes_by p) (numbers m) ≡ false → moves_by m p ≡ can_fire st (ports_at b p) m
    unfolding moves_by
    moves_firing t = rw t refl
