-- Every state that granted steps lead to is good, and in a good one that is not all out some step is ready. Assumes nothing.
use Rattle.std.proofs.Common.{le_refl}
use Prim.Native.Nat.{ℕ, ◌<◌}
use Rattle.abstract_network.specs.Counters.{Step, get, Counts, Guard}
use Rattle.abstract_network.specs.Words.{Words}
use Rattle.abstract_network.specs.System.{System}
use Rattle.abstract_network.specs.Good.{good_start}
use Rattle.abstract_network.specs.Claims.{Fine, Reach, start, more}
use Rattle.abstract_network.proofs.Due.{progress}
use Rattle.abstract_network.proofs.Good.{good_step}

module _ (X : System) where
  open X use {net, laid, clock}
  open net use {stops, elements}

  pub reach_good : {t : ℕ} {c : Counts} {W : Words} → Reach X t c W → Fine X c W
  reach_good start = good_start X
  reach_good (more r g) = good_step X (reach_good r) g

  module _ {c : Counts} {W : Words} (Q : Fine X c W) where
    -- ready: some step may be granted as long as some pipe is not out
    pub ready : (q : ℕ) → c (get q (stops q)) < elements q → (a : Step) × Guard net c a
    ready q h = progress net clock laid Q.inv (get q (stops q)) (le_refl _, h)
