-- The system of the network and the program of an array. Assumes nothing.
use Rattle.std.specs.Prelude.{◌≡◌, List, ℕ}
use Rattle.meaning.specs.Array.{Array}
use Rattle.network.specs.Wiring.{net_of, Wired, ranked_of}
use Rattle.network.specs.Wiring.{lined_of}
use Rattle.network.specs.Wiring.{laid_of, clock_of}
use Rattle.abstract_network.specs.System.{System}
use Rattle.network.specs.Programs.{program_of, bodied_of, geometry_of}

module _ {A : Array} (W : Wired A) (values : List ℕ) where
  -- the network of the array with the program that it runs
  abbrev pub system_of : System
  system_of =
      record {
        net = net_of A;
        ranked = ranked_of W;
        lined = lined_of W;
        laid = laid_of W;
        clock = clock_of W;
        program = program_of W values;
        geometry = geometry_of W values;
        bodied = bodied_of W values;
      }
