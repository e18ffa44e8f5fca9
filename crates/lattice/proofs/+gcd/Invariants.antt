-- `lattice::gcd`: its second argument falls. Assumes nothing.
use Rattle.lattice.proofs.+gcd.Given as goal

abbrev pub decreases-gcd : goal.decreases-gcd
decreases-gcd l = l.b
