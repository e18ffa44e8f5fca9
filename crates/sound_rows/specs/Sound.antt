-- Sound states as functions of rows, as the code tests them. Assumes nothing.
use Rattle.std.specs.Prelude.{Bool, cond, ◌&&◌, ◌||◌, List, ℕ, ◌+◌, ◌-◌, eqb, leb}
use Rattle.ports.specs.declared.Port.{Port}
use Rattle.ports.specs.declared.End.{End}
use Rattle.ports.specs.Links.{word}

-- a link of hop places holds what was put in and not got out of it
unfoldable pub link_holds : ℕ → ℕ → ℕ → Bool
link_holds put got hop = leb got put && leb (put - got) hop

-- of n elements x were taken and y given
unfoldable pub hand_holds : Bool → ℕ → ℕ → ℕ → Bool
hand_holds keeps n x y =
    cond keeps (cond (eqb x 0) (eqb y 0) (cond (eqb y n) (eqb x n) (eqb x (y + 1) || eqb x (y + 2)))) (eqb x y || eqb x (y + 1))

unfoldable pub port_holds : Port → ℕ → ℕ → ℕ → Bool
port_holds k put x y = leb x k.total && leb y k.total && hand_holds k.keeps k.total x y && link_holds put x k.hop

abbrev pub port_sound : List ℕ → Port → Bool
port_sound l k = port_holds k (word l k.before) (word l k.at) (word l (k.at + 1))

unfoldable pub end_holds : End → ℕ → ℕ → ℕ → Bool
end_holds e put x y = leb x e.total && leb y e.total && link_holds put y e.hop

abbrev pub end_sound : List ℕ → End → Bool
end_sound l e = end_holds e (word l e.before) (word l e.sent) (word l e.received)
