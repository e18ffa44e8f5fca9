-- Take and give as functions of a state's words, as the code carries them out. Assumes nothing.
use Rattle.std.specs.Prelude.{◌≡◌, Bool, true, List, ℕ, ◌+◌, ◌-◌, ◌≤◌, ◌<◌, set}
use Rattle.std.proofs.Common.{arith}
use Rattle.ports.specs.declared.Port.{Port}
use Rattle.ports.specs.Links.{word, fill_at, moved_down}
use Rattle.port_tests.specs.Allowed.{takes, takes_to, takes_some, gives, gives_from, gives_facts}

abbrev pub fill_into : List ℕ → Port → ℕ
fill_into l k = fill_at l k.before k.at k.hop

abbrev pub can_take : List ℕ → Port → Bool
can_take l k = takes k.keeps (fill_into l k) (word l k.at) (word l (k.at + 1))

abbrev pub taken : List ℕ → Port → List ℕ
taken l k =
    set
    (set (moved_down l (k.at + 4) (fill_into l k - 1)) (k.at + takes_to k.keeps (word l k.at)) (word l (k.at + 4)))
    k.at
    (word l k.at + 1)

abbrev pub fill_out_of : List ℕ → Port → ℕ
fill_out_of l k = fill_at l (k.at + 1) k.after k.hop

abbrev pub can_give : List ℕ → Port → Bool
can_give l k = gives k (fill_out_of l k) (word l k.at) (word l (k.at + 1)) (word l k.fired)

abbrev pub given : List ℕ → Port → List ℕ
given l k =
    set
    (set (set l (k.room + fill_out_of l k) (word l (k.at + gives_from k.keeps (word l k.at) (word l (k.at + 1)))))
    (k.at + gives_from k.keeps (word l k.at) (word l (k.at + 1)))
    0)
    (k.at + 1)
    (word l (k.at + 1) + 1)

-- ---- what a ready rule says of the counts

pub take_facts : (l : List ℕ) (k : Port) → can_take l k ≡ true
    → (0 < fill_into l k) × (fill_into l k ≤ k.hop) × (word l k.at < word l k.before)
take_facts l k h = let z : 0 < fill_into l k = takes_some k.keeps _ _ _ h in omega arith

pub give_facts : (l : List ℕ) (k : Port) → can_give l k ≡ true → (fill_out_of l k < k.hop) × (word l (k.at + 1) < word l k.at)
give_facts l k = gives_facts k _ _ _ _
