-- Send and receive as functions of a state's words, as the code carries them out. Assumes nothing.
use Rattle.std.specs.Prelude.{◌≡◌, Bool, true, ◌&&◌, List, ℕ, ◌+◌, ◌-◌, ◌≤◌, ◌<◌, ltb, set}
use Rattle.std.proofs.Common.{arith, ltb-true}
use Rattle.ports.specs.declared.End.{End}
use Rattle.lists.specs.Tests.{both_true}
use Rattle.ports.specs.Links.{word, fill_at, moved_down}

abbrev pub below : ℕ → ℕ → ℕ → ℕ → Bool
below x total n hop = ltb x total && ltb n hop

abbrev pub fill_first : List ℕ → End → ℕ
fill_first l e = fill_at l e.sent e.after e.hop

abbrev pub can_send : List ℕ → End → Bool
can_send l e = below (word l e.sent) e.total (fill_first l e) e.hop

abbrev pub sent : List ℕ → List ℕ → End → List ℕ
sent waiting l e = set (set l (e.room + fill_first l e) (word waiting (e.offset + word l e.sent))) e.sent (word l e.sent + 1)

abbrev pub fill_last : List ℕ → End → ℕ
fill_last l e = fill_at l e.before e.received e.hop

abbrev pub can_receive : List ℕ → End → Bool
can_receive l e = below (word l e.received) e.total 0 (fill_last l e)

abbrev pub received : List ℕ → End → List ℕ
received l e = set (moved_down l e.last (fill_last l e - 1)) e.received (word l e.received + 1)

-- the received list then
abbrev pub received_list : List ℕ → List ℕ → End → List ℕ
received_list out l e = set out (e.offset + word l e.received) (word l e.last)

-- ---- what a ready rule says of the counts

below_facts : (x total n hop : ℕ) → below x total n hop ≡ true → (x < total) × (n < hop)
below_facts x total n hop h = let z = both_true _ _ h in (ltb-true _ _ z.0, ltb-true _ _ z.1)

pub send_facts : (l : List ℕ) (e : End) → can_send l e ≡ true → (word l e.sent < e.total) × (fill_first l e < e.hop)
send_facts l e = below_facts _ _ _ _

pub receive_facts : (l : List ℕ) (e : End) → can_receive l e ≡ true
    → (word l e.received < e.total) × (0 < fill_last l e) × (fill_last l e ≤ e.hop)
receive_facts l e h = let z = below_facts _ _ 0 (fill_last l e) h in (z.0, z.1, omega arith)
