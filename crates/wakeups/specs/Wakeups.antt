-- The word that a step counts up, and the neighbour's word that it looks at, by the rows of a port table. Assumes nothing.
use Rattle.std.specs.Prelude.{◌≡◌, refl, Bool, true, false, cond, ◌&&◌, List, ℕ, suc, ◌+◌, ◌≤◌, ◌<◌, ltb, length, get_or}
use Rattle.std.proofs.Common.{arith, lt-ltb, le-ltb, ltb-true}
use Rattle.meaning.specs.declared.Step.{Step}
use Rattle.meaning.specs.declared.Step.TheVariants.{Send, Take, Fire, Give, Receive}
use Rattle.meaning.specs.Limits.{state_words_most}
use Rattle.port_table.specs.declared.Size.{Size}
use Rattle.port_table.specs.PortsOf.{port_at, end_at}
use Rattle.step_rules.specs.Steps.{can_by}
use Rattle.nearby.specs.Nearby.{Own}
use Rattle.step_order.specs.Ranks.{rank_count, step_at}

-- no word
abbrev pub none : ℕ
none = state_words_most

-- the neighbour's word of a step; a port off every pipe has no neighbour
abbrev pub foreign_word : List ℕ → Step → ℕ
foreign_word b (Send q) = (end_at b q).after
foreign_word b (Take p i) = let k = port_at b p i in cond (ltb 0 k.hop) k.before none
foreign_word b (Fire p) = none
foreign_word b (Give p i) = let k = port_at b p i in cond (ltb 0 k.hop) k.after none
foreign_word b (Receive q) = (end_at b q).before

abbrev pub foreign_by : List ℕ → Size → ℕ → ℕ
foreign_by b z r = foreign_word b (step_at z r)

-- the word that it counts up
abbrev pub counter_word : List ℕ → Step → ℕ
counter_word b (Send q) = (end_at b q).sent
counter_word b (Take p i) = (port_at b p i).at
counter_word b (Fire p) = (port_at b p 0).fired
counter_word b (Give p i) = (port_at b p i).at + 1
counter_word b (Receive q) = (end_at b q).received

abbrev pub counter_by : List ℕ → Size → ℕ → ℕ
counter_by b z r = counter_word b (step_at z r)

-- whether the step of a rank is ready; the flag of a number
abbrev pub can_at : List ℕ → List ℕ → Size → ℕ → Bool
can_at b st z r = can_by b st z.streams (step_at z r)

abbrev pub flag_at : List ℕ → List ℕ → Size → ℕ → Bool
flag_at b st z r = ltb r (rank_count z) && can_at b st z r

pub flag_in : (b st : List ℕ) (z : Size) (r : ℕ) → r < rank_count z → flag_at b st z r ≡ can_at b st z r
flag_in b st z r h = rw (lt-ltb r (rank_count z) h) refl

pub flag_past : (b st : List ℕ) (z : Size) (r : ℕ) → (r < rank_count z → ⊥) → flag_at b st z r ≡ false
flag_past b st z r n = rw (le-ltb r (rank_count z) (omega arith)) refl

-- from one state to another
pub flag_same : (b st st' : List ℕ) (z : Size) (r : ℕ) → (r < rank_count z → can_at b st z r ≡ can_at b st' z r)
    → flag_at b st z r ≡ flag_at b st' z r
flag_same b st st' z r h = go (ltb r (rank_count z)) refl
  where
    go : (t : Bool) → ltb r (rank_count z) ≡ t → t && can_at b st z r ≡ t && can_at b st' z r
    go true e = h (ltb-true _ _ e)
    go false e = refl

-- no two steps look at the same word
abbrev pub Apart : List ℕ → Size → Type 0
Apart b z = (r r' : ℕ) → r < rank_count z → r' < rank_count z → foreign_by b z r < none → foreign_by b z r ≡ foreign_by b z r' → r ≡ r'

-- the table: of a word, one more than the rank of the step that looks at it
pub record WakeupsOf (b : List ℕ) (z : Size) (w : List ℕ) : Type 0 where
  pub words : length w ≡ 1 + state_words_most
  pub ranks : (i : ℕ) → get_or w i 0 ≤ rank_count z
  pub wakes : (r : ℕ) → r < rank_count z → foreign_by b z r < none → get_or w (foreign_by b z r) 0 ≡ suc r

-- from state `old` to state `new` readiness has changed only for own steps of rank r and for the one that looks at its word
abbrev pub Local : List ℕ → Size → List ℕ → List ℕ → List ℕ → ℕ → Type 0
Local b z w old new r =
    (x : ℕ) → x < rank_count z → (Own (step_at z r) (step_at z x) → ⊥) → (get_or w (counter_by b z r) 0 ≡ suc x → ⊥)
    → can_at b new z x ≡ can_at b old z x
