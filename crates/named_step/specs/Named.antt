-- The step of a name, if there is one, by the port table of an array. Assumes nothing.
use Rattle.std.specs.Prelude.{◌≡◌, refl, Bool, true, false, cond, ◌&&◌, Option, Some, None, List, ℕ, ◌≤◌, ◌<◌, eqb, ltb, length}
use Rattle.std.proofs.Common.{sym, ◌∙◌, ap, subst, ltb-true}
use Rattle.meaning.specs.declared.Limits.{Limits}
use Rattle.meaning.specs.Array.{Array, process_count, stream_count, on_pipe}
use Rattle.meaning.specs.declared.Step.{Step}
use Rattle.meaning.specs.declared.Step.TheVariants.{Send, Take, Fire, Give, Receive}
use Rattle.meaning.specs.Rules.{Found, at, nothing}
use Rattle.meaning.specs.Calls.{A, has_port, step_of}
use Rattle.lists.specs.Tests.{both_true}
use Rattle.ports.specs.Rows.{row_of}
use Rattle.ports.specs.declared.Port.{Port}
use Rattle.port_table.specs.declared.Size.{Size}
use Rattle.port_table.specs.PortsOf.{port_table_words, port_at, RowsFit}
use Rattle.step_rules.specs.Fits.{Inside}
use Rattle.step_rules.specs.Meaning.{Stands}

-- a port table that has rows for so many processes and streams
pub record Rows (b : List ℕ) (z : Size) : Type 0 where
  pub words : length b ≡ port_table_words
  pub processes : z.processes ≤ 1024
  pub streams : z.streams ≤ 6

pub rows_of : {n : ℕ} {b : List ℕ} {z : Size} → RowsFit n b z → Rows b z
rows_of f = record { words = f.words; processes = f.processes; streams = f.streams }

abbrev pub has_port_by : List ℕ → Size → ℕ → ℕ → Bool
has_port_by b z p i = ltb p z.processes && ltb i z.streams && ltb 0 (port_at b p i).total

abbrev pub some_if : Bool → Step → Option Step
some_if b a = cond b (Some a) None

abbrev pub named_by : List ℕ → Size → ℕ → ℕ → ℕ → Option Step
named_by b z kind number stream =
    cond (eqb kind 0) (some_if (ltb number z.pipes) (Send number))
    (cond (eqb kind 1) (some_if (has_port_by b z number stream) (Take number stream))
    (cond (eqb kind 2) (some_if (ltb number z.processes) (Fire number))
    (cond (eqb kind 3) (some_if (has_port_by b z number stream) (Give number stream))
    (cond (eqb kind 4) (some_if (ltb number z.pipes) (Receive number))
    None))))

-- it as the calls of the documents have it
abbrev pub found : Option Step → Found
found (Some a) = at a
found None = nothing

-- ---- by the port table of an array

-- a row has elements exactly on a pipe
abbrev pub Total : Array → Type 0
Total A = (p i : ℕ) → p < process_count A → i < stream_count A → on_pipe A p i ≡ ltb 0 (row_of A p i).total

module _ (l : Limits) (s : List ℕ) {b : List ℕ} {z : Size} (t : Stands (A l s) b z) (on : Total (A l s)) where
  has_port_is : (p i : ℕ) → has_port l s p i ≡ has_port_by b z p i
  has_port_is p i = rw (t.size.processes, t.size.streams) (go (ltb p (process_count (A l s))) (ltb i (stream_count (A l s))) refl refl)
    where
      go : (x y : Bool) → ltb p (process_count (A l s)) ≡ x → ltb i (stream_count (A l s)) ≡ y
          → (x && y && on_pipe (A l s) p i) ≡ (x && y && ltb 0 (port_at b p i).total)
      go false y e f = refl
      go true false e f = refl
      go true true e f =
          let h = ltb-true p _ e in
          let k = ltb-true i _ f in
          on p i h k ∙ ap (λ (r : Port). ltb 0 r.total) (sym (t.table.ports p i h k))

  pub named_is : (kind number stream : ℕ) → step_of l s kind number stream ≡ found (named_by b z kind number stream)
  named_is kind number stream =
      rw (has_port_is number stream, ← t.size.pipes, ← t.size.processes)
      (sym (either (eqb kind 0) _ _ (one (ltb number z.pipes) (Send number))
      (either (eqb kind 1) _ _ (one (has_port_by b z number stream) (Take number stream))
      (either (eqb kind 2) _ _ (one (ltb number z.processes) (Fire number))
      (either (eqb kind 3) _ _ (one (has_port_by b z number stream) (Give number stream))
      (either (eqb kind 4) _ None (one (ltb number z.pipes) (Receive number)) refl))))))
    where
      one : (x : Bool) (a : Step) → found (some_if x a) ≡ cond x (at a) nothing
      one true a = refl
      one false a = refl

      either : (x : Bool) (a c : Option Step) {f g : Found} → found a ≡ f → found c ≡ g → found (cond x a c) ≡ cond x f g
      either true a c e d = e
      either false a c e d = d

-- the step of a name is in range
module _ (b : List ℕ) (z : Size) where
  port_inside : (p i : ℕ) → has_port_by b z p i ≡ true → (p < z.processes) × (i < z.streams)
  port_inside p i e = let q = both_true _ _ (both_true _ _ e).0 in (ltb-true p _ q.0, ltb-true i _ q.1)

  -- if there is one
  abbrev Within : Option Step → Type 0
  Within (Some a) = Inside z a
  Within None = Unit

  one_within : (x : Bool) (a : Step) → (x ≡ true → Inside z a) → Within (some_if x a)
  one_within true a h = h refl
  one_within false a h = tt

  either_within : (x : Bool) (a c : Option Step) → Within a → Within c → Within (cond x a c)
  either_within true a c h k = h
  either_within false a c h k = k

  named_within : (kind number stream : ℕ) → Within (named_by b z kind number stream)
  named_within kind number stream =
      either_within (eqb kind 0) _ _ (one_within _ (Send number) (ltb-true number _))
      (either_within (eqb kind 1) _ _ (one_within _ (Take number stream) (port_inside number stream))
      (either_within (eqb kind 2) _ _ (one_within _ (Fire number) (ltb-true number _))
      (either_within (eqb kind 3) _ _ (one_within _ (Give number stream) (port_inside number stream))
      (either_within (eqb kind 4) _ None (one_within _ (Receive number) (ltb-true number _)) tt))))

  pub named_inside : (kind number stream : ℕ) {a : Step} → named_by b z kind number stream ≡ Some a → Inside z a
  named_inside kind number stream e = subst Within e (named_within kind number stream)
