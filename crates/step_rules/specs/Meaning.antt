-- By the port table of an array, a step is ready where the code says so, and does what the code does. Assumes nothing.
use Rattle.std.specs.Prelude.{◌≡◌, refl, List, ℕ, ◌≤◌, ◌<◌, take}
use Rattle.std.proofs.Math.Path.{ap}
use Rattle.std.proofs.Common.{◌∙◌, arith, ltb-true}
use Rattle.std.proofs.Math.Bool.{true}
use Rattle.meaning.specs.Array.{Array, process_count, pipe_number, count_at, instance_at, on_pipe}
use Rattle.meaning.specs.State.{Firings, index, read}
use Rattle.meaning.specs.declared.Step.{Step}
use Rattle.meaning.specs.declared.Step.TheVariants.{Send, Take, Fire, Give, Receive}
use Rattle.meaning.specs.Rules.{sound, Memory, ready, apply}
use Rattle.lists.specs.Tests.{both_true}
use Rattle.geometry.specs.Processes.{run_at}
use Rattle.layout.specs.Spans.{process_of}
use Rattle.ports.specs.Links.{word}
use Rattle.ports.specs.Layout.{Regular}
use Rattle.ports.specs.Rows.{row_of, row_on}
use Rattle.take_give.specs.Moves.{can_take, can_give}
use Rattle.fire.specs.FiringMeaning.{ProcessIs}
use Rattle.sound_rows.specs.Steps.{take_applied, give_applied, send_tested, send_applied, receive_tested, receive_applied, fire_tested}
use Rattle.sound_rows.specs.Steps.{fire_applied}
use Rattle.sound_rows.specs.Rows.{take_row, give_row, process_rows}
use Rattle.port_table.specs.declared.Size.{Size}
use Rattle.port_table.specs.PortsOf.{port_at, ports_at, end_at, SizeOf, PortsOf}
use Rattle.step_rules.specs.declared.Program.{Program}
use Rattle.step_rules.specs.Steps.{can_by, act_by}
use Rattle.step_rules.specs.Fits.{Inside, ports_at_lem}

-- the port table of an array
pub record Stands (A : Array) (b : List ℕ) (z : Size) : Type 0 where
  pub table : PortsOf A b
  pub size : SizeOf A z
  pub few : z.streams ≤ 6
  pub regular : Regular A

-- its processes run the array's lines on the array's instances
pub record Performs (A : Array) (g : Program) : Type 0 where
  pub lines : take g.count g.lines ≡ A.lines
  pub instances : (p f : ℕ) → p < process_count A → f < count_at A p → run_at g.nest (process_of g.nest p) f ≡ instance_at A p f

module _ {A : Array} {b : List ℕ} {z : Size} (s : Stands A b z) where
  port_row_lem : (p i : ℕ) → p < z.processes → i < z.streams → port_at b p i ≡ row_of A p i
  port_row_lem p i h l = s.table.ports p i (omega (arith, s.size.processes)) (omega (arith, s.size.streams))

  process_is : (p : ℕ) → p < z.processes → ProcessIs A p (ports_at b p) z.streams
  process_is p h =
      process_rows A p z.streams (ports_at b p) s.size.streams s.size.some s.few refl
      (λ i l. ports_at_lem b p i (omega (arith, s.few)) ∙ port_row_lem p i h l)

  module _ (M : Memory) (t : sound A M.state ≡ true) where
    abbrev st : List ℕ
    st = M.state

    pub can_is : (a : Step) → Inside z a → can_by b st z.streams a ≡ ready A st a
    unfolding can_by
    can_is (Send q) h = let l : q < pipe_number A = omega (arith, s.size.pipes) in send_tested A M t q l (end_at b q) (s.table.ends q l)
    can_is (Take p i) h = ap (can_take st) (port_row_lem p i h.0 h.1) ∙ take_row A p i M t
    can_is (Fire p) h = fire_tested A M p (ports_at b p) z.streams (process_is p h)
    can_is (Give p i) h = ap (can_give st) (port_row_lem p i h.0 h.1) ∙ give_row A p i M t
    can_is (Receive q) h =
        let l : q < pipe_number A = omega (arith, s.size.pipes) in receive_tested A M t q l (end_at b q) (s.table.ends q l)

    -- the instance that process p runs next
    next_is : (g : Program) → Performs A g → (p : ℕ) → p < z.processes → ready A st (Fire p) ≡ true
        → run_at g.nest (process_of g.nest p) (word st (port_at b p 0).fired) ≡ instance_at A p (read A st (Firings p))
    next_is g o p h r =
        let e : (port_at b p 0).fired ≡ index A (Firings p) = ((process_is p h).ports 0 s.size.some).fired in
        ap (λ (i : ℕ). run_at g.nest (process_of g.nest p) (word st i)) e
        ∙ o.instances p (read A st (Firings p)) (omega (arith, h, s.size.processes)) (ltb-true _ _ (both_true _ _ r).0)

    pub act_is : (g : Program) → Performs A g → (a : Step) → Inside z a → ready A st a ≡ true → act_by g z.streams b M a ≡ apply A M a
    unfolding act_by
    act_is g o (Send q) h r =
        let l : q < pipe_number A = omega (arith, s.size.pipes) in
        send_applied A M t q l (end_at b q) (s.table.ends q l) s.regular r
    act_is g o (Take p i) h r =
        let on : on_pipe A p i ≡ true = (both_true _ _ r).0 in
        take_applied A M t p i on (port_at b p i) (port_row_lem p i h.0 h.1 ∙ row_on A p i on)
    act_is g o (Fire p) h r = fire_applied A M p (ports_at b p) z.streams (process_is p h) _ _ o.lines (next_is g o p h r)
    act_is g o (Give p i) h r =
        let on : on_pipe A p i ≡ true = (both_true _ _ r).0 in
        give_applied A M t p i on (port_at b p i) (port_row_lem p i h.0 h.1 ∙ row_on A p i on) s.regular r
    act_is g o (Receive q) h r =
        let l : q < pipe_number A = omega (arith, s.size.pipes) in receive_applied A M t q l (end_at b q) (s.table.ends q l)
