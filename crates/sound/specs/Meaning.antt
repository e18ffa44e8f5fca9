-- By the port table of an array, a state is sound where the code says so. Assumes nothing.
use Rattle.std.specs.Prelude.{◌≡◌, refl, Bool, true, false, List, ℕ, ◌<◌, leb}
use Rattle.std.proofs.Common.{sym, ◌∙◌, ap, arith}
use Rattle.meaning.specs.Lists.{every, numbers}
use Rattle.meaning.specs.Array.{Array, process_count, stream_count, pipe_number}
use Rattle.meaning.specs.Rules.{sound}
use Rattle.lists.specs.Tests.{both_true, true_both}
use Rattle.lists.specs.Rows.{every_number, all_numbers}
use Rattle.ports.specs.declared.Port.{Port}
use Rattle.ports.specs.Links.{word}
use Rattle.ports.specs.Ends.{end_of}
use Rattle.ports.specs.Layout.{Regular}
use Rattle.ports.specs.Rows.{row_of}
use Rattle.sound_rows.specs.Sound.{port_sound, end_sound}
use Rattle.sound_rows.specs.Rows.{Single, AllSound, all_sound, sound_all}
use Rattle.port_table.specs.declared.Size.{Size}
use Rattle.port_table.specs.PortsOf.{port_at, SizeOf, PortsOf}
use Rattle.sound.specs.States.{firings_sound, ports_sound, process_sound, pipe_sound, state_sound}

-- tests that pass together
same : (a b : Bool) → (a ≡ true → b ≡ true) → (b ≡ true → a ≡ true) → a ≡ b
same true b f g = sym (f refl)
same false true f g = g refl
same false false f g = refl

module _ (A : Array) (reg : Regular A) (one : Single A) {b : List ℕ} (ports : PortsOf A b) {z : Size} (size : SizeOf A z)
    (st : List ℕ) where
  firings_is : (p : ℕ) → p < process_count A → firings_sound b st p ≡ leb (word st (row_of A p 0).fired) (row_of A p 0).count
  firings_is p h = ap (λ (r : Port). leb (word st r.fired) r.count) (ports.ports p 0 h (omega (arith, size.streams, size.some)))

  port_is : (p i : ℕ) → p < process_count A → i < stream_count A → port_sound st (port_at b p i) ≡ port_sound st (row_of A p i)
  port_is p i h l = ap (port_sound st) (ports.ports p i h l)

  end_is : (q : ℕ) → q < pipe_number A → pipe_sound b st q ≡ end_sound st (end_of A q)
  end_is q h = ap (end_sound st) (ports.ends q h)

  into : state_sound b st z ≡ true → AllSound A st
  into h =
      let w = both_true (every (process_sound b st z.streams) (numbers z.processes)) (every (pipe_sound b st) (numbers z.pipes)) h in
      let p-all : (p : ℕ) → p < process_count A → process_sound b st z.streams p ≡ true
      = λ p l. every_number (process_sound b st z.streams) z.processes w.0 p (omega (arith, size.processes)) in
      record {
        firings = λ p l. sym (firings_is p l) ∙ (both_true (firings_sound b st p) (ports_sound b st z.streams p) (p-all p l)).0;
        ports = λ p i l k.
            sym (port_is p i l k)
            ∙ every_number (λ i. port_sound st (port_at b p i)) z.streams
            (both_true (firings_sound b st p) (ports_sound b st z.streams p) (p-all p l)).1 i
            (omega (arith, size.streams));
        ends = λ q l. sym (end_is q l) ∙ every_number (pipe_sound b st) z.pipes w.1 q (omega (arith, size.pipes));
      }

  out_of : AllSound A st → state_sound b st z ≡ true
  out_of r =
      true_both
      (all_numbers (process_sound b st z.streams) z.processes
      (λ p l.
      let l : p < process_count A = omega (arith, size.processes) in
      true_both (firings_is p l ∙ r.firings p l)
      (all_numbers (λ i. port_sound st (port_at b p i)) z.streams
      (λ i k. let k : i < stream_count A = omega (arith, size.streams) in port_is p i l k ∙ r.ports p i l k))))
      (all_numbers (pipe_sound b st) z.pipes (λ q l. let l : q < pipe_number A = omega (arith, size.pipes) in end_is q l ∙ r.ends q l))

  pub sound_is : state_sound b st z ≡ sound A st
  sound_is = same (state_sound b st z) (sound A st) (λ h. all_sound A reg one st (into h)) (λ h. out_of (sound_all A reg one st h))
