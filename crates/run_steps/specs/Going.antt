-- A memory stays in order from step to step. Assumes nothing.
use Rattle.std.specs.Prelude.{◌≡◌, true, List, ℕ, ◌≤◌, length}
use Rattle.std.proofs.Common.{◌∙◌, ap, arith}
use Rattle.meaning.specs.declared.Description.{Description}
use Rattle.meaning.specs.Limits.{gauge_limits}
use Rattle.meaning.specs.Description.{description_of}
use Rattle.meaning.specs.Array.{Array, array_of}
use Rattle.meaning.specs.State.{word_count}
use Rattle.meaning.specs.declared.Step.{Step}
use Rattle.meaning.specs.declared.Step.TheVariants.{Send, Take, Fire, Give, Receive}
use Rattle.meaning.specs.Rules.{Memory, ready, apply}
use Rattle.network.specs.Ready.{There, says_ready}
use Rattle.network.specs.Decide.{said}
use Rattle.network.proofs.Steps.{waiting_same, received_length, step_length}
use Rattle.network.proofs.States.{says_sound, sound_kept}
use Rattle.network.specs.Wiring.{Wired}
use Rattle.guarantee.proofs.Wired.{wired}
use Rattle.addresses.specs.Indices.{word_count_lem}
use Rattle.lists.specs.Tests.{both_true}
use Rattle.port_table.specs.declared.Size.{Size}
use Rattle.port_table.specs.PortsOf.{SizeOf}
use Rattle.step_rules.specs.Fits.{Inside}
use Rattle.opening.specs.Opening.{Opened}

-- a ready step that is in range is one of the array's
pub there_inside : (A : Array) {z : Size} → SizeOf A z → (st : List ℕ) (a : Step) → Inside z a → ready A st a ≡ true → There A a
there_inside A size st (Send q) h r = omega (arith, size.pipes)
there_inside A size st (Take p i) h r = (both_true _ _ r).0
there_inside A size st (Fire p) h r = omega (arith, size.processes)
there_inside A size st (Give p i) h r = (both_true _ _ r).0
there_inside A size st (Receive q) h r = omega (arith, size.pipes)

module _ {s : List ℕ} {M : Memory} {b : List ℕ} {z : Size} (o : Opened s M b z) where
  abbrev d : Description
  d = description_of s

  abbrev A : Array
  A = array_of d

  W : Wired A
  W = wired gauge_limits s o.accepted

  pub long : word_count A ≤ length M.state
  long = omega (arith, word_count_lem d, o.stood.state)

  -- a step leaves as many words
  pub state_length_lem : (a : Step) → There A a → ready A M.state a ≡ true → length (apply A M a).state ≡ length M.state
  state_length_lem a h r =
      let S = (said (says_sound W M.state) o.stood.sound).0 in
      step_length W M long S a h (said (says_ready A M.state W S a h) r)

  pub opened_step : (a : Step) → There A a → ready A M.state a ≡ true → Opened s (apply A M a) b z
  opened_step a h r =
      record {
        accepted = o.accepted;
        stood = record {
          size = o.stood.size;
          table = o.stood.table;
          waiting = ap length (waiting_same A M a) ∙ o.stood.waiting;
          received = received_length A M a ∙ o.stood.received;
          state = omega (arith, state_length_lem a h r, o.stood.state);
          sound = sound_kept W M a long o.stood.sound h r;
        };
      }
