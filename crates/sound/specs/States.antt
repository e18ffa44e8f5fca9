-- Sound states by the rows of a port table, as the code tests them. Assumes nothing.
use Rattle.std.specs.Prelude.{Bool, ◌&&◌, List, ℕ, leb}
use Rattle.meaning.specs.Lists.{every, numbers}
use Rattle.ports.specs.Links.{word}
use Rattle.sound_rows.specs.Sound.{port_sound, end_sound}
use Rattle.port_table.specs.declared.Size.{Size}
use Rattle.port_table.specs.PortsOf.{port_at, end_at}

module _ (b st : List ℕ) where
  abbrev pub firings_sound : ℕ → Bool
  firings_sound p = leb (word st (port_at b p 0).fired) (port_at b p 0).count

  abbrev pub ports_sound : ℕ → ℕ → Bool
  ports_sound m p = every (λ i. port_sound st (port_at b p i)) (numbers m)

  abbrev pub process_sound : ℕ → ℕ → Bool
  process_sound m p = firings_sound p && ports_sound m p

  abbrev pub pipe_sound : ℕ → Bool
  pipe_sound q = end_sound st (end_at b q)

  abbrev pub state_sound : Size → Bool
  state_sound z = every (process_sound z.streams) (numbers z.processes) && every pipe_sound (numbers z.pipes)
