-- `sound::sound_process` meets its contract: there is at least one stream, and the row of the first tells where the firings of the process
-- stand. Assumes nothing.
use mathlib.Core.Path.{◌≡◌, sym, ◌∙◌, ap}
use mathlib.Core.Bool.{true, false}
use lib.Dec.{leb}
use borrow.Author.Rules.{rules}
use Rattle.ports.specs.declared.Port.{Port}
use Rattle.ports.specs.Links.{word}
use Rattle.sound.specs.States.{firings_sound}
use Rattle.sound.proofs.sound_process.Goals as goal

pub sound_firings-requires : goal.sound_firings-requires
sound_firings-requires c =
    rw c.port.ensures (c.requires.0.ports c.args.p 0 c.requires.1 c.requires.0.some)

pub returns-then-sound_firings : goal.returns-then-sound_firings
returns-then-sound_firings c =
    let e = ap (λ (k : Port). leb (word c.args.state.now k.fired) k.count) c.port.ensures in
    let f : firings_sound c.args.ports.now c.args.state.now c.args.p ≡ true = sym (c.sound_firings.ensures ∙ e)
    ∙ c.if-sound_firings.true in
    rw (f, c.sound_ports.ensures)

pub returns-else-sound_firings : goal.returns-else-sound_firings
returns-else-sound_firings c =
    let e = ap (λ (k : Port). leb (word c.args.state.now k.fired) k.count) c.port.ensures in
    let f : firings_sound c.args.ports.now c.args.state.now c.args.p ≡ false = sym (c.sound_firings.ensures ∙ e)
    ∙ c.if-sound_firings.false in
    rw f (search rules)
