-- `port_rows::pipe_total` meets its contract. Assumes nothing.
use mathlib.Core.Path.{◌∙◌}
use Rattle.pipe_parts.specs.Heads.{pipe_elements_lem}
use Rattle.port_rows.proofs.pipe_total.Goals as goal

pub returns : goal.returns
returns c =
    let p = c.requires in
    c.from.ensures ∙ pipe_elements_lem p.near p.of_heads c.entry_at-e.ensures.0
