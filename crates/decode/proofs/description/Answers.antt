-- `decode::description` meets its contract. Assumes nothing.
use Rattle.meaning.specs.Description.{description_of}
use Rattle.decode.proofs.description.Goals as goal

pub returns : goal.returns
unfolding description_of
returns c =
    rw (c.nest.ensures, c.streams.ensures, c.lines.ensures, c.sizes.ensures)
