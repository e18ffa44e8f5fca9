-- `decode::stream_of` meets its contract. Assumes nothing.
use Rattle.meaning.specs.Description.{stream_of}
use Rattle.decode.proofs.stream_of.Goals as goal

pub returns : goal.returns
unfolding stream_of
returns c =
    rw (
      c.matrix.ensures,
      c.loading.ensures,
      c.map_at.ensures.0,
      c.loading_at.ensures.0,
    )
