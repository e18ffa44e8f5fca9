-- Each stream of an accepted description is laid out as the functions ask. Assumes nothing.
use Rattle.std.specs.Prelude.{◌≡◌, List, ℕ, ◌<◌, length, get_or}
use Rattle.meaning.specs.Limits.{gauge_limits}
use Rattle.meaning.specs.Description.{description_of, streams_of, no_stream}
use Rattle.meaning.specs.Accept.{refusal_of}
use Rattle.geometry.specs.Descriptions.{laid}
use Rattle.survey.specs.Accepted.{accepted_within}
use Rattle.lanes.specs.Flow.{Laid}

pub laid_stream : (s : List ℕ) → refusal_of gauge_limits s ≡ 0 → (i : ℕ) → i < length (streams_of (description_of s))
    → Laid (description_of s).nest (get_or (streams_of (description_of s)) i no_stream)
laid_stream s e i h =
    let w = (accepted_within gauge_limits s e).1 in
    record {
      in_range_lem = (w.stream i h).in_range_lem;
      instances = w.instances;
      processes = w.processes;
      small = (w.stream i h).move;
      accepted = (laid gauge_limits s e).stream i h;
    }
