-- No stream of an accepted description has more elements than there are instances: refusal 17 leaves no element untouched. Assumes nothing.
use Rattle.std.specs.Prelude.{◌≡◌, List, ℕ, ◌≤◌, ◌<◌, length, get_or}
use Rattle.std.proofs.Common.{arith}
use Rattle.meaning.specs.declared.Limits.{Limits}
use Rattle.meaning.specs.Loops.{instances}
use Rattle.meaning.specs.Streams.{elements}
use Rattle.meaning.specs.Description.{description_of, streams_of, no_stream}
use Rattle.meaning.specs.Limits.{gauge_limits}
use Rattle.meaning.specs.Accept.{refusal_of}
use Rattle.geometry.specs.Accept.{touched_few}
use Rattle.geometry.specs.Descriptions.{laid}
use Rattle.survey.specs.Accepted.{accepted_within}
use Rattle.elements.specs.Counts.{Few}

pub elements_few : (l : Limits) (s : List ℕ) → refusal_of l s ≡ 0 → (i : ℕ) → i < length (streams_of (description_of s))
    → length (elements (description_of s).nest (get_or (streams_of (description_of s)) i no_stream)) ≤ length
    (instances (description_of s).nest)
elements_few l s e i h = let a = (laid l s e).stream i h in touched_few _ a.layout.dirs a.full

-- so a description accepted under the limits of document 01 has streams of few elements
pub accepted_few : (s : List ℕ) → refusal_of gauge_limits s ≡ 0 → Few (description_of s)
accepted_few s e =
    let w = accepted_within gauge_limits s e in
    record {
      ranged = w.0.ranged;
      few = λ i h. omega (arith, elements_few gauge_limits s e i h, w.1.instances);
    }
