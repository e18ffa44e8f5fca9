-- The wiring that the network asks, from the geometry of a description with a stream; proofs/Wired says it of every description that
-- Accept does not refuse. Assumes nothing.
use Rattle.std.specs.Prelude.{◌≡◌, ℕ, ◌*◌, ◌<◌, T, length}
use Rattle.std.proofs.Math.Path.{refl}
use Rattle.std.proofs.Common.{sym, ◌∙◌, subst, arith}
use Rattle.meaning.specs.declared.Description.{Description}
use Rattle.meaning.specs.Description.{streams_of, written}
use Rattle.meaning.specs.Array.{array_of}
use Rattle.geometry.specs.Descriptions.{Laid}
use Rattle.geometry.specs.Arrays.{pipe_is}
use Rattle.network.specs.Wiring.{writes, Wired, stop_pipe}
use Rattle.network.specs.Plain.{streams_are}
use Rattle.guarantee.specs.Instances.{instance_number, instance_count, owner, firing, instance_of, instance_of_lem, instance_back}
use Rattle.guarantee.specs.Instances.{instances_add}
use Rattle.guarantee.specs.Stops.{some_element, uses_within, process_lt, stream_lt, hop_is, pipe_through_lem, place_is, on_all}
use Rattle.guarantee.specs.Touches.{touched_at, touch, find, meets}
use Rattle.guarantee.specs.Times.{time_from, pace, pace_positive, time_rises, early}

-- a stream is written in the array exactly if it is in the description
pub writes_is : (d : Description) (k : ℕ) → writes (array_of d) k ≡ written d k
unfolding array_of
writes_is d k = refl

module _ {d : Description} (laid : Laid d) where
  -- from the geometry of a description with a stream
  unfoldable pub wired_of : 0 < length (streams_of d) → Wired (array_of d)
  wired_of some =
      record {
        stream_lt = stream_lt laid;
        hop_is = hop_is laid;
        process_lt = λ q k h. process_lt laid (pipe_is d q (stop_pipe (array_of d) q k h)) k h;
        pipe_is = pipe_through_lem laid;
        place_is = place_is laid;
        on_all = λ p i c h. on_all laid p i c (omega (arith, streams_are d));
        has_element = λ q h. some_element laid (pipe_is d q h);
        has_stream = omega (arith, streams_are d);
        uses_within = λ q k h. uses_within laid (pipe_is d q (stop_pipe (array_of d) q k h)) k h;
        time = time_from d (early laid).0;
        pace = pace d;
        late = 6 * (early laid).0;
        pace_positive = pace_positive laid;
        time_rises = time_rises laid (early laid).0;
        course = (early laid).1;
        instances = instance_count d;
        owner = owner d;
        firing = firing d;
        instance_of = instance_of d;
        instance_is = instance_back laid;
        instance_of_lem = instance_of_lem laid;
        instances_add = instances_add laid;
        touched = λ i k. touched_at d (instance_number d i) k;
        touch = touch laid;
        find = find laid;
        meets = λ k h w. meets laid k (omega (arith, streams_are d)) (subst T (sym (sym (writes_is d k) ∙ w)) tt);
      }
