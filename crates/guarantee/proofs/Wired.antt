-- The wiring that the network asks of the geometry, for every description that Accept does not refuse, whatever the limits.
-- Assumes nothing.
use Rattle.std.specs.Prelude.{◌≡◌, List, ℕ, ◌<◌, length, get_or}
use Rattle.std.proofs.Math.Path.{refl}
use Rattle.std.proofs.Common.{arith}
use Rattle.meaning.specs.declared.Limits.{Limits}
use Rattle.meaning.specs.declared.Description.{Description}
use Rattle.meaning.specs.Loops.{instances}
use Rattle.meaning.specs.Body.{touched_by}
use Rattle.meaning.specs.Description.{description_of}
use Rattle.meaning.specs.Accept.{refusal_of}
use Rattle.meaning.specs.Array.{array_of, instance_at, stream_count}
use Rattle.geometry.specs.Descriptions.{laid}
use Rattle.network.specs.Wiring.{Wired}
use Rattle.network.specs.Plain.{streams_are}
use Rattle.guarantee.specs.Acceptance.{some_stream}
use Rattle.guarantee.specs.Instances.{instance_number, instance_same}
use Rattle.guarantee.specs.Touches.{touched_at, touched_by_lem}
use Rattle.guarantee.specs.Wired.{wired_of}

-- every description that is not refused is wired as the network asks
pub wired : (l : Limits) (s : List ℕ) → refusal_of l s ≡ 0 → Wired (array_of (description_of s))
wired l s e = wired_of (laid l s e) (some_stream l s e)

-- ---- its instances and elements are those of the plain run

module _ (l : Limits) (s : List ℕ) (e : refusal_of l s ≡ 0) where
  abbrev d : Description
  d = description_of s

  pub wired_instances : (wired l s e).instances ≡ length (instances d.nest)
  unfolding wired wired_of
  wired_instances = refl

  -- the i-th is what its process fires then
  pub wired_instance : (i : ℕ) → i < (wired l s e).instances
      → instance_at (array_of d) ((wired l s e).owner i) ((wired l s e).firing i) ≡ instance_number d i
  unfolding wired wired_of
  wired_instance i h = instance_same (laid l s e) i h

  -- and touches what it touches in the plain run
  pub wired_touched : (i k : ℕ) → k < stream_count (array_of d)
      → get_or (touched_by d (instance_number d i)) k 0 ≡ (wired l s e).touched i k
  unfolding wired wired_of
  wired_touched i k h = touched_by_lem d (instance_number d i) k (omega (arith, streams_are d))

  -- by its number
  pub wired_number : (i k : ℕ) → (wired l s e).touched i k ≡ touched_at d (instance_number d i) k
  unfolding wired wired_of
  wired_number i k = refl
