-- The instances of a process of an accepted description's array, by the nest. Assumes nothing.
use Rattle.std.specs.Prelude.{◌≡◌, List, ℕ, ◌≤◌, ◌<◌, length}
use native.Mathlib.Omega.{arith}
use Rattle.integers.specs.Vectors.{image}
use Rattle.meaning.specs.declared.Description.{Description}
use Rattle.meaning.specs.Limits.{gauge_limits}
use Rattle.meaning.specs.Loops.{instances}
use Rattle.meaning.specs.Space.{eq2, sent_to, processes, count}
use Rattle.meaning.specs.Description.{description_of}
use Rattle.meaning.specs.Array.{Array, array_of, process_count, count_at, instance_at}
use Rattle.meaning.specs.Accept.{refusal_of}
use Rattle.lists.specs.Tests.{filter_fewer}
use Rattle.geometry.specs.Processes.{run_at}
use Rattle.geometry.specs.Descriptions.{Laid, laid}
use Rattle.addresses.specs.Through.{point_of}
use Rattle.addresses.specs.Ports.{count_at_lem, instance_at_lem}
use Rattle.addresses.specs.Indices.{process_count_lem}
use Rattle.figures.specs.Shares.{described}

module _ (s : List ℕ) (ok : refusal_of gauge_limits s ≡ 0) where
  abbrev d : Description
  d = description_of s

  abbrev A : Array
  A = array_of d

  layout : Laid d
  layout = laid gauge_limits s ok

  module _ (p : ℕ) (h : p < process_count A) where
    pub process_lt : p < length (processes d.nest)
    process_lt = omega (arith, process_count_lem d)

    pub count_is : count_at A p ≡ count d.nest (point_of d p)
    count_is = count_at_lem layout p process_lt

    pub count_most : count_at A p ≤ 4096
    unfolding sent_to
    count_most =
        omega (
          arith,
          count_is,
          filter_fewer (λ x. eq2 (image d.nest.place x) (point_of d p)) (instances d.nest),
          (described s ok).instances,
        )

    pub instance_is : (f : ℕ) → f < count_at A p → instance_at A p f ≡ run_at d.nest (point_of d p) f
    instance_is f l = instance_at_lem layout p process_lt f (omega (arith, count_is))
