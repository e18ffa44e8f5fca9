-- Demand 3 for every description, every start that is not declined, and every list of calls after it. Nothing is assumed.
use Rattle.std.specs.Prelude.{◌≡◌, List, ℕ, eqb}
use Rattle.std.proofs.Common.{sym, subst, arith}
use Rattle.std.proofs.Math.Dec.{eqb_refl}
use Rattle.meaning.specs.declared.Limits.{Limits}
use Rattle.meaning.specs.Lists.{any}
use Rattle.meaning.specs.Description.{description_of}
use Rattle.meaning.specs.Accept.{refusal_of}
use Rattle.meaning.specs.Array.{array_of, pipe_order}
use Rattle.meaning.specs.Demand3.{Guarantee}
use Rattle.lists.specs.Members.{yes_any}
use Rattle.geometry.specs.Descriptions.{laid}
use Rattle.geometry.proofs.PipeOrder.{numbers_all, list_length_lem}
use Rattle.network.specs.Plain.{Among, Described, streams_are}
use Rattle.network.proofs.Starts.{proper}
use Rattle.network.proofs.Demand as Demand
use Rattle.guarantee.proofs.Alike.{serves}
use Rattle.guarantee.specs.Elements.{touched_among, element_among}
use Rattle.lists.specs.Tests.{is_true}
use Rattle.guarantee.proofs.Wired.{wired, wired_instances, wired_instance, wired_touched, wired_number}

-- what the network asks of a description beside its wiring
described : (l : Limits) (s : List ℕ) (e : refusal_of l s ≡ 0) → Described (description_of s) (wired l s e)
described l s e =
    record {
      instances_are = wired_instances l s e;
      instance_is = wired_instance l s e;
      touched_is = λ i k h m. sym (wired_touched l s e i k (omega (arith, streams_are (description_of s))));
      touched_among = λ i k h m.
          subst (Among (description_of s) k) (sym (wired_number l s e i k))
          (touched_among (laid l s e) i k (omega (arith, wired_instances l s e)) m);
      elements_add = list_length_lem (laid l s e);
      element_among = element_among (laid l s e);
      element_waits = λ k h.
          is_true (any (eqb k) (pipe_order (array_of (description_of s)))) (yes_any (eqb k) (numbers_all (laid l s e) k h) (eqb_refl k));
    }

-- DEMAND 3
pub guarantee : Guarantee
guarantee l s values M₀ e =
    record {
      after = Demand.guarantee (λ l s e. (wired l s e, described l s e)) l s values M₀ e;
      told = λ k. serves l k s (proper l s values M₀ e).accepted;
    }
