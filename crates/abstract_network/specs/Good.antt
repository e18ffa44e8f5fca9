-- The invariant of demand 3, and that every granted step keeps it. Assumes nothing.
use Rattle.std.specs.Prelude.{◌≡◌, refl}
use Rattle.std.proofs.Common.{arith}
use Prim.Native.Nat.{ℕ}
use Rattle.abstract_network.specs.Counters.{Kind, through, keep, Step, fire, Counts, Guard, Inv, inv_start}
use Rattle.abstract_network.specs.Counters.{OneMore}
use Rattle.abstract_network.specs.Words.{Hold, passes, keeps, Words, Stored, Moves}
use Rattle.abstract_network.specs.Firing.{Fires}
use Rattle.abstract_network.specs.Turns.{Fired}
use Rattle.abstract_network.specs.Values.{Store, Valued, valued_same}
use Rattle.abstract_network.specs.Values.{valued_start}
use Rattle.abstract_network.specs.System.{word, System}

module _ (X : System) where
  open X use {net, ranked, lined, laid, program, geometry, bodied}
  open net use {stops, elements, hop, process, kind, soak, count}
  open ranked use {rank}
  open laid use {pipe_through, place_on, stream_on}
  open program use {streams, instances, touched, body, written, values}
  open geometry use {owner, firing, instance_of, element_on}

  -- the value of the j-th element of pipe q; with the first values, the waiting list
  abbrev pub view : Store → ℕ → ℕ → ℕ
  view A q j = A (stream_on q) (element_on q j)

  -- the words that process p uses, by stream
  abbrev pub uses : Words → ℕ → ℕ → ℕ
  uses W p s =
      word (kind (pipe_through p s) (place_on p s)) (W.hand (pipe_through p s) (place_on p s)) (W.kept (pipe_through p s) (place_on p s))

  -- one granted step
  pub data Granted (c : Counts) (W : Words) (a : Step) (c' : Counts) (W' : Words) : Type 0 where
    moves : ((p : ℕ) → a ≡ fire p → ⊥) → Guard net c a → OneMore c c' a → Moves net ranked (view values) c a W W' → Granted c W a c' W'
    fires : (p : ℕ) → a ≡ fire p → Guard net c (fire p) → OneMore c c' (fire p)
        → Fires net ranked c p W W' (λ q k. body (instance_of p (c (fire p))) (uses W p) (stream_on q)) → Granted c W a c' W'

  -- the invariant: the counters', the values' with the elements' current values, and that the words are what these say
  pub record Good (c : Counts) (W : Words) : Type 0 where
    pub inv : Inv net c
    pub store : Store
    pub valued : Valued program (Fired net owner firing c) store
    pub stored : Stored net ranked c (view store) W

  -- and the cleared state is good
  pub good_start : Good (λ a. 0) (record { link = λ q k i. 0; hand = λ q k. 0; kept = λ q k. 0; out = λ q i. 0 })
  good_start =
      record {
        inv = inv_start net;
        store = values;
        valued = valued_same program (λ i. ⊥) (Fired net owner firing (λ a. 0)) values (λ i h. (λ f. absurd f, λ f. absurd (omega arith)))
            (valued_start program bodied);
        stored =
            record {
              links = λ q k a l u v. absurd (omega arith);
              spare = λ q k i l u. refl;
              holds = λ q k l. begin (kind q k);
              outs = λ q i h. absurd (omega arith);
              blank = λ q i h. refl;
            };
      }
    where
      begin : {n r r' : ℕ} {B : ℕ → ℕ} (K : Kind) → Hold n r r' 0 0 B 0 0 K
      begin through = passes (λ l. refl) (λ l. absurd (omega arith)) refl
      begin keep = keeps (λ l. refl) (λ l. absurd (omega arith)) (λ l. refl) (λ l. absurd (omega arith))
