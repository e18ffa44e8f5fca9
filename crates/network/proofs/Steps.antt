-- What a granted step of the array does is a granted step of the abstract network. Assumes nothing.
use Rattle.std.specs.Prelude.{◌≡◌, Bool, true, false, length}
use Rattle.std.proofs.Math.Path.{refl}
use Rattle.std.proofs.Common.{sym, ◌∙◌, ap, ap₂, le_refl, arith}
use mathlib.Core.List.{List, [], ◌∷◌, map}
use Prim.Native.Nat.{ℕ, ◌+◌, ◌≤◌, ◌<◌}
use Rattle.std.proofs.Math.ListN.{get_or, length-set}
use Rattle.meaning.specs.Lists.{numbers}
use Rattle.meaning.specs.Array.{Array, count_at, instance_at, process_count, stream_count, stops_on, elements_on, part_start, list_length}
use Rattle.meaning.specs.Array.{pipe_through}
use Rattle.meaning.specs.State.{Firings, Received, word_count, read}
use Rattle.meaning.specs.declared.Step.TheVariants.{Send, Take, Fire, Give, Receive}
use Rattle.meaning.specs.Rules.{stream_on, oldest, body_at, Memory, apply, apply_all}
use Rattle.meaning.specs.declared.Step.{Step as RuleStep}
use Rattle.lists.specs.Rows.{same_numbers}
use Rattle.abstract_network.specs.Counters.{fire, Guard, OneMore, put≢fire, get≢fire}
use Rattle.abstract_network.specs.Sound.{Sound}
use Rattle.abstract_network.specs.System.{word}
use Rattle.abstract_network.specs.Good.{Granted, moves, fires, uses}
use Rattle.network.specs.Wiring.{kind_of, net_of, element_at, Wired, HasPort, has_port_lem, place_at, keeps_at}
use Rattle.network.specs.Programs.{body_of}
use Rattle.network.proofs.Programs.{system_of}
use Rattle.network.specs.Slots.{sent, taken, view, counts_of, out_of, words_of}
use Rattle.network.specs.Slots as Slots
use Rattle.network.specs.Ready.{step_of, There, put_is, end_is, fired_is}
use Rattle.network.proofs.Links.{Written, written_length}
use Rattle.network.specs.Moving.{chosen, Spare}
use Rattle.network.proofs.Gets.{take_written, take_more, take_moves, receive_written, receive_more, receive_moves}
use Rattle.network.proofs.Puts.{send_written, send_more, send_moves, give_written, give_more, give_moves}
use Rattle.network.proofs.Fires.{fire_written, fire_more, fire_fires}
use Rattle.network.specs.Parts.{out_new, out_old}

-- the word that a stop uses is the slot chosen there
word_chosen : (A : Array) (st : List ℕ) (q k : ℕ) (b : Bool) → view A st (chosen q k b) ≡ word (kind_of b) (view A st (Slots.hand q k))
    (view A st (Slots.kept q k))
word_chosen A st q k true = refl
word_chosen A st q k false = refl

-- ---- what no step changes

module _ (A : Array) (M : Memory) where
  pub waiting_same : (a : RuleStep) → (apply A M a).waiting ≡ M.waiting
  unfolding apply
  waiting_same (Send q) = refl
  waiting_same (Take p s) = refl
  waiting_same (Fire p) = refl
  waiting_same (Give p s) = refl
  waiting_same (Receive q) = refl

  pub received_length : (a : RuleStep) → length (apply A M a).received ≡ length M.received
  unfolding apply
  received_length (Send q) = refl
  received_length (Take p s) = refl
  received_length (Fire p) = refl
  received_length (Give p s) = refl
  received_length (Receive q) =
      length-set M.received (part_start A q + read A M.state (Received q)) (oldest A M.state q (stops_on A q))

-- nor any list of steps
module _ (A : Array) where
  pub all_waiting : (M : Memory) (l : List RuleStep) → (apply_all A M l).waiting ≡ M.waiting
  unfolding apply_all
  all_waiting M [] = refl
  all_waiting M (a ∷ l) = all_waiting (apply A M a) l ∙ waiting_same A M a

  pub all_length : (M : Memory) (l : List RuleStep) → length (apply_all A M l).received ≡ length M.received
  unfolding apply_all
  all_length M [] = refl
  all_length M (a ∷ l) = all_length (apply A M a) l ∙ received_length A M a

module _ {A : Array} (W : Wired A) where
  -- ---- on any sound state

  module _ (M : Memory) (long : word_count A ≤ length M.state) (S : Sound (net_of A) (counts_of A M.state)) where
    ports : (p : ℕ) → counts_of A M.state (fire p) < count_at A p → (s : ℕ) → s < stream_count A → HasPort A p s
    ports p h s l = has_port_lem A p s (W.on_all p s (omega arith) l)

    -- a step writes to slots only
    pub step_written : (a : RuleStep) → There A a → Guard (net_of A) (counts_of A M.state) (step_of A a)
        → Written W M.state (apply A M a).state
    unfolding apply
    step_written (Send q) h g = send_written W M.state long S q h g.1 M.waiting
    step_written (Take p s) h g = take_written W M.state long S (pipe_through A p s) (place_at A p s) (has_port_lem A p s h).place_lt g.1
    step_written (Fire p) h g = fire_written W M.state long p h (ports p g.0)
    step_written (Give p s) h g = give_written W M.state long S (pipe_through A p s) (place_at A p s) (has_port_lem A p s h).place_lt g.1
    step_written (Receive q) h g = receive_written W M.state long S q h g.1

    -- and adds one to its counter, to no other
    pub step_more : (a : RuleStep) → There A a → Guard (net_of A) (counts_of A M.state) (step_of A a)
        → OneMore (counts_of A M.state) (counts_of A (apply A M a).state) (step_of A a)
    unfolding apply
    step_more (Send q) h g = send_more W M.state long S q h g.1 M.waiting
    step_more (Take p s) h g = take_more W M.state long S (pipe_through A p s) (place_at A p s) (has_port_lem A p s h).place_lt g.1
    step_more (Fire p) h g = fire_more W M.state long p h (ports p g.0)
    step_more (Give p s) h g = give_more W M.state long S (pipe_through A p s) (place_at A p s) (has_port_lem A p s h).place_lt g.1
    step_more (Receive q) h g = receive_more W M.state long S q h g.1

    pub step_length : (a : RuleStep) → There A a → Guard (net_of A) (counts_of A M.state) (step_of A a)
        → length (apply A M a).state ≡ length M.state
    step_length a h g = written_length W (step_written a h g)

  -- ---- on a state whose spare places are 0, with the lists of a run on `values`

  pub record Fit (values : List ℕ) (M : Memory) : Type 0 where
    pub long : word_count A ≤ length M.state
    pub list : list_length A ≤ length M.received
    pub waits : (q j : ℕ) → j < elements_on A q → get_or M.waiting (part_start A q + j) 0 ≡ get_or values (element_at A q j) 0

  module _ (values : List ℕ) (M : Memory) (F : Fit values M) (S : Sound (net_of A) (counts_of A M.state))
      (spare : (q k : ℕ) → k ≤ stops_on A q → Spare A M.state q k) where
    out : ℕ → ℕ → ℕ
    out = out_of A M.received

    waiting : ℕ → ℕ → ℕ
    waiting q j = get_or values (element_at A q j) 0

    -- what the body makes at each stop of p
    made : (p : ℕ) → p < process_count A → counts_of A M.state (fire p) < count_at A p → (q : ℕ)
        → get_or
        (body_at A (instance_at A p (read A M.state (Firings p)))
        (map (λ s. view A M.state (chosen (pipe_through A p s) (place_at A p s) (keeps_at A p s)))
        (numbers (stream_count A))))
        (stream_on A q) 0
        ≡ body_of A (instance_at A (W.owner (W.instance_of p (counts_of A M.state (fire p))))
        (W.firing (W.instance_of p (counts_of A M.state (fire p)))))
        (uses (system_of W values) (words_of A M.state (out_of A M.received)) p) (stream_on A q)
    made p h l q =
        let i = W.instance_is p (counts_of A M.state (fire p)) l in
        ap₂ (λ (x : _) (vs : List ℕ). get_or (body_at A x vs) (stream_on A q) 0)
        (ap₂ (instance_at A) (sym i.1) (fired_is A M.state p h ∙ sym i.2))
        (same_numbers _ _ 0 (stream_count A)
        (λ s u v. word_chosen A M.state (pipe_through A p s) (place_at A p s) (keeps_at A p s)))

    -- the step is granted by the abstract network
    pub step_granted : (a : RuleStep) → There A a → Guard (net_of A) (counts_of A M.state) (step_of A a)
        → Granted (system_of W values) (counts_of A M.state) (words_of A M.state (out_of A M.received)) (step_of A a)
        (counts_of A (apply A M a).state)
        (words_of A (apply A M a).state (out_of A (apply A M a).received))
    unfolding apply out waiting
    step_granted (Send q) h g =
        moves (λ p. put≢fire) g (step_more M F.long S (Send q) h g)
        (send_moves W M.state F.long S q h g.1 M.waiting waiting out
        (ap (λ (j : ℕ). get_or M.waiting (part_start A q + j) 0) (put_is A M.state q 0 h (omega arith))
        ∙ F.waits q (view A M.state (sent q)) g.0))
    step_granted (Take p s) h g =
        let l = (has_port_lem A p s h).place_lt in
        moves (λ p. get≢fire) g (step_more M F.long S (Take p s) h g)
        (take_moves W M.state F.long S (pipe_through A p s) (place_at A p s) l g.1 waiting out
        (spare (pipe_through A p s) (place_at A p s) (omega arith)))
    step_granted (Fire p) h g =
        fires p refl g (step_more M F.long S (Fire p) h g)
        (fire_fires W M.state F.long p h (ports M F.long S p g.0) out _ (λ q k l e. made p h g.0 q))
    step_granted (Give p s) h g =
        let l = (has_port_lem A p s h).place_lt in
        moves (λ p. put≢fire) g (step_more M F.long S (Give p s) h g)
        (give_moves W M.state F.long S (pipe_through A p s) (place_at A p s) l g.1 waiting out _ _ _ _ g.2)
    step_granted (Receive q) h g =
        moves (λ p. get≢fire) g (step_more M F.long S (Receive q) h g)
        (receive_moves W M.state F.long S q h g.1 waiting out (out_of A (apply A M (Receive q)).received)
        (spare q (stops_on A q) (le_refl (stops_on A q)))
        (ap (out_of A (apply A M (Receive q)).received q) (sym x_is)
        ∙ out_new A M.received F.list q x (oldest A M.state q (stops_on A q))
        x_lt)
        (λ q' i n. out_old A M.received F.list q x (oldest A M.state q (stops_on A q)) x_lt q' i (λ e d. n e (sym x_is ∙ d))))
      where
        x : ℕ
        x = read A M.state (Received q)

        x_is : x ≡ view A M.state (taken q (stops_on A q))
        x_is = end_is A M.state q h

        x_lt : x < elements_on A q
        x_lt = omega (arith, x_is, g.1, S.puts q (stops_on A q) (le_refl (stops_on A q)))
