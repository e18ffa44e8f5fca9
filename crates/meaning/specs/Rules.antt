-- Document 01, "The network": links and their fill, sound states, and for each of send, take, fire, give and receive when it is ready and
-- what it does, on the words of any sound state; the lowest ready step.
use Rattle.std.specs.Prelude.{Bool, cond, ◌&&◌, ◌||◌, List, [], ◌∷◌, ◌++◌, map, ℕ, zero, suc, ◌+◌, ◌-◌, eqb, leb, ltb, length, get_or, set}
use Rattle.std.specs.Prelude.{take}
use Rattle.integers.specs.declared.V3.{V3}
use Rattle.meaning.specs.declared.Step.{Step}
use Rattle.meaning.specs.declared.Step.TheVariants.{Send, Take, Fire, Give, Receive}
use Rattle.meaning.specs.Lists.{every, any, each, numbers}
use Rattle.meaning.specs.Body.{run_lines}
use Rattle.meaning.specs.Array.{Array, count_at, instance_at, process_count, stream_count, pipe_number, pipe_at, stops_on, elements_on}
use Rattle.meaning.specs.Array.{stop_at, part_start, pipe_through, on_pipe, place_on}
use Rattle.meaning.specs.State.{Word, Firings, Taken, Given, Hand, Keep, Place, Sent, Received, End, read, write}

-- ---- links: link k of pipe q lies before its process at place k; the last one, k the number of its processes, before its output end

module _ (A : Array) where
  -- the process at place k of pipe q, and the stream
  abbrev pub process_on : ℕ → ℕ → ℕ
  process_on q k = (stop_at A q k).process

  abbrev pub stream_on : ℕ → ℕ
  stream_on q = (pipe_at A q).stream

  -- the count of what was put into the link, of what was taken out of it, and its places, the oldest element's first
  abbrev pub put_in : ℕ → ℕ → Word
  put_in q zero = Sent q
  put_in q (suc k) = Given (process_on q k) (stream_on q)

  abbrev pub taken_out : ℕ → ℕ → Word
  taken_out q k = cond (ltb k (stops_on A q)) (Taken (process_on q k) (stream_on q)) (Received q)

  abbrev pub link_place : ℕ → ℕ → ℕ → Word
  link_place q k i = cond (ltb k (stops_on A q)) (Place (process_on q k) (stream_on q) i) (End q i)

  -- how many places are filled
  abbrev pub fill : List ℕ → ℕ → ℕ → ℕ
  fill st q k = read A st (put_in q k) - read A st (taken_out q k)

  abbrev pub has_room : List ℕ → ℕ → ℕ → Bool
  has_room st q k = ltb (fill st q k) (pipe_at A q).hop

  -- a value goes into the first free place
  abbrev pub put_value : List ℕ → ℕ → ℕ → ℕ → List ℕ
  put_value st q k v = write A st (link_place q k (fill st q k)) v

  -- the oldest value, and the link without it: n places from i on move down by one, and the place that held the youngest is cleared
  abbrev pub oldest : List ℕ → ℕ → ℕ → ℕ
  oldest st q k = read A st (link_place q k 0)

  unfoldable pub move_down : List ℕ → ℕ → ℕ → ℕ → ℕ → List ℕ
  move_down st q k i zero = write A st (link_place q k i) 0
  move_down st q k i (suc n) = move_down (write A st (link_place q k i) (read A st (link_place q k (suc i)))) q k (suc i) n

  abbrev pub without_oldest : List ℕ → ℕ → ℕ → List ℕ
  without_oldest st q k = move_down st q k 0 (fill st q k - 1)

  -- one more
  abbrev pub increase : List ℕ → Word → List ℕ
  increase st w = write A st w (suc (read A st w))

  -- ---- sound: "each count is between 0 and its total, each link's fill is between 0 and its places, and taken exceeds given by 0 or 1;
  -- for stationary streams at computing processes by 0 before the first take and once the keep is given, by 1 or 2 between"

  -- a count's total: "without a pipe the totals are 0", since a pipe that is not there has no elements. Other words have none
  abbrev pub total_of : Word → ℕ
  total_of (Firings p) = count_at A p
  total_of (Taken p s) = elements_on A (pipe_through A p s)
  total_of (Given p s) = elements_on A (pipe_through A p s)
  total_of (Hand p s) = 0
  total_of (Keep p s) = 0
  total_of (Place p s i) = 0
  total_of (Sent q) = elements_on A q
  total_of (Received q) = elements_on A q
  total_of (End q i) = 0

  abbrev pub sound_count : List ℕ → Word → Bool
  sound_count st w = leb (read A st w) (total_of w)

  abbrev pub sound_link : List ℕ → ℕ → ℕ → Bool
  sound_link st q k =
      leb (read A st (taken_out q k)) (read A st (put_in q k)) && leb (read A st (put_in q k))
      (read A st (taken_out q k) + (pipe_at A q).hop)

  -- n elements, x taken, y given
  abbrev pub sound_hand : Bool → ℕ → ℕ → ℕ → Bool
  sound_hand keeps n x y =
      cond keeps (cond (eqb x 0) (eqb y 0) (cond (eqb y n) (eqb x n) (eqb x (suc y) || eqb x (suc (suc y))))) (eqb x y || eqb x (suc y))

  abbrev pub sound_stop : List ℕ → ℕ → ℕ → Bool
  sound_stop st q k =
      sound_hand (stop_at A q k).keeps (elements_on A q) (read A st (Taken (process_on q k) (stream_on q)))
      (read A st (Given (process_on q k) (stream_on q)))
      && sound_link st q k

  abbrev pub sound_pipe : List ℕ → ℕ → Bool
  sound_pipe st q =
      sound_count st (Sent q) && sound_count st (Received q) && every (sound_stop st q) (numbers (stops_on A q)) && sound_link st q
      (stops_on A q)

  abbrev pub sound_port : List ℕ → ℕ → ℕ → Bool
  sound_port st p s = sound_count st (Taken p s) && sound_count st (Given p s)

  abbrev pub sound_process : List ℕ → ℕ → Bool
  sound_process st p = sound_count st (Firings p) && every (sound_port st p) (numbers (stream_count A))

  unfoldable pub sound : List ℕ → Bool
  sound st = every (sound_process st) (numbers (process_count A)) && every (sound_pipe st) (numbers (pipe_number A))

  -- ---- the rules at place k of pipe q; n elements, soak and count of the process; x taken, y given, f firings

  -- Take: "an empty hand takes the oldest element of the link. The first element of a stationary stream goes to the keep instead"
  abbrev pub hand_empty : Bool → ℕ → ℕ → Bool
  hand_empty keeps x y = cond keeps (eqb x 0 || eqb x (suc y)) (eqb x y)

  -- Fire: "when each moving stream has its element for that instance in hand, not yet used, and each keep is filled"
  abbrev pub can_use : Bool → ℕ → ℕ → ℕ → ℕ → ℕ → Bool
  can_use keeps n soak x y f = cond keeps (ltb 0 x && ltb y n) (eqb x (suc y) && eqb y (soak + f))

  -- Give: "an element that is soaked, drained or used"; "the keep is given last, after all firings and all other elements"
  abbrev pub can_offer : Bool → ℕ → ℕ → ℕ → ℕ → ℕ → ℕ → Bool
  can_offer keeps n soak count x y f =
      cond keeps (eqb x (suc (suc y)) || (eqb x (suc y) && eqb x n && eqb f count))
      (eqb x (suc y) && (ltb y soak || leb (soak + count) y || ltb y (soak + f)))

  -- the word that the next element taken goes to, that an instance uses, and that is given
  abbrev pub takes_to : Bool → ℕ → ℕ → ℕ → Word
  takes_to keeps x p s = cond (keeps && eqb x 0) (Keep p s) (Hand p s)

  abbrev pub used_word : Bool → ℕ → ℕ → Word
  used_word keeps p s = cond keeps (Keep p s) (Hand p s)

  abbrev pub gives_from : Bool → ℕ → ℕ → ℕ → ℕ → Word
  gives_from keeps x y p s = cond (keeps && eqb x (suc y)) (Keep p s) (Hand p s)

  -- ---- ready

  abbrev pub ready_to_send : List ℕ → ℕ → Bool
  ready_to_send st q = ltb (read A st (Sent q)) (elements_on A q) && has_room st q 0

  abbrev pub ready_to_take : List ℕ → ℕ → ℕ → Bool
  ready_to_take st q k =
      ltb 0 (fill st q k)
      && hand_empty (stop_at A q k).keeps (read A st (Taken (process_on q k) (stream_on q)))
      (read A st (Given (process_on q k) (stream_on q)))

  -- of process p and stream s
  abbrev pub ready_to_use : List ℕ → ℕ → ℕ → Bool
  ready_to_use st p s =
      let q = pipe_through A p s in
      let t = stop_at A q (place_on A p q) in
      can_use t.keeps (elements_on A q) t.soak (read A st (Taken p s)) (read A st (Given p s)) (read A st (Firings p))

  abbrev pub ready_to_fire : List ℕ → ℕ → Bool
  ready_to_fire st p = ltb (read A st (Firings p)) (count_at A p) && every (ready_to_use st p) (numbers (stream_count A))

  abbrev pub ready_to_give : List ℕ → ℕ → ℕ → Bool
  ready_to_give st q k =
      let t = stop_at A q k in
      has_room st q (suc k)
      && can_offer t.keeps (elements_on A q) t.soak (count_at A t.process) (read A st (Taken t.process (stream_on q)))
      (read A st (Given t.process (stream_on q))) (read A st (Firings t.process))

  abbrev pub ready_to_receive : List ℕ → ℕ → Bool
  ready_to_receive st q = ltb 0 (fill st q (stops_on A q))

  -- ---- what they do

  -- "the next waiting value is copied into a link with a free place; the waiting list never changes"
  abbrev pub do_send : List ℕ → List ℕ → ℕ → List ℕ
  do_send waiting st q = increase (put_value st q 0 (get_or waiting (part_start A q + read A st (Sent q)) 0)) (Sent q)

  abbrev pub do_take : List ℕ → ℕ → ℕ → List ℕ
  do_take st q k =
      let p = process_on q k in
      let s = stream_on q in
      increase (write A (without_oldest st q k) (takes_to (stop_at A q k).keeps (read A st (Taken p s)) p s) (oldest st q k)) (Taken p s)

  -- the words that process p uses, by stream
  abbrev pub used_words : ℕ → List Word
  used_words p =
      map (λ s. let q = pipe_through A p s in used_word (stop_at A q (place_on A p q)).keeps p s) (numbers (stream_count A))

  unfoldable pub write_all : List ℕ → List Word → List ℕ → List ℕ
  write_all st [] vs = st
  write_all st (w ∷ ws) [] = st
  write_all st (w ∷ ws) (v ∷ vs) = write_all (write A st w v) ws vs

  -- "the next instance runs": the lines on the words that the process uses and the two scratch values
  abbrev pub body_at : V3 → List ℕ → List ℕ
  body_at x vs = take (length vs) (run_lines x A.lines (vs ++ (0 ∷ 0 ∷ [])))

  abbrev pub fire_instance : List ℕ → ℕ → V3 → List ℕ
  fire_instance st p x = increase (write_all st (used_words p) (body_at x (map (read A st) (used_words p)))) (Firings p)

  abbrev pub do_fire : List ℕ → ℕ → List ℕ
  do_fire st p = fire_instance st p (instance_at A p (read A st (Firings p)))

  -- "every emptied place, hand or keep is 0"
  abbrev pub do_give : List ℕ → ℕ → ℕ → List ℕ
  do_give st q k =
      let p = process_on q k in
      let s = stream_on q in
      let w = gives_from (stop_at A q k).keeps (read A st (Taken p s)) (read A st (Given p s)) p s in
      increase (write A (put_value st q (suc k) (read A st w)) w 0) (Given p s)

  -- "the output end takes the oldest element of its link into its pipe's next received place"
  abbrev pub do_receive : List ℕ → ℕ → List ℕ
  do_receive st q = increase (without_oldest st q (stops_on A q)) (Received q)

  abbrev pub received_then : List ℕ → List ℕ → ℕ → List ℕ
  received_then out st q = set out (part_start A q + read A st (Received q)) (oldest st q (stops_on A q))

-- ---- steps

-- what a run works on: the waiting and the received list, and the state
pub record Memory : Type 0 where
  pub waiting : List ℕ
  pub received : List ℕ
  pub state : List ℕ

-- the three lists as they are lent
abbrev pub memory_of : List ℕ → List ℕ → List ℕ → Memory
memory_of waiting received state = record { waiting = waiting; received = received; state = state }

module _ (A : Array) where
  -- "a step is ready if its rule can be carried out in the state"
  abbrev pub ready : List ℕ → Step → Bool
  ready st (Send q) = ready_to_send A st q
  ready st (Take p s) = let q = pipe_through A p s in on_pipe A p s && ready_to_take A st q (place_on A p q)
  ready st (Fire p) = ready_to_fire A st p
  ready st (Give p s) = let q = pipe_through A p s in on_pipe A p s && ready_to_give A st q (place_on A p q)
  ready st (Receive q) = ready_to_receive A st q

  -- what a step leaves
  abbrev pub with_state : Memory → List ℕ → Memory
  with_state M st = record { waiting = M.waiting; received = M.received; state = st }

  unfoldable pub apply : Memory → Step → Memory
  apply M (Send q) = with_state M (do_send A M.waiting M.state q)
  apply M (Take p s) = let q = pipe_through A p s in with_state M (do_take A M.state q (place_on A p q))
  apply M (Fire p) = with_state M (do_fire A M.state p)
  apply M (Give p s) = let q = pipe_through A p s in with_state M (do_give A M.state q (place_on A p q))
  apply M (Receive q) =
      record { waiting = M.waiting; received = received_then A M.received M.state q; state = do_receive A M.state q }

  -- ---- Run's order: "sends by pipe, then by process takes by stream, fire, gives by stream, then receives"

  abbrev pub steps_of : ℕ → List Step
  steps_of p = map (Take p) (numbers (stream_count A)) ++ (Fire p ∷ map (Give p) (numbers (stream_count A)))

  abbrev pub in_order : List Step
  in_order = map Send (numbers (pipe_number A)) ++ (each steps_of (numbers (process_count A)) ++ map Receive (numbers (pipe_number A)))

  -- the ready ones, "always the lowest ready" first
  abbrev pub any_ready : List ℕ → Bool
  any_ready st = any (ready st) in_order

-- the first step of a list that passes, if one does
pub data Found : Type 0 where
  at : Step → Found
  nothing : Found

unfoldable pub first_ready : (Step → Bool) → List Step → Found
first_ready f [] = nothing
first_ready f (a ∷ l) = cond (f a) (at a) (first_ready f l)

module _ (A : Array) where
  abbrev pub lowest : List ℕ → Found
  lowest st = first_ready (ready A st) (in_order A)

  -- the steps that Run does, at most n of them, and what a list of steps leaves
  abbrev next : Found → (Step → List Step) → List Step
  next nothing f = []
  next (at a) f = f a

  unfoldable pub run_steps : ℕ → Memory → List Step
  run_steps zero M = []
  run_steps (suc n) M = next (lowest M.state) (λ a. a ∷ run_steps n (apply A M a))

  unfoldable pub apply_all : Memory → List Step → Memory
  apply_all M [] = M
  apply_all M (a ∷ l) = apply_all (apply A M a) l
