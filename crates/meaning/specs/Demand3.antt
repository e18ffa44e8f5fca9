-- Demand 3, "a single claim about the list of calls after" a proper start, "empty or of any length".
use Rattle.std.specs.Prelude.{◌≡◌, ◌↔◌, Bool, true, false, not, cond, List, [], ◌∷◌, ◌++◌, map, ℕ, ◌-◌, ◌≤◌, ◌<◌, eqb, length, get_or, take}
use Rattle.std.specs.Prelude.{drop, replicate}
use Rattle.meaning.specs.declared.Limits.{Limits}
use Rattle.meaning.specs.declared.Description.{Description}
use Rattle.meaning.specs.Lists.{filter, every, numbers}
use Rattle.meaning.specs.Description.{description_of, streams_of}
use Rattle.meaning.specs.Body.{gather, final_values}
use Rattle.meaning.specs.Accept.{total_steps}
use Rattle.meaning.specs.Array.{array_of, pipe_number, pipe_at, elements_on, pipe_order, part_of}
use Rattle.meaning.specs.State.{words}
use Rattle.meaning.specs.declared.Step.{Step}
use Rattle.meaning.specs.declared.Step.TheVariants.{Receive, Send, Take, Fire, Give}
use Rattle.meaning.specs.Rules.{Memory, any_ready, Found, at, nothing, run_steps, total_of}
use Rattle.meaning.specs.Answers.{answer_number, ran_number, ready_number, Done, Refused}
use Rattle.meaning.specs.Alike.{Serves}
use Rattle.meaning.specs.Calls.{start, step, run, ready_call, window, result, step_of, length_of, state_length}

-- ---- lists of calls

-- a call after Start; Ready and Result are lent lists "for that alone, of any length"
pub data Call : Type 0 where
  CallStep : ℕ → ℕ → ℕ → Call
  CallRun : ℕ → Call
  CallReady : List ℕ → Call
  CallWindow : ℕ → ℕ → Call
  CallResult : List ℕ → Call

module _ (l : Limits) (s : List ℕ) where
  -- the memory that a call leaves
  abbrev pub leaves : Memory → Call → Memory
  leaves M (CallStep kind number stream) = (step l s kind number stream M).memory
  leaves M (CallRun n) = (run l s n M).memory
  leaves M (CallReady words) = M
  leaves M (CallWindow pipe side) = M
  leaves M (CallResult output) = M

  -- the steps that it is granted: "each Step not declined and each step that Run does"
  abbrev pub as_list : Found → List Step
  as_list nothing = []
  as_list (at a) = a ∷ []

  abbrev pub grants : Memory → Call → List Step
  grants M (CallStep kind number stream) =
      cond (eqb (answer_number (step l s kind number stream M).answer) 0) (as_list (step_of l s kind number stream)) []
  grants M (CallRun n) = cond (eqb (ran_number (run l s n M).answer) 0) (run_steps (array_of (description_of s)) n M) []
  grants M (CallReady words) = []
  grants M (CallWindow pipe side) = []
  grants M (CallResult output) = []

-- a call, and the limits of the board that it is told, "not always the same" (request 2.9)
pub record Told : Type 0 where
  pub limits : Limits
  pub call : Call

module _ (s : List ℕ) where
  -- after a list of calls: the memory, and all granted steps
  unfoldable pub memory_after : Memory → List Told → Memory
  memory_after M [] = M
  memory_after M (c ∷ cs) = memory_after (leaves c.limits s M c.call) cs

  unfoldable pub granted_by : Memory → List Told → List Step
  granted_by M [] = []
  granted_by M (c ∷ cs) = grants c.limits s M c.call ++ granted_by (leaves c.limits s M c.call) cs

-- the granted receives on pipe q
abbrev pub is_receive : ℕ → Step → Bool
is_receive q (Send r) = false
is_receive q (Take p t) = false
is_receive q (Fire p) = false
is_receive q (Give p t) = false
is_receive q (Receive r) = eqb r q

abbrev pub receives : ℕ → List Step → ℕ
receives q ss = length (filter (is_receive q) ss)

-- ---- what holds after some calls

-- "all values are out when every k is its pipe's number of elements"
abbrev pub all_received : Description → List Step → Bool
all_received d ss = every (λ q. eqb (receives q ss) (elements_on (array_of d) q)) (numbers (pipe_number (array_of d)))

-- "what the plain run, on the values given to Start, leaves in that element"
abbrev pub final_value : Description → List ℕ → ℕ → ℕ
final_value d values e = get_or (final_values d values) e 0

-- of the memory M and the granted steps ss, the values given to Start being `values`
pub record Holds (d : Description) (values : List ℕ) (M : Memory) (ss : List Step) : Type 0 where
  -- "after k granted receives on a pipe, its stretch is the first k places of its part of the received list, equal to the final values of
  -- its first k elements; the other places of that part are 0"
  pub few : (q : ℕ) → q < pipe_number (array_of d) → receives q ss ≤ elements_on (array_of d) q
  pub stretch : (q : ℕ) → q < pipe_number (array_of d)
      → part_of (array_of d) q M.received
      ≡ map (final_value d values) (take (receives q ss) (pipe_at (array_of d) q).elements)
      ++ replicate (elements_on (array_of d) q - receives q ss) 0
  -- "some step is ready exactly when some value is not out"
  pub ready : any_ready (array_of d) M.state ≡ not (all_received d ss)
  -- "granted steps are at most the total and reach it exactly when all are out"
  pub most : length ss ≤ total_steps d.nest (streams_of d)
  pub reached : (length ss ≡ total_steps d.nest (streams_of d)) ↔ (all_received d ss ≡ true)

-- ---- the finish: every count at its total, every place, hand and keep 0, and received the final values in pipe order

abbrev pub finish : Description → List ℕ → Memory
finish d values =
    record {
      waiting = gather values (pipe_order (array_of d));
      received = map (final_value d values) (pipe_order (array_of d));
      state = map (total_of (array_of d)) (words (array_of d));
    }

-- "two states are the same if all the words that Accept counts are"
pub record SameMemory (d : Description) (M M' : Memory) : Type 0 where
  pub waiting : M.waiting ≡ M'.waiting
  pub received : M.received ≡ M'.received
  pub state : take (state_length d) M.state ≡ take (state_length d) M'.state

-- ---- demand 3

-- the number by which a call is declined, 0 if it is not
abbrev pub declined_by : Limits → List ℕ → Memory → Call → ℕ
declined_by l s M (CallStep kind number stream) = answer_number (step l s kind number stream M).answer
declined_by l s M (CallRun n) = ran_number (run l s n M).answer
declined_by l s M (CallReady words) = ready_number (ready_call l s words M).answer
declined_by l s M (CallWindow pipe side) = (window l s pipe side M.waiting M.received).refusal
declined_by l s M (CallResult output) = answer_number (result l s output M).answer

-- none of 20, 26, 21 and 22
pub record NotByMemory (k : ℕ) : Type 0 where
  pub not20 : k ≡ 20 → ⊥
  pub not26 : k ≡ 26 → ⊥
  pub not21 : k ≡ 21 → ⊥
  pub not22 : k ≡ 22 → ⊥

-- after a start under the limits l that left M₁, and the calls cs
pub record AfterCalls (l : Limits) (s : List ℕ) (values : List ℕ) (M₁ : Memory) (cs : List Told) : Type 0 where
  pub holds : Holds (description_of s) values (memory_after s M₁ cs) (granted_by s M₁ cs)
  -- no call that may come next is declined by its memory
  pub next : (c : Told) → NotByMemory (declined_by c.limits s (memory_after s M₁ cs) c.call)
  -- Result answers 25 exactly while some value is not out, and afterwards the final values
  pub early : all_received (description_of s) (granted_by s M₁ cs) ≡ false → (output : List ℕ)
      → result l s output (memory_after s M₁ cs) ≡ record { answer = Refused 25; output = output }
  pub only_early : (output : List ℕ) → answer_number (result l s output (memory_after s M₁ cs)).answer ≡ 25
      → all_received (description_of s) (granted_by s M₁ cs) ≡ false
  pub late : all_received (description_of s) (granted_by s M₁ cs) ≡ true → (output : List ℕ) → length output ≡ length_of (description_of s)
      → result l s output (memory_after s M₁ cs) ≡ record { answer = Done; output = final_values (description_of s) values }
  -- "the finish is one state and one received list whatever the order"
  pub finished : all_received (description_of s) (granted_by s M₁ cs) ≡ true
      → SameMemory (description_of s) (memory_after s M₁ cs) (finish (description_of s) values)
  -- what stands past the words that Accept counts is as it was lent
  pub beyond : drop (state_length (description_of s)) (memory_after s M₁ cs).state ≡ drop (state_length (description_of s)) M₁.state

-- DEMAND 3: for every start that is not declined, and every list of calls after it, each told any limits; such a call "is declined and
-- changes nothing, or does what the first board would"
pub record Demand3 (l : Limits) (s values : List ℕ) (M₀ : Memory) : Type 0 where
  pub after : (cs : List Told) → AfterCalls l s values (start l s values M₀).memory cs
  pub told : (k : Limits) → Serves l k s

-- for every description, every start that is not declined, whatever was lent (`guarantee` of guarantee)
abbrev pub Guarantee : Type 0
Guarantee = (l : Limits) (s values : List ℕ) (M₀ : Memory) → (start l s values M₀).answer ≡ Done → Demand3 l s values M₀
