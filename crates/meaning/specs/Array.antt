-- What the rules of the network look at, gathered from the description: for each process its instances in step order, for each pipe its
-- stream, its elements and its processes in order. Nothing here is new; it is the words of the trade in the order in which the network
-- counts.
use Rattle.std.specs.Prelude.{Bool, false, cond, ◌&&◌, List, [], ◌∷◌, ◌++◌, map, ℕ, suc, ◌+◌, eqb, ltb, length, get_or, take, drop}
use Rattle.std.specs.Int.Signed.{lt_z}
use Rattle.integers.specs.Vectors.{zero3}
use Rattle.integers.specs.declared.V3.{V3}
use Rattle.integers.specs.declared.V2.{V2}
use Rattle.meaning.specs.declared.Nest.{Nest}
use Rattle.meaning.specs.declared.Stream.{Stream}
use Rattle.meaning.specs.declared.Line.{Line}
use Rattle.meaning.specs.declared.Description.{Description}
use Rattle.meaning.specs.Lists.{any, each, total, position}
use Rattle.meaning.specs.Loops.{step_of}
use Rattle.meaning.specs.Space.{box_of, row_index, space, processes, instances_at, computing}
use Rattle.meaning.specs.Streams.{stationary, hop, elements}
use Rattle.meaning.specs.Pipes.{pipe, entries, pipe_elements, soak}
use Rattle.meaning.specs.Description.{streams_of, lines_of}

-- ---- processes

-- a process's instances in the order in which it fires them: by step (that they are first, first + increment, .., last, `runs-are` of
-- geometry says)
unfoldable pub insert_by_step : Nest → V3 → List V3 → List V3
insert_by_step n x [] = x ∷ []
insert_by_step n x (y ∷ l) = cond (lt_z (step_of n y) (step_of n x)) (y ∷ insert_by_step n x l) (x ∷ y ∷ l)

unfoldable pub by_step : Nest → List V3 → List V3
by_step n [] = []
by_step n (x ∷ l) = insert_by_step n x (by_step n l)

abbrev pub runs : Nest → V2 → List V3
runs n y = by_step n (instances_at n y)

-- ---- pipes

-- a process as a pipe passes it: it keeps an element if it computes and the stream is stationary; else it lets all through, using those
-- from soak on, as many as it has instances. "Null processes pass everything": their soak is all of the pipe
pub record Stop : Type 0 where
  pub process : ℕ
  pub keeps : Bool
  pub soak : ℕ

-- a pipe: its stream, the places of its links, the numbers of its elements in order, its processes from the entry on
pub record Pipe : Type 0 where
  pub stream : ℕ
  pub hop : ℕ
  pub elements : List ℕ
  pub stops : List Stop

-- the soak of a row of the table (of a null process the report's equation (10): `null-report` of geometry)
abbrev pub row_soak : Nest → Stream → V2 → ℕ
row_soak n s y = cond (computing n y) (soak n s y) (length (pipe_elements n s y))

abbrev pub stop_of : Nest → Stream → V2 → Stop
stop_of n s y =
    record {
      process = row_index (space n) y;
      keeps = stationary n s && computing n y;
      soak = row_soak n s y;
    }

-- the pipe of stream s, number i, that enters at y; e is the number of the stream's first element
abbrev pub pipe_of : Nest → ℕ → ℕ → Stream → V2 → Pipe
pipe_of n i e s y =
    record {
      stream = i;
      hop = hop n s;
      elements = map (λ p. e + row_index (box_of n s.map) p) (pipe_elements n s y);
      stops = map (stop_of n s) (pipe n s y);
    }

-- "pipes are numbered by stream, then entry in row order"
unfoldable pub pipes_from : Nest → ℕ → ℕ → List Stream → List Pipe
pipes_from n i e [] = []
pipes_from n i e (s ∷ ss) = map (pipe_of n i e s) (entries n s) ++ pipes_from n (suc i) (e + length (elements n s)) ss

-- ---- the array

pub record Array : Type 0 where
  pub runs : List (List V3)
  pub hops : List ℕ
  pub pipes : List Pipe
  pub lines : List Line

unfoldable pub array_of : Description → Array
array_of d =
    record {
      runs = map (runs d.nest) (processes d.nest);
      hops = map (hop d.nest) (streams_of d);
      pipes = pipes_from d.nest 0 0 (streams_of d);
      lines = lines_of d;
    }

-- ---- read off it

-- the instances of process p, and how many
abbrev pub runs_of : Array → ℕ → List V3
runs_of A p = get_or A.runs p []

abbrev pub count_at : Array → ℕ → ℕ
count_at A p = length (runs_of A p)

-- the f-th instance that process p fires
abbrev pub instance_at : Array → ℕ → ℕ → V3
instance_at A p f = get_or (runs_of A p) f zero3

abbrev pub process_count : Array → ℕ
process_count A = length A.runs

abbrev pub stream_count : Array → ℕ
stream_count A = length A.hops

abbrev pub pipe_number : Array → ℕ
pipe_number A = length A.pipes

abbrev pub no_pipe : Pipe
no_pipe = record { stream = 0; hop = 0; elements = []; stops = [] }

abbrev pub no_stop : Stop
no_stop = record { process = 0; keeps = false; soak = 0 }

-- pipe q: how many processes and elements it has, and its process at place k
abbrev pub pipe_at : Array → ℕ → Pipe
pipe_at A q = get_or A.pipes q no_pipe

abbrev pub stops_on : Array → ℕ → ℕ
stops_on A q = length (pipe_at A q).stops

abbrev pub elements_on : Array → ℕ → ℕ
elements_on A q = length (pipe_at A q).elements

abbrev pub stop_at : Array → ℕ → ℕ → Stop
stop_at A q k = get_or (pipe_at A q).stops k no_stop

-- the waiting and the received list are "in pipe order": the elements' numbers in it, where pipe q's part begins, and E
abbrev pub pipe_order : Array → List ℕ
pipe_order A = each (λ q. q.elements) A.pipes

abbrev pub part_start : Array → ℕ → ℕ
part_start A q = total (λ r. length r.elements) (take q A.pipes)

-- that part of such a list
abbrev pub part_of : Array → ℕ → List ℕ → List ℕ
part_of A q out = take (elements_on A q) (drop (part_start A q) out)

abbrev pub list_length : Array → ℕ
list_length A = length (pipe_order A)

-- the pipe of stream s that process p is on (the number of pipes if it is on none), and its place there
abbrev pub is_stop : ℕ → Stop → Bool
is_stop p t = eqb t.process p

abbrev pub pipe_through : Array → ℕ → ℕ → ℕ
pipe_through A p s = position (λ r. eqb r.stream s && any (is_stop p) r.stops) A.pipes

abbrev pub on_pipe : Array → ℕ → ℕ → Bool
on_pipe A p s = ltb (pipe_through A p s) (pipe_number A)

abbrev pub place_on : Array → ℕ → ℕ → ℕ
place_on A p q = position (is_stop p) (pipe_at A q).stops
