-- What the functions are lent, and what they find of a pipe. Assumes nothing.
use Rattle.std.specs.Prelude.{◌≡◌, refl, true, false, not, List, ℕ, ◌+◌, ◌-◌, ◌^◌, ◌≤◌, ◌<◌, T, length, get_or, ℤ, pos, ◌+ℤ◌, ◌-ℤ◌, ◌*ℤ◌}
use Rattle.std.proofs.Common.{sym, ◌∙◌, ap, ap₂, subst, arith, eq-eqb, eqb-true, to_z, of_z}
use Rattle.std.specs.Int.Signed.{mag}
use Rattle.std.specs.Int.{w32}
use Rattle.integers.specs.Differences.{up}
use Rattle.integers.specs.Words.{Holds, bits, held}
use Rattle.integers.specs.Vectors.{zero2, neg2, image}
use Rattle.integers.specs.declared.V3.{V3}
use Rattle.integers.specs.declared.V2.{V2}
use Rattle.meaning.specs.declared.Nest.{Nest}
use Rattle.meaning.specs.declared.Stream.{Stream}
use Rattle.meaning.specs.declared.Description.{Description}
use Rattle.meaning.specs.Space.{Box, row_index, box_of, processes, first}
use Rattle.meaning.specs.Streams.{stationary, elements, pass}
use Rattle.meaning.specs.Pipes.{reach, before, pipe_elements}
use Rattle.meaning.specs.Description.{streams_of}
use Rattle.meaning.specs.Body.{stream_start}
use Rattle.meaning.specs.Points.{Inside}
use Rattle.geometry.specs.Boxes.{box_has}
use Rattle.geometry.specs.RowOrder.{row_lt}
use Rattle.geometry.specs.Processes.{RunAt}
use Rattle.geometry.proofs.Processes.{computes as run_first}
use Rattle.geometry.specs.Pipes.{Accepted}
use Rattle.geometry.specs.Elements.{entry_before}
use Rattle.geometry.specs.Moving.{index_is}
use Rattle.geometry.specs.Arrays.{stream_at}
use Rattle.numbering.specs.Extents.{Spanning, boxed, box_spanning}
use Rattle.counting.specs.Forms.{weigh}
use Rattle.layout.specs.Spans.{process_of, Spans}
use Rattle.survey.specs.declared.Flow.{Flow}
use Rattle.survey.specs.declared.Survey.{Survey}
use Rattle.survey.specs.Surveys.{FlowOf, no_flow}
use Rattle.survey.specs.OfBytes.{flow_is}
use Rattle.lanes.specs.Flow.{Flows, LanesIn, Seen}
use Rattle.lanes.specs.All.{seen_of}
use Rattle.pipes.specs.Elements.{At, Near, good, inside, total_none, at_one, one_elements, index_moving}
use Rattle.figures.specs.Shares.{stream_is, sharing_at, share_at}
use Rattle.pipe_parts.specs.Starts.{entering, entering_entry, entering_pipe, entering_length, length_yes, length_no}
use Rattle.pipe_parts.specs.Heads.{pipe_some}
use Rattle.element_places.specs.declared.Run.{Run}
use Rattle.element_places.specs.Spread.{spread, spread_zero, spread_like}
use Rattle.element_places.specs.Order.{said_on, Put, said, place_of_element, Placeable, stream_fits, next_right}
use Rattle.element_places.specs.Runs.{number_after, Fits, stride_of, RunOf, run_numbers, back_far, run_fits}

-- a process, where the part begins of a pipe that enters there, and room for the places
pub record Placing (f : Flow) (from start : ℕ) (spans lanes : List ℕ) (p : ℕ) (places : List ℕ) : Type 0 where
  pub near : Near f spans lanes p
  pub fits : from + length (elements f.nest f.stream) ≤ 24576
  pub low : start ≤ 28672
  pub words : length places ≡ 24576

-- a computing process of a moving stream
pub record Running (f : Flow) (from : ℕ) (spans : List ℕ) (q : ℕ) : Type 0 where
  pub at : At f spans q
  pub moves : T f.moving
  pub fits : from + length (elements f.nest f.stream) ≤ 24576

-- all processes
pub record Saying (f : Flow) (many from : ℕ) (spans lanes places : List ℕ) : Type 0 where
  pub seen : Seen f spans lanes
  pub counted : many ≡ length (processes f.nest)
  pub small : length (elements f.nest f.stream) ≤ 4096
  pub fits : from + length (elements f.nest f.stream) ≤ 24576
  pub words : length places ≡ 24576

-- ---- the box of a stream's elements

module _ {f : Flow} (h : Flows f) where
  pub elements_spanning : Spanning (boxed f.elements)
  elements_spanning = subst Spanning (sym h.flow.elements_is) (box_spanning h.laid.in_range_lem.nest h.laid.in_range_lem.map)

  pub stride_is : weigh (boxed f.elements) f.pass.a f.pass.b ≡ stride_of f.nest f.stream
  stride_is = ap₂ (λ (k : Box) (v : V2). weigh k v.a v.b) h.flow.elements_is h.flow.pass_is

-- ---- the first element of a computing process

module _ {f : Flow} {spans : List ℕ} {q : ℕ} (a : At f spans q) {e : V2}
    (is : e ≡ image f.stream.map (first f.nest (process_of f.nest q))) where
  inside_box : Inside (box_of f.nest f.stream.map) e
  inside_box =
      subst (Inside (box_of f.nest f.stream.map)) (sym is)
      (box_has a.flows.laid.accepted.layout.dirs f.stream.map
      (run_first a.flows.laid.accepted.layout (process_of f.nest q) a.computing).within)

  pub inside_elements : Inside (boxed f.elements) e
  inside_elements = subst (λ (k : Box). Inside k e) (sym a.flows.flow.elements_is) inside_box

  pub number_is : {i : ℕ} → i ≡ row_index (boxed f.elements) e
      → i ≡ row_index (box_of f.nest f.stream.map) (image f.stream.map (first f.nest (process_of f.nest q)))
  number_is k = k ∙ ap₂ row_index a.flows.flow.elements_is is

  pub number_fits : (from : ℕ) → from + length (elements f.nest f.stream) ≤ 24576 → {i : ℕ} → i ≡ row_index (boxed f.elements) e
      → from + i < 24576
  number_fits from fits k = omega (
    arith,
    k ∙ ap (λ (b : Box). row_index b e) a.flows.flow.elements_is,
    row_lt (box_of f.nest f.stream.map) e inside_box,
    fits,
  )

-- ---- the pipe through a computing process of a moving stream

module _ {f : Flow} {from : ℕ} {spans : List ℕ} {q : ℕ} (h : Running f from spans q) where
  abbrev n : Nest
  n = f.nest

  abbrev s : Stream
  s = f.stream

  abbrev y : V2
  y = process_of n q

  abbrev x : V3
  x = first n y

  abbrev back : ℕ
  back = reach (box_of n s.map) (neg2 (pass n s)) (image s.map x)

  accepted : Accepted n s
  accepted = h.at.flows.laid.accepted

  moving : T (not (stationary n s))
  moving = subst T h.at.flows.flow.moving_is h.moves

  run : RunAt n y x
  run = run_first accepted.layout y h.at.computing

  module _ {e : V2} (is : e ≡ image s.map x) {b : ℕ} (eb : b ≡ reach (boxed f.elements) f.against e) where
    back_is : b ≡ back
    back_is = index_moving h.at h.moves run is eb ∙ index_is accepted moving run

    -- so far back lies the number of the first, as the code counts it
    pub back_holds : b ≤ 1536 → {t : ℤ} → t ≡ stride_of n s → mag t < 2 ^ 31
        → Holds (to_z w32 b *ℤ to_z w32 (of_z w32 t)) (pos back *ℤ stride_of n s) 24576
    back_holds few et l =
        record {
          eq = ap₂ ◌*ℤ◌ ((bits {n = 1536} tt few).eq ∙ ap pos back_is) (held l et);
          le = back_far accepted moving run from h.fits;
        }

    pub run_is : {start i : ℕ} {r : Run} → i ≡ row_index (boxed f.elements) e
        → r.number ≡ pos (from + i) -ℤ pos back *ℤ stride_of n s → r.stride ≡ stride_of n s → r.place ≡ start
        → r.count ≡ length (pipe_elements n s y) → r.count ≤ 4096 → RunOf n s from start y r
    run_is {r = r} ei number stride placed counted few =
        record {
          counted = counted;
          few = few;
          placed = placed;
          numbers = λ k l.
              ap₂ (λ (a b : ℤ). a +ℤ pos k *ℤ b)
              (number ∙ ap (λ (i : ℕ). pos (from + i) -ℤ pos back *ℤ stride_of n s) (number_is h.at is ei)) stride
              ∙ run_numbers accepted moving run from k l;
        }

-- ---- the pipe that enters at a process

module _ {f : Flow} {from start : ℕ} {spans lanes : List ℕ} {p : ℕ} {places : List ℕ} (h : Placing f from start spans lanes p places) where
  abbrev here : V2
  here = process_of f.nest p

  -- one does
  module _ (enters : entering f.nest f.stream here ≡ true) where
    pub none_before : before f.nest f.stream here ≡ 0
    none_before =
        eqb-true (before f.nest f.stream here) 0
        (sym (entry_before (good h.near) (inside h.near)) ∙ entering_entry f.nest f.stream here enters)

    -- somebody computes on it, as the lanes of a moving stream say
    pub somebody : T f.moving → {q : ℕ} → q ≡ get_or lanes (1024 + get_or lanes p 0) 0 → q ≡ 0 → ⊥
    somebody m e z =
        let none = eq-eqb (length (pipe_elements f.nest f.stream here)) 0 (sym (total_none h.near m (sym e ∙ z))) in
        subst T (sym (entering_pipe f.nest f.stream here enters) ∙ pipe_some (good h.near) (inside h.near) ∙ ap not none) tt

    module _ (m : T f.moving) {q : ℕ} (e : q ≡ get_or lanes (1024 + get_or lanes p 0) 0) where
      pub running : Running f from spans (q - 1)
      running = record { at = at_one h.near m (sym e) (somebody m e); moves = m; fits = h.fits }

      -- the run of its elements
      pub run_here : {r : Run} → RunOf f.nest f.stream from start (process_of f.nest (q - 1)) r
          → RunOf f.nest f.stream from start here r
      run_here {r} of =
          let same = one_elements h.near m (sym e) (somebody m e) in
          record {
            counted = of.counted ∙ ap length same;
            few = of.few;
            placed = of.placed;
            numbers = λ k l.
                of.numbers k (subst (λ (m : List V2). k < length m) (sym same) l)
                ∙ ap (λ (m : List V2). pos (from + row_index (box_of f.nest f.stream.map) (get_or m k zero2))) same;
          }

  pub fitting : {r : Run} → RunOf f.nest f.stream from start here r → Fits r (length places)
  fitting = run_fits (good h.near) (inside h.near) h.fits h.low h.words

  pub run_said : {r : Run} → RunOf f.nest f.stream from start here r → {out : List ℕ}
      → out ≡ spread (λ k. up (number_after r k)) (λ k. r.place + k) r.count places
      → Put f.nest f.stream from start here places r.count out
  run_said {r} of e =
      record {
        counted = of.counted;
        few = of.few;
        said =
            e ∙ ap (λ (c : ℕ). spread (λ k. up (number_after r k)) (λ k. r.place + k) c places) of.counted
            ∙ spread_like _ _ _ _ (length (pipe_elements f.nest f.stream here)) places (λ k l. ap up (of.numbers k l))
            (λ k l. ap (λ (a : ℕ). a + k) of.placed);
      }

-- what a process says where a pipe enters, and where none does
module _ (f : Flow) (from start p : ℕ) (places : List ℕ) where
  abbrev said_by : ℕ → List ℕ
  said_by c = said_on f.nest f.stream from (process_of f.nest p) start c places

  pub said_entering : entering f.nest f.stream (process_of f.nest p) ≡ true → {r : ℕ} {out : List ℕ}
      → Put f.nest f.stream from start (process_of f.nest p) places r out
      → (r ≡ entering_length f.nest f.stream p) × (r ≤ 4096) × (out ≡ said_by (entering_length f.nest f.stream p))
  said_entering e h = (
    length_yes f.nest f.stream p e h.counted,
    h.few,
    h.said ∙ ap said_by (length_yes f.nest f.stream p e refl),
  )

  pub said_none : entering f.nest f.stream (process_of f.nest p) ≡ false
      → (0 ≡ entering_length f.nest f.stream p) × (0 ≤ 4096) × (places ≡ said_by (entering_length f.nest f.stream p))
  said_none e =
      let z = length_no f.nest f.stream p e in
      (z, omega arith, sym (spread_zero _ _ places) ∙ ap said_by z)

-- ---- stream i of a survey, its elements numbered from `from` on

module _ (v : Survey) (h : Placeable v.description) (i : ℕ) {f : Flow} (l : i < v.description.sizes.streams)
    (e : f ≡ get_or v.flows i no_flow) {from : ℕ} (ef : from ≡ stream_start v.description.nest (streams_of v.description) i) where
  abbrev d : Description
  d = v.description

  flow : FlowOf d.nest (stream_at d i) f
  flow = subst (λ (s : Stream). FlowOf d.nest s f) (stream_is d h.described i l refl) (flow_is v i l e)

  -- what its pipes are lent
  pub saying_at : {spans lanes places : List ℕ} → Spans d.nest spans → 3072 ≤ length spans → LanesIn d.nest (stream_at d i) lanes
      → length places ≡ 24576 → Saying f v.loops.processes from spans lanes places
  saying_at of long has words =
      let k = share_at v h.described i l e of long in
      record {
        seen = seen_of k.flows flow.nest_is flow.stream_is of long has;
        counted = k.counted;
        small = (sharing_at v h.described i l e).elements;
        fits = fits;
        words = words;
      }
    where
      fits : from + length (elements f.nest f.stream) ≤ 24576
      fits = omega (
        arith,
        ef,
        ap₂ (λ (n : Nest) (s : Stream). length (elements n s)) flow.nest_is flow.stream_is,
        stream_fits d h.described i l refl,
      )

  -- once they have said it, the places of its elements stand too
  pub right_at_lem : (xs out : List ℕ) → out ≡ said f.nest f.stream from v.loops.processes xs → length xs ≡ 24576
      → ((e : ℕ) → e < stream_start d.nest (streams_of d) i → get_or xs e 0 ≡ place_of_element d e)
      → (length out ≡ 24576) × ((e : ℕ) → e < stream_start d.nest (streams_of d) (i + 1) → get_or out e 0 ≡ place_of_element d e)
  right_at_lem xs out o =
      next_right h i l xs out
      (o ∙ ap₂ (λ (n : Nest) (s : Stream). said n s from v.loops.processes xs) flow.nest_is flow.stream_is
      ∙ ap₂ (λ (a b : ℕ). said d.nest (stream_at d i) a b xs) ef v.surveyed.ground.processes_is)
