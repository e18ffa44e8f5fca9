-- The elements of the pipe through a process, by its first and its last instance and by the lanes. Assumes nothing.
use Rattle.std.specs.Prelude.{◌≡◌, refl, Bool, not, cond, ℕ, suc, ◌+◌, ◌-◌, ◌≤◌, ◌<◌, eqb, get_or}
use Rattle.std.proofs.Common.{sym, ◌∙◌, ap, ap₂, subst, arith, eq-eqb, ne_eqb}
use Rattle.std.proofs.Math.Bool.{true, false}
use mathlib.Core.List.{List, [], ◌∷◌}
use Rattle.std.proofs.Math.Dec.{T}
use Rattle.std.proofs.Math.ListN.{length}
use Rattle.std.proofs.lemmas.Bool.{not-false}
use Rattle.integers.specs.Vectors.{zero2, zero3, neg2, image}
use Rattle.integers.specs.declared.V3.{V3}
use Rattle.integers.specs.declared.V2.{V2}
use Rattle.meaning.specs.declared.Nest.{Nest}
use Rattle.meaning.specs.declared.Stream.{Stream}
use Rattle.meaning.specs.Lists.{filter, any}
use Rattle.meaning.specs.Loops.{instances}
use Rattle.meaning.specs.Space.{Box, box_of, space, processes, count, first, last, computing}
use Rattle.meaning.specs.Streams.{stationary, pass}
use Rattle.meaning.specs.Pipes.{reach, pipe, pipe_elements, soak, drain}
use Rattle.meaning.specs.Array.{row_soak}
use Rattle.meaning.specs.Points.{Inside}
use Rattle.lists.specs.Tests.{is_true}
use Rattle.geometry.specs.Numbers.{yes_cond, neg_not}
use Rattle.geometry.specs.Places.{ahead, get_d_in}
use Rattle.geometry.specs.Boxes.{box_has, points_inside}
use Rattle.geometry.specs.Segments.{last_at}
use Rattle.geometry.specs.Processes.{RunAt, computing_count}
use Rattle.geometry.proofs.Processes.{computes as run_first}
use Rattle.geometry.specs.Pipes.{Accepted, OnePipe, flip_pipe, join_pipe, passes, same_elements, still_length}
use Rattle.geometry.proofs.Pipes.{no_pipe_lem}
use Rattle.geometry.specs.Moving.{index_is, length_is}
use Rattle.geometry.proofs.Soaks.{soak_first, still_total, drain_is}
use Rattle.geometry.specs.Elements.{entry_of, entry_pipe, entry_is}
use Rattle.geometry.specs.RowOrder.{row_lt}
use Rattle.geometry.specs.Arrays.{one_number}
use Rattle.vectors.specs.Within.{Rows, wider}
use Rattle.numbering.specs.Extents.{Spanning, boxed, box_spanning}
use Rattle.layout.specs.Rays.{Going}
use Rattle.layout.specs.Spans.{process_of, numbered_one, Spans}
use Rattle.survey.specs.declared.Flow.{Flow}
use Rattle.lanes.specs.Lanes.{One, One.nobody, One.somebody, held_le as held-most}
use Rattle.lanes.specs.Held.{entry_number, computes, held_on, held_is, running_below, soak_held}
use Rattle.lanes.specs.Flow.{Flows, Seen}

-- a computing process
pub record At (f : Flow) (spans : List ℕ) (p : ℕ) : Type 0 where
  pub flows : Flows f
  pub words : Spans f.nest spans
  pub long : 3072 ≤ length spans
  pub lt : p < length (processes f.nest)
  pub computing : T (computes f.nest p)

-- the drain of a row of the table
abbrev pub row_drain : Nest → Stream → V2 → ℕ
row_drain n s y = cond (computing n y) (drain n s y) 0

module _ {f : Flow} {spans : List ℕ} {p : ℕ} (a : At f spans p) where
  abbrev n : Nest
  n = f.nest

  abbrev s : Stream
  s = f.stream

  abbrev y : V2
  y = process_of n p

  accepted : Accepted n s
  accepted = a.flows.laid.accepted

  runs : RunAt n y (first n y)
  runs = run_first accepted.layout y a.computing

  runs_last : RunAt n y (last n y)
  runs_last = last_at accepted.layout.dirs runs

  some : 0 < count n y
  some = computing_count accepted.layout runs

  pub last_number : (0 < get_or spans (2048 + p) 0) × (get_or spans (2048 + p) 0 - 1 < length (instances n))
      × (get_or (instances n) (get_or spans (2048 + p) 0 - 1) zero3 ≡ last n y)
  last_number =
      let h = a.words.last_some p a.lt some in
      let e = numbered_one n (get_or spans (2048 + p) 0) (λ e. omega arith) ∙ a.words.lasts p a.lt in
      (h, omega (arith, a.words.last_le p a.lt), e)

  pub wider_map : Rows 8 s.map
  wider_map = let m = a.flows.laid.in_range_lem.map in record { top = wider tt m.top; low = wider tt m.low }

  -- ---- of a moving stream

  abbrev box : Box
  box = box_of n s.map

  module _ (moves : T f.moving) where
    on_way : T (not (stationary n s))
    on_way = subst T a.flows.flow.moving_is moves

    box_spans : Spanning (boxed f.elements)
    box_spans =
        subst Spanning (sym a.flows.flow.elements_is) (box_spanning a.flows.laid.in_range_lem.nest a.flows.laid.in_range_lem.map)

    within : {x : V3} → RunAt n y x → {e : V2} → e ≡ image s.map x → Inside (boxed f.elements) e
    within {x} r e = subst (Inside (boxed f.elements)) (sym e)
        (subst (λ (k : Box). Inside k (image s.map x)) (sym a.flows.flow.elements_is)
        (box_has accepted.layout.dirs s.map r.within))

    going_back : {x : V3} → RunAt n y x → {e : V2} → e ≡ image s.map x → Going (boxed f.elements) f.against e
    going_back r e =
        record {
          box = box_spans;
          inside = within r e;
          by = a.flows.flow.against_small;
          on = subst (λ (d : V2). d ≡ zero2 → ⊥) (sym a.flows.flow.against_is) (neg_not (passes accepted on_way));
        }

    pub going_against : {e : V2} → e ≡ image s.map (first n y) → Going (boxed f.elements) f.against e
    going_against e = going_back runs e

    going_on : {x : V3} → RunAt n y x → {e : V2} → e ≡ image s.map x → Going (boxed f.elements) f.pass e
    going_on r e =
        record {
          box = box_spans;
          inside = within r e;
          by = a.flows.flow.pass_small;
          on = subst (λ (d : V2). d ≡ zero2 → ⊥) (sym a.flows.flow.pass_is) (passes accepted on_way);
        }

    pub going_first : {e : V2} → e ≡ image s.map (first n y) → Going (boxed f.elements) f.pass e
    going_first e = going_on runs e

    pub going_last : {e : V2} → e ≡ image s.map (last n y) → Going (boxed f.elements) f.pass e
    going_last e = going_on runs_last e

    reach_against : {e : V2} {r : ℕ} (x : V3) → e ≡ image s.map x → r ≡ reach (boxed f.elements) f.against e
        → r ≡ reach box (neg2 (pass n s)) (image s.map x)
    reach_against {e} x h k =
        k ∙ ap₂ (λ (b : Box) (d : V2). reach b d e) a.flows.flow.elements_is a.flows.flow.against_is
        ∙ ap (reach box (neg2 (pass n s))) h

    reach_on : {e : V2} {r : ℕ} (x : V3) → e ≡ image s.map x → r ≡ reach (boxed f.elements) f.pass e
        → r ≡ reach box (pass n s) (image s.map x)
    reach_on {e} x h k =
        k ∙ ap₂ (λ (b : Box) (d : V2). reach b d e) a.flows.flow.elements_is a.flows.flow.pass_is ∙ ap (reach box (pass n s)) h

    -- the index of the element that an instance touches; the first one's is the soak
    pub index_moving : {x : V3} → RunAt n y x → {e : V2} {r : ℕ} → e ≡ image s.map x → r ≡ reach (boxed f.elements) f.against e
        → r ≡ ahead (image s.map x) (pipe_elements n s y)
    index_moving {x} b h k = reach_against x h k ∙ sym (index_is accepted on_way b)

    pub soak_moving : {e : V2} {r : ℕ} → e ≡ image s.map (first n y) → r ≡ reach (boxed f.elements) f.against e → r ≡ soak n s y
    soak_moving h k = index_moving runs h k ∙ sym (soak_first accepted runs)

    pub drain_moving : {e : V2} {r : ℕ} → e ≡ image s.map (last n y) → r ≡ reach (boxed f.elements) f.pass e → r ≡ drain n s y
    drain_moving h k = reach_on (last n y) h k ∙ sym (drain_is accepted on_way runs)

    pub length_moving : {e : V2} {r q : ℕ} → e ≡ image s.map (first n y) → r ≡ reach (boxed f.elements) f.against e
        → q ≡ reach (boxed f.elements) f.pass e → r + 1 + q ≡ length (pipe_elements n s y)
    length_moving h k l = omega (arith, reach_against (first n y) h k, reach_on (first n y) h l, length_is accepted on_way runs)

-- ---- by the lanes

-- any process
pub record Near (f : Flow) (spans lanes : List ℕ) (p : ℕ) : Type 0 where
  pub seen : Seen f spans lanes
  pub lt : p < length (processes f.nest)

-- what a test of its count says
pub computes_is : {f : Flow} {spans lanes : List ℕ} {p : ℕ} → Near f spans lanes p → computes f.nest p ≡ not (eqb (get_or spans p 0) 0)
computes_is {p} h = ap (λ (k : ℕ). not (eqb k 0)) (sym (h.seen.of_spans.counts p h.lt))

module _ {f : Flow} {spans lanes : List ℕ} {p : ℕ} (h : Near f spans lanes p) where
  pub good : Accepted f.nest f.stream
  good = h.seen.flows.laid.accepted

  pub inside : Inside (space f.nest) (process_of f.nest p)
  inside = points_inside (space f.nest) (process_of f.nest p) (get_d_in (processes f.nest) p zero2 h.lt)

  -- the entry of its line, by the lanes
  pub entry_lt : get_or lanes p 0 < length (processes f.nest)
  entry_lt =
      omega (
        arith,
        h.seen.of_lanes.entries p h.lt,
        row_lt (space f.nest) (entry_of f.nest f.stream (process_of f.nest p)) (entry_is good inside).inside,
      )

  pub few : length (processes f.nest) ≤ 1024
  few = h.seen.flows.laid.processes

  pub held_there : get_or lanes (2048 + get_or lanes p 0) 0
      ≡ length (filter (computing f.nest) (pipe f.nest f.stream (process_of f.nest p)))
  held_there =
      h.seen.of_lanes.held (get_or lanes p 0) entry_lt
      ∙ ap (held_on f.nest f.stream (length (processes f.nest))) (h.seen.of_lanes.entries p h.lt) ∙ held_is good inside

  pub held_le : get_or lanes (2048 + get_or lanes p 0) 0 ≤ 1024
  held_le =
      omega (
        arith,
        h.seen.of_lanes.held (get_or lanes p 0) entry_lt,
        few,
        held-most (entry_number f.nest f.stream) (computes f.nest) (length (processes f.nest)) (get_or lanes p 0),
      )

  -- of a stationary stream
  pub still_of : f.moving ≡ false → T (stationary f.nest f.stream)
  still_of e = subst T (sym (not-false (stationary f.nest f.stream) (sym h.seen.flows.flow.moving_is ∙ e))) tt

  pub total_still : f.moving ≡ false
      → get_or lanes (2048 + get_or lanes p 0) 0 ≡ length (pipe_elements f.nest f.stream (process_of f.nest p))
  total_still e = held_there ∙ sym (still_length good (still_of e) (process_of f.nest p))

  -- of a moving one: with nobody on the line there is no pipe
  none_filter : {A : Type 0} (g : A → Bool) (l : List A) → length (filter g l) ≡ 0 → T (not (any g l))
  unfolding filter any
  none_filter g [] e = tt
  none_filter g (x ∷ l) e = go (g x) e (none_filter g l)
    where
      go : (b : Bool) → length (cond b (x ∷ filter g l) (filter g l)) ≡ 0 → (length (filter g l) ≡ 0 → T (not (any g l)))
          → T (not (cond b true (any g l)))
      go true e k = absurd (omega arith)
      go false e k = k e

  nobody_there : held_on f.nest f.stream (length (processes f.nest)) (get_or lanes p 0) ≡ 0
      → 0 ≡ length (pipe_elements f.nest f.stream (process_of f.nest p))
  nobody_there e =
      sym (ap length (no_pipe_lem good inside (none_filter (computing f.nest) (pipe f.nest f.stream (process_of f.nest p))
      (sym held_there ∙ h.seen.of_lanes.held (get_or lanes p 0) entry_lt ∙ e))))

  module _ (moves : T f.moving) where
    one_there : One (entry_number f.nest f.stream) (computes f.nest) (length (processes f.nest)) (get_or lanes p 0)
        (get_or lanes (1024 + get_or lanes p 0) 0)
    one_there =
        h.seen.of_lanes.one (sym h.seen.flows.flow.moving_is ∙ is_true f.moving moves) (get_or lanes p 0) entry_lt

    pub one_le : get_or lanes (1024 + get_or lanes p 0) 0 ≤ 1024
    one_le = go one_there
      where
        go : {w : ℕ} → One (entry_number f.nest f.stream) (computes f.nest) (length (processes f.nest)) (get_or lanes p 0) w
            → w ≤ 1024
        go (nobody z q) = omega arith
        go (somebody q z b t r) = omega (arith, few)

    pub total_none : get_or lanes (1024 + get_or lanes p 0) 0 ≡ 0 → 0 ≡ length (pipe_elements f.nest f.stream (process_of f.nest p))
    total_none e = go one_there e
      where
        go : {w : ℕ} → One (entry_number f.nest f.stream) (computes f.nest) (length (processes f.nest)) (get_or lanes p 0) w
            → w ≡ 0 → 0 ≡ length (pipe_elements f.nest f.stream (process_of f.nest p))
        go (nobody z q) e = nobody_there q
        go (somebody q z b t r) e = absurd (omega arith)

    -- somebody on it
    pub at_one : {q : ℕ} → get_or lanes (1024 + get_or lanes p 0) 0 ≡ q → (q ≡ 0 → ⊥) → At f spans (q - 1)
    at_one e g = go one_there e g
      where
        go : {w q : ℕ}
            → One (entry_number f.nest f.stream) (computes f.nest) (length (processes f.nest)) (get_or lanes p 0) w → w ≡ q
            → (q ≡ 0 → ⊥) → At f spans (q - 1)
        go (nobody z k) e g = absurd (g (sym e ∙ z))
        go {q} (somebody i z b t r) e g =
            let j : i ≡ q - 1 = omega arith in
            subst (At f spans) j
            (record { flows = h.seen.flows; words = h.seen.of_spans; long = h.seen.long; lt = b; computing = t })

    -- its line is the same
    pub one_elements : {q : ℕ} → get_or lanes (1024 + get_or lanes p 0) 0 ≡ q → (q ≡ 0 → ⊥)
        → pipe_elements f.nest f.stream (process_of f.nest (q - 1)) ≡ pipe_elements f.nest f.stream (process_of f.nest p)
    one_elements e g = go one_there e g
      where
        go : {w q : ℕ}
            → One (entry_number f.nest f.stream) (computes f.nest) (length (processes f.nest)) (get_or lanes p 0) w → w ≡ q
            → (q ≡ 0 → ⊥) → pipe_elements f.nest f.stream (process_of f.nest (q - 1))
            ≡ pipe_elements f.nest f.stream (process_of f.nest p)
        go (nobody z k) e g = absurd (g (sym e ∙ z))
        go {q} (somebody i z b t r) e g =
            let j : i ≡ q - 1 = omega arith in
            let hi = points_inside (space f.nest) (process_of f.nest i) (get_d_in (processes f.nest) i zero2 b) in
            let o = one_number (space f.nest) (entry_is good hi).inside (entry_is good inside).inside
            (r ∙ h.seen.of_lanes.entries p h.lt) in
            ap (λ (i : ℕ). pipe_elements f.nest f.stream (process_of f.nest i)) (sym j)
            ∙ same_elements good inside hi
            (join_pipe (entry_pipe good (process_of f.nest p))
            (flip_pipe (subst (OnePipe f.nest f.stream (process_of f.nest i)) o (entry_pipe good (process_of f.nest i)))))

    pub total_one : {q r : ℕ} → get_or lanes (1024 + get_or lanes p 0) 0 ≡ q → (q ≡ 0 → ⊥)
        → r ≡ length (pipe_elements f.nest f.stream (process_of f.nest (q - 1)))
        → r ≡ length (pipe_elements f.nest f.stream (process_of f.nest p))
    total_one e g k = k ∙ ap length (one_elements e g)

  -- ---- the rank of a computing process of a stationary stream

  module _ (c : T (computes f.nest p)) (still : f.moving ≡ false) where
    running_is : get_or lanes (1024 + p) 0 ≡ held_on f.nest f.stream p (entry_number f.nest f.stream p)
    running_is = h.seen.of_lanes.running (sym h.seen.flows.flow.moving_is ∙ still) p h.lt c

    all_is : get_or lanes (2048 + get_or lanes p 0) 0
        ≡ held_on f.nest f.stream (length (processes f.nest)) (entry_number f.nest f.stream p)
    all_is =
        h.seen.of_lanes.held (get_or lanes p 0) entry_lt
        ∙ ap (held_on f.nest f.stream (length (processes f.nest))) (h.seen.of_lanes.entries p h.lt)

    pub running_lt : get_or lanes (1024 + p) 0 < get_or lanes (2048 + get_or lanes p 0) 0
    running_lt = omega (arith, running_is, all_is, running_below good p h.lt c)

    pub still_soak : (b : Bool) → b ≡ f.turned
        → soak f.nest f.stream (process_of f.nest p)
        ≡ cond b (get_or lanes (2048 + get_or lanes p 0) 0 - suc (get_or lanes (1024 + p) 0)) (get_or lanes (1024 + p) 0)
    still_soak b e =
        soak_held good p h.lt c (still_of still)
        ∙ ap (λ (x : Bool). cond x (held_on f.nest f.stream (length (processes f.nest)) (entry_number f.nest f.stream p)
        - suc (held_on f.nest f.stream p (entry_number f.nest f.stream p)))
        (held_on f.nest f.stream p (entry_number f.nest f.stream p))) (sym (e ∙ h.seen.flows.flow.turned_is))
        ∙ ap₂ (λ (u v : ℕ). cond b (u - suc v) v) (sym all_is) (sym running_is)

    -- and its drain
    pub still_drain : soak f.nest f.stream (process_of f.nest p) + 1 + drain f.nest f.stream (process_of f.nest p)
        ≡ get_or lanes (2048 + get_or lanes p 0) 0
    still_drain =
        still_total good (still_of still) (run_first good.layout (process_of f.nest p) c) ∙ sym (total_still still)

  -- ---- a row of the table

  pub at_here : (get_or spans p 0 ≡ 0 → ⊥) → At f spans p
  at_here g =
      record {
        flows = h.seen.flows;
        words = h.seen.of_spans;
        long = h.seen.long;
        lt = h.lt;
        computing = subst T (sym (computes_is h ∙ ap not (ne_eqb (get_or spans p 0) 0 g))) tt;
      }

  null : get_or spans p 0 ≡ 0 → computing f.nest (process_of f.nest p) ≡ false
  null e = computes_is h ∙ ap not (eq-eqb (get_or spans p 0) 0 e)

  pub null_soak : get_or spans p 0 ≡ 0 → length (pipe_elements f.nest f.stream (process_of f.nest p))
      ≡ row_soak f.nest f.stream (process_of f.nest p)
  null_soak e = rw (null e) refl

  pub null_drain : get_or spans p 0 ≡ 0 → 0 ≡ row_drain f.nest f.stream (process_of f.nest p)
  null_drain e = rw (null e) refl

  pub row_soak_lem : (get_or spans p 0 ≡ 0 → ⊥)
      → soak f.nest f.stream (process_of f.nest p) ≡ row_soak f.nest f.stream (process_of f.nest p)
  row_soak_lem g = sym (yes_cond (computing f.nest (process_of f.nest p)) _ _ (at_here g).computing)

  pub row_drain_lem : (get_or spans p 0 ≡ 0 → ⊥)
      → drain f.nest f.stream (process_of f.nest p) ≡ row_drain f.nest f.stream (process_of f.nest p)
  row_drain_lem g = sym (yes_cond (computing f.nest (process_of f.nest p)) _ _ (at_here g).computing)
