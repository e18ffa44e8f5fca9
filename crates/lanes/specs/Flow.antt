-- What is asked of a stream, and what is known of it once and for all its processes. Assumes nothing.
use Rattle.std.specs.Prelude.{◌≡◌, not, List, ℕ, ◌+◌, ◌≤◌, ◌<◌, length, get_or, ℤ, pos, neg_ℤ, ◌+ℤ◌, ◌-ℤ◌, ◌*ℤ◌, ◌≤ℤ◌}
use Rattle.std.proofs.Common.{sym, ◌∙◌, ap, ap₂, subst, subst₂, arith}
use Rattle.integers.specs.Differences.{Abs, zrules}
use Rattle.integers.specs.Bounds.{Abs-wider, Abs-neg}
use Rattle.integers.specs.Ring.{ring, quotes}
use Rattle.integers.proofs.Ring.{solve}
use Rattle.integers.specs.Vectors.{zero2, neg2, shift2}
use Rattle.integers.specs.declared.V2.{V2}
use Rattle.meaning.specs.declared.Nest.{Nest}
use Rattle.meaning.specs.declared.Stream.{Stream}
use Rattle.meaning.specs.Loops.{instances}
use Rattle.meaning.specs.Space.{Box, points, row_index, space, processes}
use Rattle.meaning.specs.Streams.{stationary, move}
use Rattle.meaning.specs.Pipes.{reach}
use Rattle.meaning.specs.Description.{no_stream}
use Rattle.meaning.specs.Points.{Inside}
use Rattle.geometry.specs.Numbers.{shift_neg, neg_not}
use Rattle.geometry.specs.Places.{get_d_in}
use Rattle.geometry.specs.Boxes.{points_inside}
use Rattle.geometry.specs.RowOrder.{row_lt, row_number}
use Rattle.geometry.specs.Pipes.{Accepted}
use Rattle.geometry.specs.Elements.{entry_of, entry_is}
use Rattle.vectors.specs.Within.{Within2}
use Rattle.survey.specs.InRange.{InRange}
use Rattle.survey.specs.Surveys.{FlowOf, no_flow}
use Rattle.survey.specs.OfBytes.{flow_is}
use Rattle.numbering.specs.Ranges.{between_apart}
use Rattle.numbering.specs.Extents.{Spanning, boxed, box_spanning}
use Rattle.counting.specs.Forms.{weigh, stride_small}
use Rattle.layout.specs.Rays.{Going}
use Rattle.layout.specs.Spans.{process_of, Spans}
use Rattle.survey.specs.declared.Flow.{Flow}
use Rattle.survey.specs.declared.Survey.{Survey}
use Rattle.lanes.specs.Along.{row_on}
use Rattle.lanes.specs.Lanes.{Lanes}
use Rattle.lanes.specs.Held.{entry_number, computes}

-- a vector turned round is as small
pub neg_small : {n : ℕ} {v : V2} → Within2 n v → Within2 n (neg2 v)
neg_small h = record { first = Abs-neg h.first; second = Abs-neg h.second }

pub wider2 : {v : V2} → Within2 1 v → Within2 4800 v
wider2 h = record { first = Abs-wider tt h.first; second = Abs-wider tt h.second }

-- a stream of an accepted description: words in range, few instances and processes, a small move, and what the geometry asks
pub record Laid (n : Nest) (s : Stream) : Type 0 where
  pub in_range_lem : InRange n s
  pub instances : length (instances n) ≤ 4096
  pub processes : length (processes n) ≤ 1024
  pub small : Within2 1 (move n s)
  pub accepted : Accepted n s

pub record Flows (f : Flow) : Type 0 where
  pub laid : Laid f.nest f.stream
  pub flow : FlowOf f.nest f.stream f

-- the flow of a stream that is laid out
pub flows : {n : Nest} {s : Stream} {f : Flow} → Laid n s → FlowOf n s f → Flows f
flows {f = f} l h =
    record {
      laid = subst₂ Laid (sym h.nest_is) (sym h.stream_is) l;
      flow = subst₂ (λ (n : Nest) (s : Stream). FlowOf n s f) (sym h.nest_is) (sym h.stream_is) h;
    }

-- the components of its move are at most 1 either way, and stay so as it is turned round
back_small : {f : Flow} → Flows f → Within2 1 f.back
back_small h = subst (Within2 1) (sym h.flow.back_is) (neg_small h.laid.small)

pub step_small : {f : Flow} → Flows f → Abs f.step 1538
step_small h =
    subst (λ (k : ℤ). Abs k 1538) (sym h.flow.step_is)
    (stride_small (box_spanning h.laid.in_range_lem.nest h.laid.in_range_lem.nest.place) h.laid.small)

-- room for a process and an entry in the lanes
pub record Visitable (l : List ℕ) (p e : ℕ) : Type 0 where
  pub words : length l ≡ 3072
  pub process : p < 1024
  pub entry : e < 1024
  pub held : get_or l (2048 + e) 0 ≤ 1024

-- words that hold the lanes of a stream
abbrev pub LanesIn : Nest → Stream → List ℕ → Type 0
LanesIn n s = Lanes (entry_number n s) (computes n) (not (stationary n s)) (length (processes n)) (length (processes n))

-- what the later functions look at: the words of the processes, and the lanes of all of them
pub record Seen (f : Flow) (spans lanes : List ℕ) : Type 0 where
  pub flows : Flows f
  pub of_spans : Spans f.nest spans
  pub long : 3072 ≤ length spans
  pub of_lanes : LanesIn f.nest f.stream lanes

-- a stream that is laid out, with the words of its processes
pub record Flowing (f : Flow) (count : ℕ) (spans : List ℕ) : Type 0 where
  pub flows : Flows f
  pub counted : count ≡ length (processes f.nest)
  pub of_spans : Spans f.nest spans
  pub long : 3072 ≤ length spans

-- what filling the lanes is lent
pub record Fillable (f : Flow) (count : ℕ) (spans lanes : List ℕ) : Type 0 where
  pub flowing : Flowing f count spans
  pub words : length lanes ≡ 3072
  pub zeros : (i : ℕ) → i < 3072 → get_or lanes i 0 ≡ 0

module _ {f : Flow} (h : Flows f) where
  pub spanning : Spanning (boxed f.space)
  spanning = subst Spanning (sym h.flow.space_is) (box_spanning h.laid.in_range_lem.nest h.laid.in_range_lem.nest.place)

  pub point_lt : {p : ℕ} → p < length (processes f.nest) → p < length (points (boxed f.space))
  point_lt {p} l = subst (λ (k : Box). p < length (points k)) (sym h.flow.space_is) l

  module _ {p : ℕ} (lt : p < length (processes f.nest)) {y : V2} (ey : y ≡ get_or (points (boxed f.space)) p zero2) where
    pub point_is : y ≡ process_of f.nest p
    point_is = ey ∙ ap (λ (k : Box). get_or (points k) p zero2) h.flow.space_is

    pub inside_space : Inside (space f.nest) y
    inside_space = subst (Inside (space f.nest)) (sym point_is)
        (points_inside (space f.nest) (process_of f.nest p) (get_d_in (processes f.nest) p zero2 lt))

    inside_box : Inside (boxed f.space) y
    inside_box = subst (λ (k : Box). Inside k y) (sym h.flow.space_is) inside_space

    pub going_back : Going (boxed f.space) f.back y
    going_back =
        record {
          box = spanning;
          inside = inside_box;
          by = wider2 (back_small h);
          on = subst (λ (d : V2). d ≡ zero2 → ⊥) (sym h.flow.back_is) (neg_not h.laid.accepted.goes);
        }

    pub going_on : Going (boxed f.space) f.way y
    going_on =
        record {
          box = spanning;
          inside = inside_box;
          by = subst (Within2 4800) (sym h.flow.way_is) (wider2 h.laid.small);
          on = subst (λ (d : V2). d ≡ zero2 → ⊥) (sym h.flow.way_is) h.laid.accepted.goes;
        }

    -- how far the line goes on from it
    pub reach_on : {k : ℕ} → k ≡ reach (boxed f.space) f.way y
        → k ≡ reach (space f.nest) (move f.nest f.stream) (process_of f.nest p)
    reach_on e =
        e ∙ ap₂ (λ (b : Box) (d : V2). reach b d y) h.flow.space_is h.flow.way_is
        ∙ ap (reach (space f.nest) (move f.nest f.stream)) point_is

    pub point_small : Within2 768 y
    point_small =
        record {
          first = (between_apart spanning.first inside_box.ina).high;
          second = (between_apart spanning.second inside_box.inb).high;
        }

    pub process_few : p ≤ 1024
    process_few = omega (arith, h.laid.processes)

    module _ {k : ℕ} (ek : k ≡ reach (boxed f.space) f.back y) where
      abbrev entry : V2
      entry = shift2 y (pos k) f.back

      entry_eq : entry ≡ entry_of f.nest f.stream (process_of f.nest p)
      entry_eq =
          ap₂ (λ (i : ℕ) (d : V2). shift2 y (pos i) d)
          (ek ∙ ap₂ (λ (b : Box) (d : V2). reach b d y) h.flow.space_is h.flow.back_is) h.flow.back_is
          ∙ shift_neg y (move f.nest f.stream) (pos _) ∙ ap (entry_of f.nest f.stream) point_is

      entry_inside : Inside (space f.nest) entry
      entry_inside =
          subst (Inside (space f.nest)) (sym entry_eq)
          (entry_is h.laid.accepted (subst (Inside (space f.nest)) point_is inside_space)).inside

      -- it lies k steps before p
      pub entry_back : pos p -ℤ pos k *ℤ f.step ≡ pos (row_index (space f.nest) entry)
      entry_back =
          ap₂ (λ (a b : ℤ). a -ℤ pos k *ℤ b) (sym here) h.flow.step_is
          ∙ sym (row_on (space f.nest) f.back (pos k) inside_space entry_inside
          ∙ ap (λ (d : V2). pos (row_index (space f.nest) y) +ℤ pos k *ℤ weigh (space f.nest) d.a d.b) h.flow.back_is
          ∙ turned_round (pos (row_index (space f.nest) y)) (pos k) (pos _) (move f.nest f.stream).a
          (move f.nest f.stream).b)
        where
          here : pos (row_index (space f.nest) y) ≡ pos p
          here = ap pos (ap (row_index (space f.nest)) point_is ∙ row_number (space f.nest) p zero2 lt)

          turned_round : (r j c x z : ℤ) → r +ℤ j *ℤ (c *ℤ neg_ℤ x +ℤ neg_ℤ z) ≡ r -ℤ j *ℤ (c *ℤ x +ℤ z)
          turned_round = ring 0 5 _ λ ρ. simp quotes (solve ρ _ _ tt)

      pub entry_some : pos 0 ≤ℤ (pos p -ℤ pos k *ℤ f.step)
      entry_some = subst (λ (z : ℤ). pos 0 ≤ℤ z) (sym entry_back) (omega (arith, zrules))

      pub entry_number_lem : {r : ℕ} → r ≡ row_index (space f.nest) entry
          → (r ≡ entry_number f.nest f.stream p) × (r < length (processes f.nest))
      entry_number_lem e =
          (e ∙ ap (row_index (space f.nest)) entry_eq, omega (arith, e, row_lt (space f.nest) entry entry_inside))

-- stream i of a survey
pub flowing_at : (v : Survey) (i : ℕ) {f : Flow} {spans : List ℕ} → i < v.description.sizes.streams
    → f ≡ get_or v.flows i no_flow → Laid v.description.nest (get_or v.description.streams i no_stream)
    → Spans v.description.nest spans → 3072 ≤ length spans → Flowing f v.loops.processes spans
flowing_at v i {f} {spans} l e laid of long =
    let k = flow_is v i l e in
    record {
      flows = flows laid k;
      counted = v.surveyed.ground.processes_is ∙ ap (λ (n : Nest). length (processes n)) (sym k.nest_is);
      of_spans = subst (λ (n : Nest). Spans n spans) (sym k.nest_is) of;
      long = long;
    }
