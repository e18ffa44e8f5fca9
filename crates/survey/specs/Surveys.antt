-- What a survey holds: of the loops, of a stream, and of a description. Assumes nothing.
use Rattle.std.specs.Prelude.{◌≡◌, false, not, List, map, ℕ, ◌-◌, ◌<◌, pos, length, get_or, replicate}
use Rattle.std.proofs.Common.{sym, subst, subst₂, arith, length-append, length-take-le}
use Rattle.std.proofs.lemmas.List.{length-map}
use Rattle.integers.specs.Vectors.{zero2, zero3, neg2}
use Rattle.meaning.specs.declared.Nest.{Nest}
use Rattle.meaning.specs.declared.Stream.{Stream}
use Rattle.meaning.specs.declared.Description.{Description}
use Rattle.meaning.specs.Lists.{numbers}
use Rattle.meaning.specs.Loops.{instances, increment, divisor}
use Rattle.meaning.specs.Space.{box_of, space, processes}
use Rattle.meaning.specs.Streams.{line, stationary, hop, move, pass}
use Rattle.meaning.specs.Pipes.{backward}
use Rattle.meaning.specs.Description.{sizes_of, stream_of, no_stream, description_of, streams_of}
use Rattle.lists.specs.Members.{numbers_length}
use Rattle.vectors.specs.Within.{Within, Within2}
use Rattle.decode.specs.Ranged.{Ranged, Decoded}
use Rattle.numbering.specs.declared.Extent.{Extent}
use Rattle.numbering.specs.Extents.{Spanning, boxed, box_spanning}
use Rattle.counting.specs.Forms.{weigh}
use Rattle.survey.specs.InRange.{InRange}
use Rattle.survey.specs.declared.Ground.{Ground}
use Rattle.survey.specs.declared.Flow.{Flow}

-- of the loops
pub record GroundOf (n : Nest) (g : Ground) : Type 0 where
  pub instances_is : g.instances ≡ length (instances n)
  pub processes_is : g.processes ≡ length (processes n)
  pub increment_is : g.increment ≡ increment n
  pub increment_small : Within 200 g.increment
  pub divisor_is : g.divisor ≡ divisor n.place
  pub space_is : boxed g.space ≡ space n

-- of a stream whose words are in range, accepted or not
pub record FlowOf (n : Nest) (s : Stream) (f : Flow) : Type 0 where
  pub nest_is : f.nest ≡ n
  pub stream_is : f.stream ≡ s
  pub line_is : f.line ≡ line n s
  pub line_small : Within 200 f.line
  pub divisor_is : f.divisor ≡ divisor s.map
  pub hop_is : f.hop ≡ hop n s
  pub space_is : boxed f.space ≡ space n
  pub elements_is : boxed f.elements ≡ box_of n s.map
  pub way_is : f.way ≡ move n s
  pub way_small : Within2 4800 f.way
  pub back_is : f.back ≡ neg2 (move n s)
  pub pass_is : f.pass ≡ pass n s
  pub pass_small : Within2 4800 f.pass
  pub against_is : f.against ≡ neg2 (pass n s)
  pub against_small : Within2 4800 f.against
  pub step_is : f.step ≡ weigh (space n) (move n s).a (move n s).b
  pub moving_is : f.moving ≡ not (stationary n s)
  pub turned_is : f.turned ≡ backward (move n s)

-- a flow by its own nest and stream
pub record Charted (f : Flow) : Type 0 where
  pub in_range_lem : InRange f.nest f.stream
  pub flow : FlowOf f.nest f.stream f

pub charted : {n : Nest} {s : Stream} {f : Flow} → InRange n s → FlowOf n s f → Charted f
charted {f = f} r h =
    record {
      in_range_lem = subst₂ InRange (sym h.nest_is) (sym h.stream_is) r;
      flow = subst₂ (λ (n : Nest) (s : Stream). FlowOf n s f) (sym h.nest_is) (sym h.stream_is) h;
    }

pub spans : {f : Flow} → Charted f → Spanning (boxed f.elements)
spans h = subst Spanning (sym h.flow.elements_is) (box_spanning h.in_range_lem.nest h.in_range_lem.map)

-- what stands past the streams in use
abbrev no_point : Extent
no_point = record { lo = zero2; hi = zero2 }

abbrev pub no_flow : Flow
no_flow =
    record {
      nest = record { left = zero3; right = zero3; direction = zero3; step = zero3; place = record { top = zero3; low = zero3 } };
      stream = no_stream;
      line = zero3;
      divisor = 0;
      hop = 0;
      space = no_point;
      elements = no_point;
      way = zero2;
      back = zero2;
      pass = zero2;
      against = zero2;
      step = pos 0;
      moving = false;
      turned = false;
    }

-- of the first streams of a description, and of all
abbrev pub FirstFlows : Description → ℕ → List Flow → Type 0
FirstFlows d m flows = (i : ℕ) → i < m → FlowOf d.nest (get_or d.streams i no_stream) (get_or flows i no_flow)

abbrev pub FlowsOf : Description → List Flow → Type 0
FlowsOf d = FirstFlows d d.sizes.streams

-- of a description, by its parts
pub record IsSurvey (d : Description) (g : Ground) (flows : List Flow) : Type 0 where
  pub in_use : length (streams_of d) ≡ d.sizes.streams
  pub ground : GroundOf d.nest g
  pub flow : FlowsOf d flows

-- as many streams as its sizes say
pub streams_used : (s : List ℕ) → length (streams_of (description_of s)) ≡ (description_of s).sizes.streams
unfolding description_of
streams_used s =
    let z = sizes_of s in
    let l = map (stream_of s z) (numbers z.streams) in
    length-take-le z.streams _
    (omega (
      arith,
      length-append l (replicate (6 - z.streams) no_stream),
      length-map (numbers z.streams) (stream_of s z),
      numbers_length 0 z.streams,
    ))

-- what is decoded may be surveyed
pub may_survey : {s : List ℕ} {d : Description} → Decoded s → d ≡ description_of s
    → Ranged d × (length (streams_of d) ≡ d.sizes.streams)
may_survey {s} h e = (
  subst Ranged (sym e) h.ranged,
  subst (λ (d : Description). length (streams_of d) ≡ d.sizes.streams) (sym e) (streams_used s),
)
