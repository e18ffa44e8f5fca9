-- Sums over the streams, stream by stream, and the figures. Assumes nothing.
use Rattle.std.specs.Prelude.{◌≡◌, ℕ, suc, ◌+◌, ◌*◌, ◌≤◌, ◌<◌, length, get_or, take}
use Rattle.std.proofs.Math.Path.{refl}
use Rattle.std.proofs.Common.{sym, ◌∙◌, ap, ap₂, subst, subst₂, add-one, arith, take-take, get_or-take}
use mathlib.Core.List.{List, [], ◌∷◌}
use Rattle.meaning.specs.declared.Nest.{Nest}
use Rattle.meaning.specs.declared.Stream.{Stream}
use Rattle.meaning.specs.declared.Description.{Description}
use Rattle.meaning.specs.declared.Figures.{Figures}
use Rattle.meaning.specs.Limits.{gauge_limits, process_words_most, end_words_most}
use Rattle.meaning.specs.Lists.{total}
use Rattle.meaning.specs.Loops.{instances}
use Rattle.meaning.specs.Space.{processes}
use Rattle.meaning.specs.Streams.{hop, elements}
use Rattle.meaning.specs.Pipes.{entries}
use Rattle.meaning.specs.Description.{description_of, streams_of, no_stream}
use Rattle.meaning.specs.Body.{stream_start}
use Rattle.meaning.specs.Calls.{length_of}
use Rattle.meaning.specs.Accept.{refusal_of, figures}
use Rattle.numbering.specs.Ranges.{Bounded}
use Rattle.lists.specs.Sums.{total_next}
use Rattle.lists.specs.Tests.{filter_fewer}
use Rattle.survey.specs.Accepted.{accepted_within}
use Rattle.survey.specs.InRange.{nest_bounded}
use Rattle.survey.specs.StateWords.{end_words_lem}
use Rattle.elements.specs.Counts.{Few, total_most}
use Rattle.elements.specs.Few.{accepted_few}
use Rattle.survey.specs.declared.Flow.{Flow}
use Rattle.lanes.specs.All.{LanesOf, lanes_of}
use Rattle.lanes.specs.Flow.{Laid, LanesIn, Seen, Flowing, flowing_at}
use Rattle.survey.specs.declared.Survey.{Survey}
use Rattle.survey.specs.Surveys.{no_flow, streams_used}
use Rattle.survey.specs.OfBytes.{flow_is}
use Rattle.layout.specs.Spans.{Spans}
use Rattle.lanes.specs.Accepted.{laid_stream}
use Rattle.pipe_parts.specs.Starts.{entering}
use Rattle.figures.specs.declared.Share.{Share}
use Rattle.figures.specs.declared.Sums.{Sums}
use Rattle.figures.specs.declared.Totals.{Totals}
use Rattle.figures.specs.Sums.{steps_on, sums_over, Under, under}

-- ---- one stream

-- what the sums are lent
pub record Summing (f : Flow) (count : ℕ) (spans lanes : List ℕ) : Type 0 where
  pub seen : Seen f spans lanes
  pub counted : count ≡ length (processes f.nest)
  pub small : Under f.nest f.stream

abbrev pub share_of : Nest → Stream → Share
share_of n s = record { hop = hop n s; pipes = length (entries n s); steps = total (steps_on n s) (entries n s) }

pub record Small (s : Share) : Type 0 where
  pub hop : s.hop ≤ gauge_limits.hop
  pub pipes : s.pipes ≤ 1024
  pub steps : s.steps ≤ 8396800

-- a stream whose sums are small
pub record Sharing (n : Nest) (s : Stream) : Type 0 where
  pub laid : Laid n s
  pub hop : hop n s ≤ gauge_limits.hop
  pub elements : length (elements n s) ≤ 4096

pub sharing_under : {n : Nest} {s : Stream} → Sharing n s → Under n s
sharing_under h = under h.laid.accepted h.laid.processes h.elements

pub share_small : {n : Nest} {s : Stream} → Sharing n s → Small (share_of n s)
share_small {n} {s} h =
    record {
      hop = h.hop;
      pipes = omega (arith, filter_fewer (entering n s) (processes n), h.laid.processes);
      steps = (sharing_under h).most;
    }

-- ---- all streams

abbrev pub join : Totals → Share → Totals
join t s =
    record {
      words = t.words + (4 + s.hop);
      pipes = t.pipes + s.pipes;
      ends = t.ends + s.pipes * (2 + s.hop);
      steps = t.steps + s.steps;
    }

-- small enough for a further stream
pub record Room (t : Totals) : Type 0 where
  pub words : 1 + t.words ≤ process_words_most
  pub pipes : t.pipes ≤ 6144
  pub ends : t.ends ≤ 6 * end_words_most
  pub steps : t.steps ≤ 50380800

-- the sums over the first streams
abbrev pub totals_over : Nest → List Stream → Totals
totals_over n ss =
    record {
      words = total (λ s. 4 + hop n s) ss;
      pipes = total (λ s. length (entries n s)) ss;
      ends = total (λ s. length (entries n s) * (2 + hop n s)) ss;
      steps = total (λ s. total (steps_on n s) (entries n s)) ss;
    }

abbrev pub totals_of : Description → ℕ → Totals
totals_of d i = totals_over d.nest (take i (streams_of d))

-- an accepted description, as the functions ask
pub record Described (d : Description) : Type 0 where
  pub nest : Bounded d.nest
  pub instances : length (instances d.nest) ≤ 4096
  pub processes : length (processes d.nest) ≤ 1024
  pub few : Few d
  pub in_use : length (streams_of d) ≡ d.sizes.streams
  pub streams : (i : ℕ) → i < length (streams_of d) → Sharing d.nest (get_or (streams_of d) i no_stream)

-- the lanes of its streams
abbrev pub AllLanes : Description → List ℕ → Type 0
AllLanes d = LanesOf d.nest (streams_of d) d.sizes.streams

pub described : (s : List ℕ) → refusal_of gauge_limits s ≡ 0 → Described (description_of s)
described s e =
    let a = accepted_within gauge_limits s e in
    let f = accepted_few s e in
    record {
      nest = nest_bounded a.0.ranged.nest;
      instances = a.1.instances;
      processes = a.1.processes;
      few = f;
      in_use = streams_used s;
      streams = λ i h. record { laid = laid_stream s e i h; hop = (a.1.stream i h).hop (omega arith); elements = f.few i h };
    }

-- ---- where a stream's elements begin

pub start_most : (d : Description) → Described d → (i : ℕ) → i ≤ d.sizes.streams → stream_start d.nest (streams_of d) i ≤ i * 4096
start_most d h i l =
    total_most (λ s. length (elements d.nest s)) (streams_of d) i 4096 no_stream (omega (arith, h.in_use))
    (λ j k. h.few.few j (omega (arith, h.in_use)))

pub start_all : (d : Description) (i : ℕ) → i ≡ d.sizes.streams → stream_start d.nest (streams_of d) i ≡ length_of d
start_all d i e =
    ap (stream_start d.nest (streams_of d)) e
    ∙ ap (total (λ s. length (elements d.nest s))) (take-take d.sizes.streams d.sizes.streams d.streams (omega arith))

-- the elements are few
pub elements_most_lem : {d : Description} → Described d → length_of d ≤ 24576
elements_most_lem {d} h =
    omega
    (arith, start_all d d.sizes.streams refl, start_most d h d.sizes.streams (omega arith), h.few.ranged.sized.most_streams)

-- ---- the figures

same_share : {a b : Share} → a.hop ≡ b.hop → a.pipes ≡ b.pipes → a.steps ≡ b.steps → a ≡ b
same_share e f g = λ i. record { hop = e i; pipes = f i; steps = g i }

-- a stream's part, by its flow
pub share_is : (n : Nest) (s : Stream) {r : Share} {t : Sums} → t ≡ sums_over n s (entries n s)
    → r.hop ≡ hop n s → r.pipes ≡ t.pipes → r.steps ≡ t.steps → r ≡ share_of n s
share_is n s e h p q = same_share h (p ∙ ap (λ (t : Sums). t.pipes) e) (q ∙ ap (λ (t : Sums). t.steps) e)

abbrev pub no_totals : Totals
no_totals = record { words = 0; pipes = 0; ends = 0; steps = 0 }

pub same_totals : {a b : Totals} → a.words ≡ b.words → a.pipes ≡ b.pipes → a.ends ≡ b.ends → a.steps ≡ b.steps → a ≡ b
same_totals e f g h = λ i. record { words = e i; pipes = f i; ends = g i; steps = h i }

module _ (d : Description) where
  pub totals_zero : no_totals ≡ totals_of d 0
  unfolding total
  totals_zero = go (streams_of d)
    where
      go : (l : List Stream) → no_totals ≡ totals_over d.nest (take 0 l)
      go [] = refl
      go (x ∷ l) = refl

  module _ (h : Described d) where
    pub stream_is : (i : ℕ) {s : Stream} → i < d.sizes.streams → s ≡ get_or d.streams i no_stream → s ≡ get_or (streams_of d) i no_stream
    stream_is i l e = e ∙ sym (get_or-take d.sizes.streams d.streams i no_stream l)

    pub stream_sharing : (i : ℕ) {s : Stream} → i < d.sizes.streams → s ≡ get_or d.streams i no_stream → Sharing d.nest s
    stream_sharing i l e = subst (Sharing d.nest) (sym (stream_is i l e)) (h.streams i (omega (arith, h.in_use)))

    pub totals_next : (i : ℕ) {s : Stream} → i < d.sizes.streams → s ≡ get_or d.streams i no_stream
        → join (totals_of d i) (share_of d.nest s) ≡ totals_of d (i + 1)
    totals_next i {s} l e =
        ap (λ (s : Stream). join (totals_of d i) (share_of d.nest s)) (stream_is i l e)
        ∙ sym (ap (totals_of d) (add-one i)
        ∙ same_totals (on (λ s. 4 + hop d.nest s)) (on (λ s. length (entries d.nest s)))
        (on (λ s. length (entries d.nest s) * (2 + hop d.nest s))) (on (λ s. total (steps_on d.nest s) (entries d.nest s))))
      where
        on : (f : Stream → ℕ)
            → total f (take (suc i) (streams_of d)) ≡ total f (take i (streams_of d)) + f (get_or (streams_of d) i no_stream)
        on f = total_next f (streams_of d) i no_stream (omega (arith, h.in_use))

    pub totals_room : (i : ℕ) → i ≤ d.sizes.streams → Room (totals_of d i)
    totals_room i l =
        record {
          words = omega (arith, six, most (λ s. 4 + hop d.nest s) (4 + gauge_limits.hop) (λ j k. omega (arith, (small j k).hop)));
          pipes = omega (arith, six, most (λ s. length (entries d.nest s)) 1024 (λ j k. (small j k).pipes));
          ends = omega (
            arith,
            six,
            most (λ s. length (entries d.nest s) * (2 + hop d.nest s)) end_words_most
                (λ j k. end_words_lem (small j k).pipes (small j k).hop),
          );
          steps = omega (arith, six, most (λ s. total (steps_on d.nest s) (entries d.nest s)) 8396800 (λ j k. (small j k).steps));
        }
      where
        six : d.sizes.streams ≤ 6
        six = h.few.ranged.sized.most_streams

        small : (j : ℕ) → j < i → Small (share_of d.nest (get_or (streams_of d) j no_stream))
        small j k = share_small (h.streams j (omega (arith, h.in_use)))

        most : (f : Stream → ℕ) (m : ℕ) → ((j : ℕ) → j < i → f (get_or (streams_of d) j no_stream) ≤ m)
            → total f (take i (streams_of d)) ≤ i * m
        most f m g = total_most f (streams_of d) i m no_stream (omega (arith, h.in_use)) g

    pub totals_all : totals_of d d.sizes.streams ≡ totals_over d.nest (streams_of d)
    totals_all =
        ap (λ (l : List Stream). totals_over d.nest l) (take-take d.sizes.streams d.sizes.streams d.streams (omega arith))

-- ---- the figures

same_figures : {a b : Figures} → a.processes ≡ b.processes → a.instances ≡ b.instances → a.elements ≡ b.elements → a.pipes ≡ b.pipes
    → a.words ≡ b.words → a.steps ≡ b.steps → a ≡ b
same_figures e f g h k l =
    λ i. record { processes = e i; instances = f i; elements = g i; pipes = h i; words = k i; steps = l i }

pub figures_are : {d : Description} → Described d → {r : Figures} {t : Totals} → t ≡ totals_of d d.sizes.streams
    → r.processes ≡ length (processes d.nest) → r.instances ≡ length (instances d.nest) → r.elements ≡ length_of d
    → r.pipes ≡ t.pipes → r.words ≡ r.processes * (1 + t.words) + t.ends → r.steps ≡ r.instances + t.steps → r ≡ figures d
figures_are {d} h {r} {t} e p i l q w s =
    let g = e ∙ totals_all d h in
    same_figures p i l (q ∙ ap (λ (t : Totals). t.pipes) g)
    (w ∙ ap₂ (λ (p : ℕ) (t : Totals). p * (1 + t.words) + t.ends) p g)
    (s ∙ ap₂ (λ (i : ℕ) (t : Totals). i + t.steps) i g)

-- ---- stream i of a survey

module _ (v : Survey) (h : Described v.description) (i : ℕ) {f : Flow} (l : i < v.description.sizes.streams)
    (e : f ≡ get_or v.flows i no_flow) where
  sharing : Sharing v.description.nest (get_or v.description.streams i no_stream)
  sharing = stream_sharing v.description h i l refl

  pub sharing_at : Sharing f.nest f.stream
  sharing_at = let k = flow_is v i l e in subst₂ Sharing (sym k.nest_is) (sym k.stream_is) sharing

  pub share_at : {spans : List ℕ} → Spans v.description.nest spans → 3072 ≤ length spans → Flowing f v.loops.processes spans
  share_at of long = flowing_at v i l e sharing.laid of long

  -- its part of the totals, and its lanes
  pub share_next : {t : Totals} {r : Share} → t ≡ totals_of v.description i → r ≡ share_of f.nest f.stream
      → join t r ≡ totals_of v.description (i + 1)
  share_next a b =
      let k = flow_is v i l e in
      ap₂ join a (b ∙ ap₂ share_of k.nest_is k.stream_is) ∙ totals_next v.description h i l refl

  pub lanes_at : {w : List ℕ} → LanesIn f.nest f.stream w
      → LanesIn v.description.nest (get_or (streams_of v.description) i no_stream) w
  lanes_at a =
      let k = flow_is v i l e in lanes_of k.nest_is (k.stream_is ∙ stream_is v.description h i l refl) a
