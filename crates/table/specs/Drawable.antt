-- What a refusal of 0 leaves for the columns, and the refusal of the call by its tests. Assumes nothing.
use Rattle.std.specs.Prelude.{◌≡◌, refl, Bool, true, false, cond, List, [], ℕ, ◌≤◌, ◌<◌, eqb, length, get_or}
use Rattle.std.proofs.Common.{sym, ◌∙◌, ap, subst, subst₂, arith, get_or-take, eqb-true, eq-eqb, ne_eqb, ltb-false}
use Rattle.std.proofs.lemmas.Bool.{eqb-false}
use Rattle.meaning.specs.declared.Nest.{Nest}
use Rattle.meaning.specs.declared.Stream.{Stream}
use Rattle.meaning.specs.declared.Description.{Description}
use Rattle.meaning.specs.declared.Limits.{Limits}
use Rattle.meaning.specs.Limits.{gauge_limits}
use Rattle.meaning.specs.Tests.{Test, refusal}
use Rattle.meaning.specs.Space.{processes}
use Rattle.meaning.specs.Description.{description_of, streams_of, no_stream}
use Rattle.meaning.specs.Accept.{refusal_of}
use Rattle.decode.specs.Refusals.{passed}
use Rattle.declines.specs.Tests.{table_lengths}
use Rattle.numbering.specs.Ranges.{Bounded}
use Rattle.survey.specs.declared.Flow.{Flow}
use Rattle.survey.specs.declared.Survey.{Survey}
use Rattle.survey.specs.InRange.{nest_bounded}
use Rattle.survey.specs.Accepted.{accepted_within}
use Rattle.survey.specs.Surveys.{no_flow}
use Rattle.survey.specs.OfBytes.{SurveyOf, flow_is}
use Rattle.layout.specs.Spans.{Spans}
use Rattle.lanes.specs.Flow.{Laid, Flowing, flowing_at}
use Rattle.lanes.specs.Accepted.{laid_stream}
use Rattle.pipes.specs.Passed.{Passed}
use Rattle.process_row.specs.declared.Shape.{Shape}
use Rattle.table.specs.Columns.{refused_for, Drawn, Columns}

pub record Drawable (d : Description) : Type 0 where
  pub bounded : Bounded d.nest
  pub processes : length (processes d.nest) ≤ 1024
  pub most : d.sizes.streams ≤ 6
  pub laid : (i : ℕ) → i < length (streams_of d) → Laid d.nest (get_or (streams_of d) i no_stream)

-- a refusal of 0
pub drawable : {s : List ℕ} {v : Survey} → SurveyOf s v → refusal_of gauge_limits s ≡ 0 → Drawable v.description
drawable {s} h e =
    let a = accepted_within gauge_limits s e in
    subst Drawable (sym h.description_is)
    record {
      bounded = nest_bounded a.0.ranged.nest;
      processes = a.1.processes;
      most = a.0.ranged.sized.most_streams;
      laid = laid_stream s e;
    }

-- stream i of a survey
module _ (v : Survey) (g : Drawable v.description) (i : ℕ) {f : Flow} (l : i < v.description.sizes.streams)
    (e : f ≡ get_or v.flows i no_flow) where
  read : get_or (streams_of v.description) i no_stream ≡ get_or v.description.streams i no_stream
  read = get_or-take v.description.sizes.streams v.description.streams i no_stream l

  pub flow_drawable : {spans : List ℕ} → Spans v.description.nest spans → 3072 ≤ length spans → Flowing f v.loops.processes spans
  flow_drawable = flowing_at v i l e (subst (Laid v.description.nest) read (g.laid i (omega (arith, v.surveyed.in_use))))

  pub flow_passed : {w : List ℕ} → Passed f.nest f.stream w
      → Passed v.description.nest (get_or (streams_of v.description) i no_stream) w
  flow_passed {w} =
      let k = flow_is v i l e in subst₂ (λ (n : Nest) (s : Stream). Passed n s w) k.nest_is (k.stream_is ∙ sym read)

-- ---- the refusal of the call

module _ (l : Limits) (s : List ℕ) (room : ℕ) where
  abbrev own : List Test
  own = table_lengths (length (processes (description_of s).nest)) room

  pub refused_first : {r : ℕ} → r ≡ refusal_of l s → (r ≡ 0 → ⊥) → r ≡ refused_for l s room
  refused_first {r} e h =
      e ∙ ap (λ (b : Bool). cond b (refusal own) (refusal_of l s)) (sym (ne_eqb (refusal_of l s) 0 (λ z. h (e ∙ z))))

  then_own : refusal_of l s ≡ 0 → refusal own ≡ refused_for l s room
  then_own e = ap (λ (b : Bool). cond b (refusal own) (refusal_of l s)) (sym (eq-eqb (refusal_of l s) 0 e))

  pub refused_own : {r n : ℕ} → refusal_of l s ≡ 0 → n ≡ length (processes (description_of s).nest) → r ≡ refusal (table_lengths n room)
      → r ≡ refused_for l s room
  refused_own e n h = h ∙ ap (λ (n : ℕ). refusal (table_lengths n room)) n ∙ then_own e

  -- a refusal of 0
  pub none_refused : refused_for l s room ≡ 0 → (refusal_of l s ≡ 0) × (length (processes (description_of s).nest) ≤ room)
  none_refused e = go (eqb (refusal_of l s) 0) refl e
    where
      go : (b : Bool) → eqb (refusal_of l s) 0 ≡ b → cond b (refusal own) (refusal_of l s) ≡ 0
          → (refusal_of l s ≡ 0) × (length (processes (description_of s).nest) ≤ room)
      go true f z = (eqb-true _ 0 f, ltb-false room _ (passed 18 _ [] (λ g. omega arith) z).0)
      go false f z = absurd (eqb-false _ 0 f z)

-- ---- the columns of the call

pub columns_drawn : (l : Limits) (s : List ℕ) {w : List ℕ} (room : ℕ) {d : Description} {h : Shape} → refused_for l s room ≡ 0
    → d ≡ description_of s → Drawn d h w → Columns (description_of s) room h w
columns_drawn l s {w} room {d} {h} z f g =
    record {
      enough = omega (arith, g.shaped.rows, ap (λ (d : Description). length (processes d.nest)) f, (none_refused l s room z).1);
      drawn = subst (λ (d : Description). Drawn d h w) f g;
    }
