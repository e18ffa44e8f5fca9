-- What a refusal of 0 leaves of the sizes: no more instances and processes than the limits, and of each stream words in range, a move of
-- small components and a hop within its limit. What it leaves of the geometry is in geometry's `laid`. Assumes nothing.
use Rattle.std.specs.Prelude.{◌≡◌, refl, Bool, true, false, not, cond, ◌&&◌, List, [], ◌∷◌, ℕ, zero, suc, ◌+◌, ◌≤◌, ◌<◌, T, ltb, length}
use Rattle.std.specs.Prelude.{get_or, ℤ, nat_abs}
use Rattle.std.proofs.Common.{sym, ◌∙◌, ap, ap₂, subst, zero-add, arith, leb→le, length-take, get_or-take, ltb-false, le-leb}
use Rattle.std.proofs.lemmas.Bool.{not-false}
use Rattle.integers.specs.Differences.{Abs, up}
use Rattle.integers.specs.Vectors.{zero2}
use Rattle.integers.specs.declared.V2.{V2}
use Rattle.meaning.specs.declared.Limits.{Limits}
use Rattle.meaning.specs.declared.Nest.{Nest}
use Rattle.meaning.specs.declared.Stream.{Stream}
use Rattle.meaning.specs.declared.Description.{Description}
use Rattle.meaning.specs.Tests.{refusal}
use Rattle.meaning.specs.Loops.{instances, step_of, place_of}
use Rattle.meaning.specs.Space.{processes}
use Rattle.meaning.specs.Streams.{line, stationary, hop, move}
use Rattle.meaning.specs.Description.{description_of, streams_of, no_stream, written}
use Rattle.meaning.specs.Accept.{small, refused33, refused11, refused12, refused13, refused14, stream_tests, tests_from, refusal_of}
use Rattle.meaning.specs.Walk.{walk_tests, walk_refusal}
use Rattle.geometry.specs.Numbers.{eq2_eq, and_left, and_right, small_is}
use Rattle.geometry.specs.Tests.{numbered, both_pass}
use Rattle.geometry.specs.Descriptions.{walk_passes}
use Rattle.vectors.specs.Within.{Within2}
use Rattle.decode.specs.Refusals.{first_tests, passed}
use Rattle.decode.specs.Ranged.{Decoded, decoded}
use Rattle.survey.specs.InRange.{InRange, in_range_lem}
use Rattle.survey.specs.Stages.{layout_tests, early_tests, walk_tests_lem, few, few_processes, all_tests_lem}

-- ---- one stream

-- small words, a small move, a short hop
pub record StreamWithin (l : Limits) (n : Nest) (s : Stream) : Type 0 where
  pub in_range_lem : InRange n s
  pub move : Within2 1 (move n s)
  pub hop : 1 ≤ l.hop → hop n s ≤ l.hop

small_abs : (z : ℤ) → T (small z) → Abs z 1
small_abs z t = record { abs = leb→le (nat_abs z) 1 (subst T (sym (small_is z)) t) }

-- 13 by the move: a loading vector's components are small, and so are those of a stationary stream's line
abs_small : (z : ℤ) → Abs z 1 → small z ≡ true
abs_small z h = sym (small_is z) ∙ le-leb (nat_abs z) 1 h.abs

pub move_tested : (n : Nest) (s : Stream) → InRange n s → not (small (move n s).a && small (move n s).b) ≡ refused13 n s
move_tested n s h = go (stationary n s) refl
  where
    p : V2
    p = place_of n (line n s)

    go : (b : Bool) → stationary n s ≡ b
        → not (small (cond b s.loading p).a && small (cond b s.loading p).b) ≡ not (small p.a && small p.b)
    go true e =
        ap₂ (λ (x y : Bool). not (x && y)) (abs_small s.loading.a h.loading.first) (abs_small s.loading.b h.loading.second)
        ∙ sym (ap (λ (q : V2). not (small q.a && small q.b)) (eq2_eq p zero2 (subst T (sym e) tt)))
    go false e = refl

move_small : (n : Nest) (s : Stream) → InRange n s → refused13 n s ≡ false → Within2 1 (move n s)
move_small n s h e = go (stationary n s)
  where
    p : V2
    p = place_of n (line n s)

    t : T (small p.a && small p.b)
    t = subst T (sym (not-false (small p.a && small p.b) e)) tt

    go : (b : Bool) → Within2 1 (cond b s.loading p)
    go true = h.loading
    go false =
        record {
          first = small_abs p.a (and_left (small p.a) (small p.b) t);
          second = small_abs p.b (and_right (small p.a) (small p.b) t);
        }

hop_within : (l : Limits) (n : Nest) (s : Stream) → refused14 l n s ≡ false → 1 ≤ l.hop → hop n s ≤ l.hop
hop_within l n s e h = go (stationary n s) e
  where
    go : (b : Bool) → not b && ltb l.hop (cond b 1 (up (step_of n (line n s)))) ≡ false → cond b 1 (up (step_of n (line n s))) ≤ l.hop
    go true e = h
    go false e = ltb-false l.hop (up (step_of n (line n s))) e

stream_within : (l : Limits) (n : Nest) (w : Bool) (s : Stream) → InRange n s → refusal (stream_tests l n w s) ≡ 0 → StreamWithin l n s
stream_within l n w s h e =
    let p11 = passed 11 (refused11 s) _ (λ g. omega arith) e in
    let p12 = passed 12 (refused12 n s) _ (λ g. omega arith) p11.1 in
    let p13 = passed 13 (refused13 n s) _ (λ g. omega arith) p12.1 in
    let p14 = passed 14 (refused14 l n s) _ (λ g. omega arith) p13.1 in
    record { in_range_lem = h; move = move_small n s h p13.0; hop = hop_within l n s p14.0 }

-- ---- a description

-- few instances and few processes
pub record NestWithin (l : Limits) (n : Nest) : Type 0 where
  pub instances : length (instances n) ≤ l.instances
  pub processes : length (processes n) ≤ l.processes

-- and all streams so
pub record DescriptionWithin (l : Limits) (d : Description) : Type 0 where
  pub instances : length (instances d.nest) ≤ l.instances
  pub processes : length (processes d.nest) ≤ l.processes
  pub stream : (i : ℕ) → i < length (streams_of d) → StreamWithin l d.nest (get_or (streams_of d) i no_stream)

-- no test of stream i + k applies
each_passes : (l : Limits) (d : Description) (i k : ℕ) (ss : List Stream) → refusal (tests_from l d i ss) ≡ 0 → k < length ss
    → refusal (stream_tests l d.nest (written d (i + k)) (get_or ss k no_stream)) ≡ 0
unfolding tests_from numbered
each_passes l d i k [] e h = absurd (omega arith)
each_passes l d i zero (s ∷ ss) e h =
    let z : i ≡ i + 0 = omega arith in
    subst (λ (j : ℕ). refusal (stream_tests l d.nest (written d j) s) ≡ 0) z
    (both_pass (stream_tests l d.nest (written d i) s) (tests_from l d (suc i) ss) tt e).0
each_passes l d i (suc k) (s ∷ ss) e h =
    let z : suc i + k ≡ i + suc k = omega arith in
    subst (λ (j : ℕ). refusal (stream_tests l d.nest (written d j) (get_or ss k no_stream)) ≡ 0) z
    (each_passes l d (suc i) k ss (both_pass (stream_tests l d.nest (written d i) s) (tests_from l d (suc i) ss) tt e).1 (omega arith))

-- what 33 and 1 to 5 leave
pub early_decoded : (l : Limits) (s : List ℕ) → refusal (early_tests l s) ≡ 0 → Decoded s
early_decoded l s e = decoded s (passed 33 (refused33 l) (first_tests s) (λ g. omega arith) e).1

-- what 33 and 1 to 10 leave
pub walk_within : (l : Limits) (s : List ℕ) → walk_refusal l s ≡ 0 → Decoded s × NestWithin l (description_of s).nest
unfolding numbered
walk_within l s e =
    let n = (description_of s).nest in
    let p = both_pass (early_tests l s) (layout_tests l n) tt (walk_tests_lem l s ∙ e) in
    (early_decoded l s p.0, record { instances = few l n p.1; processes = few_processes l n p.1 })

-- an accepted description is in range and within the limits
pub accepted_within : (l : Limits) (s : List ℕ) → refusal_of l s ≡ 0 → Decoded s × DescriptionWithin l (description_of s)
unfolding numbered
accepted_within l s e =
    let d = description_of s in
    let n = d.nest in
    let p = both_pass (walk_tests l s) (tests_from l d 0 (streams_of d)) tt (all_tests_lem l s ∙ e) in
    let w = walk_within l s (walk_passes l s e) in (
      w.0,
      record {
        instances = w.1.instances;
        processes = w.1.processes;
        stream = λ i k.
            let in_use : i < d.sizes.streams = omega (arith, length-take d.sizes.streams d.streams) in
            let at = get_or-take d.sizes.streams d.streams i no_stream in_use in
            stream_within l n (written d i) (get_or (streams_of d) i no_stream)
            (in_range_lem w.0.ranged.nest (rw at (w.0.ranged.streams i)))
            (subst (λ (j : ℕ). refusal (stream_tests l n (written d j) (get_or (streams_of d) i no_stream)) ≡ 0) (zero-add i)
            (each_passes l d 0 i (streams_of d) p.1 k));
      },
    )
