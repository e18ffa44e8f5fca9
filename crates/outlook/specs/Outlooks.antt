-- The four answers of a stream, and that by the step of its line they are Accept's. Assumes nothing.
use Rattle.std.specs.Prelude.{◌≡◌, refl, Bool, true, false, not, cond, ◌&&◌, ℕ, ltb, ℤ, pos, nat_abs, Ok}
use Rattle.std.proofs.Common.{sym, ◌∙◌}
use Rattle.std.specs.Int.Signed.{lt_z}
use Rattle.integers.specs.Words.{eq_z}
use Rattle.integers.specs.Vectors.{zero3, neg3, dot}
use Rattle.integers.specs.declared.V3.{V3}
use Rattle.refusals.specs.Numbers.{refusal_number}
use Rattle.meaning.specs.declared.Limits.{Limits}
use Rattle.meaning.specs.declared.Nest.{Nest}
use Rattle.meaning.specs.declared.Stream.{Stream}
use Rattle.meaning.specs.Tests.{refusal}
use Rattle.meaning.specs.Streams.{line, stationary}
use Rattle.meaning.specs.Accept.{against, refused11, refused13, refused16, refused17, stream_tests}
use Rattle.meaning.specs.HowManyWork.{stepped}
use Rattle.choices.specs.Turning.{ladder, stream_answer}
use Rattle.vectors.specs.Within.{Within}
use Rattle.survey.specs.Stages.{late_tests}
use Rattle.outlook.specs.declared.Outlook.{Outlook}

-- the number of the answer to a vector: by the step that it gives the line
abbrev pub answer_at : Outlook → ℕ → ℤ → ℕ
answer_at o hop t =
    cond (eq_z t (pos 0)) (refusal_number o.still)
    (cond (o.moving && ltb hop (nat_abs t)) (refusal_number o.leap)
    (cond (lt_z t (pos 0)) (refusal_number o.back) (refusal_number o.onward)))

abbrev pub answer_by : Outlook → ℕ → V3 → ℕ
answer_by o hop v = answer_at o hop (dot v o.line)

-- 16, 17 or none
abbrev pub late : Nest → Stream → ℕ
late n s = refusal (late_tests n s)

pub record OutlookOf (n : Nest) (w : Bool) (s : Stream) (o : Outlook) : Type 0 where
  pub line_is : o.line ≡ line n s
  pub line_small : Within 200 o.line
  pub moving_is : o.moving ≡ not (stationary n s)
  pub still_is : refusal_number o.still ≡ cond (refused11 s) 11 12
  pub leap_is : refusal_number o.leap ≡ cond (refused11 s) 11 (cond (refused13 n s) 13 14)
  pub onward_is : refusal_number o.onward
      ≡ cond (refused11 s) 11 (cond (refused13 n s) 13 (cond (w && against n.direction (line n s)) 15 (late n s)))
  pub back_is : refusal_number o.back
      ≡ cond (refused11 s) 11 (cond (refused13 n s) 13 (cond (w && against n.direction (neg3 (line n s))) 15 (late n s)))

-- what stands past the streams in use
abbrev pub no_outlook : Outlook
no_outlook = record { line = zero3; moving = false; still = Ok tt; leap = Ok tt; onward = Ok tt; back = Ok tt }

-- four answers are the ladder of tests
on_ladder : (rank still move leap onward back turned loading untouched : Bool)
    → cond still (cond rank 11 12) (cond leap (cond rank 11 (cond move 13 14))
    (cond turned (cond rank 11 (cond move 13 (cond back 15 (cond loading 16 (cond untouched 17 0)))))
    (cond rank 11 (cond move 13 (cond onward 15 (cond loading 16 (cond untouched 17 0)))))))
    ≡ ladder rank still move leap onward back turned loading untouched
on_ladder true true m l f b t g u = refl
on_ladder false true m l f b t g u = refl
on_ladder true false m true f b t g u = refl
on_ladder true false m false f b true g u = refl
on_ladder true false m false f b false g u = refl
on_ladder false false true true f b t g u = refl
on_ladder false false false true f b t g u = refl
on_ladder false false true false f b true g u = refl
on_ladder false false true false f b false g u = refl
on_ladder false false false false f b true g u = refl
on_ladder false false false false f b false g u = refl

-- Accept's answer of the stream at a step
pub answer_by_lem : (l : Limits) {n : Nest} {w : Bool} {s : Stream} {o : Outlook} → OutlookOf n w s o → (v : V3)
    → answer_by o l.hop v ≡ refusal (stream_tests l (stepped n v) w s)
unfolding refusal
answer_by_lem l {n} {w} {s} {o} h v =
    rw (h.line_is, h.moving_is, h.still_is, h.leap_is, h.onward_is, h.back_is)
    (on_ladder (refused11 s) (eq_z t (pos 0)) (refused13 n s) (not (stationary n s) && ltb l.hop (nat_abs t))
    (w && against n.direction (line n s)) (w && against n.direction (neg3 (line n s))) (lt_z t (pos 0)) (refused16 n s) (refused17 n s)
    ∙ sym (stream_answer l n v w s))
  where
    t : ℤ
    t = dot v (line n s)
