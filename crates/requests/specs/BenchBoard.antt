-- Request 2.9, "the bench board": another board word is 33, the gauge answers as before, the bench accepts what the gauge accepts and the
-- bench can hold, and what is accepted under some limits every call answers alike under higher ones. Assumes nothing.
use Rattle.std.specs.Prelude.{◌≡◌, not, ℕ, suc, ◌≤◌, ◌<◌, T, ltb, length}
use Rattle.std.proofs.Math.Path.{refl, ap}
use Rattle.std.proofs.Common.{sym, ◌∙◌, subst, arith, T_not, lt→ltb}
use mathlib.Core.List.Memᴰ
use mathlib.Core.List.Memᴰ.{head as here}
use mathlib.Core.List.Memᴰ.{tail as there}
use mathlib.Core.List.{List, [], ◌∷◌, ◌++◌, Memᴰ as In}
use borrow.Author.Tests.{lt-ltb, le-ltb}
use Rattle.meaning.specs.declared.Limits.{Limits}
use Rattle.meaning.specs.declared.Stream.{Stream}
use Rattle.meaning.specs.declared.Description.{Description}
use Rattle.meaning.specs.declared.Nest.{Nest}
use Rattle.meaning.specs.Answers.{Refused}
use Rattle.meaning.specs.Limits.{limits_of, gauge_limits, bench_limits, UpTo}
use Rattle.meaning.specs.Tests.{Test, ◌if◌, refusal}
use Rattle.meaning.specs.Loops.{instances}
use Rattle.meaning.specs.Space.{processes}
use Rattle.meaning.specs.Description.{description_of, streams_of, written}
use Rattle.meaning.specs.Accept.{refused33, byte_tests, nest_tests, stream_tests, tests_from, refusal_of, accept, Accepts}
use Rattle.meaning.specs.Conditions.{Known, Condition, Condition.Board, Condition.Begins, Condition.Sizes-fit, Condition.Long}
use Rattle.meaning.specs.Conditions.{Condition.Words-fit, Condition.Bounds-fit, Condition.Instances, Condition.Place-rank}
use Rattle.meaning.specs.Conditions.{Condition.Increment, Condition.Processes, Condition.Rank, Condition.Line, Condition.Move}
use Rattle.meaning.specs.Conditions.{Condition.Hop, Condition.Order, Condition.Loading, Condition.Touched, Asks, number_of}
use Rattle.meaning.specs.Alike.{DeclinedBy}
use Rattle.meaning.specs.BenchBoard.{former_accept, OnBench, TheBenchBoard}
use Rattle.geometry.specs.Descriptions.{walk_passes, walk_tests_lem}
use Rattle.geometry.specs.UpTo.{up_to_lem}
use Rattle.network.specs.Declined.{declined}
use Rattle.guarantee.proofs.Demand1.{demand_one}
use Rattle.guarantee.specs.Acceptance.{accepted_not_refused, refused_exactly}
use Rattle.guarantee.specs.Alike.{same_refusal}

-- ---- 33

-- no other condition has its number
only_board : (c : Condition) → number_of c ≡ 33 → Board ≡ c
only_board Board e = refl
only_board Begins e = absurd (omega arith)
only_board Sizes-fit e = absurd (omega arith)
only_board Long e = absurd (omega arith)
only_board Words-fit e = absurd (omega arith)
only_board Bounds-fit e = absurd (omega arith)
only_board Instances e = absurd (omega arith)
only_board Place-rank e = absurd (omega arith)
only_board Increment e = absurd (omega arith)
only_board Processes e = absurd (omega arith)
only_board (Rank i) e = absurd (omega arith)
only_board (Line i) e = absurd (omega arith)
only_board (Move i) e = absurd (omega arith)
only_board (Hop i) e = absurd (omega arith)
only_board (Order i) e = absurd (omega arith)
only_board (Loading i) e = absurd (omega arith)
only_board (Touched i) e = absurd (omega arith)

module _ (s : List ℕ) where
  abbrev n : Nest
  n = (description_of s).nest

  another : (board : ℕ) → 1 < board → DeclinedBy (limits_of board) s 33
  unfolding refusal_of refusal
  another board h = declined (limits_of board) s 33 (λ e. omega arith) (rw (lt-ltb 1 board h) refl)

  no_other : (board : ℕ) → accept (limits_of board) s ≡ Refused 33 → 1 < board
  no_other board e =
      let f = (refused_exactly (limits_of board) s 33).0 e in
      let broken : Known (limits_of board) → ⊥ = subst (λ (c : Condition). Asks (limits_of board) s c → ⊥)
      (sym (only_board f.failed f.number)) f.fails in
      omega (arith, broken)

  gauge_as_before : accept gauge_limits s ≡ former_accept s
  unfolding accept refusal_of refusal
  gauge_as_before = refl

  -- ---- what the bench can hold

  held : (l : Limits) → refusal_of l s ≡ 0 → (length (instances n) ≤ l.instances) × (length (processes n) ≤ l.processes)
  held l e = (at_most _ _ (of (there (here refl))), at_most _ _ (of (there (there (there (there (here refl)))))))
    where
      of : {t : Test} → In t (nest_tests l n) → T (not t.applies)
      of i = walk_tests_lem l s (walk_passes l s e) (Memᴰ.append_right ((33 if refused33 l) ∷ byte_tests s) i)

      at_most : (a b : ℕ) → T (not (ltb a b)) → b ≤ a
      at_most a b t = let more : a < b → ⊥ = λ h. T_not (ltb a b) t (lt→ltb a b h) in omega (arith, more)

  -- 11 to 17 are the same on both boards
  streams_same : (d : Description) (i : ℕ) (ss : List Stream) → tests_from bench_limits d i ss ≡ tests_from gauge_limits d i ss
  unfolding tests_from
  streams_same d i [] = refl
  streams_same d i (t ∷ ss) = ap (λ (ts : List Test). stream_tests gauge_limits d.nest (written d i) t ++ ts) (streams_same d (suc i) ss)

  -- what both can hold both refuse alike
  both_hold : OnBench s → refusal_of bench_limits s ≡ refusal_of gauge_limits s
  unfolding refusal_of refusal
  both_hold h =
      rw (
        le-ltb 1024 (length (instances n)) h.instances,
        le-ltb 4096 (length (instances n)) (omega (arith, h.instances)),
        le-ltb 256 (length (processes n)) h.processes,
        le-ltb 1024 (length (processes n)) (omega (arith, h.processes)),
        streams_same (description_of s) 0 (streams_of (description_of s)),
      ) refl

  -- ---- any limits up to others

  higher : (l k : Limits) → UpTo l k → Known k → Accepts l s → refusal_of l s ≡ refusal_of k s
  higher l k u known e = let r = accepted_not_refused l s e in r ∙ sym (up_to_lem u known s r)

  bench_up_to : UpTo bench_limits gauge_limits
  bench_up_to = record { instances = omega arith; processes = omega arith; hop = omega arith }

  accepts : (l : Limits) → refusal_of l s ≡ 0 → Accepts l s
  accepts l e = (demand_one l s).numbers.accept ∙ e

  on_bench : Accepts bench_limits s → Accepts gauge_limits s × OnBench s
  on_bench e =
      let r = accepted_not_refused bench_limits s e in
      let h = held bench_limits r in (
        accepts gauge_limits (sym (higher bench_limits gauge_limits bench_up_to (omega arith) e) ∙ r),
        record { instances = h.0; processes = h.1 },
      )

-- REQUEST 2.9
pub bench_board : TheBenchBoard
bench_board s =
    record {
      another = another s;
      no_other = no_other s;
      gauge_as_before = gauge_as_before s;
      holds = (on_bench s, λ p. accepts s bench_limits (both_hold s p.1 ∙ accepted_not_refused gauge_limits s p.0));
      same = λ e. same_refusal bench_limits gauge_limits s (higher s bench_limits gauge_limits (bench_up_to s) (omega arith) e);
      any_pair = λ l k u known e. same_refusal l k s (higher s l k u known e);
    }
