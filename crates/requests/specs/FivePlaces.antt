-- Request 2.8, "five places are enough": what has no moving hop from 6 to 8 is answered as before, what has one is refused by 14 or by what
-- comes before it, and no answer becomes another one than 14. Assumes nothing.
use Rattle.std.specs.Prelude.{◌≡◌, refl, ◌⊎◌, Bool, true, false, ℕ, ◌<◌, ℤ, pos, ◌≤ℤ◌, ◌<ℤ◌}
use Rattle.std.proofs.Common.{sym, ◌∙◌, ap, subst, inl, inr, arith}
use mathlib.Core.List.Memᴰ
use mathlib.Core.List.Memᴰ.{head as here}
use mathlib.Core.List.Memᴰ.{tail as there}
use mathlib.Core.List.{List, ◌∷◌, Memᴰ as In}
use Rattle.std.specs.Int.Signed.{lt_z}
use Rattle.integers.specs.Differences.{le_out, lt_out, le_in}
use Rattle.integers.specs.Words.{less, not_less}
use Rattle.meaning.specs.Answers.{Refused}
use Rattle.meaning.specs.Limits.{limits_of, former_limits}
use Rattle.meaning.specs.Lists.{numbers}
use Rattle.meaning.specs.Loops.{step_of}
use Rattle.meaning.specs.Points.{Between}
use Rattle.meaning.specs.Description.{sizes_of, description_of}
use Rattle.meaning.specs.Accept.{accept}
use Rattle.meaning.specs.Conditions.{Condition, Condition.Board, Condition.Begins, Condition.Sizes-fit, Condition.Long, Condition.Words-fit}
use Rattle.meaning.specs.Conditions.{Condition.Bounds-fit, Condition.Instances, Condition.Place-rank, Condition.Increment}
use Rattle.meaning.specs.Conditions.{Condition.Processes, Condition.Rank, Condition.Line, Condition.Move, Condition.Hop, Condition.Order}
use Rattle.meaning.specs.Conditions.{Condition.Loading, Condition.Touched, Asks, number_of, of_stream, conditions}
use Rattle.meaning.specs.FivePlaces.{LongHop, RefusedByThen, FivePlacesAreEnough}
use Rattle.lists.specs.Members.{in_each, each_in, in_numbers, numbers_in}
use Rattle.guarantee.specs.Acceptance.{refused_exactly}
use Rattle.requests.specs.Answered.{Answered, Answered.meets, Answered.fails, answered, Listed, both_accept, both_refuse, same_answer}
use Rattle.requests.specs.Answered.{alike}

-- ---- hops are listed for the streams in use

module _ {i : ℕ} (m : ℕ) where
  hop_listed : i < m → In (Hop i) (conditions m)
  hop_listed h =
      there (there (there (there (there (there (there (there (there (there
      (in_each of_stream (in_numbers 0 m i (omega arith) (omega arith)) (there (there (there (here refl))))))))))))))

  -- a condition of another number is no hop
  other : {c : Condition} → Hop i ≡ c → (14 ≡ number_of c → ⊥) → i < m
  other e no-fourteen = absurd (no-fourteen (ap number_of e))

  of_stream_lem : (j : ℕ) → j < m → In (Hop i) (of_stream j) → i < m
  of_stream_lem j h (here e) = other e (λ k. omega arith)
  of_stream_lem j h (there (here e)) = other e (λ k. omega arith)
  of_stream_lem j h (there (there (here e))) = other e (λ k. omega arith)
  of_stream_lem j h (there (there (there (here e)))) = let f : i ≡ j = cc in omega arith
  of_stream_lem j h (there (there (there (there (here e))))) = other e (λ k. omega arith)
  of_stream_lem j h (there (there (there (there (there (here e)))))) = other e (λ k. omega arith)
  of_stream_lem j h (there (there (there (there (there (there (here e))))))) = other e (λ k. omega arith)
  of_stream_lem j h (there (there (there (there (there (there (there e))))))) = elim e [ ]

  listed_hop : In (Hop i) (conditions m) → i < m
  listed_hop (here e) = other e (λ k. omega arith)
  listed_hop (there (here e)) = other e (λ k. omega arith)
  listed_hop (there (there (here e))) = other e (λ k. omega arith)
  listed_hop (there (there (there (here e)))) = other e (λ k. omega arith)
  listed_hop (there (there (there (there (here e))))) = other e (λ k. omega arith)
  listed_hop (there (there (there (there (there (here e)))))) = other e (λ k. omega arith)
  listed_hop (there (there (there (there (there (there (here e))))))) = other e (λ k. omega arith)
  listed_hop (there (there (there (there (there (there (there (here e)))))))) = other e (λ k. omega arith)
  listed_hop (there (there (there (there (there (there (there (there (here e))))))))) = other e (λ k. omega arith)
  listed_hop (there (there (there (there (there (there (there (there (there (here e)))))))))) = other e (λ k. omega arith)
  listed_hop (there (there (there (there (there (there (there (there (there (there k)))))))))) =
      let r = each_in of_stream (numbers m) k in
      let b = numbers_in 0 m r.mem in
      of_stream_lem r.from (omega (arith, b.1)) r.is

-- a whole number is below 6, or at least 6
by_less : (w : ℤ) → w ≤ℤ pos 8 → (Between (pos 6) (pos 8) w → ⊥) → w ≤ℤ pos 5
by_less w h none = go (lt_z w (pos 6)) refl
  where
    go : (b : Bool) → lt_z w (pos 6) ≡ b → w ≤ℤ pos 5
    go true e = let k : w <ℤ pos 6 = less e in le_in (omega (arith, lt_out k))
    go false e = absurd (none (record { lo = not_less e; hi = h }))

-- ---- all conditions but the hop are what they were

module _ (board : ℕ) (s : List ℕ) where
  data Stays (c : Condition) : Type 1 where
    stays : Asks (limits_of board) s c ≡ Asks (former_limits board) s c → Stays c
    hop : (i : ℕ) → c ≡ Hop i → Stays c

  compared : (c : Condition) → Stays c
  compared Board = stays refl
  compared Begins = stays refl
  compared Sizes-fit = stays refl
  compared Long = stays refl
  compared Words-fit = stays refl
  compared Bounds-fit = stays refl
  compared Instances = stays refl
  compared Place-rank = stays refl
  compared Increment = stays refl
  compared Processes = stays refl
  compared (Rank i) = stays refl
  compared (Line i) = stays refl
  compared (Move i) = stays refl
  compared (Hop i) = hop i refl
  compared (Order i) = stays refl
  compared (Loading i) = stays refl
  compared (Touched i) = stays refl

  -- what was asked before is asked still, and of hops more
  widened : (c : Condition) → Listed s c → Asks (limits_of board) s c → Asks (former_limits board) s c
  widened c k a = go (compared c)
    where
      go : Stays c → Asks (former_limits board) s c
      go (stays e) = subst (λ (A : Type 0). A) e a
      go (hop i e) = subst (Asks (former_limits board) s) (sym e) (longer (subst (Asks (limits_of board) s) e a))
        where
          longer : Asks (limits_of board) s (Hop i) → Asks (former_limits board) s (Hop i)
          longer h u l m = le_in (omega (arith, le_out (h u l m)))

  -- a hop that was short enough and is none from 6 to 8 is short enough
  narrowed : ((i : ℕ) → i < (sizes_of s).streams → LongHop (description_of s) i → ⊥) → (c : Condition) → Listed s c
      → Asks (former_limits board) s c → Asks (limits_of board) s c
  narrowed none c k a = go (compared c)
    where
      go : Stays c → Asks (limits_of board) s c
      go (stays e) = subst (λ (A : Type 0). A) (sym e) a
      go (hop i e) = subst (Asks (limits_of board) s) (sym e) (short (subst (Asks (former_limits board) s) e a))
        where
          inside : i < (sizes_of s).streams
          inside = listed_hop (sizes_of s).streams (subst (Listed s) e k)

          short : Asks (former_limits board) s (Hop i) → Asks (limits_of board) s (Hop i)
          short h u l m =
              by_less (step_of (description_of s).nest u) (h u l m)
              (λ b. none i inside (record { line = u; is_line = l; moves = m; hop = b }))

  -- ---- the three claims

  refused : (i : ℕ) → i < (sizes_of s).streams → LongHop (description_of s) i → RefusedByThen (limits_of board) s (Hop i)
  refused i h long = go (answered (limits_of board) s)
    where
      broken : Asks (limits_of board) s (Hop i) → ⊥
      broken a = omega (arith, le_out (a long.line long.is_line long.moves), le_out long.hop.lo)

      go : Answered (limits_of board) s → RefusedByThen (limits_of board) s (Hop i)
      go (meets m) = absurd (broken (m.streams i h).hop)
      go (fails k f) =
          record {
            number = k;
            answer = (refused_exactly (limits_of board) s k).1 f;
            first = f;
            by_then = after (Memᴰ.append_cases f.passed (subst (In (Hop i)) f.order (hop_listed (sizes_of s).streams h)));
          }
        where
          after : In (Hop i) f.passed ⊎ In (Hop i) (f.failed ∷ f.rest) → In (Hop i) (f.failed ∷ f.rest)
          after (inl j) = absurd (broken (f.holds (Hop i) j))
          after (inr j) = j

  only_fourteen : (accept (limits_of board) s ≡ accept (former_limits board) s) ⊎ (accept (limits_of board) s ≡ Refused 14)
  only_fourteen = go (answered (limits_of board) s)
    where
      go : Answered (limits_of board) s
          → (accept (limits_of board) s ≡ accept (former_limits board) s) ⊎ (accept (limits_of board) s ≡ Refused 14)
      go (meets m) = inl (both_accept widened m)
      go (fails k f) = by (compared f.failed)
        where
          by : Stays f.failed → (accept (limits_of board) s ≡ accept (former_limits board) s) ⊎ (accept (limits_of board) s ≡ Refused 14)
          by (stays e) = inl (both_refuse widened f (λ i a. f.fails (subst (λ (A : Type 0). A) (sym e) a)))
          by (hop i e) = inr ((refused_exactly (limits_of board) s k).1 f ∙ ap Refused (sym f.number ∙ ap number_of e))

-- REQUEST 2.8
pub five_places : FivePlacesAreEnough
five_places board s =
    record {
      as_before = λ none. alike (limits_of board) (former_limits board) s (same_answer (widened board s) (narrowed board s none));
      refused = refused board s;
      only_fourteen = only_fourteen board s;
    }
