-- What Accept answers to a description with a step vector: neither 33 nor 1 to 7 where the description as lent has none of them, and else
-- by 8, 10 and the streams. Assumes nothing.
use Rattle.std.specs.Prelude.{◌≡◌, refl, ◌⊎◌, Bool, true, not, cond, ◌&&◌, ℕ, suc, ◌+◌, ◌*◌, ◌-◌, ◌^◌, ◌≤◌, ◌<◌, T, eqb, length, get_or, ℤ}
use Rattle.std.specs.Prelude.{pos, negsuc}
use Rattle.std.proofs.Common.{sym, ◌∙◌, subst, inl, inr, arith, le-leb, ltb-false, eqb-true}
use Rattle.std.proofs.Math.Path.{ap}
use Rattle.std.proofs.Math.Bool.{false}
use mathlib.Core.List.{List, [], ◌∷◌, ◌++◌, Memᴰ as In}
use Rattle.std.proofs.Math.Decide.{dec_lt}
use Rattle.std.proofs.Math.Dec.{ltb}
use Rattle.std.specs.Int.Signed.{mag}
use Rattle.std.proofs.lemmas.Bool.{not-false}
use Rattle.integers.specs.Bytes.{word_at}
use Rattle.integers.specs.Differences.{Abs}
use Rattle.integers.specs.Bounds.{Abs-range}
use Rattle.integers.specs.Words.{fits, leaf}
use Rattle.integers.specs.declared.V3.{V3}
use Rattle.meaning.specs.declared.Limits.{Limits}
use Rattle.meaning.specs.declared.Sizes.{Sizes}
use Rattle.meaning.specs.declared.Stream.{Stream}
use Rattle.meaning.specs.declared.Description.{Description}
use Rattle.meaning.specs.Tests.{Test, ◌if◌, refusal}
use Rattle.meaning.specs.Loops.{instances}
use Rattle.meaning.specs.Description.{sizes_of, step_at, place_at, words_of, in_range, within, ◌to◌, description_of, streams_of}
use Rattle.meaning.specs.Description.{refused1, refused2, refused3, refused4, refused5}
use Rattle.meaning.specs.Ranges.{at_steps, in_others}
use Rattle.meaning.specs.Accept.{refused33, refused6, refused7, refused8, refused10, nest_tests, tests_from, refusal_of}
use Rattle.meaning.specs.Conditions.{SizesFit}
use Rattle.meaning.specs.StepVectors.{vectors, with_step, answer_to, answer_count, vector_tests, refused34}
use Rattle.meaning.specs.HowManyWork.{step_vector, stepped, with_nest, Possible, Replaced}
use Rattle.lists.specs.Rows.{every_numbers, numbers_every}
use Rattle.geometry.specs.Places.{get_d_in}
use Rattle.network.specs.Calls.{refusal_none}
use Rattle.network.specs.Declined.{numbers_are}
use Rattle.guarantee.specs.Refusals.{Refuses, Refuses.met, Refuses.broken}
use Rattle.guarantee.specs.WordConditions.{refuses2}
use Rattle.choices.specs.Vectors.{vectors_are}
use Rattle.choices.specs.Replaced as Step

-- ---- a call that is not declined

-- none of 33 and 1 to 7 applies to the description as lent
pub record Passes (l : Limits) (s : List ℕ) : Type 0 where
  pub board : refused33 l ≡ false
  pub begins : refused1 s ≡ false
  pub sizes : refused2 (sizes_of s) ≡ false
  pub long : refused3 s (sizes_of s) ≡ false
  pub words : refused4 s (sizes_of s) ≡ false
  pub bounds : refused5 (description_of s).nest ≡ false
  pub instances : refused6 l (description_of s).nest ≡ false
  pub rank : refused7 (description_of s).nest ≡ false

pub passes : (l : Limits) (s : List ℕ) (k : ℕ) → refusal (vector_tests l s k) ≡ 0 → (k ≤ 3) × Passes l s
passes l s k e =
    let n = (description_of s).nest in
    let p33 = refusal_none (33 if refused33 l) _ (omega arith) e in
    let p34 = refusal_none (34 if refused34 k) _ (omega arith) p33.1 in
    let p1 = refusal_none (1 if refused1 s) _ (omega arith) p34.1 in
    let p2 = refusal_none (2 if refused2 (sizes_of s)) _ (omega arith) p1.1 in
    let p3 = refusal_none (3 if refused3 s (sizes_of s)) _ (omega arith) p2.1 in
    let p4 = refusal_none (4 if refused4 s (sizes_of s)) _ (omega arith) p3.1 in
    let p5 = refusal_none (5 if refused5 n) _ (omega arith) p4.1 in
    let p6 = refusal_none (6 if refused6 l n) _ (omega arith) p5.1 in
    let p7 = refusal_none (7 if refused7 n) _ (omega arith) p6.1 in (
      ltb-false 3 k p34.0,
      record {
        board = p33.0;
        begins = p1.0;
        sizes = p2.0;
        long = p3.0;
        words = p4.0;
        bounds = p5.0;
        instances = p6.0;
        rank = p7.0;
      },
    )

module _ {l : Limits} {s : List ℕ} (p : Passes l s) where
  pub sizes_fit : SizesFit (sizes_of s)
  sizes_fit = go (refuses2 (sizes_of s)) p.sizes
    where
      go : {b : Bool} → Refuses (SizesFit (sizes_of s)) b → b ≡ false → SizesFit (sizes_of s)
      go (met h) e = h
      go (broken n) e = absurd (subst T e tt)

  pub exact : length s ≡ 4 * words_of (sizes_of s)
  exact = eqb-true (length s) (4 * words_of (sizes_of s)) (not-false _ p.long)

-- ---- a vector of small entries

-- 8, 10 and the streams' tests of a description at a step
abbrev pub later_tests : Limits → Description → V3 → List Test
later_tests l d v =
    (8 if refused8 (stepped d.nest v)) ∷ (10 if refused10 l (stepped d.nest v))
    ∷ tests_from l (with_nest d (stepped d.nest v)) 0 (streams_of d)

module _ (k r : ℕ) (few : k ≤ 3) {v : List ℤ} (i : In v (vectors k r)) where
  vector_length : length v ≡ r
  vector_length = (((vectors_are k r).exactly v).0 i).0

  entry_small : (j : ℕ) → j < length v → Abs (get_or v j (pos 0)) 3
  entry_small j l =
      let b = (((vectors_are k r).exactly v).0 i).1 (get_or v j (pos 0)) (get_d_in v j (pos 0) l) in
      let a = Abs-range (get_or v j (pos 0)) k b.lo b.hi in record { abs = omega (arith, a.abs) }

  entry_fits : (j : ℕ) → j < length v → mag (get_or v j (pos 0)) < 2 ^ 31
  entry_fits j l = (fits tt (leaf (entry_small j l))).sfits

step_in_range : (w : ℤ) → Abs w 3 → within (negsuc 7 to pos 8) w ≡ true
step_in_range (pos n) a = le-leb n 8 (omega (arith, a.abs))
step_in_range (negsuc n) a = ap (λ (b : Bool). b && true) (le-leb n 7 (omega (arith, a.abs)))

module _ {l : Limits} {s : List ℕ} (p : Passes l s) (k : ℕ) (few : k ≤ 3) (v : List ℤ) (i : In v (vectors k (sizes_of s).loops)) where
  abbrev z : Sizes
  z = sizes_of s

  abbrev d : Description
  d = description_of s

  abbrev t : List ℕ
  t = with_step s v

  count : length v ≡ z.loops
  count = vector_length k z.loops few i

  fit : (j : ℕ) → j < length v → mag (get_or v j (pos 0)) < 2 ^ 31
  fit = entry_fits k z.loops few i

  pub replaced : Replaced s v
  replaced = Step.replaced s v (sizes_fit p) (exact p) count fit

  -- every word is in its range
  word_ranged : (j : ℕ) → 3 ≤ j → j < words_of z → in_range z j (word_at t j) ≡ true
  word_ranged j a b = go (dec_lt j (step_at z)) (dec_lt j (place_at z))
    where
      was : in_range z j (word_at s j) ≡ true
      was =
          every_numbers (λ j. in_range z j (word_at s j)) 3 (words_of z - 3) (not-false _ p.words) j a (omega arith)

      other : (j < step_at z) ⊎ (place_at z ≤ j) → in_range z j (word_at t j) ≡ true
      other o = ap (in_range z j) (Step.word_other s v (sizes_fit p) (exact p) count fit j o) ∙ was

      go : Dec (j < step_at z) → Dec (j < place_at z) → in_range z j (word_at t j) ≡ true
      go (yes m) o = other (inl m)
      go (no m) (no o) = other (inr (omega arith))
      go (no m) (yes o) =
          let at : ℕ = j - step_at z in
          let e : step_at z + at ≡ j = omega arith in
          ap (in_range z j) (ap (word_at t) (sym e) ∙ replaced.coefficients at (omega arith))
          ∙ in_others z j (inr (omega arith)) (at_steps z j (omega arith) o) (get_or v at (pos 0))
          ∙ step_in_range (get_or v at (pos 0)) (entry_small k z.loops few i at (omega (arith, count)))

  words_ranged : refused4 t z ≡ false
  words_ranged = ap not (numbers_every (λ j. in_range z j (word_at t j)) 3 (words_of z - 3) (λ j a b. word_ranged j a (omega arith)))

  -- Accept's tests by sizes and description
  abbrev tests : Sizes → Description → List Test
  tests z d =
      (33 if refused33 l) ∷ (1 if refused1 t) ∷ (2 if refused2 z) ∷ (3 if refused3 t z) ∷ (4 if refused4 t z)
      ∷ (nest_tests l d.nest ++ tests_from l d 0 (streams_of d))

  -- what is left of them
  pub answer_is : answer_to l s v ≡ refusal (later_tests l d (step_vector v))
  unfolding refusal_of refusal instances
  answer_is = (numbers_are l t).accept ∙ by_tests
    where
      begins : refused1 t ≡ false
      begins = ap (λ (n : ℕ). ltb n 12) replaced.long ∙ p.begins

      long : refused3 t z ≡ false
      long = ap (λ (n : ℕ). not (eqb n (4 * words_of z))) replaced.long ∙ p.long

      fewer : refused6 l (stepped d.nest (step_vector v)) ≡ refused6 l d.nest
      fewer = refl

      by_tests : refusal_of l t ≡ refusal (later_tests l d (step_vector v))
      by_tests =
          ap (λ (z : Sizes). refusal (tests z (description_of t))) (Step.same_sizes s v (sizes_fit p) (exact p) count fit)
          ∙ ap (λ (d : Description). refusal (tests z d)) replaced.description
          ∙ rw (p.board, begins, p.sizes, long, words_ranged, p.bounds, fewer, p.instances, p.rank) refl

-- ---- the answers that there are

-- 0, or 11 to 17
abbrev ByStream : ℕ → Type 0
ByStream a = (a ≡ 0) ⊎ ((11 ≤ a) × (a ≤ 17))

one_more : (n : ℕ) → 11 ≤ n → n ≤ 17 → (b : Bool) (ts : List Test) → ByStream (refusal ts) → ByStream (refusal ((n if b) ∷ ts))
unfolding refusal
one_more n g h b ts k = go b
  where
    go : (b : Bool) → ByStream (cond b n (refusal ts))
    go true = inr (g, h)
    go false = k

no_stream : ByStream (refusal [])
unfolding refusal
no_stream = inl refl

by_stream_lem : (l : Limits) (d : Description) (i : ℕ) (ss : List Stream) → ByStream (refusal (tests_from l d i ss))
unfolding tests_from
by_stream_lem l d i [] = no_stream
by_stream_lem l d i (s ∷ ss) =
    one_more 11 (omega arith) (omega arith) _ _ (one_more 12 (omega arith) (omega arith) _ _
    (one_more 13 (omega arith) (omega arith) _ _ (one_more 14 (omega arith) (omega arith) _ _
    (one_more 15 (omega arith) (omega arith) _ _ (one_more 16 (omega arith) (omega arith) _ _
    (one_more 17 (omega arith) (omega arith) _ _ (by_stream_lem l d (suc i) ss)))))))

pub possible : (l : Limits) (d : Description) (v : V3) → Possible (refusal (later_tests l d v))
unfolding refusal
possible l d v =
    go (refused8 (stepped d.nest v)) (refused10 l (stepped d.nest v))
    (by_stream_lem l (with_nest d (stepped d.nest v)) 0 (streams_of d))
  where
    go : (a b : Bool) {n : ℕ} → ByStream n → Possible (cond a 8 (cond b 10 n))
    go true b k = inr (inl refl)
    go false true k = inr (inr (omega arith, omega arith))
    go false false (inl e) = inl e
    go false false (inr k) = inr (inr (omega (arith, k.0), k.1))

-- all of them are counted
pub possible_lt : (a : ℕ) → Possible a → a < answer_count
possible_lt a (inl e) = omega arith
possible_lt a (inr (inl e)) = omega arith
possible_lt a (inr (inr h)) = omega (arith, h.1)
