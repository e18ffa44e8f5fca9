-- Request 2.3, Make: what it answers and leaves, word by word, and that what it makes meets the conditions of 1 to 4. Assumes nothing.
use Rattle.std.specs.Prelude.{◌≡◌, ◌↔◌, Bool, ℕ, ◌+◌, ◌*◌, ◌-◌, ◌≤◌, ◌<◌, length, take, drop}
use Rattle.std.proofs.Math.Path.{refl}
use Rattle.std.proofs.Common.{sym, ◌∙◌, ap, subst, arith, length-append, length-drop}
use Rattle.std.proofs.Math.Bool.{true, false}
use mathlib.Core.List.Memᴰ.{head as here}
use mathlib.Core.List.Memᴰ.{tail as there}
use mathlib.Core.List.{List, [], ◌∷◌, ◌++◌, Memᴰ as In}
use Rattle.std.proofs.Math.Decide.{ℕ_discrete}
use Rattle.std.proofs.Math.Dec.{ltb}
use borrow.Author.Tests.{eq-eqb, ne_eqb, lt-ltb, le-ltb, ltb-false}
use Rattle.std.proofs.Math.Seq.{take-append_seam}
use Rattle.integers.specs.Bytes.{word_at}
use Rattle.meaning.specs.declared.Limits.{Limits}
use Rattle.meaning.specs.declared.Sizes.{Sizes}
use Rattle.meaning.specs.Tests.{refusal}
use Rattle.meaning.specs.Answers.{made_number, Made, MakeAnswer, Refused}
use Rattle.meaning.specs.Description.{sizes_of, words_of, in_range, refused2}
use Rattle.meaning.specs.Accept.{refusal_of, accept}
use Rattle.meaning.specs.Conditions.{Known, SizesFit, word_total, WordsFit, number_of, Condition, Condition.Board, Condition.Begins}
use Rattle.meaning.specs.Conditions.{Condition.Sizes-fit, Condition.Long, Condition.Words-fit, Condition.Bounds-fit, Condition.Instances}
use Rattle.meaning.specs.Conditions.{Condition.Place-rank, Condition.Increment, Condition.Processes, Condition.Rank, Condition.Line}
use Rattle.meaning.specs.Conditions.{Condition.Move, Condition.Hop, Condition.Order, Condition.Loading, Condition.Touched, Asks, AnsweredBy}
use Rattle.meaning.specs.FixedPoint.{tests_before, tests_after, conditions_after}
use Rattle.meaning.specs.Generator.{after, drawn, made, make}
use Rattle.meaning.specs.GeneratedLoad.{description_from, MadeWhole, conditions_before, Makes}
use Rattle.generated.specs.Drawn.{drawn_in_range}
use Rattle.generated.specs.Made.{made_length, made_word, made_sizes}
use Rattle.geometry.specs.Tests.{numbered}
use Rattle.network.specs.Decide.{Says.fails}
use Rattle.guarantee.specs.Refusals.{Refuses, Refuses.met, Refuses.broken}
use Rattle.guarantee.specs.WordConditions.{refuses2, parts_fit}
use Rattle.guarantee.specs.Acceptance.{tries, refused_exactly}
use Rattle.guarantee.proofs.Demand1.{make_beyond}
use Rattle.requests.specs.Dropped.{Held, dropped}
use Rattle.requests.specs.Fills.{past_same}

-- both counts of words are one
total_is : (z : Sizes) → words_of z ≡ word_total z
total_is z = omega arith

-- ---- sizes

fits_false : (z : Sizes) → SizesFit z → refused2 z ≡ false
fits_false z f = go (refuses2 z)
  where
    go : {b : Bool} → Refuses (SizesFit z) b → b ≡ false
    go (met g) = refl
    go (broken n) = absurd (n f)

unfit_true : (z : Sizes) → (SizesFit z → ⊥) → refused2 z ≡ true
unfit_true z n = go (refuses2 z)
  where
    go : {b : Bool} → Refuses (SizesFit z) b → b ≡ true
    go (met g) = absurd (n g)
    go (broken m) = refl

-- the condition of 2 is that of the sizes
two : (c : Condition) → number_of c ≡ 2 → c ≡ Sizes-fit
two Board e = absurd (omega arith)
two Begins e = absurd (omega arith)
two Sizes-fit e = refl
two Long e = absurd (omega arith)
two Words-fit e = absurd (omega arith)
two Bounds-fit e = absurd (omega arith)
two Instances e = absurd (omega arith)
two Place-rank e = absurd (omega arith)
two Increment e = absurd (omega arith)
two Processes e = absurd (omega arith)
two (Rank i) e = absurd (omega arith)
two (Line i) e = absurd (omega arith)
two (Move i) e = absurd (omega arith)
two (Hop i) e = absurd (omega arith)
two (Order i) e = absurd (omega arith)
two (Loading i) e = absurd (omega arith)
two (Touched i) e = absurd (omega arith)

-- Accept declines by 2 exactly the sizes that do not fit
by_sizes : (l : Limits) (s : List ℕ) → Known l → 12 ≤ length s
    → (accept l s ≡ Refused 2) ↔ (SizesFit (sizes_of s) → ⊥)
by_sizes l s known long = (
  λ e. let f = (refused_exactly l s 2).0 e in subst (λ (c : Condition). Asks l s c → ⊥) (two f.failed f.number) f.fails,
  λ n. (refused_exactly l s 2).1
      (record {
        passed = Board ∷ Begins ∷ [];
        failed = Sizes-fit;
        rest = Long ∷ Words-fit ∷ conditions_after (sizes_of s).streams;
        order = refl;
        number = refl;
        holds = held;
        fails = n;
      }),
)
  where
    held : (c : Condition) → In c (Board ∷ Begins ∷ []) → Asks l s c
    held c (here p) = subst (Asks l s) (sym p) known
    held c (there (here p)) = subst (Asks l s) (sym p) long
    held c (there (there p)) = elim p [ ]

module _ (seed : ℕ) (z : Sizes) (out : List ℕ) where
  -- ---- a call is declined and changes nothing, or it makes

  data Outcome : Type 0 where
    zero_seed : seed ≡ 0 → (make seed z out).answer ≡ Refused 29 → (make seed z out).output ≡ out → Outcome
    unfit : (seed ≡ 0 → ⊥) → (SizesFit z → ⊥) → (make seed z out).answer ≡ Refused 30 → (make seed z out).output ≡ out → Outcome
    short : (seed ≡ 0 → ⊥) → SizesFit z → (make seed z out).answer ≡ Refused 31 → (make seed z out).output ≡ out → Outcome
    whole : (seed ≡ 0 → ⊥) → SizesFit z → 4 * word_total z ≤ length out → (make seed z out).answer ≡ Made (4 * word_total z)
        → (make seed z out).output ≡ made z seed ++ drop (4 * words_of z) out → Outcome

  outcome : Outcome
  unfolding make refusal
  outcome = go (ℕ_discrete seed 0) (refuses2 z) refl (ltb (length out) (4 * words_of z)) refl
    where
      go : Dec (seed ≡ 0) → {b : Bool} → Refuses (SizesFit z) b → refused2 z ≡ b → (c : Bool) → ltb (length out) (4 * words_of z) ≡ c
          → Outcome
      go (yes e) r f c g = zero_seed e (rw (eq-eqb seed 0 e) refl) (rw (eq-eqb seed 0 e) refl)
      go (no n) (broken m) f c g = unfit n m (rw (ne_eqb seed 0 n, f) refl) (rw (ne_eqb seed 0 n, f) refl)
      go (no n) (met m) f true g = short n m (rw (ne_eqb seed 0 n, f, g) refl) (rw (ne_eqb seed 0 n, f, g) refl)
      go (no n) (met m) f false g =
          whole n m (omega (arith, ltb-false (length out) (4 * words_of z) g, total_is z))
          (rw (ne_eqb seed 0 n, f, g) (ap (λ (k : ℕ). Made (4 * k)) (total_is z))) (rw (ne_eqb seed 0 n, f, g) refl)

  -- one answer has one number
  differ : {p q : MakeAnswer} → (make seed z out).answer ≡ p → (make seed z out).answer ≡ q → (made_number p ≡ made_number q → ⊥) → ⊥
  differ e f n = n (ap made_number (sym e ∙ f))

  -- 30 exactly for sizes that do not fit
  unfit_thirty : (seed ≡ 0 → ⊥) → (SizesFit z → ⊥) → (make seed z out).answer ≡ Refused 30
  unfolding make refusal
  unfit_thirty n m = rw (ne_eqb seed 0 n, unfit_true z m) refl

  thirty_unfit : (make seed z out).answer ≡ Refused 30 → SizesFit z → ⊥
  thirty_unfit e f = go outcome
    where
      go : Outcome → ⊥
      go (zero_seed z a o) = differ a e (λ g. omega arith)
      go (unfit n m a o) = m f
      go (short n m a o) = differ a e (λ g. omega arith)
      go (whole n m h a o) = differ a e (λ g. omega arith)

  by_two : (seed ≡ 0 → ⊥) → (l : Limits) (s : List ℕ) → Known l → 12 ≤ length s → sizes_of s ≡ z
      → (accept l s ≡ Refused 2) ↔ ((make seed z out).answer ≡ Refused 30)
  by_two n l s known long e =
      let b = by_sizes l s known long in (
        λ a. unfit_thirty n (λ f. b.0 a (subst SizesFit (sym e) f)),
        λ a. b.1 (λ f. thirty_unfit a (subst SizesFit e f)),
      )

  kept : length (make seed z out).output ≡ length out
  kept = go outcome
    where
      go : Outcome → length (make seed z out).output ≡ length out
      go (zero_seed e a o) = ap length o
      go (unfit n m a o) = ap length o
      go (short n m a o) = ap length o
      go (whole n m h a o) =
          let rest = drop (4 * words_of z) out in
          ap length o ∙ omega (arith, length-append (made z seed) rest, made_length z seed, length-drop (4 * words_of z) out, total_is z)

  -- ---- what is made

  record IsMade : Type 0 where
    pub fits : SizesFit z
    pub left : (make seed z out).output ≡ made z seed ++ drop (4 * words_of z) out

  is_made : MadeWhole seed z out → IsMade
  is_made d = go outcome
    where
      go : Outcome → IsMade
      go (zero_seed e a o) = absurd (differ a d (λ g. omega arith))
      go (unfit n m a o) = absurd (differ a d (λ g. omega arith))
      go (short n m a o) = absurd (differ a d (λ g. omega arith))
      go (whole n m h a o) = record { fits = m; left = o }

  description_is : MadeWhole seed z out → description_from seed z out ≡ made z seed
  description_is d =
      ap (take (4 * word_total z)) (is_made d).left
      ∙ subst (λ (k : ℕ). take k (made z seed ++ drop (4 * words_of z) out) ≡ made z seed)
      (made_length z seed ∙ ap (λ (k : ℕ). 4 * k) (total_is z)) (take-append_seam (made z seed) (drop (4 * words_of z) out))

  pub word_is : MadeWhole seed z out → (k : ℕ) → 3 ≤ k → k < word_total z
      → word_at (description_from seed z out) k ≡ drawn z k (after (k - 2) seed)
  word_is d k h l =
      ap (λ (s : List ℕ). word_at s k) (description_is d) ∙ made_word z seed (is_made d).fits k h (omega (arith, total_is z))

  -- it meets the conditions of 1 to 4
  made_meets : SizesFit z → (l : Limits) (c : Condition) → In c conditions_before → Asks l (made z seed) c
  made_meets f l c i = go i
    where
      s : List ℕ
      s = made z seed

      sizes : sizes_of s ≡ z
      sizes = made_sizes z seed f

      words : WordsFit s z
      words = parts_fit s z λ k h m. ap (in_range z k) (made_word z seed f k h m) ∙ drawn_in_range z k (after (k - 2) seed)

      by : (d : Condition) → Asks l s d → c ≡ d → Asks l s c
      by d h e = subst (Asks l s) (sym e) h

      go : In c conditions_before → Asks l s c
      go (here e) = by Begins (omega (arith, made_length z seed)) e
      go (there (here e)) = by Sizes-fit (subst SizesFit (sym sizes) f) e
      go (there (there (here e))) =
          by Long (made_length z seed ∙ ap (λ (k : ℕ). 4 * k) (total_is z) ∙ ap (λ (y : Sizes). 4 * word_total y) (sym sizes)) e
      go (there (there (there (here e)))) = by Words-fit (subst (WordsFit s) (sym sizes) words) e
      go (there (there (there (there e)))) = elim e [ ]

  meets : MadeWhole seed z out → (l : Limits) (c : Condition) → In c conditions_before → Asks l (description_from seed z out) c
  meets d l c i = subst (λ (s : List ℕ). Asks l s c) (sym (description_is d)) (made_meets (is_made d).fits l c i)

-- ---- where all up to 4 are met, Accept answers by those after

answered_after : (l : Limits) (s : List ℕ) → Held l s (Board ∷ conditions_before) → AnsweredBy l s (conditions_after (sizes_of s).streams)
unfolding refusal_of numbered
answered_after l s h =
    (dropped l s (Board ∷ conditions_before) (conditions_after (sizes_of s).streams) (tests_before l s) (tests_after l s) 4 {B = ⊥}
    (fails λ x. x) refl tt (tries l s) refl).answered_after h

answered : (seed : ℕ) (z : Sizes) (out : List ℕ) → MadeWhole seed z out → (l : Limits) → Known l
    → AnsweredBy l (description_from seed z out) (conditions_after z.streams)
answered seed z out d l known =
    subst (λ (s : List ℕ). AnsweredBy l s (conditions_after z.streams)) (sym (description_is seed z out d))
    (subst (λ (y : Sizes). AnsweredBy l (made z seed) (conditions_after y.streams)) (made_sizes z seed f)
    (answered_after l (made z seed) held))
  where
    f : SizesFit z
    f = (is_made seed z out d).fits

    held : Held l (made z seed) (Board ∷ conditions_before)
    held c (here e) = subst (Asks l (made z seed)) (sym e) known
    held c (there i) = made_meets seed z out f l c i

-- every call
pub makes : (seed : ℕ) (z : Sizes) (out : List ℕ) → Makes seed z out
unfolding make refusal
makes seed z out =
    record {
      zero_seed = λ e. rw (eq-eqb seed 0 e) refl;
      sizes = unfit_thirty seed z out;
      short = λ n f h. rw (ne_eqb seed 0 n, fits_false z f, lt-ltb (length out) (4 * words_of z) (omega (arith, total_is z))) refl;
      whole = λ n f h.
          rw (ne_eqb seed 0 n, fits_false z f, le-ltb (length out) (4 * words_of z) (omega (arith, total_is z)))
          (ap (λ (k : ℕ). Made (4 * k)) (total_is z));
      by_two = by_two seed z out;
      given = λ d. ap sizes_of (description_is seed z out d) ∙ made_sizes z seed (is_made seed z out d).fits;
      words = word_is seed z out;
      rest = λ k h. past_same {n = 4 * words_of z} (make seed z out).output out (make_beyond seed z out) k (omega (arith, total_is z));
      long = kept seed z out;
      meets = meets seed z out;
      answered = answered seed z out;
    }
