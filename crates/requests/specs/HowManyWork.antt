-- Request 2.10, "how many step vectors work". Assumes nothing.
use Rattle.std.specs.Prelude.{◌≡◌, ◌⊎◌, Bool, true, false, ℕ, ◌+◌, ◌*◌, ◌^◌, ◌≤◌, ◌<◌, length, get_or, ℤ}
use Rattle.std.proofs.Math.Path.{refl, ap}
use Rattle.std.proofs.Common.{sym, ◌∙◌, subst, inl, inr}
use Rattle.std.proofs.Math.Bool.{cond}
use mathlib.Core.List.{List, [], ◌∷◌, ◌++◌, map, Memᴰ as In}
use Rattle.std.proofs.Math.Decide.{ℕ_discrete, dec_lt}
use native.Mathlib.Omega.{arith}
use Rattle.std.proofs.lemmas.List.{length-map}
use Rattle.std.proofs.Math.ListN.{get_or-eq_default}
use borrow.Author.Tests.{eq-eqb, ne_eqb, lt-ltb, le-ltb}
use Rattle.meaning.specs.declared.Limits.{Limits}
use Rattle.meaning.specs.declared.Description.{Description}
use Rattle.meaning.specs.Lists.{total, numbers}
use Rattle.meaning.specs.Tests.{Test, ◌if◌, refusal}
use Rattle.meaning.specs.Description.{sizes_of, description_of, refused1, refused2, refused3, refused4, refused5}
use Rattle.meaning.specs.Accept.{refused6, refused7, byte_tests, refusal_of, accept}
use Rattle.meaning.specs.Answers.{accept_number, answer_number, Answer, Done, Refused}
use Rattle.meaning.specs.Calls.{answer}
use Rattle.meaning.specs.Conditions.{Known}
use Rattle.meaning.specs.StepVectors.{vectors, answer_to, answers_to, how_many, answer_count, counts_of, vector_tests, step_vectors}
use Rattle.meaning.specs.HowManyWork.{step_vector, Possible, CallDone, leaves, TheStepVectors}
use Rattle.lists.specs.Members.{map_in}
use Rattle.lists.specs.Rows.{length_numbers, get_d_first}
use Rattle.lists.specs.Sums.{total_map}
use Rattle.geometry.specs.Tests.{numbered, none_applies, one_applies}
use Rattle.network.specs.Declined.{numbers_are}
use Rattle.choices.specs.Vectors.{vectors_are}
use Rattle.choices.specs.Counts.{many_none, many_mapped, together}
use Rattle.choices.specs.Answers.{Passes, passes, later_tests, replaced, answer_is, possible, possible_lt}

-- ---- numbers of answers

at_most_seven : (n : ℕ) → n ≤ 7 → (b : Bool) (ts : List Test) → refusal ts ≤ 7 → refusal ((n if b) ∷ ts) ≤ 7
unfolding refusal
at_most_seven n h b ts k = go b
  where
    go : (b : Bool) → cond b n (refusal ts) ≤ 7
    go true = h
    go false = k

no_test : refusal [] ≤ 7
unfolding refusal
no_test = omega arith

answer_refused : (n : ℕ) → (n ≡ 0 → ⊥) → answer n ≡ Refused n
answer_refused n f = ap (λ (b : Bool). cond b Done (Refused n)) (ne_eqb n 0 f)

module _ (l : Limits) (s : List ℕ) (k : ℕ) (lent : List ℕ) where
  abbrev d : Description
  d = description_of s

  abbrev r : ℕ
  r = (sizes_of s).loops

  abbrev answers : List ℕ
  answers = answers_to l s k

  abbrev given : Answer
  given = (step_vectors l s k lent).answer

  -- ---- by its refusal

  abbrev declined_by : ℕ
  declined_by = refusal (vector_tests l s k)

  given_is : given ≡ answer declined_by
  unfolding step_vectors
  given_is = refl

  done_none : CallDone l s k lent → declined_by ≡ 0
  done_none e = sym ((numbers_are l s).vectors k lent) ∙ ap answer_number e

  none_done : declined_by ≡ 0 → CallDone l s k lent
  none_done e = given_is ∙ ap answer e

  leaves_counts : declined_by ≡ 0 → leaves l s k lent ≡ counts_of l s k
  unfolding step_vectors
  leaves_counts e = ap (λ (b : Bool). cond b (counts_of l s k) lent) (eq-eqb declined_by 0 e)

  leaves_lent : (declined_by ≡ 0 → ⊥) → leaves l s k lent ≡ lent
  unfolding step_vectors
  leaves_lent f = ap (λ (b : Bool). cond b (counts_of l s k) lent) (ne_eqb declined_by 0 f)

  by_board : (Known l → ⊥) → declined_by ≡ 33
  unfolding refusal
  by_board f = rw (lt-ltb 1 l.board (omega arith)) refl

  by_k : Known l → 3 < k → declined_by ≡ 34
  unfolding refusal
  by_k h g = rw (le-ltb 1 l.board h, lt-ltb 3 k g) refl

  -- 1 to 7 of the description as lent, and what comes after them
  abbrev early : List Test
  early =
      byte_tests s ++ ((5 if refused5 d.nest) ∷ (6 if refused6 l d.nest) ∷ (7 if refused7 d.nest) ∷ [])

  abbrev late : List Test
  late = later_tests l d d.nest.step

  by_description : Known l → k ≤ 3 → declined_by ≡ refusal early
  unfolding refusal
  by_description h g = rw (le-ltb 1 l.board h, le-ltb 3 k g) refl

  accept_both : Known l → accept_number (accept l s) ≡ refusal (early ++ late)
  unfolding refusal_of refusal
  accept_both h = (numbers_are l s).accept ∙ rw (le-ltb 1 l.board h) refl

  early_most : refusal early ≤ 7
  early_most =
      at_most_seven 1 (omega arith) (refused1 s) _ (at_most_seven 2 (omega arith) (refused2 (sizes_of s)) _
      (at_most_seven 3 (omega arith) (refused3 s (sizes_of s)) _ (at_most_seven 4 (omega arith) (refused4 s (sizes_of s)) _
      (at_most_seven 5 (omega arith) (refused5 d.nest) _ (at_most_seven 6 (omega arith) (refused6 l d.nest) _
      (at_most_seven 7 (omega arith) (refused7 d.nest) _ no_test))))))

  -- which Accept answers exactly where it answers 1 to 7
  early_by : Known l → (a : ℕ) → accept_number (accept l s) ≡ a → 1 ≤ a → a ≤ 7 → refusal early ≡ a
  unfolding numbered
  early_by h a e g m = go (ℕ_discrete (refusal early) 0)
    where
      not_late : Possible a → ⊥
      not_late (inl z) = omega arith
      not_late (inr (inl z)) = omega arith
      not_late (inr (inr z)) = omega (arith, z.0)

      go : Dec (refusal early ≡ 0) → refusal early ≡ a
      go (yes z) =
          absurd (not_late (subst Possible (none_applies early late tt z ∙ sym (accept_both h) ∙ e) (possible l d d.nest.step)))
      go (no f) = one_applies early late f ∙ sym (accept_both h) ∙ e

  early_none : Known l → (accept_number (accept l s) ≡ 0) ⊎ (8 ≤ accept_number (accept l s)) → refusal early ≡ 0
  early_none h o = go (ℕ_discrete (refusal early) 0) o
    where
      go : Dec (refusal early ≡ 0) → (accept_number (accept l s) ≡ 0) ⊎ (8 ≤ accept_number (accept l s)) → refusal early ≡ 0
      go (yes z) o = z
      go (no f) (inl e) = absurd (f (one_applies early late f ∙ sym (accept_both h) ∙ e))
      go (no f) (inr g) = absurd (omega (arith, early_most, one_applies early late f ∙ sym (accept_both h)))

  refused_by_lem : (a : ℕ) → declined_by ≡ a → (a ≡ 0 → ⊥) → given ≡ Refused a
  refused_by_lem a e f = given_is ∙ ap answer e ∙ answer_refused a f

  -- ---- a call that is done

  module _ (done : CallDone l s k lent) where
    few : k ≤ 3
    few = (passes l s k (done_none done)).0

    lets : Passes l s
    lets = (passes l s k (done_none done)).1

    possible_answer : (v : List ℤ) → In v (vectors k r) → Possible (answer_to l s v)
    possible_answer v i = subst Possible (sym (answer_is lets k few v i)) (possible l d (step_vector v))

    possible_counted : (x : ℕ) → In x answers → Possible x
    possible_counted x i =
        let m = map_in (answer_to l s) (vectors k r) i in subst Possible (sym m.is) (possible_answer m.from m.mem)

    leaves_are : leaves l s k lent ≡ map (λ a. how_many a answers) (numbers answer_count)
    leaves_are = leaves_counts (done_none done)

    long : length (leaves l s k lent) ≡ 18
    long = ap length leaves_are ∙ length_numbers (λ a. how_many a answers) 0 18

    at : (a : ℕ) → a < 18 → get_or (leaves l s k lent) a 0 ≡ how_many a answers
    at a h = ap (λ (c : List ℕ). get_or c a 0) leaves_are ∙ get_d_first (λ a. how_many a answers) 0 18 a h

    sum : total (λ c. c) (leaves l s k lent) ≡ (2 * k + 1) ^ r
    sum =
        ap (total (λ c. c)) leaves_are ∙ total_map (λ c. c) (λ a. how_many a answers) (numbers 18)
        ∙ together 18 answers (λ x i. possible_lt x (possible_counted x i))
        ∙ length-map (vectors k r) (answer_to l s) ∙ (vectors_are k r).many

    none_of : (a : ℕ) → (Possible a → ⊥) → get_or (leaves l s k lent) a 0 ≡ 0
    none_of a f = go (dec_lt a 18)
      where
        go : Dec (a < 18) → get_or (leaves l s k lent) a 0 ≡ 0
        go (yes h) = at a h ∙ many_none a answers (λ x i e. f (subst Possible e (possible_counted x i)))
        go (no h) = get_or-eq_default (leaves l s k lent) 0 (omega (arith, long))

-- REQUEST 2.10
pub how_many_work : TheStepVectors
how_many_work l s k lent =
    record {
      board = λ f. refused_by_lem l s k lent 33 (by_board l s k lent f) (λ e. omega arith);
      other_k = λ h g. refused_by_lem l s k lent 34 (by_k l s k lent h g) (λ e. omega arith);
      declined = λ h g a e m n.
          refused_by_lem l s k lent a (by_description l s k lent h g ∙ early_by l s k lent h a e m n) (λ z. omega arith);
      done = λ h g o. none_done l s k lent (by_description l s k lent h g ∙ early_none l s k lent h o);
      unchanged = λ f. leaves_lent l s k lent (λ e. f (none_done l s k lent e));
      eighteen = long l s k lent;
      count = λ e a h. at l s k lent e a h ∙ many_mapped a (answer_to l s) (vectors k (sizes_of s).loops);
      all = vectors_are k (sizes_of s).loops;
      replaced = λ e v i. replaced (lets l s k lent e) k (few l s k lent e) v i;
      together = sum l s k lent;
      answers = possible_answer l s k lent;
      none = none_of l s k lent;
    }
