-- Demand 1: the numbers and values of answers, that a declined call changes nothing, and that no word beyond the named length changes.
-- Assumes nothing.
use Rattle.std.specs.Prelude.{◌≡◌, Bool, cond, eqb, length, replicate}
use Rattle.std.proofs.Math.Path.{refl}
use Rattle.std.proofs.Common.{sym, ◌∙◌, subst, eqb-true, eq-eqb}
use Rattle.std.proofs.Math.Bool.{true, false}
use mathlib.Core.List.{List, ◌++◌, map}
use Prim.Native.Nat.{ℕ, suc, ◌*◌}
use Rattle.std.proofs.Math.ListN.{drop}
use Rattle.std.proofs.lemmas.List.{length-map, length-replicate}
use Rattle.std.proofs.Math.Seq.{drop-append_seam}
use Rattle.integers.specs.declared.V2.{V2}
use Rattle.meaning.specs.declared.Limits.{Limits}
use Rattle.meaning.specs.declared.Sizes.{Sizes}
use Rattle.meaning.specs.declared.Row.{Row}
use Rattle.meaning.specs.Lists.{numbers_from, numbers}
use Rattle.meaning.specs.Tests.{refusal}
use Rattle.meaning.specs.Space.{processes}
use Rattle.meaning.specs.Description.{words_of, description_of}
use Rattle.meaning.specs.Accept.{refusal_of, accept}
use Rattle.meaning.specs.Rules.{Memory}
use Rattle.meaning.specs.Calls.{state_length, refused_by, memory_tests, table_tests, start_tests, step_tests, ready_tests, window_tests}
use Rattle.meaning.specs.Calls.{result_tests, plain_tests, started, step_of, ready_word, table, start, step, run, ready_call, window}
use Rattle.meaning.specs.Calls.{result}
use Rattle.meaning.specs.Calls.{plain_run, row_of}
use Rattle.meaning.specs.StepVectors.{vector_tests, step_vectors}
use Rattle.meaning.specs.Generator.{after, fill_tests, fill, made, make_tests, make}
use Rattle.meaning.specs.Demand1.{Values, Declined, NothingChanged, DemandOne}
use Rattle.lists.specs.Rows.{length_numbers}
use Rattle.network.specs.Declined.{numbers_are}
use Rattle.generated.specs.Made.{made_length}
use Rattle.guarantee.proofs.Beyond.{step_beyond, run_beyond}

-- a number that is not 0
not_zero : (n : ℕ) → Declined n → eqb n 0 ≡ false
not_zero n h = go (eqb n 0) (eqb-true n 0)
  where
    go : (b : Bool) → (b ≡ true → n ≡ 0) → b ≡ false
    go true k = absurd (h (k refl))
    go false k = refl

-- behind a list that is joined to what stood past its length
past : {B : Type 0} {n : ℕ} (xs ys : List B) → length xs ≡ n → drop n (xs ++ ys) ≡ ys
past xs ys e = subst (λ (k : ℕ). drop k (xs ++ ys) ≡ ys) e (drop-append_seam xs ys)

module _ (l : Limits) (s : List ℕ) where
  -- ---- values

  values_are : Values l s
  unfolding accept run ready_call make
  values_are =
      record {
        accept = λ e. rw (eq-eqb (refusal_of l s) 0 (sym (numbers_are l s).accept ∙ e));
        run = λ n M e. rw (eq-eqb (refused_by l s (memory_tests (description_of s) M)) 0 (sym ((numbers_are l s).run n M) ∙ e));
        ready = λ words M e. rw (eq-eqb (refused_by l s (ready_tests l s words M)) 0 (sym ((numbers_are l s).ready words M) ∙ e));
        make = λ seed z out e. rw (eq-eqb (refusal (make_tests seed z out)) 0 (sym ((numbers_are l s).make seed z out) ∙ e));
      }

  -- ---- declined calls

  unchanged : NothingChanged l s
  unfolding table start step run ready_call window result plain_run fill make step_vectors
  unchanged =
      record {
        table = λ rows h. rw (not_zero (refused_by l s (table_tests l s rows)) (λ e. h ((numbers_are l s).table rows ∙ e)));
        start = λ values M h. rw (not_zero (refused_by l s (start_tests l s values M)) (λ e. h ((numbers_are l s).start values M ∙ e)));
        step = λ kind number stream M h.
            rw (not_zero (refused_by l s (step_tests l s (step_of l s kind number stream) M))
            (λ e. h ((numbers_are l s).step kind number stream M ∙ e)));
        run = λ n M h. rw (not_zero (refused_by l s (memory_tests (description_of s) M)) (λ e. h ((numbers_are l s).run n M ∙ e)));
        ready = λ words M h. rw (not_zero (refused_by l s (ready_tests l s words M)) (λ e. h ((numbers_are l s).ready words M ∙ e)));
        window = λ pipe side waiting received h. rw (not_zero (refused_by l s (window_tests l s pipe side waiting received)) h);
        result = λ output M h. rw (not_zero (refused_by l s (result_tests l s output M)) (λ e. h ((numbers_are l s).result output M ∙ e)));
        plain = λ values output h.
            rw (not_zero (refused_by l s (plain_tests l s values output)) (λ e. h ((numbers_are l s).plain values output ∙ e)));
        fill = λ seed n list h. rw (not_zero (refusal (fill_tests seed n list)) (λ e. h ((numbers_are l s).fill seed n list ∙ e)));
        make = λ seed z out h. rw (not_zero (refusal (make_tests seed z out)) (λ e. h ((numbers_are l s).make seed z out ∙ e)));
        vectors = λ k lent h. rw (not_zero (refusal (vector_tests l s k)) (λ e. h ((numbers_are l s).vectors k lent ∙ e)));
      }

  -- ---- beyond the named length

  table_beyond : (rows : List Row)
      → drop (length (processes (description_of s).nest)) (table l s rows).rows ≡ drop (length (processes (description_of s).nest)) rows
  unfolding table
  table_beyond rows = go (eqb (refused_by l s (table_tests l s rows)) 0)
    where
      ys : List V2
      ys = processes (description_of s).nest

      go : (b : Bool) → drop (length ys) (cond b (map (row_of l s) ys ++ drop (length ys) rows) rows) ≡ drop (length ys) rows
      go true = past (map (row_of l s) ys) (drop (length ys) rows) (length-map ys (row_of l s))
      go false = refl

  start_beyond : (values : List ℕ) (M : Memory)
      → drop (state_length (description_of s)) (start l s values M).memory.state ≡ drop (state_length (description_of s)) M.state
  unfolding start
  start_beyond values M = go (eqb (refused_by l s (start_tests l s values M)) 0)
    where
      n : ℕ
      n = state_length (description_of s)

      go : (b : Bool) → drop n (cond b (started l s values M) M).state ≡ drop n M.state
      go true = past (replicate n 0) (drop n M.state) (length-replicate {A = ℕ} n 0)
      go false = refl

  ready_beyond : (words : List ℕ) (M : Memory) → drop 16 (ready_call l s words M).words ≡ drop 16 words
  unfolding ready_call numbers_from
  ready_beyond words M = go (eqb (refused_by l s (ready_tests l s words M)) 0)
    where
      go : (b : Bool) → drop 16 (cond b (map (ready_word l s M.state) (numbers 16) ++ drop 16 words) words) ≡ drop 16 words
      go true = refl
      go false = refl

pub fill_beyond : (seed n : ℕ) (list : List ℕ) → drop n (fill seed n list).list ≡ drop n list
unfolding fill
fill_beyond seed n list = go (eqb (refusal (fill_tests seed n list)) 0)
  where
    values : List ℕ
    values = map (λ i. after (suc i) seed) (numbers n)

    go : (b : Bool) → drop n (cond b (values ++ drop n list) list) ≡ drop n list
    go true = past values (drop n list) (length_numbers (λ i. after (suc i) seed) 0 n)
    go false = refl

pub make_beyond : (seed : ℕ) (z : Sizes) (out : List ℕ) → drop (4 * words_of z) (make seed z out).output ≡ drop (4 * words_of z) out
unfolding make
make_beyond seed z out = go (eqb (refusal (make_tests seed z out)) 0)
  where
    go : (b : Bool) → drop (4 * words_of z) (cond b (made z seed ++ drop (4 * words_of z) out) out) ≡ drop (4 * words_of z) out
    go true = past (made z seed) (drop (4 * words_of z) out) (made_length z seed)
    go false = refl

-- DEMAND 1
pub demand_one : DemandOne
demand_one l s =
    record {
      numbers = numbers_are l s;
      values = values_are l s;
      unchanged = unchanged l s;
      beyond =
          record {
            table = table_beyond l s;
            start = start_beyond l s;
            step = step_beyond l s;
            run = run_beyond l s;
            ready = ready_beyond l s;
            fill = fill_beyond;
            make = make_beyond;
          };
    }
