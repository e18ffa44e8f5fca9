-- Ready as a caller's loop: the words are cleared, each process that passes a test is marked, in ascending order, and the count and the
-- lowest are asked. What that leaves and answers is what document 01's call says. Assumes nothing.
use Rattle.std.specs.Prelude.{◌≡◌, refl, Bool, true, false, cond, List, [], ◌∷◌, ◌++◌, ℕ, zero, suc, ◌+◌, ◌/◌, ◌%◌, ◌^◌, ◌≤◌, eqb, length}
use Rattle.std.specs.Prelude.{get_or, take, drop, replicate}
use Rattle.std.proofs.Common.{sym, ◌∙◌, ap, add-one, arith, length-set, take_at, eq-eqb, eqb-true, ltb-true, ltb-false}
use Rattle.std.proofs.Math.Path.{fun_ext}
use Rattle.std.specs.Int.Bits.{bit_or}
use Rattle.std.proofs.Math.Dec.{ltb}
use Rattle.std.proofs.lemmas.Bool.{eqb-false}
use Rattle.meaning.specs.Lists.{filter, position, numbers}
use Rattle.meaning.specs.declared.Limits.{Limits}
use Rattle.meaning.specs.Answers.{Ready}
use Rattle.meaning.specs.Array.{process_count}
use Rattle.meaning.specs.Rules.{Memory}
use Rattle.meaning.specs.Tests.{◌if◌}
use Rattle.meaning.specs.Calls.{A, d, can_move, memory_tests, refused_by, ready_call}
use Rattle.bits.specs.Numbers.{below, below_true, below_false}
use Rattle.bits.specs.Tested.{word_of}
use Rattle.bits.specs.Words.{words_of, cleared, marked, ones_of, lowest_from, words_never, words_length, including}
use Rattle.bits.specs.Words.{including_same, including_other, words_marked, words_count, words_lowest}

-- the words after the first k processes
unfoldable pub marked_to : (ℕ → Bool) → ℕ → List ℕ → List ℕ
marked_to f zero words = words
marked_to f (suc k) words = cond (f k) (marked (marked_to f k words) k) (marked_to f k words)

-- ---- for the loop's invariant

pub marked_none : (f : ℕ → Bool) (words : List ℕ) → marked_to f 0 words ≡ words
unfolding marked_to
marked_none f words = refl

-- a turn of the loop, by process k's test
pub marked_pass : (f : ℕ → Bool) (k : ℕ) (words : List ℕ) → f k ≡ true → marked_to f (k + 1) words ≡ marked (marked_to f k words) k
unfolding marked_to
marked_pass f k words t = rw (add-one, t)

pub marked_fail : (f : ℕ → Bool) (k : ℕ) (words : List ℕ) → f k ≡ false → marked_to f (k + 1) words ≡ marked_to f k words
unfolding marked_to
marked_fail f k words t = rw (add-one, t)

pub marked_length : (f : ℕ → Bool) (k : ℕ) (words : List ℕ) → length (marked_to f k words) ≡ length words
unfolding marked_to
marked_length f zero words = refl
marked_length f (suc k) words = go (f k) ∙ marked_length f k words
  where
    before : List ℕ
    before = marked_to f k words

    go : (b : Bool) → length (cond b (marked before k) before) ≡ length before
    go true = length-set before (k / 64) (bit_or (get_or before (k / 64) 0) (2 ^ (k % 64)))
    go false = refl

-- ---- what the loop leaves

-- a test of the first k processes, with process k's outcome besides
module _ (f : ℕ → Bool) (k : ℕ) where
  elsewhere : (q : ℕ) → (q ≡ k → ⊥) → below k f q ≡ below (suc k) f q
  elsewhere q n = go (ltb q k) refl
    where
      go : (b : Bool) → ltb q k ≡ b → below k f q ≡ below (suc k) f q
      go true e = let l = ltb-true q k e in below_true k f q l ∙ sym (below_true (suc k) f q (omega arith))
      go false e = let l = ltb-false q k e in below_false k f q l ∙ sym (below_false (suc k) f q (omega arith))

  one_more : (g : ℕ → Bool) → g k ≡ f k → ((q : ℕ) → (q ≡ k → ⊥) → g q ≡ below k f q) → g ≡ below (suc k) f
  one_more g here other = fun_ext (λ q. go q (eqb q k) refl)
    where
      go : (q : ℕ) (b : Bool) → eqb q k ≡ b → g q ≡ below (suc k) f q
      go q true t = let e = eqb-true q k t in ap g e ∙ here ∙ ap f (sym e) ∙ sym (below_true (suc k) f q (omega arith))
      go q false t = let n = eqb-false q k t in other q n ∙ elsewhere q n

  passing : f k ≡ true → including (below k f) k ≡ below (suc k) f
  passing t = one_more (including (below k f) k) (including_same (below k f) k k refl ∙ sym t) (including_other (below k f) k)

  failing : f k ≡ false → below k f ≡ below (suc k) f
  failing t = one_more (below k f) (below_false k f k (omega arith) ∙ sym t) (λ q n. refl)

marked_words : (f : ℕ → Bool) (k : ℕ) (rest : List ℕ) → k ≤ 1024 → marked_to f k (replicate 16 0 ++ rest) ≡ words_of (below k f) ++ rest
unfolding marked_to
marked_words f zero rest h =
    ap (λ (l : List ℕ). l ++ rest) (sym words_never ∙ ap words_of (fun_ext (λ q. sym (below_false 0 f q (omega arith)))))
marked_words f (suc k) rest h = go (f k) refl (marked_words f k rest (omega arith))
  where
    before : List ℕ
    before = marked_to f k (replicate 16 0 ++ rest)

    go : (b : Bool) → f k ≡ b → before ≡ words_of (below k f) ++ rest → cond b (marked before k) before ≡ words_of (below (suc k) f) ++ rest
    go true t e =
        ap (λ (l : List ℕ). marked l k) e ∙ words_marked (below k f) k rest (omega arith)
        ∙ ap (λ (g : ℕ → Bool). words_of g ++ rest) (passing f k t)
    go false t e = e ∙ ap (λ (g : ℕ → Bool). words_of g ++ rest) (failing f k t)

module _ (f : ℕ → Bool) (n : ℕ) (words : List ℕ) (h : n ≤ 1024) where
  pub ready_words : marked_to f n (cleared words) ≡ words_of (below n f) ++ drop 16 words
  ready_words = marked_words f n (drop 16 words) h

  first_sixteen : take 16 (marked_to f n (cleared words)) ≡ words_of (below n f)
  first_sixteen = ap (take 16) ready_words ∙ take_at (words_of (below n f)) (drop 16 words) 16 (words_length (below n f))

  -- what count and lowest answer
  pub ready_count : ones_of (take 16 (marked_to f n (cleared words))) ≡ length (filter f (numbers n))
  ready_count = ap ones_of first_sixteen ∙ words_count f n h

  pub ready_lowest : lowest_from n 0 (take 16 (marked_to f n (cleared words))) ≡ position f (numbers n)
  ready_lowest = ap (lowest_from n 0) first_sixteen ∙ words_lowest f n h

-- ---- document 01's call

module _ (l : Limits) (s : List ℕ) where
  -- what the loop leaves in the words for the processes that can move
  abbrev pub readied : List ℕ → List ℕ → List ℕ
  readied st words = marked_to (can_move l s st) (process_count (A l s)) (cleared words)

  -- a call that is not declined
  pub ready_call_lem : (words : List ℕ) (M : Memory) → process_count (A l s) ≤ 1024
      → refused_by l s (memory_tests (d l s) M ++ ((27 if ltb (length words) 16) ∷ [])) ≡ 0
      → ready_call l s words M
      ≡ record {
        answer =
            Ready (ones_of (take 16 (readied M.state words))) (lowest_from (process_count (A l s)) 0 (take 16 (readied M.state words)));
        words = readied M.state words;
      }
  unfolding word_of ready_call
  ready_call_lem words M h e =
      let f = can_move l s M.state in
      let n = process_count (A l s) in
      rw (eq-eqb (refused_by l s (memory_tests (d l s) M ++ ((27 if ltb (length words) 16) ∷ []))) 0 e)
      (rw (ready_count f n words h, ready_lowest f n words h, ready_words f n words h))
