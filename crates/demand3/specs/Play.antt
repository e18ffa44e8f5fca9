-- Calls in words, each with the board that it is told, what they leave of all that is lent, and demand 3 of it. Assumes nothing.
use Rattle.std.specs.Prelude.{◌≡◌, Bool, true, false, cond, List, [], ◌∷◌, eqb, length, get_or}
use Rattle.std.proofs.Math.Path.{refl, ap}
use Rattle.std.proofs.Common.{sym, ◌∙◌, eq-eqb, ne_eqb}
use Prim.Native.Nat.{ℕ, zero, suc, ◌+◌, ◌*◌, ◌-◌, ◌/◌, ◌≤◌, ◌<◌}
use native.Mathlib.Omega.{arith}
use Rattle.meaning.specs.declared.Limits.{Limits}
use Rattle.meaning.specs.Limits.{limits_of}
use Rattle.meaning.specs.Rules.{Memory, memory_of}
use Rattle.meaning.specs.Answers.{answer_number, Answer, Done}
use Rattle.meaning.specs.Calls.{start, step, run, ready_call, window, result}
use Rattle.meaning.specs.Demand3.{CallStep, CallRun, CallReady, CallWindow, CallResult, Told, leaves, memory_after, Demand3}
use Rattle.answer_words.specs.declared.Words.{Words}
use Rattle.answer_words.specs.Words.{words_of, of_answer, of_ran, of_readiness, noted}
use Rattle.window_copy.specs.Copied.{copied}
use Rattle.guarantee.proofs.Guarantee.{guarantee}

-- ---- what is lent

-- the memory; Ready's words, Result's output, a list for the part that Window hands back, and one for the answers
pub record Lent : Type 0 where
  pub memory : Memory
  pub words : List ℕ
  pub output : List ℕ
  pub part : List ℕ
  pub answers : List ℕ

abbrev pub lent_of : List ℕ → List ℕ → List ℕ → List ℕ → List ℕ → List ℕ → List ℕ → Lent
lent_of waiting received state words output part answers =
    record { memory = memory_of waiting received state; words = words; output = output; part = part; answers = answers }

pub same_lent : {M M' : Memory} {ws ws' os os' ps ps' ns ns' : List ℕ} → M ≡ M' → ws ≡ ws' → os ≡ os' → ps ≡ ps' → ns ≡ ns'
    → ◌≡◌ {A = Lent} (record { memory = M; words = ws; output = os; part = ps; answers = ns })
    (record { memory = M'; words = ws'; output = os'; part = ps'; answers = ns' })
same_lent a b c d e = λ i. record { memory = a i; words = b i; output = c i; part = d i; answers = e i }

-- ---- a call

-- what a call leaves of the memory and the lists, and its answer in words
pub record Made : Type 0 where
  pub memory : Memory
  pub words : List ℕ
  pub output : List ℕ
  pub part : List ℕ
  pub answer : Words

abbrev pub made_of : Memory → List ℕ → List ℕ → List ℕ → Words → Made
made_of M words output part answer = record { memory = M; words = words; output = output; part = part; answer = answer }

pub same_made : {M M' : Memory} {ws ws' os os' ps ps' : List ℕ} {a a' : Words} → M ≡ M' → ws ≡ ws' → os ≡ os' → ps ≡ ps' → a ≡ a'
    → made_of M ws os ps a ≡ made_of M' ws' os' ps' a'
same_made a b c d e = λ i. made_of (a i) (b i) (c i) (d i) (e i)

-- what is lent after a call, with its answer noted as the k-th
abbrev pub lent_after : List ℕ → ℕ → Made → Lent
lent_after answers k m =
    record { memory = m.memory; words = m.words; output = m.output; part = m.part; answers = noted answers k m.answer }

-- the first word of the k-th call, and its j-th after that
abbrev pub kind_of : List ℕ → ℕ → ℕ
kind_of ws k = get_or ws (5 * k) 0

abbrev pub call_word : List ℕ → ℕ → ℕ → ℕ
call_word ws k j = get_or ws (5 * k + j) 0

-- the limits of the board that the k-th call is told
abbrev pub limits_at : List ℕ → ℕ → Limits
limits_at ws k = limits_of (call_word ws k 4)

module _ (s ws : List ℕ) where
  abbrev by_kind : {B : Type 0} → ℕ → B → B → B → B → B → B
  by_kind kind a b c d e = cond (eqb kind 0) a (cond (eqb kind 1) b (cond (eqb kind 2) c (cond (eqb kind 3) d e)))

  abbrev pub call_at : ℕ → Lent → Told
  call_at k L =
      record {
        limits = limits_at ws k;
        call =
            by_kind (kind_of ws k) (CallStep (call_word ws k 1) (call_word ws k 2) (call_word ws k 3)) (CallRun (call_word ws k 1))
            (CallReady L.words) (CallWindow (call_word ws k 1) (call_word ws k 2)) (CallResult L.output);
      }

  -- what the k-th call makes of the memory and the lists, by its kind
  module _ (k : ℕ) (M : Memory) (words output part : List ℕ) where
    abbrev made_step : Made
    made_step =
        let r = step (limits_at ws k) s (call_word ws k 1) (call_word ws k 2) (call_word ws k 3) M in
        made_of r.memory words output part (of_answer r.answer)

    abbrev made_run : Made
    made_run = let r = run (limits_at ws k) s (call_word ws k 1) M in made_of r.memory words output part (of_ran r.answer)

    abbrev made_ready : Made
    made_ready = let r = ready_call (limits_at ws k) s words M in made_of M r.words output part (of_readiness r.answer)

    abbrev made_window : Made
    made_window =
        let r = window (limits_at ws k) s (call_word ws k 1) (call_word ws k 2) M.waiting M.received in
        made_of M words output (copied r.part part) (words_of r.refusal [])

    abbrev made_result : Made
    made_result = let r = result (limits_at ws k) s output M in made_of M words r.output part (of_answer r.answer)

    abbrev pub made : Made
    made = by_kind (kind_of ws k) made_step made_run made_ready made_window made_result

    made_memory : (a b c d : Bool)
        → (cond a made_step (cond b made_run (cond c made_ready (cond d made_window made_result)))).memory
        ≡ leaves (limits_at ws k) s M
        (cond a (CallStep (call_word ws k 1) (call_word ws k 2) (call_word ws k 3))
        (cond b (CallRun (call_word ws k 1)) (cond c (CallReady words)
        (cond d (CallWindow (call_word ws k 1) (call_word ws k 2)) (CallResult output)))))
    made_memory true b c d = refl
    made_memory false true c d = refl
    made_memory false false true d = refl
    made_memory false false false true = refl
    made_memory false false false false = refl

  -- what the k-th call leaves of what is lent
  abbrev pub turn : ℕ → Lent → Lent
  turn k L = lent_after L.answers k (made k L.memory L.words L.output L.part)

  -- ---- n calls from the k-th on: what they leave, and which they are

  unfoldable pub play_from : ℕ → ℕ → Lent → Lent
  play_from k zero L = L
  play_from k (suc n) L = play_from (suc k) n (turn k L)

  unfoldable pub calls_from : ℕ → ℕ → Lent → List Told
  calls_from k zero L = []
  calls_from k (suc n) L = call_at k L ∷ calls_from (suc k) n (turn k L)

  turn_memory : (k : ℕ) (L : Lent) → (turn k L).memory ≡ leaves (limits_at ws k) s L.memory (call_at k L).call
  turn_memory k L =
      made_memory k L.memory L.words L.output L.part (eqb (kind_of ws k) 0) (eqb (kind_of ws k) 1) (eqb (kind_of ws k) 2)
      (eqb (kind_of ws k) 3)

  play_memory : (k n : ℕ) (L : Lent) → (play_from k n L).memory ≡ memory_after s L.memory (calls_from k n L)
  unfolding play_from calls_from memory_after
  play_memory k zero L = refl
  play_memory k (suc n) L =
      play_memory (suc k) n (turn k L)
      ∙ ap (λ (M : Memory). memory_after s M (calls_from (suc k) n (turn k L))) (turn_memory k L)

  -- a turn of the loop over n calls
  pub play_next : (n k : ℕ) (L : Lent) → k < n → play_from k (n - k) L ≡ play_from (k + 1) (n - (k + 1)) (turn k L)
  unfolding play_from
  play_next n k L h =
      let e : n - k ≡ suc (n - (k + 1)) = omega arith in
      let f : suc k ≡ k + 1 = omega arith in
      rw e (ap (λ (j : ℕ). play_from j (n - (k + 1)) (turn k L)) f)

  pub play_all : (n : ℕ) (L : Lent) → play_from 0 n L ≡ play_from 0 (n - 0) L
  play_all n L = let e : n ≡ n - 0 = omega arith in ap (λ (m : ℕ). play_from 0 m L) e

  pub play_none : (n k : ℕ) (L : Lent) → n ≤ k → play_from k (n - k) L ≡ L
  unfolding play_from
  play_none n k L h = let e : n - k ≡ 0 = omega arith in rw e refl

-- ---- Start, and then the calls, if it has not declined

module _ (board : ℕ) (s values ws : List ℕ) where
  abbrev pub started : Lent → Lent
  started L =
      record {
        memory = (start (limits_of board) s values L.memory).memory;
        words = L.words;
        output = L.output;
        part = L.part;
        answers = L.answers;
      }

  abbrev pub played : Lent → Lent
  played L = cond (eqb (answer_number (start (limits_of board) s values L.memory).answer) 0)
      (play_from s ws 0 (length ws / 5) (started L)) (started L)

  abbrev pub calls_made : Lent → List Told
  calls_made L = calls_from s ws 0 (length ws / 5) (started L)

  pub played_on : (L : Lent) {r : Answer} {k : ℕ} {L₁ L' : Lent} → r ≡ (start (limits_of board) s values L.memory).answer
      → k ≡ answer_number r → k ≡ 0 → L₁ ≡ started L → L' ≡ play_from s ws 0 (length ws / 5) L₁ → L' ≡ played L
  played_on L a b z e p =
      rw (eq-eqb (answer_number (start (limits_of board) s values L.memory).answer) 0 (ap answer_number (sym a) ∙ sym b ∙ z))
      (p ∙ ap (play_from s ws 0 (length ws / 5)) e)

  pub played_off : (L : Lent) {r : Answer} {k : ℕ} {L' : Lent} → r ≡ (start (limits_of board) s values L.memory).answer
      → k ≡ answer_number r → (k ≡ 0 → ⊥) → L' ≡ started L → L' ≡ played L
  played_off L a b z e =
      rw (ne_eqb (answer_number (start (limits_of board) s values L.memory).answer) 0 (λ f. z (b ∙ ap answer_number a ∙ f))) e

  -- demand 3 of what is left
  pub promised : (L : Lent) {r : Answer} {L' : Lent} → r ≡ (start (limits_of board) s values L.memory).answer → L' ≡ played L → r ≡ Done
      → Demand3 (limits_of board) s values L.memory
      × (L'.memory ≡ memory_after s (start (limits_of board) s values L.memory).memory (calls_made L))
  promised L {r} {L'} a e d = (
    guarantee (limits_of board) s values L.memory (sym a ∙ d),
    ap (λ (L : Lent). L.memory) e
        ∙ ap (λ (A : Answer). (cond (eqb (answer_number A) 0) (play_from s ws 0 (length ws / 5) (started L)) (started L)).memory) (sym a
        ∙ d)
        ∙ play_memory s ws 0 (length ws / 5) (started L),
  )
