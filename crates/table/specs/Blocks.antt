-- The columns' words, block by block: those of the processes, then a block for each stream in use. Assumes nothing.
use Rattle.std.specs.Prelude.{◌≡◌, ◌⊎◌, List, ◌++◌, ℕ, ◌+◌, ◌*◌, ◌-◌, ◌≤◌, ◌<◌, length, get_or, take, drop, replicate}
use Rattle.std.proofs.Common.{◌∙◌, ap, inl, inr, zero-add, eq-or-lt_of_le, mul-le-mul_right, arith, length-take-le}
use Rattle.std.proofs.Common.{get_or-take, get_or-drop, get_or-append-add}
use Rattle.std.proofs.Math.ListN.{get_or-append}
use Rattle.std.proofs.lemmas.List.{length-replicate}
use borrow.Rule.Slice.PartMut.{put_mid}
use Rattle.integers.specs.declared.V2.{V2}
use Rattle.meaning.specs.declared.Nest.{Nest}
use Rattle.meaning.specs.declared.Stream.{Stream}
use Rattle.meaning.specs.Space.{processes}
use Rattle.meaning.specs.Description.{no_stream}
use Rattle.meaning.specs.Array.{row_soak}
use Rattle.lists.specs.Stores.{replicated}
use Rattle.layout.specs.Parts.{put_before, put_in, put_after}
use Rattle.layout.specs.Spans.{process_of}
use Rattle.pipes.specs.Elements.{row_drain}
use Rattle.pipes.specs.Passed.{Passed}

-- the words of the first m of some streams, and zeros past them
pub record Streamed (n : Nest) (ss : List Stream) (m : ℕ) (w : List ℕ) : Type 0 where
  pub soaks : (i p : ℕ) → i < m → p < length (processes n)
      → get_or w (3072 + p + i * 2048) 0 ≡ row_soak n (get_or ss i no_stream) (process_of n p)
  pub drains : (i p : ℕ) → i < m → p < length (processes n)
      → get_or w (4096 + p + i * 2048) 0 ≡ row_drain n (get_or ss i no_stream) (process_of n p)
  pub rest : (k : ℕ) → 3072 + m * 2048 ≤ k → get_or w k 0 ≡ 0

-- ---- stream by stream

pub zeros_length : {w : List ℕ} → w ≡ replicate 15360 0 → length w ≡ 15360
zeros_length e = ap (λ (l : List ℕ). length l) e ∙ length-replicate {A = ℕ} 15360 0

pub streamed_none : (n : Nest) (ss : List Stream) (k : ℕ) → Streamed n ss 0 (replicate k 0)
streamed_none n ss k =
    record { soaks = λ i p l m. absurd (omega arith); drains = λ i p l m. absurd (omega arith); rest = λ j l. replicated 0 k j }

module _ {n : Nest} {ss : List Stream} {i : ℕ} {w : List ℕ} (a k : ℕ) (ys : List ℕ) (few : length (processes n) ≤ 1024)
    (at : a ≡ 3072 + i * 2048)
    (wide : k ≡ 2048) (in_words_lem : a ≤ length w) (size : length ys ≡ k)
    (g : Streamed n ss i w) (b : Passed n (get_or ss i no_stream) ys) where
  abbrev w' : List ℕ
  w' = put_mid a k w ys

  before : (j : ℕ) → j < a → get_or w' j 0 ≡ get_or w j 0
  before j l = put_before a k w ys 0 in_words_lem j l

  within : (q j : ℕ) → q < 2048 → j ≡ a + q → get_or w' j 0 ≡ get_or ys q 0
  within q j l e = ap (λ (j : ℕ). get_or w' j 0) e ∙ put_in a k w ys 0 in_words_lem q (omega arith)

  -- one column of all blocks, q words after the first
  column : (f : Stream → V2 → ℕ) (q : ℕ) → q ≤ 1024
      → ((p : ℕ) → p < length (processes n) → get_or ys (q + p) 0 ≡ f (get_or ss i no_stream) (process_of n p))
      → ((j p : ℕ) → j < i → p < length (processes n) → get_or w (3072 + q + p + j * 2048) 0 ≡ f (get_or ss j no_stream) (process_of n p))
      → (j p : ℕ) → j < i + 1 → p < length (processes n)
      → get_or w' (3072 + q + p + j * 2048) 0 ≡ f (get_or ss j no_stream) (process_of n p)
  column f q h new old j p l m = go (eq-or-lt_of_le (let h : j ≤ i = omega arith in h))
    where
      go : (j ≡ i) ⊎ (j < i) → get_or w' (3072 + q + p + j * 2048) 0 ≡ f (get_or ss j no_stream) (process_of n p)
      go (inl e) = rw e (within (q + p) (3072 + q + p + i * 2048) (omega arith) (omega arith) ∙ new p m)
      go (inr k) = before (3072 + q + p + j * 2048) (omega (arith, mul-le-mul_right 2048 k)) ∙ old j p k m

  pub streamed_next : Streamed n ss (i + 1) w'
  streamed_next =
      record {
        soaks = column (row_soak n) 0 (omega arith) (λ p m. ap (λ (k : ℕ). get_or ys k 0) (zero-add p) ∙ b.soaks p m) g.soaks;
        drains = column (row_drain n) 1024 (omega arith) b.drains g.drains;
        rest = λ j l. put_after a k w ys 0 in_words_lem j size (omega arith) ∙ g.rest j (omega arith);
      }

-- ---- the processes' words in front

module _ (es w : List ℕ) (wide : 3072 ≤ length es) where
  abbrev pub copied : List ℕ
  copied = take 3072 es ++ drop 3072 w

  front : length (take 3072 es) ≡ 3072
  front = length-take-le 3072 es wide

  pub front_copied : (k : ℕ) → k < 3072 → get_or copied k 0 ≡ get_or es k 0
  front_copied k l = get_or-append (take 3072 es) (drop 3072 w) 0 k (omega (arith, front)) ∙ get_or-take 3072 es k 0 l

  pub streamed_copied : {n : Nest} {ss : List Stream} {m : ℕ} → Streamed n ss m w → Streamed n ss m copied
  streamed_copied g =
      record {
        soaks = λ i p l m. past (3072 + p + i * 2048) (omega arith) ∙ g.soaks i p l m;
        drains = λ i p l m. past (4096 + p + i * 2048) (omega arith) ∙ g.drains i p l m;
        rest = λ k l. past k (omega arith) ∙ g.rest k l;
      }
    where
      past : (k : ℕ) → 3072 ≤ k → get_or copied k 0 ≡ get_or w k 0
      past k l =
          let j = k - 3072 in
          let t : k ≡ length (take 3072 es) + j = omega (arith, front) in
          let s : 3072 + j ≡ k = omega arith in
          ap (λ (i : ℕ). get_or copied i 0) t ∙ get_or-append-add (take 3072 es) (drop 3072 w) j 0 ∙ get_or-drop 3072 w j 0
          ∙ ap (λ (i : ℕ). get_or w i 0) s
