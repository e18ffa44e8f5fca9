-- What a stream's words say: at each process its soak and its drain as the table has them. Assumes nothing.
use Rattle.std.specs.Prelude.{◌≡◌, List, ℕ, ◌+◌, ◌≤◌, ◌<◌, length, get_or}
use Rattle.std.proofs.Common.{sym, ◌∙◌, ap, arith}
use borrow.Rule.Slice.PartMut.{put_mid, mid_of}
use Rattle.integers.specs.Fill.{fill_by}
use Rattle.meaning.specs.declared.Nest.{Nest}
use Rattle.meaning.specs.declared.Stream.{Stream}
use Rattle.meaning.specs.Space.{processes}
use Rattle.meaning.specs.Array.{row_soak}
use Rattle.layout.specs.Parts.{put_before, whole_length, part_at}
use Rattle.layout.specs.Spans.{process_of}
use Rattle.pipes.specs.Elements.{row_drain}

pub record Passed (n : Nest) (s : Stream) (w : List ℕ) : Type 0 where
  pub soaks : (p : ℕ) → p < length (processes n) → get_or w p 0 ≡ row_soak n s (process_of n p)
  pub drains : (p : ℕ) → p < length (processes n) → get_or w (1024 + p) 0 ≡ row_drain n s (process_of n p)

-- two parts filled one after the other
pub passed : (n : Nest) (s : Stream) (k : ℕ) → k ≡ length (processes n) → k ≤ 1024 → (xs a b : List ℕ) → 2048 ≤ length xs
    → a ≡ fill_by (λ p. row_soak n s (process_of n p)) k (mid_of 0 1024 xs)
    → b ≡ fill_by (λ p. row_drain n s (process_of n p)) k (mid_of 1024 1024 (put_mid 0 1024 xs a))
    → Passed n s (put_mid 1024 1024 (put_mid 0 1024 xs a) b)
passed n s k c few xs a b long ea eb =
    let f : ℕ → ℕ = λ p. row_soak n s (process_of n p) in
    let g : ℕ → ℕ = λ p. row_drain n s (process_of n p) in
    let xa = put_mid 0 1024 xs a in
    let la = whole_length f k 0 1024 xs a ea (omega arith) in
    record {
      soaks = λ p l.
          let z : 0 + p ≡ p = omega arith in
          put_before 1024 1024 xa b 0 (omega (arith, la)) p (omega (arith, c)) ∙ sym (ap (λ (i : ℕ). get_or xa i 0) z)
          ∙ part_at f k 0 1024 xs a ea (omega arith) 0 p (omega (arith, c)) few;
      drains = λ p l. part_at g k 1024 1024 xa b eb (omega (arith, la)) 0 p (omega (arith, c)) few;
    }
