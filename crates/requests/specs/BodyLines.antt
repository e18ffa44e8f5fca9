-- The lines of a description: each is that of its number, as each stream is, and those of one that meets the conditions have words in
-- range. Assumes nothing.
use Rattle.std.specs.Prelude.{◌≡◌, refl, Bool, true, false, ℕ, suc, ◌+◌, ◌-◌, ◌^◌, ◌≤◌, ◌<◌, ltb, get_or, replicate, take, pos, negsuc}
use Rattle.std.proofs.Common.{sym, ◌∙◌, ap, arith, lt-ltb}
use Rattle.std.proofs.Math.Path.{subst}
use mathlib.Core.List.Memᴰ.{map as in_map}
use mathlib.Core.List.{List, ◌++◌, map, Memᴰ as In}
use Rattle.std.proofs.Math.Seq.{take-append_seam}
use Rattle.std.specs.Int.{w32}
use mir.Val.{to_z, sel}
use Rattle.integers.specs.Differences.{le_out, le_in}
use Rattle.integers.specs.Bytes.{bits_at, word_at}
use Rattle.meaning.specs.declared.Sizes.{Sizes}
use Rattle.meaning.specs.declared.Line.{Line}
use Rattle.meaning.specs.Lists.{numbers}
use Rattle.meaning.specs.Points.{Between}
use Rattle.meaning.specs.Operations.{last_operation}
use Rattle.meaning.specs.Guards.{last_comparison}
use Rattle.meaning.specs.Description.{decoded, sizes_of, line_at, stream_of, body_line, no_stream, no_line, description_of, streams_of}
use Rattle.meaning.specs.Description.{lines_of}
use Rattle.meaning.specs.Conditions.{SizesFit, WordsFit}
use Rattle.lists.specs.Members.{map_in, in_numbers, numbers_in}
use Rattle.lists.specs.Rows.{length_numbers, get_d_first}

-- ---- what bytes and sizes decode to

-- of n parts that are followed by others the first n are those, each at its number
module _ {A : Type 0} (f : ℕ → A) (n : ℕ) (rest : List A) where
  parts_are : take n (map f (numbers n) ++ rest) ≡ map f (numbers n)
  parts_are =
      subst (λ (k : ℕ). take k (map f (numbers n) ++ rest) ≡ map f (numbers n)) (length_numbers f 0 n)
      (take-append_seam (map f (numbers n)) rest)

  part_at : (d : A) (i : ℕ) → i < n → get_or (take n (map f (numbers n) ++ rest)) i d ≡ f i
  part_at d i h = ap (λ (l : List A). get_or l i d) parts_are ∙ get_d_first f d n i h

-- the lines in use
pub lines_are : (u : List ℕ) (z : Sizes) → lines_of (decoded u z) ≡ map (body_line u z) (numbers z.lines)
lines_are u z = parts_are (body_line u z) z.lines (replicate (8 - z.lines) no_line)

-- ---- a word from 0 to n as bits

pub bits_most : (u n : ℕ) → Between (pos 0) (pos n) (to_z w32 u) → u ≤ n
bits_most u n h = go (ltb u (2 ^ 31)) h
  where
    go : (b : Bool) → Between (pos 0) (pos n) (sel b (pos u) (negsuc (2 ^ 32 - suc u))) → u ≤ n
    go true h = omega (arith, le_out h.hi)
    go false h = absurd (omega (arith, le_out h.lo))

pub between_bits : (u n : ℕ) → u ≤ n → n < 2 ^ 31 → Between (pos 0) (pos n) (to_z w32 u)
between_bits u n h k = rw (lt-ltb u (2 ^ 31) (omega arith)) (record { lo = le_in (omega arith); hi = le_in (omega arith) })

pub word_bits : (u n : ℕ) → n < 2 ^ 31 → Between (pos 0) (pos n) (to_z w32 u) → pos u ≡ to_z w32 u
word_bits u n k h = rw (lt-ltb u (2 ^ 31) (omega (arith, bits_most u n h))) refl

-- ---- the lines of a description

-- operations, loop numbers and comparisons that there are
pub record Allowed (t : Line) : Type 0 where
  pub operation : t.operation ≤ last_operation
  pub index : t.index ≤ 2
  pub comparison : t.comparison ≤ last_comparison

module _ (s : List ℕ) where
  abbrev z : Sizes
  z = sizes_of s

  -- a line is that of its number
  pub line_of_lem : {t : Line} → In t (lines_of (description_of s)) → (i : ℕ) × (i < z.lines) × (t ≡ body_line s z i)
  unfolding description_of
  line_of_lem {t} k =
      let r = map_in (body_line s z) (numbers z.lines) (subst (In t) (lines_are s z) k) in
      let b = numbers_in 0 z.lines r.mem in (r.from, omega (arith, b.1), r.is)

  pub of_line : (i : ℕ) → i < z.lines → In (body_line s z i) (lines_of (description_of s))
  unfolding description_of
  of_line i h =
      subst (In (body_line s z i)) (sym (lines_are s z)) (in_map (body_line s z) (in_numbers 0 z.lines i (omega arith) (omega arith)))

  pub line_at_lem : (i : ℕ) → i < z.lines → get_or (lines_of (description_of s)) i no_line ≡ body_line s z i
  unfolding description_of
  line_at_lem i h = part_at (body_line s z) z.lines (replicate (8 - z.lines) no_line) no_line i h

  -- and a stream too
  pub stream_at : (i : ℕ) → i < z.streams → get_or (streams_of (description_of s)) i no_stream ≡ stream_of s z i
  unfolding description_of
  stream_at i h = part_at (stream_of s z) z.streams (replicate (6 - z.streams) no_stream) no_stream i h

  pub allowed : SizesFit z → WordsFit s z → (t : Line) → In t (lines_of (description_of s)) → Allowed t
  unfolding body_line word_at
  allowed h f t k =
      let r = line_of_lem k in
      let i = r.0 in
      subst Allowed (sym r.2)
      (record {
        operation = bits_most (bits_at s (line_at z i)) last_operation (f.operation i r.1);
        index = omega (arith, bits_most (bits_at s (line_at z i + 4)) (z.loops - 1) (f.guard i r.1).index, h.loops);
        comparison = bits_most (bits_at s (line_at z i + 5)) last_comparison (f.guard i r.1).comparison;
      })
