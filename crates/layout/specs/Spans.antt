-- What the words of the processes say: of each, by its number, its count, its first instance by the code of its coordinates, that of zero
-- for none, and its last instance by its number in the written order plus one, 0 for none. Assumes nothing.
use Rattle.std.specs.Prelude.{◌≡◌, ◌≢◌, Bool, not, get_or, take, pos}
use Rattle.std.proofs.Math.Path.{refl, sym}
use Rattle.std.proofs.Common.{◌∙◌, ap, subst}
use mathlib.Core.List.{List, [], ◌∷◌}
use Prim.Native.Nat.{ℕ, zero, suc, ◌+◌, ◌-◌, ◌≤◌, ◌<◌, ◌*◌}
use native.Mathlib.Omega.{arith}
use Rattle.std.proofs.Math.ListN.{length}
use borrow.Rule.Slice.PartMut.{put_mid, mid_of}
use Rattle.meaning.specs.Limits.{gauge_limits}
use Rattle.integers.specs.Differences.{Abs}
use Rattle.integers.specs.Fill.{fill_by}
use Rattle.integers.specs.Vectors.{zero2, zero3}
use Rattle.integers.specs.declared.V3.{V3}
use Rattle.integers.specs.declared.V2.{V2}
use Rattle.meaning.specs.declared.Nest.{Nest}
use Rattle.meaning.specs.Lists.{best_or}
use Rattle.meaning.specs.Loops.{instances as instancesOf, increment}
use Rattle.meaning.specs.Space.{processes, sent_to, count_of, sooner, later, first_of, last_of, count, first, last}
use Rattle.meaning.specs.Accept.{against}
use Rattle.geometry.specs.Processes.{Layout}
use Rattle.vectors.specs.Within.{Within}
use Rattle.numbering.specs.Ranges.{Bounded, instance_small}
use Rattle.sweeps.specs.Met.{end_in}
use Rattle.sweeps.specs.Turns.{Swept}
use Rattle.sweeps.specs.Tables.{Table, counts_are, firsts_are, lasts_are, ends_absent}
use Rattle.layout.specs.Parts.{put_before, put_after, mid_at, part_length, part_at}
use Rattle.layout.specs.Codes.{code_of, coded, coded_code}

-- the words of the processes: counts, first and last instances
abbrev pub span_words : ℕ
span_words = 3 * gauge_limits.processes

abbrev pub process_of : Nest → ℕ → V2
process_of n p = get_or (processes n) p zero2

-- the instance of a number plus one
abbrev pub numbered : Nest → ℕ → V3
numbered n zero = zero3
numbered n (suc k) = get_or (instancesOf n) k zero3

pub numbered_none : (n : Nest) (k : ℕ) → k ≡ 0 → zero3 ≡ numbered n k
numbered_none n k e = rw e refl

pub numbered_one : (n : Nest) (k : ℕ) → k ≢ 0 → get_or (instancesOf n) (k - 1) zero3 ≡ numbered n k
numbered_one n zero h = absurd (h refl)
numbered_one n (suc k) h = let e : suc k - 1 ≡ k = omega arith in ap (λ (j : ℕ). get_or (instancesOf n) j zero3) e

-- zero is small, and so is every instance of a nest in range
pub zero_small : Within 64 zero3
zero_small = let z : Abs (pos 0) 64 = record { abs = omega arith } in record { xs = z; ys = z; zs = z }

pub numbered_small : {n : Nest} (k : ℕ) → Bounded n → k ≤ length (instancesOf n) → Within 64 (numbered n k)
numbered_small zero h l = zero_small
numbered_small (suc k) h l = instance_small k h l

-- the increment leads back in the written order
abbrev pub leads_back : Nest → Bool
leads_back n = against n.direction (increment n)

-- 1,024 words each for the counts, the first and the last instances
pub record Spans (n : Nest) (w : List ℕ) : Type 0 where
  pub counts : (p : ℕ) → p < length (processes n) → get_or w p 0 ≡ count n (process_of n p)
  pub firsts : (p : ℕ) → p < length (processes n) → coded (get_or w (1024 + p) 0) ≡ first n (process_of n p)
  pub first_small : (p : ℕ) → p < length (processes n) → Within 64 (coded (get_or w (1024 + p) 0))
  pub last_le : (p : ℕ) → p < length (processes n) → get_or w (2048 + p) 0 ≤ length (instancesOf n)
  pub lasts : (p : ℕ) → p < length (processes n) → numbered n (get_or w (2048 + p) 0) ≡ last n (process_of n p)
  pub last_some : (p : ℕ) → p < length (processes n) → 0 < count n (process_of n p) → 0 < get_or w (2048 + p) 0

-- ---- as the pass over the instances leaves them

module _ {n : Nest} {numbers : List ℕ} {instances size : ℕ} {back : Bool} {spans : List ℕ} (layout : Layout n)
    (t : Table n n.place numbers instances size) (b : back ≡ leads_back n) (s : Swept numbers instances back size spans) where
  w : Swept numbers instances (leads_back n) size spans
  w = subst (λ (b : Bool). Swept numbers instances b size spans) b s

  lt : (p : ℕ) → p < length (processes n) → p < size
  lt p l = omega (arith, t.sized)

  -- a point without instances has no first and no last one
  none : (better : V3 → V3 → Bool) (y : V2) → count_of n n.place y ≡ 0 → best_or zero3 better (sent_to n n.place y) ≡ zero3
  unfolding best_or
  none better y e = go (sent_to n n.place y) e
    where
      go : (l : List V3) → length l ≡ 0 → best_or zero3 better l ≡ zero3
      go [] e = refl
      go (x ∷ l) e = absurd (omega arith)

  first_at : (p : ℕ) → p < length (processes n) → (k : ℕ) → end_in (leads_back n) (take instances numbers) p ≡ k
      → (k ≤ length (instancesOf n)) × (numbered n k ≡ first n (process_of n p))
  unfolding first_of
  first_at p l zero e = (omega arith, sym (none (sooner n) (process_of n p) (ends_absent layout.dirs t (leads_back n) p (lt p l) e)))
  first_at p l (suc k) e = let i = firsts_are layout.dirs t layout.inc p k (lt p l) e in (i.lt, i.is)

  last_at : (p : ℕ) → p < length (processes n) → (k : ℕ) → end_in (not (leads_back n)) (take instances numbers) p ≡ k
      → (k ≤ length (instancesOf n)) × (numbered n k ≡ last n (process_of n p))
  unfolding last_of
  last_at p l zero e = (omega arith, sym (none (later n) (process_of n p) (ends_absent layout.dirs t (not (leads_back n)) p (lt p l) e)))
  last_at p l (suc k) e = let i = lasts_are layout.dirs t layout.inc p k (lt p l) e in (i.lt, i.is)

  some : (last : Bool) (p : ℕ) → p < length (processes n) → (k : ℕ) → end_in last (take instances numbers) p ≡ k
      → 0 < count n (process_of n p) → 0 < k
  some last p l zero e h = absurd (omega (arith, ends_absent layout.dirs t last p (lt p l) e))
  some last p l (suc k) e h = omega arith

  -- ---- and then the pass over the processes

  numbers_le : (p : ℕ) → p < length (processes n) → get_or spans (1024 + p) 0 ≤ length (instancesOf n)
  numbers_le p l = (first_at p l (get_or spans (1024 + p) 0) (sym (w.firsts p (lt p l)))).0

  module _ (few : size ≤ 1024) where
    pub first_le : (p : ℕ) → p < size → get_or (mid_of 1024 1024 spans) p 0 ≤ length (instancesOf n)
    first_le p l = omega (arith, mid_at 1024 1024 spans 0 p (omega arith), numbers_le p (omega (arith, t.sized)))

    module _ (bounded : Bounded n) (long : length spans ≡ 3072) (ys : List ℕ)
        (e : ys ≡ fill_by (λ p. code_of (numbered n (get_or (mid_of 1024 1024 spans) p 0))) size (mid_of 1024 1024 spans)) where
      abbrev out : List ℕ
      out = put_mid 1024 1024 spans ys

      before : 1024 ≤ length spans
      before = omega (arith, long)

      filled : length ys ≡ 1024
      filled = part_length (λ p. code_of (numbered n (get_or (mid_of 1024 1024 spans) p 0))) size 1024 1024 spans ys e (omega (arith, long))

      count_kept : (p : ℕ) → p < length (processes n) → get_or out p 0 ≡ get_or spans p 0
      count_kept p l = put_before 1024 1024 spans ys 0 before p (omega (arith, lt p l))

      last_kept : (p : ℕ) → get_or out (2048 + p) 0 ≡ get_or spans (2048 + p) 0
      last_kept p = put_after 1024 1024 spans ys 0 before (2048 + p) filled (omega arith)

      first_coded : (p : ℕ) → p < length (processes n) → coded (get_or out (1024 + p) 0) ≡ numbered n (get_or spans (1024 + p) 0)
      first_coded p l =
          ap coded (part_at (λ p. code_of (numbered n (get_or (mid_of 1024 1024 spans) p 0))) size 1024 1024 spans ys e
          (omega (arith, long))
          0 p (lt p l) few ∙ ap (λ (k : ℕ). code_of (numbered n k)) (mid_at 1024 1024 spans 0 p (omega (arith, lt p l))))
          ∙ coded_code (numbered n (get_or spans (1024 + p) 0)) (numbered_small (get_or spans (1024 + p) 0) bounded (numbers_le p l))

      pub ends_are : Spans n out
      ends_are =
          record {
            counts = λ p l. count_kept p l ∙ w.counts p (lt p l) ∙ counts_are layout.dirs t p (lt p l);
            firsts = λ p l. first_coded p l ∙ (first_at p l (get_or spans (1024 + p) 0) (sym (w.firsts p (lt p l)))).1;
            first_small = λ p l.
                subst (Within 64) (sym (first_coded p l)) (numbered_small (get_or spans (1024 + p) 0) bounded (numbers_le p l));
            last_le = λ p l. (last_at p l (get_or out (2048 + p) 0) (sym (last_kept p ∙ w.lasts p (lt p l)))).0;
            lasts = λ p l. (last_at p l (get_or out (2048 + p) 0) (sym (last_kept p ∙ w.lasts p (lt p l)))).1;
            last_some = λ p l. some (not (leads_back n)) p l (get_or out (2048 + p) 0) (sym (last_kept p ∙ w.lasts p (lt p l)));
          }
