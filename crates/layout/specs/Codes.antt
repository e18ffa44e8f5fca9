-- The coordinates of an instance in one word, as three digits to the base 256, each a coordinate counted from −64. Assumes nothing.
use Rattle.std.specs.Prelude.{◌≡◌, ℕ, ◌+◌, ◌*◌, ◌/◌, ◌%◌, ◌^◌, ◌≤◌, ◌<◌, ℤ, pos, negsuc, ◌+ℤ◌, ◌-ℤ◌, ◌≤ℤ◌}
use Rattle.std.proofs.Common.{◌∙◌, ap, arith}
use Rattle.integers.specs.Differences.{Abs, gaps, parts, up}
use Rattle.integers.specs.Variables.{linear}
use Rattle.integers.specs.Bounds.{Abs-wider}
use Rattle.integers.specs.Vectors.{same3}
use Rattle.integers.specs.declared.V3.{V3}
use Rattle.vectors.specs.Within.{Within}
use Rattle.numbering.specs.Ranges.{Apart}

-- a coordinate counted from −64, and back
abbrev digit : ℤ → ℕ
digit z = up (z -ℤ negsuc 63)

abbrev undigit : ℕ → ℤ
undigit d = pos d +ℤ negsuc 63

-- the word of three coordinates
abbrev pub code_of : V3 → ℕ
code_of v = (digit v.x * 256 + digit v.y) * 256 + digit v.z

-- the coordinates of a word
abbrev pub coded : ℕ → V3
coded w = record { x = undigit (w / 256 / 256); y = undigit (w / 256 % 256); z = undigit (w % 256) }

-- ---- a code holds what it was made of

digit_back : (z : ℤ) → Abs z 64 → undigit (digit z) ≡ z
digit_back z h = ap (λ (y : ℤ). y +ℤ negsuc 63) (counted (z -ℤ negsuc 63) (positive z h)) ∙ back z
  where
    positive : (z : ℤ) → Abs z 64 → pos 0 ≤ℤ (z -ℤ negsuc 63)
    positive = linear 0 1 _ λ p m. simp (gaps, parts) (omega arith)

    counted : (z : ℤ) → pos 0 ≤ℤ z → pos (up z) ≡ z
    counted = linear 0 1 _ λ p m. simp (gaps, parts) (omega arith)

    back : (z : ℤ) → (z -ℤ negsuc 63) +ℤ negsuc 63 ≡ z
    back = linear 0 1 _ λ p m. simp gaps (omega arith)

digit_small : (z : ℤ) → Abs z 64 → digit z < 256
digit_small = linear 0 1 _ λ p m. simp (gaps, parts) (omega arith)

-- the digits of a number
front : (q d : ℕ) → d < 256 → (q * 256 + d) / 256 ≡ q
front q d l = omega arith

low : (q d : ℕ) → d < 256 → (q * 256 + d) % 256 ≡ d
low q d l = omega arith

pub coded_code : (v : V3) → Within 64 v → coded (code_of v) ≡ v
coded_code v h =
    let a = digit v.x in
    let b = digit v.y in
    let c = digit v.z in
    let s = digit_small v.y h.ys in
    let t = digit_small v.z h.zs in
    same3 (ap (λ (k : ℕ). undigit (k / 256)) (front (a * 256 + b) c t) ∙ ap undigit (front a b s) ∙ digit_back v.x h.xs)
    (ap (λ (k : ℕ). undigit (k % 256)) (front (a * 256 + b) c t) ∙ ap undigit (low a b s) ∙ digit_back v.y h.ys)
    (ap undigit (low (a * 256 + b) c t) ∙ digit_back v.z h.zs)

-- ---- the digits of any word are small

pub high_small : (w : ℕ) → w < 2 ^ 32 → w / 256 / 256 ≤ 65535
high_small w h = omega arith

pub low_small : (w : ℕ) → w % 256 ≤ 255
low_small w = omega arith

pub least_small : Abs (negsuc 63) 64
least_small = record { abs = omega arith }

-- a coordinate lies above the least one
pub above : {z : ℤ} → Abs z 64 → Apart (negsuc 63) z
above {z} h = record { low = Abs-wider tt least_small; high = Abs-wider tt h; ordered = go z h }
  where
    go : (z : ℤ) → Abs z 64 → negsuc 63 ≤ℤ z
    go = linear 0 1 _ λ p m. simp (gaps, parts) (omega arith)
