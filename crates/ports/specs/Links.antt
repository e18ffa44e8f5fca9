-- A link's fill, cut off at its places, and the link without its oldest value. Assumes nothing.
use Rattle.std.specs.Prelude.{◌≡◌, List, ℕ, zero, suc, ◌+◌, ◌-◌, ◌<◌, min, get_or, set}
use Rattle.std.proofs.Common.{◌∙◌, arith, get_or-set_other}

abbrev pub word : List ℕ → ℕ → ℕ
word l i = get_or l i 0

-- filled places of hop: put in, less got out of it
abbrev pub filled : ℕ → ℕ → ℕ → ℕ
filled put got hop = min (put - got) hop

abbrev pub fill_at : List ℕ → ℕ → ℕ → ℕ → ℕ
fill_at l put got hop = filled (word l put) (word l got) hop

-- n places from i on take the value of the next, and the place behind them is cleared
unfoldable pub moved_down : List ℕ → ℕ → ℕ → List ℕ
moved_down l i zero = set l i 0
moved_down l i (suc n) = moved_down (set l i (word l (suc i))) (suc i) n

-- a turn of the loop, when n − i are left, and its end
pub move_next : (l : List ℕ) (first i n : ℕ) → i < n
    → moved_down l (first + i) (n - i) ≡ moved_down (set l (first + i) (word l (first + i + 1))) (first + (i + 1)) (n - (i + 1))
unfolding moved_down
move_next l first i n h =
    let e : n - i ≡ suc (n - (i + 1)) = omega arith in
    let s : first + (i + 1) ≡ suc (first + i) = omega arith in
    let t : first + i + 1 ≡ suc (first + i) = omega arith in
    rw (e, s, t)

pub move_end : (l : List ℕ) (first i n : ℕ) → i ≡ n → moved_down l (first + i) (n - i) ≡ set l (first + n) 0
unfolding moved_down
move_end l first i n h = let e : n - i ≡ 0 = omega arith in rw (e, h)

-- words before the first place keep their values
pub move_before : (l : List ℕ) (i n j : ℕ) → j < i → word (moved_down l i n) j ≡ word l j
unfolding moved_down
move_before l i zero j h = get_or-set_other l i j 0 0 (λ (e : j ≡ i). omega arith)
move_before l i (suc n) j h =
    move_before (set l i (word l (suc i))) (suc i) n j (omega arith) ∙ get_or-set_other l i j _ 0 (λ (e : j ≡ i). omega arith)
