-- Rounds of the generator: each state can be worked out from the one after it, so two seeds never meet after equal numbers of rounds, and
-- no seed comes to 0. Assumes nothing.
use Rattle.std.specs.Prelude.{◌≡◌, refl, ℕ, zero, suc, ◌+◌, ◌*◌, ◌^◌}
use Rattle.std.proofs.Common.{sym, ◌∙◌, ap, mod-lt, lt_of_le_of_lt, lt_of_lt_of_le, div-le_self, add-one, lit≤, pow_pos, pow_mono}
use Rattle.std.proofs.lemmas.Nat.{xor_lt}
use Rattle.meaning.specs.Generator.{shift_left, shift_right, left, right, round, after, previous, before}
use Rattle.meaning.specs.GeneratedLoad.{Word, Seed, Rounds}
use Rattle.generated.specs.Shifts.{left_twice, left_none, right_twice, right_none}

-- ---- a word stays a word

left_word : (s x : ℕ) → Word x → Word (left s x)
left_word s x h = xor_lt 32 x (shift_left s x) h (mod-lt (x * 2 ^ s) (pow_pos 32))

right_word : (s x : ℕ) → Word x → Word (right s x)
right_word s x h = xor_lt 32 x (shift_right s x) h (lt_of_le_of_lt (div-le_self x (2 ^ s)) h)

round_word : (x : ℕ) → Word x → Word (round x)
round_word x h = left_word 5 (right 17 (left 13 x)) (right_word 17 (left 13 x) (left_word 13 x h))

previous_word : (y : ℕ) → Word y → Word (previous y)
previous_word y h =
    let z = left 20 (left 10 (left 5 y)) in
    let a = left_word 20 (left 10 (left 5 y)) (left_word 10 (left 5 y) (left_word 5 y h)) in
    left_word 26 (left 13 (right 17 z)) (left_word 13 (right 17 z) (right_word 17 z a))

-- ---- the three shifts of a round undone: 13 by itself and 26, 17 by itself, 5 by itself, 10 and 20

quarter : (s x : ℕ) → left (s + s) (left s (left s x)) ≡ left ((s + s) + (s + s)) x
quarter s x = ap (left (s + s)) (left_twice s x) ∙ left_twice (s + s) x

undo_13 : (x : ℕ) → left 26 (left 13 (left 13 x)) ≡ x
undo_13 x = quarter 13 x ∙ left_none 20 x

undo_17 : (x : ℕ) → Word x → right 17 (right 17 x) ≡ x
undo_17 x h = right_twice 17 x ∙ right_none 34 x (lt_of_lt_of_le h (pow_mono {i = 32} {j = 34} (lit≤ tt)))

undo_5 : (x : ℕ) → left 20 (left 10 (left 5 (left 5 x))) ≡ x
undo_5 x = ap (left 20) (quarter 5 x) ∙ left_twice 20 x ∙ left_none 8 x

-- and done again: a shift by s goes past one by 2s, which is two by s
past : (s x : ℕ) → left s (left (s + s) x) ≡ left (s + s) (left s x)
past s x = ap (left s) (sym (left_twice s x)) ∙ left_twice s (left s x)

redo_13 : (x : ℕ) → left 13 (left 26 (left 13 x)) ≡ x
redo_13 x = past 13 (left 13 x) ∙ undo_13 x

redo_5 : (x : ℕ) → left 5 (left 20 (left 10 (left 5 x))) ≡ x
redo_5 x = twice (left 10 (left 5 x)) ∙ ap (left 20) (past 5 (left 5 x)) ∙ undo_5 x
  where
    -- past 20, which is two by 10
    twice : (y : ℕ) → left 5 (left 20 y) ≡ left 20 (left 5 y)
    twice y =
        ap (left 5) (sym (left_twice 10 y)) ∙ past 5 (left 10 y) ∙ ap (left 10) (past 5 y) ∙ left_twice 10 (left 5 y)

-- ---- a round

pub undone : (x : ℕ) → Word x → previous (round x) ≡ x
undone x h =
    ap (λ (y : ℕ). left 26 (left 13 (right 17 y))) (undo_5 (right 17 (left 13 x)))
    ∙ ap (λ (y : ℕ). left 26 (left 13 y)) (undo_17 (left 13 x) (left_word 13 x h)) ∙ undo_13 x

pub redone : (y : ℕ) → Word y → round (previous y) ≡ y
redone y h =
    let z = left 20 (left 10 (left 5 y)) in
    let a = left_word 20 (left 10 (left 5 y)) (left_word 10 (left 5 y) (left_word 5 y h)) in
    ap (λ (x : ℕ). left 5 (right 17 x)) (redo_13 (right 17 z)) ∙ ap (left 5) (undo_17 z a) ∙ redo_5 y

-- ---- n rounds

pub after_none : (x : ℕ) → after 0 x ≡ x
unfolding after
after_none x = refl

pub after_more : (n x : ℕ) → after (n + 1) x ≡ round (after n x)
unfolding after
after_more n x = ap (λ (k : ℕ). after k x) (add-one n)

after_word : (n x : ℕ) → Word x → Word (after n x)
unfolding after
after_word zero x h = h
after_word (suc n) x h = round_word (after n x) (after_word n x h)

pub never_meet : (n x y : ℕ) → Word x → Word y → after n x ≡ after n y → x ≡ y
unfolding after
never_meet zero x y h k e = e
never_meet (suc n) x y h k e =
    never_meet n x y h k (sym (undone (after n x) (after_word n x h)) ∙ ap previous e ∙ undone (after n y) (after_word n y k))

-- 0 stays 0, and so nothing else comes to it
pub zero_stays : (n : ℕ) → after n 0 ≡ 0
unfolding after
zero_stays zero = refl
zero_stays (suc n) = ap round (zero_stays n)

pub stays : (n x : ℕ) → Seed x → Seed (after n x)
stays n x s =
    record {
      word = after_word n x s.word;
      not_zero = λ e. s.not_zero (never_meet n x 0 s.word (pow_pos 32) (e ∙ sym (zero_stays n)));
    }

-- ---- and back

pub before_after : (n x : ℕ) → Word x → before n (after n x) ≡ x
unfolding after before
before_after zero x h = refl
before_after (suc n) x h = ap (before n) (undone (after n x) (after_word n x h)) ∙ before_after n x h

pub before_word : (n y : ℕ) → Word y → Word (before n y)
unfolding before
before_word zero y h = h
before_word (suc n) y h = before_word n (previous y) (previous_word y h)

pub after_before : (n y : ℕ) → Word y → after n (before n y) ≡ y
unfolding after before
after_before zero y h = refl
after_before (suc n) y h = ap round (after_before n (previous y) (previous_word y h)) ∙ redone y h

pub rounds : Rounds
rounds = record { undone = undone; redone = redone; never_meet = never_meet; stays = stays }
