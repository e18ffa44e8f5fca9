-- Words stored one by one, word k at place `at k`, as a loop that stores leaves them, and as several loops do. Assumes nothing.
use Rattle.std.specs.Prelude.{◌≡◌, ◌⊎◌, List, length, set}
use Rattle.std.proofs.Math.Path.{refl, ap, subst}
use Rattle.std.proofs.Common.{sym, ◌∙◌, inl, inr, eq-or-lt_of_le, le_of_suc-le-suc, add-one, arith}
use Prim.Native.Nat.{ℕ, zero, suc, ◌+◌, ◌<◌}
use Rattle.std.proofs.Math.Decide.{ℕ_discrete}
use Rattle.std.proofs.Math.ListN.{get_or, length-set}
use Rattle.std.proofs.Math.Seq.{get_or-set_same, get_or-set_other}

module _ (at : ℕ → ℕ) where
  unfoldable pub spread : (ℕ → ℕ) → ℕ → List ℕ → List ℕ
  spread f zero xs = xs
  spread f (suc n) xs = set (spread f n xs) (at n) (f n)

  pub spread_zero : (f : ℕ → ℕ) (xs : List ℕ) → spread f 0 xs ≡ xs
  unfolding spread
  spread_zero f xs = refl

  -- a turn of the loop
  pub spread_step : (f : ℕ → ℕ) (n : ℕ) (xs : List ℕ) → spread f (n + 1) xs ≡ set (spread f n xs) (at n) (f n)
  unfolding spread
  spread_step f n xs = ap (λ (k : ℕ). spread f k xs) (add-one n)

  pub spread_length : (f : ℕ → ℕ) (n : ℕ) (xs : List ℕ) → length (spread f n xs) ≡ length xs
  unfolding spread
  spread_length f zero xs = refl
  spread_length f (suc n) xs = length-set (spread f n xs) (at n) (f n) ∙ spread_length f n xs

  -- each word is what ought to stand at its place
  module _ (right f : ℕ → ℕ) where
    -- what is right already stays so
    pub spread_keeps : (n : ℕ) (xs : List ℕ) → ((k : ℕ) → k < n → f k ≡ right (at k)) → ((k : ℕ) → k < n → at k < length xs)
        → (a : ℕ) → get_or xs a 0 ≡ right a → get_or (spread f n xs) a 0 ≡ right a
    unfolding spread
    spread_keeps zero xs h l a e = e
    spread_keeps (suc n) xs h l a e =
        go (ℕ_discrete a (at n)) (spread_keeps n xs (λ k b. h k (omega arith)) (λ k b. l k (omega arith)) a e)
      where
        go : Dec (a ≡ at n) → get_or (spread f n xs) a 0 ≡ right a → get_or (set (spread f n xs) (at n) (f n)) a 0 ≡ right a
        go (yes q) i =
            ap (λ (b : ℕ). get_or (set (spread f n xs) (at n) (f n)) b 0) q
            ∙ get_or-set_same (spread f n xs) (at n) (f n) 0 (omega (arith, spread_length f n xs, l n (omega arith)))
            ∙ h n (omega arith) ∙ ap right (sym q)
        go (no q) i = get_or-set_other (spread f n xs) (at n) a (f n) 0 q ∙ i

    -- what is stored is right
    pub spread_puts : (n : ℕ) (xs : List ℕ) → ((k : ℕ) → k < n → f k ≡ right (at k)) → ((k : ℕ) → k < n → at k < length xs)
        → (k : ℕ) → k < n → get_or (spread f n xs) (at k) 0 ≡ right (at k)
    unfolding spread
    spread_puts zero xs h l k b = absurd (omega arith)
    spread_puts (suc n) xs h l k b =
        go (ℕ_discrete (at k) (at n)) (eq-or-lt_of_le (le_of_suc-le-suc b))
        (spread_puts n xs (λ k b. h k (omega arith)) (λ k b. l k (omega arith)) k)
      where
        go : Dec (at k ≡ at n) → (k ≡ n) ⊎ (k < n) → (k < n → get_or (spread f n xs) (at k) 0 ≡ right (at k))
            → get_or (set (spread f n xs) (at n) (f n)) (at k) 0 ≡ right (at k)
        go (yes q) c i =
            ap (λ (b : ℕ). get_or (set (spread f n xs) (at n) (f n)) b 0) q
            ∙ get_or-set_same (spread f n xs) (at n) (f n) 0 (omega (arith, spread_length f n xs, l n (omega arith)))
            ∙ h n (omega arith) ∙ ap right (sym q)
        go (no q) (inl e) i = absurd (q (ap at e))
        go (no q) (inr m) i = get_or-set_other (spread f n xs) (at n) (at k) (f n) 0 q ∙ i m

-- the same words at the same places
pub spread_like : (at by f g : ℕ → ℕ) (n : ℕ) (xs : List ℕ) → ((k : ℕ) → k < n → at k ≡ by k) → ((k : ℕ) → k < n → f k ≡ g k)
    → spread at f n xs ≡ spread by g n xs
unfolding spread
spread_like at by f g zero xs h e = refl
spread_like at by f g (suc n) xs h e =
    let before = spread_like at by f g n xs (λ k l. h k (omega arith)) (λ k l. e k (omega arith)) in
    let here = h n (omega arith) in
    let word = e n (omega arith) in λ i. set (before i) (here i) (word i)

-- ---- several such loops, one after the other: word k of loop p at place `at p k`

module _ (at f : ℕ → ℕ → ℕ) (many : ℕ → ℕ) where
  unfoldable pub spreads : ℕ → List ℕ → List ℕ
  spreads zero xs = xs
  spreads (suc p) xs = spread (at p) (f p) (many p) (spreads p xs)

  pub spreads_zero : (xs : List ℕ) → spreads 0 xs ≡ xs
  unfolding spreads
  spreads_zero xs = refl

  pub spreads_step : (p : ℕ) (xs : List ℕ) → spreads (p + 1) xs ≡ spread (at p) (f p) (many p) (spreads p xs)
  unfolding spreads
  spreads_step p xs = ap (λ (k : ℕ). spreads k xs) (add-one p)

  pub spreads_length : (p : ℕ) (xs : List ℕ) → length (spreads p xs) ≡ length xs
  unfolding spreads
  spreads_length zero xs = refl
  spreads_length (suc p) xs = spread_length (at p) (f p) (many p) (spreads p xs) ∙ spreads_length p xs

  module _ (right : ℕ → ℕ) (xs : List ℕ) where
    -- the words of the first n loops are right, and there is room for them
    pub record Right (n : ℕ) : Type 0 where
      pub words : (p : ℕ) → p < n → (k : ℕ) → k < many p → f p k ≡ right (at p k)
      pub room : (p : ℕ) → p < n → (k : ℕ) → k < many p → at p k < length xs

    fewer : {n : ℕ} → Right (suc n) → Right n
    fewer h = record { words = λ p l. h.words p (omega arith); room = λ p l. h.room p (omega arith) }

    -- the last of them
    module _ {n : ℕ} (h : Right (suc n)) where
      last_words : (k : ℕ) → k < many n → f n k ≡ right (at n k)
      last_words = h.words n (omega arith)

      last_room : (k : ℕ) → k < many n → at n k < length (spreads n xs)
      last_room k l = omega (arith, spreads_length n xs, h.room n (omega arith) k l)

    pub spreads_keeps : (n : ℕ) → Right n → (a : ℕ) → get_or xs a 0 ≡ right a → get_or (spreads n xs) a 0 ≡ right a
    unfolding spreads
    spreads_keeps zero h a e = e
    spreads_keeps (suc n) h a e =
        spread_keeps (at n) right (f n) (many n) (spreads n xs) (last_words h) (last_room h) a (spreads_keeps n (fewer h) a e)

    pub spreads_puts : (n : ℕ) → Right n → (p : ℕ) → p < n → (k : ℕ) → k < many p → get_or (spreads n xs) (at p k) 0 ≡ right (at p k)
    unfolding spreads
    spreads_puts zero h p l k b = absurd (omega arith)
    spreads_puts (suc n) h p l k b = go (eq-or-lt_of_le (le_of_suc-le-suc l)) (λ m. spreads_puts n (fewer h) p m k b)
      where
        go : (p ≡ n) ⊎ (p < n) → (p < n → get_or (spreads n xs) (at p k) 0 ≡ right (at p k))
            → get_or (spread (at n) (f n) (many n) (spreads n xs)) (at p k) 0 ≡ right (at p k)
        go (inl e) i =
            subst (λ (q : ℕ). get_or (spread (at n) (f n) (many n) (spreads n xs)) (at q k) 0 ≡ right (at q k)) (sym e)
            (spread_puts (at n) right (f n) (many n) (spreads n xs) (last_words h) (last_room h) k (subst (λ (q : ℕ). k < many q) e b))
        go (inr m) i =
            spread_keeps (at n) right (f n) (many n) (spreads n xs) (last_words h) (last_room h) (at p k) (i m)
