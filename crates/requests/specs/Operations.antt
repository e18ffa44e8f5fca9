-- The operations as propositions: each puts exactly what `operate` gives, for words, and that is a word. Assumes nothing.
use Rattle.std.specs.Prelude.{◌≡◌, refl, ◌↔◌, Bool, true, false, cond, ℕ, zero, suc, ◌+◌, ◌*◌, ◌-◌, ◌^◌, ◌/◌, ◌%◌, ◌≤◌, ◌<◌, ltb}
use Rattle.std.proofs.Common.{sym, subst, arith, ltb-true, ltb-false}
use Rattle.meaning.specs.Operations.{modulus, last_operation, operate}
use Rattle.meaning.specs.Leaves.{Modulo, Divided, Puts, Puts.copies, Puts.adds, Puts.subtracts, Puts.multiplies, Puts.smaller, Puts.larger}
use Rattle.meaning.specs.Leaves.{Puts.fixed}

-- ---- remainders and quotients

remainder : (n : ℕ) → Modulo n (n % modulus)
remainder n = record { word = omega arith; multiple = n / modulus; beside = omega arith }

remainder_is : {n r : ℕ} → Modulo n r → r ≡ n % modulus
remainder_is m = omega (arith, m.word, m.beside)

quotient : (n : ℕ) → Divided n (n / 2 ^ 16)
quotient n = record { most = omega arith; next = omega arith }

quotient_is : {n q : ℕ} → Divided n q → q ≡ n / 2 ^ 16
quotient_is d = omega (arith, d.most, d.next)

-- ---- each operation

-- what holds of 0 to 6 holds of every operation word
each_operation : (P : ℕ → Type 0) → P 0 → P 1 → P 2 → P 3 → P 4 → P 5 → P 6 → (op : ℕ) → op ≤ last_operation → P op
each_operation P p0 p1 p2 p3 p4 p5 p6 zero h = p0
each_operation P p0 p1 p2 p3 p4 p5 p6 (suc zero) h = p1
each_operation P p0 p1 p2 p3 p4 p5 p6 (suc (suc zero)) h = p2
each_operation P p0 p1 p2 p3 p4 p5 p6 (suc (suc (suc zero))) h = p3
each_operation P p0 p1 p2 p3 p4 p5 p6 (suc (suc (suc (suc zero)))) h = p4
each_operation P p0 p1 p2 p3 p4 p5 p6 (suc (suc (suc (suc (suc zero))))) h = p5
each_operation P p0 p1 p2 p3 p4 p5 p6 (suc (suc (suc (suc (suc (suc zero)))))) h = p6
each_operation P p0 p1 p2 p3 p4 p5 p6 (suc (suc (suc (suc (suc (suc (suc op))))))) h = absurd (omega arith)

-- of x if a is below b, else of y
chosen : (P : ℕ → Type 0) (a b x y : ℕ) → (a < b → P x) → (b ≤ a → P y) → P (cond (ltb a b) x y)
chosen P a b x y f g = go (ltb a b) refl
  where
    go : (t : Bool) → ltb a b ≡ t → P (cond t x y)
    go true e = f (ltb-true a b e)
    go false e = g (ltb-false a b e)

module _ {a b : ℕ} (wa : a < modulus) (wb : b < modulus) where
  -- a result of words is a word
  pub word_result : (op : ℕ) → op ≤ last_operation → operate op a b < modulus
  word_result =
      each_operation (λ op. operate op a b < modulus) wa (remainder (a + b)).word (remainder (a + (modulus - b))).word
      (remainder (a * b)).word
      (chosen (λ r. r < modulus) b a b a (λ _. wb) (λ _. wa)) (chosen (λ r. r < modulus) a b b a (λ _. wb) (λ _. wa))
      (remainder (a * b / 2 ^ 16)).word

  difference : Modulo ((a + (modulus - b)) % modulus + b) a
  difference =
      let r = (a + (modulus - b)) % modulus in record { word = wa; multiple = (r + b) / modulus; beside = omega arith }

  puts : (op : ℕ) → op ≤ last_operation → Puts a b op (operate op a b)
  puts =
      each_operation (λ op. Puts a b op (operate op a b)) copies (adds (remainder (a + b)))
      (subtracts (remainder (a + (modulus - b))).word difference) (multiplies (remainder (a * b)))
      (chosen (λ r. Puts a b 4 r) b a b a (λ h. smaller (λ g. omega arith) (λ g. refl)) (λ h. smaller (λ g. refl) (λ g. omega arith)))
      (chosen (λ r. Puts a b 5 r) a b b a (λ h. larger (λ g. refl) (λ g. omega arith)) (λ h. larger (λ g. omega arith) (λ g. refl)))
      (fixed (quotient (a * b)) (remainder (a * b / 2 ^ 16)))

  put : {op r : ℕ} → Puts a b op r → r ≡ operate op a b
  put copies = refl
  put (adds m) = remainder_is m
  put {r} (subtracts h m) = omega (arith, m.beside)
  put (multiplies m) = remainder_is m
  put {r} (smaller f g) = chosen (λ x. r ≡ x) b a b a (λ h. g (omega arith)) (λ h. f (omega arith))
  put {r} (larger f g) = chosen (λ x. r ≡ x) a b b a (λ h. f (omega arith)) (λ h. g (omega arith))
  put {r} (fixed {q} d m) = subst (λ (n : ℕ). r ≡ n % modulus) (quotient_is d) (remainder_is m)

  pub puts_exactly : {op r : ℕ} → op ≤ last_operation → Puts a b op r ↔ (r ≡ operate op a b)
  puts_exactly {op} {r} h = (put, λ e. subst (Puts a b op) (sym e) (puts op h))
