-- Claims about n vectors and k numbers, n and k literals: to prove one, prove it where the variables' components and the numbers are the
-- values of a function on ℕ, in order. `linear` hands over differences of naturals, for `simp gaps (omega arith)`; `ring`, in its own file,
-- expressions. Assumes nothing.
use Rattle.std.proofs.Common.{sym, subst}
use Rattle.std.specs.Prelude.{ℕ, zero, suc, ℤ, pos}
use Rattle.integers.specs.declared.V3.{V3}
use Rattle.integers.specs.Differences.{gap, up, dn, gap_self}

-- a claim about n vectors and then k numbers
abbrev pub Claim : ℕ → ℕ → Type 1
Claim (suc n) k = V3 → Claim n k
Claim zero (suc k) = ℤ → Claim zero k
Claim zero zero = Type 0

-- it holds of all of them
abbrev pub Always : (n k : ℕ) → Claim n k → Type 0
Always (suc n) k P = (a : V3) → Always n k (P a)
Always zero (suc k) P = (z : ℤ) → Always zero k (P z)
Always zero zero P = P

-- it holds where their components are f 0, f 1, ..
abbrev pub At : (n k : ℕ) → Claim n k → (ℕ → ℤ) → Type 0
At (suc n) k P f = At n k (P (record { x = f 0; y = f 1; z = f 2 })) (λ i. f (suc (suc (suc i))))
At zero (suc k) P f = At zero k (P (f 0)) (λ i. f (suc i))
At zero zero P f = P

-- z first, then f
abbrev before : ℤ → (ℕ → ℤ) → ℕ → ℤ
before z f zero = z
before z f (suc i) = f i

pub always : (n k : ℕ) (P : Claim n k) → ((f : ℕ → ℤ) → At n k P f) → Always n k P
always (suc n) k P h = λ a. always n k (P a) (λ f. h (before a.x (before a.y (before a.z f))))
always zero (suc k) P h = λ z. always zero k (P z) (λ f. h (before z f))
always zero zero P h = h (λ _. pos 0)

-- linear facts, and identities of few terms: `linear 0 3 _ λ p m. simp gaps (omega arith)`
pub linear : (n k : ℕ) (P : Claim n k) → ((p m : ℕ → ℕ) → At n k P (λ i. gap (p i) (m i))) → Always n k P
linear n k P h =
    always n k P λ f. subst (λ (g : ℕ → ℤ). At n k P g) (λ i j. sym (gap_self (f j)) i) (h (λ i. up (f i)) (λ i. dn (f i)))
