-- The solver of Ring: a normal form has its expression's value, and expressions with the same normal form are equal. Assumes nothing.
use Rattle.std.specs.Prelude.{◌≡◌, refl, Bool, true, false, cond, List, [], ◌∷◌, ℕ, T, ℤ, pos, negsuc, neg_ℤ, ◌+ℤ◌, ◌*ℤ◌}
use Rattle.std.proofs.Common.{sym, ◌∙◌, ap, ap₂, arith, eqb→eq}
use Rattle.integers.specs.Differences.{gaps}
use Rattle.integers.specs.Variables.{linear}
use Rattle.integers.specs.Ring.{Ex, Ex.var, Ex.plain, Ex.below, Ex.◌⊕◌, Ex.◌⊗◌, Ex.minus, ◌⊖◌, value, Mono, Mono.mono, product, sum}
use Rattle.integers.specs.Ring.{mul_mono, mul, normal, is_zero, vanishes, add_is, mul_mono_is, Nil}

mul_right : (a b c : ℤ) → a *ℤ c +ℤ b *ℤ c ≡ (a +ℤ b) *ℤ c
mul_right = linear 0 3 _ λ p m. simp gaps (omega arith)

zero_mul : (a : ℤ) → pos 0 ≡ pos 0 *ℤ a
zero_mul = linear 0 1 _ λ p m. simp gaps (omega arith)

mul_is : (ρ : ℕ → ℤ) (p q : List Mono) → sum ρ (mul p q) ≡ sum ρ p *ℤ sum ρ q
unfolding sum
mul_is ρ [] q = zero_mul (sum ρ q)
mul_is ρ (mono c is ∷ p) q =
    add_is ρ (mul_mono c is q) (mul p q) ∙ ap₂ ◌+ℤ◌ (mul_mono_is ρ c is q) (mul_is ρ p q)
    ∙ mul_right (c *ℤ product ρ is) (sum ρ p) (sum ρ q)

one_var : (a : ℤ) → pos 1 *ℤ (a *ℤ pos 1) +ℤ pos 0 ≡ a
one_var = linear 0 1 _ λ p m. simp gaps (omega arith)

one_number : (a : ℤ) → a *ℤ pos 1 +ℤ pos 0 ≡ a
one_number = linear 0 1 _ λ p m. simp gaps (omega arith)

minus_one : (a : ℤ) → (negsuc 0 *ℤ pos 1) *ℤ a ≡ neg_ℤ a
minus_one = linear 0 1 _ λ p m. simp gaps (omega arith)

normal_is : (ρ : ℕ → ℤ) (e : Ex) → sum ρ (normal e) ≡ value ρ e
unfolding sum product value
normal_is ρ (var i) = one_var (ρ i)
normal_is ρ (plain n) = one_number (pos n)
normal_is ρ (below n) = one_number (negsuc n)
normal_is ρ (x ⊕ y) = add_is ρ (normal x) (normal y) ∙ ap₂ ◌+ℤ◌ (normal_is ρ x) (normal_is ρ y)
normal_is ρ (x ⊗ y) = mul_is ρ (normal x) (normal y) ∙ ap₂ ◌*ℤ◌ (normal_is ρ x) (normal_is ρ y)
normal_is ρ (minus x) = mul_mono_is ρ (negsuc 0) [] (normal x) ∙ minus_one (sum ρ (normal x)) ∙ ap neg_ℤ (normal_is ρ x)

is_zero→eq : (c : ℤ) → T (is_zero c) → c ≡ pos 0
is_zero→eq (pos n) t = ap pos (eqb→eq n 0 t)
is_zero→eq (negsuc n) t = absurd t

vanishing : (a : ℤ) → pos 0 *ℤ a +ℤ pos 0 ≡ pos 0
vanishing = linear 0 1 _ λ p m. simp gaps (omega arith)

vanishes_is : (ρ : ℕ → ℤ) (p : List Mono) → T (vanishes p) → sum ρ p ≡ pos 0
unfolding sum
vanishes_is ρ [] t = refl
vanishes_is ρ (mono c is ∷ p) t = go (is_zero c) (is_zero→eq c) (vanishes_is ρ p) t
  where
    go : (b : Bool) → (T b → c ≡ pos 0) → (T (vanishes p) → sum ρ p ≡ pos 0) → T (cond b (vanishes p) false)
        → c *ℤ product ρ is +ℤ sum ρ p ≡ pos 0
    go true f g t = ap₂ (λ (x y : ℤ). x *ℤ product ρ is +ℤ y) (f tt) (g t) ∙ vanishing (product ρ is)
    go false f g t = absurd t

equal : (a b : ℤ) → a +ℤ neg_ℤ b ≡ pos 0 → a ≡ b
equal = linear 0 2 _ λ p m. simp gaps (omega arith)

-- two expressions whose difference has the normal form 0 are equal, at any values of the variables
pub solve : (ρ : ℕ → ℤ) (x y : Ex) → T (vanishes (normal (x ⊖ y))) → value ρ x ≡ value ρ y
unfolding value
solve ρ x y t = equal (value ρ x) (value ρ y) (sym (normal_is ρ (x ⊖ y)) ∙ vanishes_is ρ (normal (x ⊖ y)) t)

pub solve_by : {ρ : ℕ → ℤ} {e : Ex} (x y : Ex) → Nil ρ e → T (vanishes (normal ((x ⊖ y) ⊖ e))) → value ρ x ≡ value ρ y
unfolding value
solve_by {ρ} {e} x y h t = equal (value ρ x) (value ρ y) (solve ρ (x ⊖ y) e t ∙ h.eq)
