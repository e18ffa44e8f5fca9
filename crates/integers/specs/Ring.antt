-- Identities of the commutative ring ℤ in one line: `ring 0 3 _ λ ρ. simp quotes (solve ρ _ _ tt)` for three numbers, `ring 2 1 ..` for two
-- vectors and a number. `simp quotes` reads the goal as expressions in the variables ρ, and `solve` compares their normal forms, which the
-- checker computes. Assumes nothing.
use Rattle.std.specs.Prelude.{◌≡◌, refl, Bool, true, false, cond, List, [], ◌∷◌, ℕ, T, leb, eqb, ℤ, pos, negsuc, neg_ℤ, ◌+ℤ◌, ◌*ℤ◌}
use Rattle.std.proofs.Common.{sym, ◌∙◌, ap, ap₂, arith, eqb→eq}
use Rattle.integers.specs.declared.V3.{V3}
use Rattle.integers.specs.Differences.{gaps}
use Rattle.integers.specs.Variables.{Claim, At, Always, always, linear}

-- ---- expressions

infixl 6 ◌⊕◌ ◌⊖◌
infixl 7 ◌⊗◌
pub data Ex : Type 0 where
  var : ℕ → Ex
  plain : ℕ → Ex
  below : ℕ → Ex
  ◌⊕◌ : Ex → Ex → Ex
  ◌⊗◌ : Ex → Ex → Ex
  minus : Ex → Ex

-- `below n` is −(n+1)
unfoldable pub value : (ℕ → ℤ) → Ex → ℤ
value ρ (var i) = ρ i
value ρ (plain n) = pos n
value ρ (below n) = negsuc n
value ρ (x ⊕ y) = value ρ x +ℤ value ρ y
value ρ (x ⊗ y) = value ρ x *ℤ value ρ y
value ρ (minus x) = neg_ℤ (value ρ x)

abbrev pub ◌⊖◌ : Ex → Ex → Ex
x ⊖ y = x ⊕ minus y

-- ---- normal forms: a list of monomials, a number times variables in ascending order

pub data Mono : Type 0 where
  mono : ℤ → List ℕ → Mono

unfoldable pub product : (ℕ → ℤ) → List ℕ → ℤ
product ρ [] = pos 1
product ρ (i ∷ is) = ρ i *ℤ product ρ is

unfoldable pub sum : (ℕ → ℤ) → List Mono → ℤ
sum ρ [] = pos 0
sum ρ (mono c is ∷ p) = c *ℤ product ρ is +ℤ sum ρ p

abbrev same : List ℕ → List ℕ → Bool
same [] [] = true
same [] (j ∷ js) = false
same (i ∷ is) [] = false
same (i ∷ is) (j ∷ js) = cond (eqb i j) (same is js) false

abbrev insert : ℕ → List ℕ → List ℕ
insert i [] = i ∷ []
insert i (j ∷ js) = cond (leb i j) (i ∷ j ∷ js) (j ∷ insert i js)

abbrev merge : List ℕ → List ℕ → List ℕ
merge [] js = js
merge (i ∷ is) js = insert i (merge is js)

abbrev add_mono : ℤ → List ℕ → List Mono → List Mono
add_mono c is [] = mono c is ∷ []
add_mono c is (mono d js ∷ p) = cond (same is js) (mono (c +ℤ d) js ∷ p) (mono d js ∷ add_mono c is p)

abbrev add : List Mono → List Mono → List Mono
add [] q = q
add (mono c is ∷ p) q = add_mono c is (add p q)

abbrev pub mul_mono : ℤ → List ℕ → List Mono → List Mono
mul_mono c is [] = []
mul_mono c is (mono d js ∷ q) = mono (c *ℤ d) (merge is js) ∷ mul_mono c is q

abbrev pub mul : List Mono → List Mono → List Mono
mul [] q = []
mul (mono c is ∷ p) q = add (mul_mono c is q) (mul p q)

abbrev pub normal : Ex → List Mono
normal (var i) = mono (pos 1) (i ∷ []) ∷ []
normal (plain n) = mono (pos n) [] ∷ []
normal (below n) = mono (negsuc n) [] ∷ []
normal (x ⊕ y) = add (normal x) (normal y)
normal (x ⊗ y) = mul (normal x) (normal y)
normal (minus x) = mul_mono (negsuc 0) [] (normal x)

abbrev pub is_zero : ℤ → Bool
is_zero (pos n) = eqb n 0
is_zero (negsuc n) = false

abbrev pub vanishes : List Mono → Bool
vanishes [] = true
vanishes (mono c is ∷ p) = cond (is_zero c) (vanishes p) false

-- ---- a normal form has its expression's value

same→eq : (is js : List ℕ) → T (same is js) → is ≡ js
same→eq [] [] t = refl
same→eq [] (j ∷ js) t = absurd t
same→eq (i ∷ is) [] t = absurd t
same→eq (i ∷ is) (j ∷ js) t = go (eqb i j) (eqb→eq i j) (same→eq is js) t
  where
    go : (b : Bool) → (T b → i ≡ j) → (T (same is js) → is ≡ js) → T (cond b (same is js) false) → i ∷ is ≡ j ∷ js
    go true f g t = ap₂ ◌∷◌ (f tt) (g t)
    go false f g t = absurd t

-- a choice, at either way
either : {A : Type 0} (b : Bool) (x y : A) (P : A → Type 0) → (T b → P x) → P y → P (cond b x y)
either true x y P f g = f tt
either false x y P f g = g

swap : (a b c : ℤ) → a *ℤ (b *ℤ c) ≡ b *ℤ (a *ℤ c)
swap = linear 0 3 _ λ p m. simp gaps (omega arith)

insert_is : (ρ : ℕ → ℤ) (i : ℕ) (js : List ℕ) → product ρ (insert i js) ≡ ρ i *ℤ product ρ js
unfolding product
insert_is ρ i [] = refl
insert_is ρ i (j ∷ js) =
    either (leb i j) (i ∷ j ∷ js) (j ∷ insert i js) (λ l. product ρ l ≡ ρ i *ℤ (ρ j *ℤ product ρ js)) (λ _. refl)
    (ap (λ (z : ℤ). ρ j *ℤ z) (insert_is ρ i js) ∙ swap (ρ j) (ρ i) (product ρ js))

one_mul : (a : ℤ) → a ≡ pos 1 *ℤ a
one_mul = linear 0 1 _ λ p m. simp gaps (omega arith)

mul_assoc : (a b c : ℤ) → a *ℤ (b *ℤ c) ≡ (a *ℤ b) *ℤ c
mul_assoc = linear 0 3 _ λ p m. simp gaps (omega arith)

merge_is : (ρ : ℕ → ℤ) (is js : List ℕ) → product ρ (merge is js) ≡ product ρ is *ℤ product ρ js
unfolding product
merge_is ρ [] js = one_mul (product ρ js)
merge_is ρ (i ∷ is) js =
    insert_is ρ i (merge is js) ∙ ap (λ (z : ℤ). ρ i *ℤ z) (merge_is ρ is js) ∙ mul_assoc (ρ i) (product ρ is) (product ρ js)

add_left : (c d w s : ℤ) → (c +ℤ d) *ℤ w +ℤ s ≡ c *ℤ w +ℤ (d *ℤ w +ℤ s)
add_left = linear 0 4 _ λ p m. simp gaps (omega arith)

add_swap : (a b c : ℤ) → a +ℤ (b +ℤ c) ≡ b +ℤ (a +ℤ c)
add_swap = linear 0 3 _ λ p m. simp gaps (omega arith)

add_mono_is : (ρ : ℕ → ℤ) (c : ℤ) (is : List ℕ) (p : List Mono) → sum ρ (add_mono c is p) ≡ c *ℤ product ρ is +ℤ sum ρ p
unfolding sum
add_mono_is ρ c is [] = refl
add_mono_is ρ c is (mono d js ∷ p) =
    either (same is js) (mono (c +ℤ d) js ∷ p) (mono d js ∷ add_mono c is p)
    (λ l. sum ρ l ≡ c *ℤ product ρ is +ℤ (d *ℤ product ρ js +ℤ sum ρ p))
    (λ t. add_left c d (product ρ js) (sum ρ p)
    ∙ ap (λ (l : List ℕ). c *ℤ product ρ l +ℤ (d *ℤ product ρ js +ℤ sum ρ p)) (sym (same→eq is js t)))
    (ap (λ (z : ℤ). d *ℤ product ρ js +ℤ z) (add_mono_is ρ c is p) ∙ add_swap (d *ℤ product ρ js) (c *ℤ product ρ is) (sum ρ p))

zero_add : (a : ℤ) → a ≡ pos 0 +ℤ a
zero_add = linear 0 1 _ λ p m. simp gaps (omega arith)

add_assoc : (a b c : ℤ) → a +ℤ (b +ℤ c) ≡ (a +ℤ b) +ℤ c
add_assoc = linear 0 3 _ λ p m. simp gaps (omega arith)

pub add_is : (ρ : ℕ → ℤ) (p q : List Mono) → sum ρ (add p q) ≡ sum ρ p +ℤ sum ρ q
unfolding sum
add_is ρ [] q = zero_add (sum ρ q)
add_is ρ (mono c is ∷ p) q =
    add_mono_is ρ c is (add p q) ∙ ap (λ (z : ℤ). c *ℤ product ρ is +ℤ z) (add_is ρ p q)
    ∙ add_assoc (c *ℤ product ρ is) (sum ρ p) (sum ρ q)

mul_mul : (c d x y : ℤ) → (c *ℤ d) *ℤ (x *ℤ y) ≡ (c *ℤ x) *ℤ (d *ℤ y)
mul_mul = linear 0 4 _ λ p m. simp gaps (omega arith)

mul_left : (a b c : ℤ) → a *ℤ b +ℤ a *ℤ c ≡ a *ℤ (b +ℤ c)
mul_left = linear 0 3 _ λ p m. simp gaps (omega arith)

mul_zero : (a : ℤ) → pos 0 ≡ a *ℤ pos 0
mul_zero = linear 0 1 _ λ p m. simp gaps (omega arith)

pub mul_mono_is : (ρ : ℕ → ℤ) (c : ℤ) (is : List ℕ) (q : List Mono) → sum ρ (mul_mono c is q) ≡ (c *ℤ product ρ is) *ℤ sum ρ q
unfolding sum
mul_mono_is ρ c is [] = mul_zero (c *ℤ product ρ is)
mul_mono_is ρ c is (mono d js ∷ q) =
    ap₂ (λ (x y : ℤ). (c *ℤ d) *ℤ x +ℤ y) (merge_is ρ is js) (mul_mono_is ρ c is q)
    ∙ ap (λ (z : ℤ). z +ℤ (c *ℤ product ρ is) *ℤ sum ρ q) (mul_mul c d (product ρ is) (product ρ js))
    ∙ mul_left (c *ℤ product ρ is) (d *ℤ product ρ js) (sum ρ q)

-- ---- solving

-- with hypotheses: x − y is a sum of multiples of their differences, as `given (var 4) h` is 0, or `given (var 4) h also given (var 5) k`
pub record Nil (ρ : ℕ → ℤ) (e : Ex) : Type 0 where
  pub eq : value ρ e ≡ pos 0

infixl 5 ◌also◌
pub given : {ρ : ℕ → ℤ} {x y : Ex} (m : Ex) → value ρ x ≡ value ρ y → Nil ρ (m ⊗ (x ⊖ y))
unfolding value
given {ρ} {y} m h =
    record { eq = ap (λ (z : ℤ). value ρ m *ℤ (z +ℤ neg_ℤ (value ρ y))) h ∙ nothing (value ρ m) (value ρ y) }
  where
    nothing : (a b : ℤ) → a *ℤ (b +ℤ neg_ℤ b) ≡ pos 0
    nothing = linear 0 2 _ λ p m. simp gaps (omega arith)

pub ◌also◌ : {ρ : ℕ → ℤ} {x y : Ex} → Nil ρ x → Nil ρ y → Nil ρ (x ⊕ y)
unfolding value
h also k = record { eq = ap₂ ◌+ℤ◌ h.eq k.eq }

-- the same for vectors
pub solve3 : {u w : V3} → u.x ≡ w.x → u.y ≡ w.y → u.z ≡ w.z → u ≡ w
solve3 p q r = λ i. record { x = p i; y = q i; z = r i }

-- ---- a goal read as expressions, by `simp`

pub quote_add : (ρ : ℕ → ℤ) (x y : Ex) → value ρ x +ℤ value ρ y ≡ value ρ (x ⊕ y)
unfolding value
quote_add ρ x y = refl

pub quote_mul : (ρ : ℕ → ℤ) (x y : Ex) → value ρ x *ℤ value ρ y ≡ value ρ (x ⊗ y)
unfolding value
quote_mul ρ x y = refl

pub quote_neg : (ρ : ℕ → ℤ) (x : Ex) → neg_ℤ (value ρ x) ≡ value ρ (minus x)
unfolding value
quote_neg ρ x = refl

pub ruleset quotes = (quote_add, quote_mul, quote_neg)

-- literals, where a goal has them: `simp (quotes, literal ρ)`
pub literal : (ρ : ℕ → ℤ) (n : ℕ) → pos n ≡ value ρ (plain n)
unfolding value
literal ρ n = refl

-- a claim about vectors and numbers, at variables
pub ring : (n k : ℕ) (P : Claim n k) → ((ρ : ℕ → ℤ) → At n k P (λ i. value ρ (var i))) → Always n k P
unfolding value
ring n k P h = always n k P h
