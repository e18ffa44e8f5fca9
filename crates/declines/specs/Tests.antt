-- The tests that the calls make of what they are lent, by numbers alone: so many elements, words of a state, processes; and the lengths of
-- the lists. What a refusal of 0 says of them. Assumes nothing.
use Rattle.std.specs.Prelude.{◌≡◌, refl, Bool, false, not, ◌||◌, List, [], ◌∷◌, ℕ, ◌≤◌, ◌<◌, eqb, ltb}
use Rattle.std.proofs.Common.{arith, eq-eqb, eqb-true, ltb-false, ltb-true}
use Rattle.std.proofs.lemmas.Bool.{not-false}
use Rattle.meaning.specs.Tests.{Test, ◌if◌, refusal}
use Rattle.decode.specs.Refusals.{passed, neither}

abbrev pub table_lengths : ℕ → ℕ → List Test
table_lengths processes room = (18 if ltb room processes) ∷ []

abbrev pub plain_lengths : ℕ → ℕ → ℕ → List Test
plain_lengths elements values output = (20 if not (eqb values elements)) ∷ (28 if not (eqb output elements)) ∷ []

abbrev pub memory_lengths : ℕ → ℕ → ℕ → ℕ → ℕ → List Test
memory_lengths elements words waiting received state =
    (20 if not (eqb waiting elements)) ∷ (26 if not (eqb received elements)) ∷ (21 if ltb state words) ∷ []

abbrev pub state_tests : Bool → List Test
state_tests sound = (22 if not sound) ∷ []

abbrev pub start_lengths : ℕ → ℕ → ℕ → ℕ → ℕ → ℕ → List Test
start_lengths elements words values waiting received state =
    (20 if (not (eqb values elements) || not (eqb waiting elements))) ∷ (26 if not (eqb received elements)) ∷ (21 if ltb state words) ∷ []

abbrev pub window_lengths : ℕ → ℕ → ℕ → ℕ → List Test
window_lengths elements side waiting received =
    (20 if not (eqb waiting elements)) ∷ (26 if not (eqb received elements)) ∷ (19 if not (ltb side 2)) ∷ []

abbrev pub ready_lengths : ℕ → List Test
ready_lengths words = (27 if ltb words 16) ∷ []

abbrev pub result_tests : Bool → Bool → List Test
result_tests out fits = (25 if not out) ∷ (28 if not fits) ∷ []

-- with as many values as elements, Start's tests are those of the memory
pub start_memory : (elements words values waiting received state : ℕ) → values ≡ elements
    → refusal (memory_lengths elements words waiting received state) ≡ refusal (start_lengths elements words values waiting received state)
start_memory elements words values waiting received state e = rw (eq-eqb values elements e) refl

-- ---- none of them applies

same : {a b : ℕ} → not (eqb a b) ≡ false → a ≡ b
same {a} {b} e = eqb-true a b (not-false _ e)

pub plain_fits : (elements values output : ℕ) → refusal (plain_lengths elements values output) ≡ 0
    → (values ≡ elements) × (output ≡ elements)
plain_fits elements values output e =
    let p20 = passed 20 (not (eqb values elements)) _ (λ g. omega arith) e in
    let p28 = passed 28 (not (eqb output elements)) _ (λ g. omega arith) p20.1 in (same p20.0, same p28.0)

pub memory_fits : (elements words waiting received state : ℕ) → refusal (memory_lengths elements words waiting received state) ≡ 0
    → (waiting ≡ elements) × (received ≡ elements) × (words ≤ state)
memory_fits elements words waiting received state e =
    let p20 = passed 20 (not (eqb waiting elements)) _ (λ g. omega arith) e in
    let p26 = passed 26 (not (eqb received elements)) _ (λ g. omega arith) p20.1 in
    let p21 = passed 21 (ltb state words) _ (λ g. omega arith) p26.1 in (same p20.0, same p26.0, ltb-false state words p21.0)

pub start_fits : (elements words values waiting received state : ℕ)
    → refusal (start_lengths elements words values waiting received state) ≡ 0
    → (values ≡ elements) × (waiting ≡ elements) × (received ≡ elements) × (words ≤ state)
start_fits elements words values waiting received state e =
    let p20 = passed 20 (not (eqb values elements) || not (eqb waiting elements)) _ (λ g. omega arith) e in
    let p26 = passed 26 (not (eqb received elements)) _ (λ g. omega arith) p20.1 in
    let p21 = passed 21 (ltb state words) _ (λ g. omega arith) p26.1 in
    let a = neither (not (eqb values elements)) (not (eqb waiting elements)) p20.0 in
    (same a.0, same a.1, same p26.0, ltb-false state words p21.0)

pub window_fits : (elements side waiting received : ℕ) → refusal (window_lengths elements side waiting received) ≡ 0
    → (waiting ≡ elements) × (received ≡ elements) × (side < 2)
window_fits elements side waiting received e =
    let p20 = passed 20 (not (eqb waiting elements)) _ (λ g. omega arith) e in
    let p26 = passed 26 (not (eqb received elements)) _ (λ g. omega arith) p20.1 in
    let p19 = passed 19 (not (ltb side 2)) _ (λ g. omega arith) p26.1 in
    (same p20.0, same p26.0, ltb-true side 2 (not-false _ p19.0))
