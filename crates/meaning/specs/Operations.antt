-- Document 01, the operations of body lines, with the one that request 2.1 adds. That they do what the documents say of them, in plain
-- propositions, is `puts-exactly` of requests.
use Rattle.std.specs.Prelude.{cond, ℕ, ◌+◌, ◌*◌, ◌-◌, ◌^◌, ◌/◌, ◌%◌, eqb, ltb}

-- "values are unsigned 32-bit and arithmetic is modulo 2^32"
abbrev pub modulus : ℕ
modulus = 2 ^ 32

-- request 2.1, "two words as unsigned 16.16 numbers: the exact product is divided by 2^16, rounded down, and taken modulo 2^32"
abbrev pub fixed_product : ℕ → ℕ → ℕ
fixed_product a b = (a * b / 2 ^ 16) % modulus

-- operation words run from 0 to this one
abbrev pub last_operation : ℕ
last_operation = 6

-- "0 copy the first, 1 add, 2 subtract, 3 multiply, 4 smaller, 5 larger"; 6, what is left, the fixed point product
abbrev pub operate : ℕ → ℕ → ℕ → ℕ
operate op a b =
    cond (eqb op 0) a
    (cond (eqb op 1) ((a + b) % modulus)
    (cond (eqb op 2) ((a + (modulus - b)) % modulus)
    (cond (eqb op 3) ((a * b) % modulus)
    (cond (eqb op 4) (cond (ltb b a) b a)
    (cond (eqb op 5) (cond (ltb a b) b a)
    (fixed_product a b))))))
