-- `operations::exact` meets its contract: a product of two words fits 64 bits. Assumes nothing.
use Rattle.std.proofs.Common.{ℕ, ◌-◌, ◌*◌, ◌<◌, ◌≤◌, mul-le-mul, arith}
use Rattle.meaning.specs.Operations.{modulus}
use Rattle.operations.proofs.exact.Goals as goal

most : (a b : ℕ) → a < modulus → b < modulus → a * b ≤ (modulus - 1) * (modulus - 1)
most a b h k = let f : a ≤ modulus - 1 = omega arith in let g : b ≤ modulus - 1 = omega arith in mul-le-mul f g

pub overflow_mul-result : goal.overflow_mul-result
overflow_mul-result c = omega (arith, most c.from.result c.from-2.result (omega arith) (omega arith))

pub returns : goal.returns
returns c = (cc, most c.from.result c.from-2.result (omega arith) (omega arith))
