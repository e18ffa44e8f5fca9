-- The words of a state are few: products, by the limits. Assumes nothing.
use Rattle.std.specs.Prelude.{ℕ, ◌+◌, ◌*◌, ◌≤◌}
use Rattle.std.proofs.Common.{mul-le-mul, arith}
use Rattle.meaning.specs.Limits.{gauge_limits, process_words_most, end_words_most}

-- those of all processes
pub process_words_lem : {p w : ℕ} → p ≤ gauge_limits.processes → w ≤ process_words_most
    → p * w ≤ gauge_limits.processes * process_words_most
process_words_lem h k = mul-le-mul h k

-- those of the ends of a stream's pipes
pub end_words_lem : {j h : ℕ} → j ≤ gauge_limits.processes → h ≤ gauge_limits.hop → j * (2 + h) ≤ end_words_most
end_words_lem h k = mul-le-mul {m₂ = 2 + gauge_limits.hop} h (omega (arith, k))
