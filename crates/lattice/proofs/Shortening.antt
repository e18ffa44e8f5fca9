-- What answers the shortening rule. Assumes nothing.
use Rattle.std.specs.Prelude.{◌≡◌, refl, ℕ, pos, nat_abs}
use Rattle.std.proofs.Common.{sym, ◌∙◌, ap}
use Rattle.std.proofs.Math.IntN.{ℤ_discrete}
use Rattle.integers.specs.declared.V3.{V3}
use Rattle.integers.specs.Vectors.{zero3, scale3, same3}
use Rattle.integers.proofs.Order.{cancel}
use Rattle.lattice.specs.declared.Short.{Short}
use Rattle.lattice.specs.Gcd.{gcd_of, euclid}
use Rattle.lattice.specs.Shorten.{Shortens, divisor_of, over, shortened, divides_whole, divisor_divides, divisor_greatest, divisor_is}
use Rattle.lattice.specs.Shorten.{divisor_zero}

-- ---- the rule is met, and by nothing else

zero_short : shortened zero3 ≡ record { vector = zero3; divisor = 0 }
unfolding gcd_of euclid
zero_short = refl

pub shortens : (v : V3) → Shortens v (shortened v)
shortens v =
    record { times = divides_whole (divisor_divides v); greatest = divisor_greatest v; zero = λ e. ap shortened e ∙ zero_short }

pub shortens_one : {v : V3} {r : Short} → Shortens v r → r ≡ shortened v
shortens_one {v} {r} s = go (ℤ_discrete (pos r.divisor) (pos 0))
  where
    both : {u w : V3} {d e : ℕ} → d ≡ e → u ≡ w → ◌≡◌ {A = Short} (record { vector = u; divisor = d }) (record { vector = w; divisor = e })
    both e f = rw (e, f)

    go : Dec (pos r.divisor ≡ pos 0) → r ≡ shortened v
    go (yes e) = let z = divisor_zero s (ap nat_abs e) in s.zero z ∙ sym ((shortens v).zero z)
    go (no n) =
        let e = s.times ∙ sym (ap (λ (d : ℕ). scale3 (pos d) (over v (divisor_of v))) (divisor_is s) ∙ (shortens v).times) in
        both (divisor_is s) (same3
        (cancel (pos r.divisor) r.vector.x _ n (ap (λ (w : V3). w.x) e))
        (cancel (pos r.divisor) r.vector.y _ n (ap (λ (w : V3). w.y) e))
        (cancel (pos r.divisor) r.vector.z _ n (ap (λ (w : V3). w.z) e)))
