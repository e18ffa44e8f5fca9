-- What the call Accept answers: the figures and the divisors, or the refusal. Assumes nothing.
use Rattle.std.specs.Prelude.{◌≡◌, List, ℕ}
use Rattle.std.proofs.Common.{◌∙◌, ap, ap₂, ne_eqb}
use Rattle.meaning.specs.declared.Figures.{Figures}
use Rattle.meaning.specs.declared.Divisors.{Divisors}
use Rattle.meaning.specs.Answers.{Accepted, Refused}
use Rattle.meaning.specs.declared.Limits.{Limits}
use Rattle.meaning.specs.Description.{description_of}
use Rattle.meaning.specs.Accept.{refusal_of, figures, divisors, accept}

pub accepts : (l : Limits) (s : List ℕ) {f : Figures} {g : Divisors} → refusal_of l s ≡ 0 → f ≡ figures (description_of s)
    → g ≡ divisors (description_of s) → Accepted f g ≡ accept l s
unfolding accept
accepts l s e h k = rw e (ap₂ Accepted h k)

pub refuses : (l : Limits) (s : List ℕ) {n : ℕ} → n ≡ refusal_of l s → (n ≡ 0 → ⊥) → Refused n ≡ accept l s
unfolding accept
refuses l s e f = rw (ne_eqb (refusal_of l s) 0 (λ z. f (e ∙ z))) (ap Refused e)
