-- `prospect::streams_answer` meets its contract: what is left of the streams has the first refusal of all. Assumes nothing.
use mathlib.Core.Path.{◌≡◌, refl, sym, ◌∙◌, ap, subst}
use Prim.Native.Nat.{ℕ, ◌<◌}
use native.Mathlib.Numerals.{add-one}
use native.Mathlib.Omega.{arith}
use lib.ListN.{length, get_or, drop}
use Rattle.refusals.specs.declared.Refusal.{Refusal}
use Rattle.refusals.specs.Numbers.{number_of, refusal_number, number-positive}
use Rattle.outlook.specs.declared.Outlook.{Outlook}
use Rattle.outlook.specs.Outlooks.{no_outlook, answer_by as answer_of}
use Rattle.vectors.specs.Within.{Within}
use Rattle.prospect.specs.declared.Prospect.{Prospect}
use Rattle.prospect.specs.Prospects.{first_by, used, used_length, used_at_lem, first_end, first_here, first_next}
use borrow.Author.Rules.{rules}
use Rattle.prospect.proofs.streams_answer.Goals as goal

pub loop-i-init : goal.loop-i-init
loop-i-init c = refl

pub outlook_at-requires : goal.outlook_at-requires
outlook_at-requires c = omega (arith, c.loop-i-test.true, c.requires.1)

pub answer_to-requires : goal.answer_to-requires
answer_to-requires c = (
  subst (λ (o : Outlook). Within 200 o.line) (sym c.outlook_at.ensures)
      (c.requires.2 c.loop-i.i c.loop-i-test.true),
  c.requires.0,
)

-- stream i is one in use, and its outlook was read
in_use : (p : Prospect) (i : ℕ) → i < p.streams → i < length (used p)
in_use p i h = omega (arith, used_length p)

was_read : (p : Prospect) (i : ℕ) {o : Outlook} → i < p.streams → o ≡ get_or p.outlooks i no_outlook
    → o ≡ get_or (used p) i no_outlook
was_read p i h e = e ∙ sym (used_at_lem p i h)

-- a refusal's number is not 0
some : (e : Refusal) {n r : ℕ} → number_of e ≡ n → r ≡ n → r ≡ 0 → ⊥
some e h k z = omega (arith, number-positive e)

pub returns-in_err-answer_to : goal.returns-in_err-answer_to
returns-in_err-answer_to c =
    let l = c.loop-i in
    let a = c.args in
    let r : refusal_number c.from_residual.result ≡ answer_of c.outlook_at.result a.p.hop a.v = search rules in
    first_here a.p.hop a.v (used a.p) l.i (in_use a.p l.i c.loop-i-test.true)
    (was_read a.p l.i c.loop-i-test.true c.outlook_at.ensures) r
    (some c.in_err-answer_to.field-0.0 c.in_err-answer_to.ensures r)
    ∙ l.invariant

pub loop-i-preserved : goal.loop-i-preserved
loop-i-preserved c =
    let l = c.loop-i in
    let a = c.args in
    ap (λ (k : ℕ). first_by a.p.hop a.v (drop k (used a.p))) (add-one l.i)
    ∙ first_next a.p.hop a.v (used a.p) l.i (in_use a.p l.i c.loop-i-test.true)
    (was_read a.p l.i c.loop-i-test.true c.outlook_at.ensures) c.in_ok-answer_to.ensures refl
    ∙ l.invariant

pub returns : goal.returns
returns c =
    let l = c.loop-i in
    let a = c.args in
    first_end a.p.hop a.v (used a.p) l.i (omega (arith, used_length a.p)) ∙ l.invariant
