-- `untouched::number_at` meets its contract. Assumes nothing.
use mathlib.Core.Path.{sym, ◌∙◌, ap, subst}
use Rattle.integers.specs.Differences.{up}
use Rattle.integers.specs.declared.V3.{V3}
use Rattle.counting.specs.Forms.{Numbers, form_at}
use Rattle.untouched.proofs.number_at.Goals as goal

pub number_by-requires : goal.number_by-requires
number_by-requires c =
    subst (Numbers c.args.f) (sym c.instance_at.ensures) c.requires.numbers

pub returns : goal.returns
returns c =
    c.number_by.ensures ∙ ap (λ (x : V3). up (form_at c.args.f x)) c.instance_at.ensures
