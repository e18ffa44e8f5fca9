-- `make::fit` meets its contract: it tests in the order of the refusals. Assumes nothing.
use mathlib.Core.Path.{sym, ◌∙◌, ap}
use Prim.Native.Nat.{◌*◌}
use native.Mathlib.Omega.{arith}
use lib.ListN.{length}
use borrow.Author.Tests.{eq-eqb, ne_eqb, lt-ltb, le-ltb}
use Rattle.meaning.specs.Description.{words_of}
use Rattle.decode.specs.Refusals.{refuses, passes, accepts}
use Rattle.make.proofs.fit.Goals as goal

pub returns-then-seed-eq0-clause-number : goal.returns-then-seed-eq0-clause-number
returns-then-seed-eq0-clause-number c = refuses 29 _ (eq-eqb _ _ c.if-seed-eq0.true)

pub returns-in_default-clause-number : goal.returns-in_default-clause-number
returns-in_default-clause-number c =
    passes 29 _ (ne_eqb _ _ c.if-seed-eq0.false) (refuses 30 _ (sym c.in_default.ensures.none))

pub returns-then-out-words-clause-number : goal.returns-then-out-words-clause-number
returns-then-out-words-clause-number c =
    let a = c.args in
    let words = c.words.ensures.0 ∙ ap words_of c.in-Some.ensures.same in
    passes 29 _ (ne_eqb _ _ c.if-seed-eq0.false)
    (passes 30 _ (sym c.in-Some.ensures.none)
    (refuses 31 _ (lt-ltb (length a.out.now) (4 * words_of a.z) (omega (arith, c.if-out-words.true, words)))))

pub returns-clause-number : goal.returns-clause-number
returns-clause-number c =
    let a = c.args in
    let words = c.words.ensures.0 ∙ ap words_of c.in-Some.ensures.same in
    passes 29 _ (ne_eqb _ _ c.if-seed-eq0.false)
    (passes 30 _ (sym c.in-Some.ensures.none)
    (passes 31 _ (le-ltb (length a.out.now) (4 * words_of a.z) (omega (arith, c.if-out-words.false, words))) accepts))
