-- `layout::fill_firsts` meets its contract: the first p words are codes, and the others as they were. Assumes nothing.
use mathlib.Core.Path.{◌≡◌, sym, ◌∙◌, ap, ap₂}
use mathlib.Core.List.{List}
use Prim.Native.Nat.{ℕ}
use native.Mathlib.Nat.{le_refl}
use native.Mathlib.Omega.{arith}
use lib.ListN.{get_or, set}
use Rattle.integers.specs.Fill.{fill_by, fill_zero, fill_step, fill_past}
use Rattle.meaning.specs.declared.Nest.{Nest}
use Rattle.layout.specs.Codes.{code_of}
use Rattle.layout.specs.Spans.{numbered}
use Rattle.layout.proofs.fill_firsts.Invariants.{code_in}
use Rattle.layout.proofs.fill_firsts.Goals as goal

-- what the loop has not come to is as it was lent
kept : (n : Nest) (firsts₀ : List ℕ) {firsts : List ℕ} (p : ℕ) → firsts ≡ fill_by (code_in n firsts₀) p firsts₀
    → get_or firsts p 0 ≡ get_or firsts₀ p 0
kept n firsts₀ p e = ap (λ (l : List ℕ). get_or l p 0) e ∙ fill_past (code_in n firsts₀) p p firsts₀ 0 (le_refl p)

pub loop-p-init : goal.loop-p-init
loop-p-init c = sym (fill_zero _ _)

pub instance_numbered-requires : goal.instance_numbered-requires
instance_numbered-requires c =
    let l = c.loop-p in
    (c.requires.0, omega (arith, kept c.args.n c.args.firsts.now l.p l.invariant, c.requires.2 l.p (omega arith)))

pub code_of-requires : goal.code_of-requires
code_of-requires c = c.instance_numbered.ensures.1

pub loop-p-preserved : goal.loop-p-preserved
loop-p-preserved c =
    let l = c.loop-p in
    let n = c.args.n in
    let e = c.code_of.ensures ∙ ap code_of c.instance_numbered.ensures.0
    ∙ ap (λ (k : ℕ). code_of (numbered n k)) (kept n c.args.firsts.now l.p l.invariant) in
    ap₂ (λ (w : List ℕ) (x : ℕ). set w l.p x) l.invariant e ∙ sym (fill_step _ l.p _)
