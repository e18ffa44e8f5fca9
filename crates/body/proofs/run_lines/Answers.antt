-- `body::run_lines` meets its contract: after i turns the first i lines have run. Assumes nothing.
use mathlib.Core.Path.{◌≡◌, refl, sym, ◌∙◌, ap}
use Prim.Native.Nat.{◌<◌}
use native.Mathlib.Omega.{arith}
use lib.ListN.{length, get_or}
use borrow.Author.Rules.{rules}
use Rattle.meaning.specs.Body.{run_line, run_lines}
use Rattle.meaning.specs.Description.{no_line}
use Rattle.body.specs.Lines.{run_next}
use Rattle.body.proofs.run_lines.Goals as goal

pub loop-i-init : goal.loop-i-init
unfolding run_lines
loop-i-init c = refl

pub bounds-lines-i : goal.bounds-lines-i
bounds-lines-i c = omega (arith, c.requires.lines)

pub loop-i-preserved : goal.loop-i-preserved
loop-i-preserved c =
    let l : length c.args.lines ≡ 8 = search rules in
    let n : c.loop-i.i < length c.args.lines = omega (arith, c.requires.lines) in
    let next = run_next c.args.x c.args.lines c.loop-i.i c.args.registers.now n in
    c.run_line.ensures ∙ ap (run_line c.args.x (get_or c.args.lines c.loop-i.i no_line)) c.loop-i.invariant ∙ sym next
