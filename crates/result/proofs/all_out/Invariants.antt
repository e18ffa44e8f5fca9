-- `result::all_out` meets its contract: the pipes from q on say what all say. Assumes nothing.
use mathlib.Core.Path.{◌≡◌}
use Prim.Native.Nat.{◌-◌}
use Rattle.meaning.specs.Lists.{every, numbers, numbers_from}
use Rattle.result.specs.Out.{out_by}
use Rattle.result.proofs.all_out.Given as goal

abbrev pub invariant-loop-q : goal.invariant-loop-q
invariant-loop-q l =
    every (out_by l.ports l.state) (numbers_from l.q (l.pipes - l.q)) ≡ every (out_by l.ports l.state) (numbers l.pipes)
