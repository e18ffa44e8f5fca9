-- `layout::fill_firsts` meets its contract: the first p words are codes, and the others as they were. Assumes nothing.
use mathlib.Core.Path.{◌≡◌}
use mathlib.Core.List.{List}
use Prim.Native.Nat.{ℕ}
use lib.ListN.{get_or}
use Rattle.integers.specs.Fill.{fill_by}
use Rattle.meaning.specs.declared.Nest.{Nest}
use Rattle.layout.specs.Codes.{code_of}
use Rattle.layout.specs.Spans.{numbered}
use Rattle.layout.proofs.fill_firsts.Given as goal

-- the code of process p by the words lent
abbrev pub code_in : Nest → List ℕ → ℕ → ℕ
code_in n firsts p = code_of (numbered n (get_or firsts p 0))

abbrev pub invariant-loop-p : goal.invariant-loop-p
invariant-loop-p l = l.firsts ≡ fill_by (code_in l.n l.initial.firsts) l.p l.initial.firsts
