-- `window_copy::see` meets its contract: an answer without values is its number and two zeros. Assumes nothing.
use mathlib.Core.Path.{sym, ◌∙◌, ap}
use mathlib.Core.List.{List, []}
use Prim.Native.Nat.{ℕ}
use native.Mathlib.Omega.{arith}
use borrow.Author.Rules.{rules}
use Rattle.refusals.specs.Numbers.{number-positive}
use Rattle.meaning.specs.Limits.{limits_of}
use Rattle.answer_words.specs.Words.{words_of}
use Rattle.window_copy.specs.Copied.{copied, copied_none, nothing_seen}
use Rattle.window_copy.proofs.see.Goals as goal

pub returns-in-Ok : goal.returns-in-Ok
returns-in-Ok c =
    let w = c.in-Ok.ensures in
    (c.copy.ensures ∙ ap (λ (p : List ℕ). copied p c.args.part.now) w.part, ap (λ (r : ℕ). words_of r []) w.number)

pub returns-in-Err : goal.returns-in-Err
returns-in-Err c =
    let a = c.args in
    let n = c.in-Err.ensures.number in
    let none = nothing_seen (limits_of a.board) a.s.now a.pipe a.side a.waiting.now a.received.now
    (λ z. omega (arith, number-positive c.in-Err.refusal, n ∙ z)) in (
      copied_none a.part.now ∙ ap (λ (p : List ℕ). copied p a.part.now) (sym none),
      ap (λ (r : ℕ). words_of r []) (c.number.ensures ∙ n),
    )
