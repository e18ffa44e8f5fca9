-- `outlook::outlook_of` meets its contract. Assumes nothing.
use mathlib.Core.Path.{◌≡◌, refl}
use mathlib.Core.Bool.{Bool, cond}
use Prim.Native.Nat.{ℕ}
use Rattle.outlook.proofs.outlook_of.Goals as goal

-- what the callees answer, by what they ensure of their arguments
move_is : {r x x' : ℕ} {a a' b b' : Bool} → r ≡ cond a 11 (cond b 13 x) → a ≡ a' → b ≡ b' → x ≡ x' → r ≡ cond a' 11 (cond b' 13 x')
move_is e p q h = rw (p, q, h) at e

order_is : {r x x' : ℕ} {a a' : Bool} → r ≡ cond a 15 x → a ≡ a' → x ≡ x' → r ≡ cond a' 15 x'
order_is e p h = rw (p, h) at e

pub returns : goal.returns
returns c =
    let rank = c.rank_refused-rank.ensures in
    let wide = c.move_refused-wide.ensures in
    let late = c.late_refusal-late.ensures in
    record {
      line_is = c.requires.0.flow.line_is;
      line_small = c.requires.0.flow.line_small;
      moving_is = c.requires.0.flow.moving_is;
      still_is = rw rank at c.still_answer.ensures;
      leap_is = move_is c.move_answer.ensures rank wide refl;
      onward_is =
          move_is c.move_answer-2.ensures rank wide
          (order_is c.order_answer.ensures c.order_refused-against.ensures late);
      back_is =
          move_is c.move_answer-3.ensures rank wide (order_is c.order_answer-2.ensures c.turned_refused-turned.ensures late);
    }
