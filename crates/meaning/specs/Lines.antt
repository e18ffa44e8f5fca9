-- Laws of body lines, for the network and for the code: what a line leaves, and that lines leave as many values as there were.
-- Assumes nothing.
use Rattle.std.specs.Prelude.{◌≡◌, Bool, true, false, cond, ℕ, length, set}
use Rattle.std.proofs.Math.Path.{refl}
use Rattle.std.proofs.Common.{◌∙◌, length-set}
use mathlib.Core.List.{List, [], ◌∷◌}
use Rattle.integers.specs.declared.V3.{V3}
use Rattle.meaning.specs.declared.Line.{Line}
use Rattle.meaning.specs.Guards.{admits}
use Rattle.meaning.specs.Body.{result_of, run_line, run_lines}

module _ (x : V3) where
  -- what holds with the result in the target, and of the values as they are, holds after the line, whether it runs or not
  pub line_leaves : (P : List ℕ → Type 0) (l : Line) (vs : List ℕ) → P (set vs l.target (result_of l vs)) → P vs → P (run_line x l vs)
  line_leaves P l vs p q = go (admits l x)
    where
      go : (b : Bool) → P (cond b (set vs l.target (result_of l vs)) vs)
      go true = p
      go false = q

  pub line_length : (l : Line) (vs : List ℕ) → length (run_line x l vs) ≡ length vs
  line_length l vs = line_leaves (λ ws. length ws ≡ length vs) l vs (length-set vs l.target (result_of l vs)) refl

  pub lines_length : (ls : List Line) (vs : List ℕ) → length (run_lines x ls vs) ≡ length vs
  unfolding run_lines
  lines_length [] vs = refl
  lines_length (l ∷ ls) vs = lines_length ls (run_line x l vs) ∙ line_length l vs
