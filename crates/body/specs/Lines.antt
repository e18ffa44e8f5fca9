-- The run of an instance's lines on its registers: line by line, and what the first m registers hold at the end. Assumes nothing.
use Rattle.std.specs.Prelude.{◌≡◌, Bool, true, false, cond, length, get_or, set, take}
use Rattle.std.proofs.Math.Path.{refl, ap}
use Rattle.std.proofs.Common.{sym, ◌∙◌, add-one, arith, length-append, take-suc}
use mathlib.Core.List.{List, [], ◌∷◌, ◌++◌, append_assoc}
use Prim.Native.Nat.{ℕ, zero, suc, ◌+◌, ◌<◌}
use Rattle.std.proofs.Math.ListN.{get_or-append}
use Rattle.std.proofs.lemmas.List.{take-append-le, set-append_left}
use Rattle.integers.specs.declared.V3.{V3}
use Rattle.meaning.specs.declared.Line.{Line}
use Rattle.meaning.specs.Description.{no_line}
use Rattle.meaning.specs.Guards.{admits}
use Rattle.meaning.specs.Body.{result_of, run_line, run_lines}
use Rattle.meaning.specs.Lines.{line_length, lines_length}
use Rattle.body.specs.Fit.{Within, Fit}

-- a new instance's scratch values
abbrev pub scratch : List ℕ
scratch = 0 ∷ 0 ∷ []

module _ (x : V3) where
  run_more : (ls : List Line) (l : Line) (vs : List ℕ) → run_lines x (ls ++ (l ∷ [])) vs ≡ run_line x l (run_lines x ls vs)
  unfolding run_lines
  run_more [] l vs = refl
  run_more (k ∷ ls) l vs = run_more ls l (run_line x k vs)

  -- a turn of the loop
  pub run_next : (ls : List Line) (i : ℕ) (vs : List ℕ) → i < length ls
      → run_lines x (take (i + 1) ls) vs ≡ run_line x (get_or ls i no_line) (run_lines x (take i ls) vs)
  run_next ls i vs h = rw (add-one, take-suc ls i no_line) (run_more (take i ls) (get_or ls i no_line) vs)

  -- ---- registers past the scratch values change nothing

  line_apart : (m : ℕ) (l : Line) (vs rest : List ℕ) → Within m l → length vs ≡ suc (suc m)
      → run_line x l (vs ++ rest) ≡ run_line x l vs ++ rest
  line_apart m l vs rest w e =
      rw (
        get_or-append vs rest 0 l.first (omega (arith, w.first)),
        get_or-append vs rest 0 l.second (omega (arith, w.second)),
      )
      (go (admits l x))
    where
      go : (b : Bool)
          → cond b (set (vs ++ rest) l.target (result_of l vs)) (vs ++ rest) ≡ cond b (set vs l.target (result_of l vs)) vs ++ rest
      go true = set-append_left vs rest l.target (result_of l vs) (omega (arith, w.target))
      go false = refl

  run_apart : (m n : ℕ) (ls : List Line) (vs rest : List ℕ) → ((i : ℕ) → i < n → Within m (get_or ls i no_line)) → length vs ≡ suc (suc m)
      → run_lines x (take n ls) (vs ++ rest) ≡ run_lines x (take n ls) vs ++ rest
  unfolding run_lines
  run_apart m zero ls vs rest w e = refl
  run_apart m (suc n) [] vs rest w e = refl
  run_apart m (suc n) (l ∷ ls) vs rest w e =
      ap (run_lines x (take n ls)) (line_apart m l vs rest (w 0 (omega arith)) e)
      ∙ run_apart m n ls (run_line x l vs) rest (λ i h. w (suc i) (omega arith)) (line_length x l vs ∙ e)

  -- the body of an instance whose lines are ls: `body` and `body_at` over their own lines
  abbrev pub body_of : List Line → List ℕ → List ℕ
  body_of ls vs = take (length vs) (run_lines x ls (vs ++ scratch))

  -- it stands in the first m registers, whatever follows the scratch values
  pub body_in_registers : (n : ℕ) (ls : List Line) (vs rest : List ℕ) → Fit (length vs) n ls
      → take (length vs) (run_lines x (take n ls) (vs ++ (0 ∷ 0 ∷ rest))) ≡ body_of (take n ls) vs
  body_in_registers n ls vs rest f =
      let e = length-append vs scratch in
      ap (λ (l : List ℕ). take (length vs) (run_lines x (take n ls) l)) (sym (append_assoc vs scratch rest))
      ∙ ap (take (length vs)) (run_apart (length vs) n ls (vs ++ scratch) rest f.within (omega arith))
      ∙ take-append-le (length vs) _ rest (omega (arith, lines_length x (take n ls) (vs ++ scratch)))
