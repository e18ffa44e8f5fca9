-- One instance on a store: gather, the lines, scatter; at the elements that it touches, and at the words of a state. Assumes nothing.
use Rattle.std.specs.Prelude.{◌≡◌, ℕ, suc, ◌≤◌, ◌<◌, length, take, drop}
use Rattle.std.proofs.Math.Path.{refl}
use Rattle.std.proofs.Common.{sym, ◌∙◌, ap, arith, drop-cons}
use mathlib.Core.List.{List, [], ◌∷◌, ◌++◌, map}
use Rattle.std.proofs.lemmas.List.{get_or-replicate}
use Rattle.integers.specs.declared.V3.{V3}
use Rattle.meaning.specs.declared.Line.{Line}
use Rattle.meaning.specs.declared.Description.{Description}
use Rattle.meaning.specs.Description.{lines_of}
use Rattle.meaning.specs.Body.{run_lines, gather, scatter, execute, touched_by}
use Rattle.meaning.specs.Array.{Array}
use Rattle.meaning.specs.State.{Word, index, read, write}
use Rattle.meaning.specs.Rules.{body_at, write_all}
use Rattle.lists.specs.Stores.{scatter_first}
use Rattle.body.specs.Fit.{Fit}
use Rattle.body.specs.Lines.{body_of, body_in_registers}
use Rattle.body.specs.Store.{cleared, registers, gather_length}

-- instance x of the lines ls, whose values stand at the places ps
abbrev pub execute_at : V3 → List Line → List ℕ → List ℕ → List ℕ
execute_at x ls store ps = scatter store ps (body_of x ls (gather store ps))

-- ---- by registers

clear_next : (m : ℕ) → m < 8 → drop m cleared ≡ 0 ∷ drop (suc m) cleared
clear_next m h = drop-cons cleared m 0 h ∙ ap (λ (a : ℕ). a ∷ drop (suc m) cleared) (get_or-replicate 8 m 0 0 h)

-- the scratch values are zero as it starts
scratch_clear : (vs : List ℕ) → length vs ≤ 6 → registers vs ≡ vs ++ (0 ∷ 0 ∷ drop (suc (suc (length vs))) cleared)
scratch_clear vs h =
    ap (λ (l : List ℕ). vs ++ l)
    (clear_next (length vs) (omega arith) ∙ ap (λ (l : List ℕ). 0 ∷ l) (clear_next (suc (length vs)) (omega arith)))

pub execute_registers : (x : V3) (n : ℕ) (ls : List Line) (store ps : List ℕ) → Fit (length ps) n ls
    → scatter store ps (run_lines x (take n ls) (registers (gather store ps))) ≡ execute_at x (take n ls) store ps
execute_registers x n ls store ps f =
    let vs = gather store ps in
    let e = gather_length store ps in
    let g : Fit (length vs) n ls = rw e f in
    sym (scatter_first store ps _)
    ∙ ap (scatter store ps) (rw (scratch_clear vs g.streams, ← e) (body_in_registers x n ls vs _ g))

-- ---- the plain run: at the elements that an instance touches

pub execute_touched : (d : Description) (x : V3) (store : List ℕ) → execute_at x (lines_of d) store (touched_by d x) ≡ execute d x store
unfolding execute
execute_touched d x store = refl

-- ---- firing: at the words that a process uses

module _ (A : Array) where
  gather_words : (st : List ℕ) (ws : List Word) → gather st (map (index A) ws) ≡ map (read A st) ws
  gather_words st [] = refl
  gather_words st (w ∷ ws) = ap (λ (l : List ℕ). read A st w ∷ l) (gather_words st ws)

  scatter_words : (st : List ℕ) (ws : List Word) (vs : List ℕ) → scatter st (map (index A) ws) vs ≡ write_all A st ws vs
  unfolding scatter write_all
  scatter_words st [] vs = refl
  scatter_words st (w ∷ ws) [] = refl
  scatter_words st (w ∷ ws) (v ∷ vs) = scatter_words (write A st w v) ws vs

  pub execute_words : (x : V3) (st : List ℕ) (ws : List Word)
      → execute_at x A.lines st (map (index A) ws) ≡ write_all A st ws (body_at A x (map (read A st) ws))
  execute_words x st ws = scatter_words st ws _ ∙ ap (λ (vs : List ℕ). write_all A st ws (body_at A x vs)) (gather_words st ws)
