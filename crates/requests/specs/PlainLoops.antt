-- The loops, a line at a time by whether it runs and what its operation puts, leave exactly what the plain run computes, for words.
-- Assumes nothing.
use Rattle.std.specs.Prelude.{◌≡◌, ◌⊎◌, ◌↔◌, Bool, cond, ℕ, zero, suc, ◌<◌, take}
use Rattle.std.proofs.Math.Path.{refl, sym, ap}
use Rattle.std.proofs.Common.{◌∙◌, subst, inl, inr, arith}
use mathlib.Core.List.Memᴰ
use mathlib.Core.List.Memᴰ.{head as here}
use mathlib.Core.List.Memᴰ.{tail as there}
use mathlib.Core.List.{List, [], ◌∷◌, ◌++◌, Memᴰ as In}
use Rattle.std.proofs.Math.ListN.{get_or, set}
use Rattle.std.proofs.lemmas.List.{length-map}
use Rattle.integers.specs.declared.V3.{V3}
use Rattle.meaning.specs.declared.Line.{Line}
use Rattle.meaning.specs.declared.Description.{Description}
use Rattle.meaning.specs.Operations.{modulus}
use Rattle.meaning.specs.Guards.{admits}
use Rattle.meaning.specs.Description.{lines_of}
use Rattle.meaning.specs.Body.{result_of, run_line, run_lines, touched_by, gather, scatter, execute, execute_all}
use Rattle.meaning.specs.Lines.{line_leaves}
use Rattle.meaning.specs.Leaves.{Runs, LinesLeave, LinesLeave.none as lines_end, LinesLeave.runs, LinesLeave.stays, LoopsLeave}
use Rattle.meaning.specs.Leaves.{LoopsLeave.none as loops-end, LoopsLeave.next as instance, Words}
use Rattle.lists.specs.Members.{map_in}
use Rattle.lists.specs.Stores.{scatter_first}
use Rattle.network.specs.Decide.{Says, Says.holds, Says.fails, says_true}
use Rattle.requests.specs.BodyLines.{Allowed}
use Rattle.requests.specs.Operations.{word_result, puts_exactly}
use Rattle.requests.specs.Guards.{runs_exactly}

-- ---- lists of words

word_at : (vs : List ℕ) → Words vs → (i : ℕ) → get_or vs i 0 < modulus
word_at [] w i = omega arith
word_at (v ∷ vs) w zero = w v (here refl)
word_at (v ∷ vs) w (suc i) = word_at vs (λ u k. w u (there k)) i

words_set : (vs : List ℕ) (i r : ℕ) → Words vs → r < modulus → Words (set vs i r)
words_set [] i r w h u k = w u k
words_set (v ∷ vs) zero r w h u (here e) = omega arith
words_set (v ∷ vs) zero r w h u (there k) = w u (there k)
words_set (v ∷ vs) (suc i) r w h u (here e) = w u (here e)
words_set (v ∷ vs) (suc i) r w h u (there k) = words_set vs i r (λ t j. w t (there j)) h u k

words_scatter : (store es vs : List ℕ) → Words store → Words vs → Words (scatter store es vs)
unfolding scatter
words_scatter store [] vs w u = w
words_scatter store (e ∷ es) [] w u = w
words_scatter store (e ∷ es) (v ∷ vs) w u =
    words_scatter (set store e v) es vs (words_set store e v w (u v (here refl))) (λ t j. u t (there j))

-- as an instance begins
words_gather : (store es : List ℕ) → Words store → Words (gather store es ++ (0 ∷ 0 ∷ []))
words_gather store es w v k = go (Memᴰ.append_cases (gather store es) k)
  where
    go : In v (gather store es) ⊎ In v (0 ∷ 0 ∷ []) → v < modulus
    go (inl j) = let r = map_in (λ e. get_or store e 0) es j in omega (arith, word_at store w r.from, r.is)
    go (inr (here e)) = omega arith
    go (inr (there (here e))) = omega arith
    go (inr (there (there e))) = elim e [ ]

-- ---- lines

abbrev AllAllowed : List Line → Type 0
AllAllowed ts = (t : Line) → In t ts → Allowed t

module _ (x : V3) where
  -- what a line leaves if it runs
  abbrev after : Line → List ℕ → List ℕ
  after t vs = set vs t.target (result_of t vs)

  words_after : (t : Line) (vs : List ℕ) → Allowed t → Words vs → Words (after t vs)
  words_after t vs h w =
      words_set vs t.target (result_of t vs) w
      (word_result (word_at vs w t.first) (word_at vs w t.second) t.operation h.operation)

  words_line : (t : Line) (vs : List ℕ) → Allowed t → Words vs → Words (run_line x t vs)
  words_line t vs h w = line_leaves x Words t vs (words_after t vs h w) w

  words_lines : (ts : List Line) (vs : List ℕ) → AllAllowed ts → Words vs → Words (run_lines x ts vs)
  unfolding run_lines
  words_lines [] vs a w = w
  words_lines (t ∷ ts) vs a w = words_lines ts (run_line x t vs) (λ u k. a u (there k)) (words_line t vs (a t (here refl)) w)

  guard : (t : Line) → Allowed t → Says (Runs x t) (admits t x)
  guard t h = runs_exactly x t h.index h.comparison

  lines_run : (ts : List Line) (vs : List ℕ) → AllAllowed ts → Words vs → LinesLeave x ts vs (run_lines x ts vs)
  unfolding run_lines
  lines_run [] vs a w = lines_end
  lines_run (t ∷ ts) vs a w = go (guard t h) (λ us. lines_run ts us (λ u k. a u (there k)))
    where
      h : Allowed t
      h = a t (here refl)

      go : {b : Bool} → Says (Runs x t) b → ((us : List ℕ) → Words us → LinesLeave x ts us (run_lines x ts us))
          → LinesLeave x (t ∷ ts) vs (run_lines x ts (cond b (after t vs) vs))
      go (holds r) ih =
          runs r ((puts_exactly (word_at vs w t.first) (word_at vs w t.second) h.operation).1 refl)
          (ih (after t vs) (words_after t vs h w))
      go (fails n) ih = stays n (ih vs w)

  -- a line that runs, and one that does not
  line_runs : (t : Line) (vs : List ℕ) → Allowed t → Runs x t → after t vs ≡ run_line x t vs
  line_runs t vs h r = ap (λ (b : Bool). cond b (after t vs) vs) (sym (says_true (guard t h) r))

  line_stays : (t : Line) (vs : List ℕ) → Allowed t → (Runs x t → ⊥) → vs ≡ run_line x t vs
  line_stays t vs h n = go (guard t h)
    where
      go : {b : Bool} → Says (Runs x t) b → vs ≡ cond b (after t vs) vs
      go (holds r) = absurd (n r)
      go (fails m) = refl

  lines_only : {ts : List Line} {vs ws : List ℕ} → AllAllowed ts → Words vs → LinesLeave x ts vs ws → ws ≡ run_lines x ts vs
  unfolding run_lines
  lines_only a w lines_end = refl
  lines_only {vs} a w (runs {t} {ts} {r} ok p rest) =
      let h = a t (here refl) in
      let e : set vs t.target r ≡ after t vs =
      ap (set vs t.target) ((puts_exactly (word_at vs w t.first) (word_at vs w t.second) h.operation).0 p) in
      lines_only (λ u k. a u (there k)) (subst Words (sym e) (words_after t vs h w)) rest ∙ ap (run_lines x ts) (e ∙ line_runs t vs h ok)
  lines_only {vs} a w (stays {t} {ts} n rest) =
      lines_only (λ u k. a u (there k)) w rest ∙ ap (run_lines x ts) (line_stays t vs (a t (here refl)) n)

-- ---- instances

module _ (d : Description) (a : AllAllowed (lines_of d)) where
  -- the registers as instance x ends
  abbrev ended : V3 → List ℕ → List ℕ
  ended x store = run_lines x (lines_of d) (gather store (touched_by d x) ++ (0 ∷ 0 ∷ []))

  execute_is : (x : V3) (store : List ℕ) → execute d x store ≡ scatter store (touched_by d x) (ended x store)
  unfolding execute
  execute_is x store =
      ap (λ (n : ℕ). scatter store (touched_by d x) (take n (ended x store))) (length-map (touched_by d x) (λ e. get_or store e 0))
      ∙ scatter_first store (touched_by d x) (ended x store)

  words_execute : (x : V3) (store : List ℕ) → Words store → Words (execute d x store)
  words_execute x store w =
      subst Words (sym (execute_is x store))
      (words_scatter store (touched_by d x) (ended x store) w (words_lines x (lines_of d) _ a (words_gather store (touched_by d x) w)))

  loops_run : (xs : List V3) (store : List ℕ) → Words store → LoopsLeave d xs store (execute_all d xs store)
  unfolding execute_all
  loops_run [] store w = loops-end
  loops_run (x ∷ xs) store w =
      instance (lines_run x (lines_of d) _ a (words_gather store (touched_by d x) w))
      (subst (λ (after : List ℕ). LoopsLeave d xs after (execute_all d xs (execute d x store))) (execute_is x store)
      (loops_run xs (execute d x store) (words_execute x store w)))

  loops_only : {xs : List V3} {store left : List ℕ} → Words store → LoopsLeave d xs store left → left ≡ execute_all d xs store
  unfolding execute_all
  loops_only w loops-end = refl
  loops_only {store} w (instance {x} {xs} {vs} ls rest) =
      let e : scatter store (touched_by d x) vs ≡ execute d x store =
      ap (scatter store (touched_by d x)) (lines_only x a (words_gather store (touched_by d x) w) ls) ∙ sym (execute_is x store) in
      loops_only (subst Words (sym e) (words_execute x store w)) rest ∙ ap (execute_all d xs) e

  pub loops_exactly : (xs : List V3) (store left : List ℕ) → Words store → LoopsLeave d xs store left ↔ (left ≡ execute_all d xs store)
  loops_exactly xs store left w = (loops_only w, λ e. subst (LoopsLeave d xs store) (sym e) (loops_run xs store w))
