-- The heads of a stream: for each process how many pipes enter before it, and how many elements the pipe has that enters there. By them the
-- elements of the pipe through any process, at the entry of its line. Assumes nothing.
use Rattle.std.specs.Prelude.{◌≡◌, refl, ◌⊎◌, Bool, true, false, not, cond, ◌&&◌, List, ℕ, suc, ◌+◌, ◌*◌, ◌<◌, T, eqb, length, get_or, set}
use Rattle.std.proofs.Common.{sym, ◌∙◌, ap, subst, inl, inr, eq-or-lt_of_le, le_of_suc-le-suc, add-one, arith, length-set, get_or-set_same}
use Rattle.std.proofs.Common.{get_or-set_other, eq-eqb, ne_eqb}
use Rattle.integers.specs.Vectors.{zero2, image}
use Rattle.integers.specs.declared.V2.{V2}
use Rattle.meaning.specs.declared.Nest.{Nest}
use Rattle.meaning.specs.declared.Stream.{Stream}
use Rattle.meaning.specs.Limits.{gauge_limits}
use Rattle.meaning.specs.Lists.{any}
use Rattle.meaning.specs.Space.{space, processes, first, computing}
use Rattle.meaning.specs.Pipes.{pipe, before, is_entry, is_pipe, pipe_elements}
use Rattle.meaning.specs.Points.{Inside}
use Rattle.lists.specs.Members.{any_yes}
use Rattle.geometry.specs.Places.{ahead_lt}
use Rattle.geometry.specs.RowOrder.{row_at_lem}
use Rattle.geometry.proofs.Processes.{computes}
use Rattle.geometry.specs.Pipes.{Accepted, in_pipe, same_pipe, same_elements, touched_in}
use Rattle.geometry.proofs.Pipes.{no_pipe_lem}
use Rattle.geometry.specs.Elements.{entry_of, entry_pipe, entry_is, entry_before}
use Rattle.layout.specs.Spans.{process_of}
use Rattle.survey.specs.declared.Flow.{Flow}
use Rattle.pipes.specs.Elements.{Near, good, inside, entry_lt}
use Rattle.pipe_parts.specs.Starts.{entering, entering_pipe, entering_length, entered_at}

abbrev pub head_words : ℕ
head_words = 2 * gauge_limits.processes

-- those of one process written
abbrev pub headed : List ℕ → ℕ → ℕ → ℕ → List ℕ
headed l p count total = set (set l p count) (1024 + p) total

-- those of the first k processes
pub record Heads (n : Nest) (s : Stream) (k : ℕ) (l : List ℕ) : Type 0 where
  pub words : length l ≡ head_words
  pub counts : (e : ℕ) → e < k → get_or l e 0 ≡ entered_at n s e
  pub totals : (e : ℕ) → e < k → get_or l (1024 + e) 0 ≡ entering_length n s e

pub heads_zero : (n : Nest) (s : Stream) {l : List ℕ} → length l ≡ head_words → Heads n s 0 l
heads_zero n s w = record { words = w; counts = λ e h. absurd (omega arith); totals = λ e h. absurd (omega arith) }

-- a turn of the loop
module _ {n : Nest} {s : Stream} {p : ℕ} {l : List ℕ} (h : Heads n s p l) (b : p < 1024) {count total : ℕ} (ec : count ≡ entered_at n s p)
    (et : total ≡ entering_length n s p) {out : List ℕ} (o : out ≡ headed l p count total) where
  abbrev once : List ℕ
  once = set l p count

  once_length : length once ≡ head_words
  once_length = length-set l p count ∙ h.words

  low : (e : ℕ) → e < 1024 → get_or (headed l p count total) e 0 ≡ get_or once e 0
  low e k = get_or-set_other once (1024 + p) e total 0 (λ (q : e ≡ 1024 + p). omega arith)

  counts_next : (e : ℕ) → e < suc p → get_or (headed l p count total) e 0 ≡ entered_at n s e
  counts_next e k = low e (omega arith) ∙ go (eq-or-lt_of_le (le_of_suc-le-suc k))
    where
      go : (e ≡ p) ⊎ (e < p) → get_or once e 0 ≡ entered_at n s e
      go (inl q) = rw q (get_or-set_same l p count 0 (omega (arith, h.words)) ∙ ec)
      go (inr m) = get_or-set_other l p e count 0 (λ (q : e ≡ p). omega arith) ∙ h.counts e m

  totals_next : (e : ℕ) → e < suc p → get_or (headed l p count total) (1024 + e) 0 ≡ entering_length n s e
  totals_next e k = go (eq-or-lt_of_le (le_of_suc-le-suc k))
    where
      go : (e ≡ p) ⊎ (e < p) → get_or (headed l p count total) (1024 + e) 0 ≡ entering_length n s e
      go (inl q) =
          ap (λ (i : ℕ). get_or (headed l p count total) (1024 + i) 0) q
          ∙ get_or-set_same once (1024 + p) total 0 (omega (arith, once_length)) ∙ et ∙ ap (entering_length n s) (sym q)
      go (inr m) =
          get_or-set_other once (1024 + p) (1024 + e) total 0 (λ (q : 1024 + e ≡ 1024 + p). omega arith)
          ∙ get_or-set_other l p (1024 + e) count 0 (λ (q : 1024 + e ≡ p). omega arith) ∙ h.totals e m

  pub heads_next : Heads n s (p + 1) out
  heads_next =
      subst (λ (k : ℕ). Heads n s k out) (sym (add-one p))
      (subst (Heads n s (suc p)) (sym o)
      (record { words = length-set once (1024 + p) total ∙ once_length; counts = counts_next; totals = totals_next }))

-- ---- the pipe through a process

module _ {n : Nest} {s : Stream} (a : Accepted n s) {y : V2} (hy : Inside (space n) y) where
  abbrev e : V2
  e = entry_of n s y

  at_entry : Inside (space n) e
  at_entry = (entry_is a hy).inside

  entry_true : is_entry n s e ≡ true
  entry_true = entry_before a at_entry ∙ eq-eqb (before n s e) 0 (entry_is a hy).zero

  entry_line : is_pipe n s e ≡ is_pipe n s y
  entry_line = ap (any (computing n)) (same_pipe a hy at_entry (entry_pipe a y))

  none : is_pipe n s y ≡ false → length (pipe_elements n s y) ≡ 0
  none q = ap length (no_pipe_lem a hy (subst (λ (b : Bool). T (not b)) (sym q) tt))

  some : is_pipe n s y ≡ true → 0 < length (pipe_elements n s y)
  some q =
      let r = any_yes (computing n) (pipe n s y) (subst T (sym q) tt) in
      let i = in_pipe a hy r.mem in
      omega (
        arith,
        ahead_lt (image s.map (first n r.it)) (touched_in a (computes a.layout r.it r.ok)),
        ap length (same_elements a hy i.0 i.1),
      )

  -- a line of processes is a pipe exactly if it has elements
  pub pipe_some : is_pipe n s y ≡ not (eqb (length (pipe_elements n s y)) 0)
  pipe_some = go (is_pipe n s y) refl
    where
      go : (b : Bool) → is_pipe n s y ≡ b → b ≡ not (eqb (length (pipe_elements n s y)) 0)
      go true q = sym (ap not (ne_eqb (length (pipe_elements n s y)) 0 (λ z. omega (arith, some q))))
      go false q = sym (ap not (eq-eqb (length (pipe_elements n s y)) 0 (none q)))

  -- and one enters at a process exactly if it has elements there
  pub entering_some : entering n s y ≡ not (eqb (cond (entering n s y) (length (pipe_elements n s y)) 0) 0)
  entering_some = go (entering n s y) refl
    where
      go : (b : Bool) → entering n s y ≡ b → b ≡ not (eqb (cond b (length (pipe_elements n s y)) 0) 0)
      go true q = sym (ap not (ne_eqb (length (pipe_elements n s y)) 0 (λ z. omega (arith, some (entering_pipe n s y q)))))
      go false q = refl

  entry_elements : cond (entering n s e) (length (pipe_elements n s e)) 0 ≡ length (pipe_elements n s y)
  entry_elements =
      ap (λ (b : Bool). cond (b && is_pipe n s e) (length (pipe_elements n s e)) 0) entry_true
      ∙ ap (λ (b : Bool). cond b (length (pipe_elements n s e)) 0) entry_line
      ∙ ap (λ (l : List V2). cond (is_pipe n s y) (length l) 0) (same_elements a hy at_entry (entry_pipe a y))
      ∙ go (is_pipe n s y) refl
    where
      go : (b : Bool) → is_pipe n s y ≡ b → cond b (length (pipe_elements n s y)) 0 ≡ length (pipe_elements n s y)
      go true q = refl
      go false q = sym (none q)

-- the heads at its entry say how many elements it has
pub pipe_elements_lem : {f : Flow} {spans lanes heads : List ℕ} {p i : ℕ} → Near f spans lanes p
    → Heads f.nest f.stream (length (processes f.nest)) heads → i ≡ get_or lanes p 0
    → get_or heads (1024 + i) 0 ≡ length (pipe_elements f.nest f.stream (process_of f.nest p))
pipe_elements_lem {f} {p} {i} h k q =
    let n = f.nest in
    let s = f.stream in
    k.totals i (omega (arith, q, entry_lt h)) ∙ ap (entering_length n s) (q ∙ h.seen.of_lanes.entries p h.lt)
    ∙ ap (λ (v : V2). cond (entering n s v) (length (pipe_elements n s v)) 0)
    (row_at_lem (space n) (entry_of n s (process_of n p)) zero2 (entry_is (good h) (inside h)).inside)
    ∙ entry_elements (good h) (inside h)
