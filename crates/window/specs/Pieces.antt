-- Where a pipe's part of the lists lies, the call's own refusals, and what the call answers. Assumes nothing.
use Rattle.std.specs.Prelude.{◌≡◌, Bool, not, cond, ◌||◌, ℕ, zero, suc, ◌+◌, ◌-◌, ◌≤◌, ◌<◌, eqb, ltb, length, get_or, drop}
use Rattle.std.specs.Prelude.{Some, None, Result, Ok, Err, IfOk}
use Rattle.std.proofs.Math.Path.{refl, ap}
use Rattle.std.proofs.Common.{sym, ◌∙◌, subst, arith, length-append, ne_eqb, eq-eqb, lt-ltb, le-ltb}
use Rattle.std.proofs.Math.Bool.{true, false}
use mathlib.Core.List.{List, [], ◌∷◌, map}
use Rattle.std.proofs.Math.Decide.{dec_le}
use Rattle.std.proofs.Math.ListN.{take}
use Rattle.refusals.specs.declared.Refusal.{Refusal}
use Rattle.refusals.specs.Numbers.{refusal_number}
use Rattle.meaning.specs.declared.Description.{Description}
use Rattle.meaning.specs.declared.Limits.{Limits}
use Rattle.meaning.specs.Lists.{total, each}
use Rattle.meaning.specs.Tests.{Test, ◌if◌, refusal}
use Rattle.meaning.specs.Limits.{gauge_limits}
use Rattle.meaning.specs.Description.{description_of, streams_of}
use Rattle.meaning.specs.Array.{Pipe, Array, array_of, no_pipe, pipe_number, elements_on, part_start}
use Rattle.meaning.specs.Accept.{refusal_of}
use Rattle.meaning.specs.Calls.{length_of, refused_by, window}
use Rattle.geometry.specs.Descriptions.{Laid, laid}
use Rattle.geometry.proofs.PipeOrder.{list_length_lem}
use Rattle.decode.specs.Refusals.{refuses, passes, accepts}
use Rattle.declines.specs.Tests.{window_lengths, window_fits}
use Rattle.figures.specs.Shares.{Described, described}
use Rattle.window.specs.declared.Search.{Search}
use Rattle.window.specs.declared.Piece.{Piece}
use Rattle.window.specs.Search.{searched, looking, finds, misses, all_lengths, pipe_lengths}

-- an accepted description, as the functions ask
pub record Windowed (d : Description) : Type 0 where
  pub described : Described d
  pub laid : Laid d

pub windowed : (s : List ℕ) → refusal_of gauge_limits s ≡ 0 → Windowed (description_of s)
windowed s e = record { described = described s e; laid = laid gauge_limits s e }

-- ---- where the part lies

-- one member's part ends within the whole
part_below : {X Y : Type 0} (f : X → List Y) (l : List X) (q : ℕ) (z : X) → q < length l
    → total (λ x. length (f x)) (take q l) + length (f (get_or l q z)) ≤ length (each f l)
unfolding total each
part_below f [] q z h = absurd (omega arith)
part_below f (x ∷ l) zero z h = omega (arith, length-append (f x) (each f l))
part_below f (x ∷ l) (suc q) z h = omega (arith, length-append (f x) (each f l), part_below f l q z (omega arith))

-- the part of a pipe
abbrev pub piece_of : Description → ℕ → Piece
piece_of d pipe = record { from = part_start (array_of d) pipe; length = elements_on (array_of d) pipe }

-- it lies within lists of so many words
pub record Within (r : Piece) (waiting received : ℕ) : Type 0 where
  pub in_waiting : r.from + r.length ≤ waiting
  pub in_received : r.from + r.length ≤ received

pub same_piece : {a b : Piece} → a.from ≡ b.from → a.length ≡ b.length → a ≡ b
same_piece f g = λ i. record { from = f i; length = g i }

module _ (d : Description) (pipe : ℕ) {w : Search} (e : w ≡ searched (looking pipe 0) (all_lengths d.nest (streams_of d))) where
  abbrev A : Array
  A = array_of d

  abbrev length_in : Pipe → ℕ
  length_in r = length r.elements

  by_array : w ≡ searched (looking pipe 0) (map length_in A.pipes)
  unfolding array_of
  by_array = e ∙ ap (searched (looking pipe 0)) (sym (pipe_lengths d.nest 0 0 (streams_of d)))

  -- the search that found has the part
  pub found_piece : {k : ℕ} → w.length ≡ Some k
      → (ltb pipe (pipe_number A) ≡ true) × (w.start ≡ part_start A pipe) × (k ≡ elements_on A pipe)
  found_piece {k} t = go (dec_le (pipe_number A) pipe)
    where
      go : Dec (pipe_number A ≤ pipe) → (ltb pipe (pipe_number A) ≡ true) × (w.start ≡ part_start A pipe) × (k ≡ elements_on A pipe)
      go (yes l) =
          let e : Some k ≡ None = sym t ∙ ap (λ (w : Search). w.length) by_array ∙ misses length_in A.pipes pipe 0 l in
          let b : ⊥ = cc in absurd b
      go (no l) =
          let m : pipe < pipe_number A = omega arith in
          let f = by_array ∙ finds length_in A.pipes pipe 0 no_pipe m in
          let e : Some k ≡ Some (length_in (get_or A.pipes pipe no_pipe)) = sym t ∙ ap (λ (w : Search). w.length) f in
          let s : k ≡ length_in (get_or A.pipes pipe no_pipe) = cc in
          (lt-ltb pipe (pipe_number A) m, ap (λ (w : Search). w.start) f ∙ omega arith, s)

  pub lost_piece : w.length ≡ None → ltb pipe (pipe_number A) ≡ false
  lost_piece t = go (dec_le (pipe_number A) pipe)
    where
      go : Dec (pipe_number A ≤ pipe) → ltb pipe (pipe_number A) ≡ false
      go (yes l) = le-ltb pipe (pipe_number A) l
      go (no l) =
          let f = by_array ∙ finds length_in A.pipes pipe 0 no_pipe (omega arith) in
          let e : Some (length_in (get_or A.pipes pipe no_pipe)) ≡ None = sym (ap (λ (w : Search). w.length) f) ∙ t in
          let b : ⊥ = cc in absurd b

-- ---- the call's own tests, of lists of so many words

abbrev pub own_tests : Description → ℕ → ℕ → ℕ → ℕ → List Test
own_tests d pipe side waiting received =
    (20 if not (eqb waiting (length_of d))) ∷ (26 if not (eqb received (length_of d)))
    ∷ (19 if (not (ltb pipe (pipe_number (array_of d))) || not (ltb side 2))) ∷ []

module _ (d : Description) (pipe side waiting received : ℕ) where
  abbrev pipes : ℕ
  pipes = pipe_number (array_of d)

  -- what is refused before the pipe is looked for
  pub by_lists : {k n : ℕ} → k ≡ length_of d → n ≡ refusal (window_lengths k side waiting received) → (n ≡ 0 → ⊥)
      → n ≡ refusal (own_tests d pipe side waiting received)
  unfolding refusal
  by_lists e h f =
      let g = h ∙ ap (λ (k : ℕ). refusal (window_lengths k side waiting received)) e in
      g ∙ go (not (eqb waiting (length_of d))) (not (eqb received (length_of d))) (not (ltb side 2)) (not (ltb pipe pipes)) (λ z. f (g ∙ z))
    where
      go : (a b c e : Bool) → (refusal ((20 if a) ∷ (26 if b) ∷ (19 if c) ∷ []) ≡ 0 → ⊥)
          → refusal ((20 if a) ∷ (26 if b) ∷ (19 if c) ∷ []) ≡ refusal ((20 if a) ∷ (26 if b) ∷ (19 if (e || c)) ∷ [])
      go true b c e f = refl
      go false true c e f = refl
      go false false true true f = refl
      go false false true false f = refl
      go false false false e f = absurd (f refl)

  pub lists_fit : {k n : ℕ} → k ≡ length_of d → n ≡ refusal (window_lengths k side waiting received) → n ≡ 0
      → (waiting ≡ length_of d) × (received ≡ length_of d) × (side < 2)
  lists_fit e h z =
      window_fits (length_of d) side waiting received (sym (h ∙ ap (λ (k : ℕ). refusal (window_lengths k side waiting received)) e) ∙ z)

  module _ (ew : waiting ≡ length_of d) (er : received ≡ length_of d) where
    pub by_pipe_lem : side < 2 → cond (ltb pipe pipes) 0 19 ≡ refusal (own_tests d pipe side waiting received)
    by_pipe_lem h =
        passes 20 _ (ap not (eq-eqb waiting (length_of d) ew))
        (passes 26 _ (ap not (eq-eqb received (length_of d) er)) (go (ltb pipe pipes) (ltb side 2) (lt-ltb side 2 h)))
      where
        go : (b c : Bool) → c ≡ true → cond b 0 19 ≡ refusal ((19 if (not b || not c)) ∷ [])
        go true c e = passes 19 _ (ap not e) accepts
        go false c e = refuses 19 _ refl

    located_within : Laid d → pipe < pipes → Within (piece_of d pipe) waiting received
    located_within laid m =
        let b = part_below (λ r. r.elements) (array_of d).pipes pipe no_pipe m in
        record { in_waiting = omega (arith, b, list_length_lem laid, ew); in_received = omega (arith, b, list_length_lem laid, er) }

    -- a pipe that was found
    pub located_part : Laid d → (r : Result Piece Refusal) → refusal_number r ≡ cond (ltb pipe pipes) 0 19
        → IfOk r (λ p. p ≡ piece_of d pipe) → IfOk r (λ p. (p ≡ piece_of d pipe) × (Within p waiting received))
    located_part g (Ok p) n h = (h, subst (λ (p : Piece). Within p waiting received) (sym h) (go (dec_le pipes pipe)))
      where
        go : Dec (pipes ≤ pipe) → Within (piece_of d pipe) waiting received
        go (yes k) = let e : ◌≡◌ {A = ℕ} 0 19 = n ∙ ap (λ (b : Bool). cond b 0 19) (le-ltb pipe pipes k) in absurd (omega arith)
        go (no k) = located_within g (omega arith)
    located_part g (Err e) n h = h

-- ---- the call

module _ (l : Limits) (s : List ℕ) (pipe side waiting received : ℕ) where
  -- by the description, and by the bytes
  pub accepted_number : {n : ℕ} {d : Description} → refusal_of l s ≡ 0 → d ≡ description_of s
      → n ≡ refusal (own_tests d pipe side waiting received)
      → n ≡ refused_by l s (own_tests (description_of s) pipe side waiting received)
  accepted_number z e h = rw z (h ∙ ap (λ (d : Description). refusal (own_tests d pipe side waiting received)) e)

  pub refused_number : {n : ℕ} → n ≡ refusal_of l s → (n ≡ 0 → ⊥)
      → n ≡ refused_by l s (own_tests (description_of s) pipe side waiting received)
  refused_number {n} e f = rw (← e, ne_eqb n 0 f) refl

-- and what the caller gets
module _ (l : Limits) (s : List ℕ) (pipe side : ℕ) (waiting received : List ℕ) where
  abbrev tests : List Test
  tests = own_tests (description_of s) pipe side (length waiting) (length received)

  pub number_is : {n : ℕ} → n ≡ refused_by l s tests → n ≡ (window l s pipe side waiting received).refusal
  unfolding window
  number_is e = e

  pub part_is : {p : Piece} {w : List ℕ} → refused_by l s tests ≡ 0 → p ≡ piece_of (description_of s) pipe
      → w ≡ take (p.from + p.length - p.from) (drop p.from (cond (eqb side 0) waiting received))
      → w ≡ (window l s pipe side waiting received).part
  unfolding window
  part_is {p} z e h =
      rw z (h ∙ ap (λ (p : Piece). take (p.from + p.length - p.from) (drop p.from (cond (eqb side 0) waiting received))) e
      ∙ same (part_start (array_of (description_of s)) pipe) (elements_on (array_of (description_of s)) pipe)
      (cond (eqb side 0) waiting received))
    where
      same : (k n : ℕ) (l : List ℕ) → take (k + n - k) (drop k l) ≡ take n (drop k l)
      same k n l = let q : k + n - k ≡ n = omega arith in ap (λ (i : ℕ). take i (drop k l)) q
