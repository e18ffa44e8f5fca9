-- A pipe looked for by its number: the pipes one by one, by their numbers of elements. Assumes nothing.
use Rattle.std.specs.Prelude.{◌≡◌, Bool, cond, eqb, get_or, take, drop, Option, Some, None}
use Rattle.std.proofs.Math.Path.{refl, sym, ap}
use Rattle.std.proofs.Common.{◌∙◌, ap₂, add-one, drop_of_length-le, drop-cons, eq-eqb, ne_eqb}
use Rattle.std.proofs.Math.Bool.{true, false}
use mathlib.Core.List.{List, [], ◌∷◌, ◌++◌, map}
use Prim.Native.Nat.{ℕ, zero, suc, ◌+◌, ◌-◌, ◌≤◌, ◌<◌}
use native.Mathlib.Omega.{arith}
use Rattle.std.proofs.Math.ListN.{length}
use Rattle.std.proofs.lemmas.List.{length-map}
use Rattle.integers.specs.Vectors.{zero2}
use Rattle.integers.specs.declared.V2.{V2}
use Rattle.meaning.specs.declared.Nest.{Nest}
use Rattle.meaning.specs.declared.Stream.{Stream}
use Rattle.meaning.specs.Lists.{filter, total, each}
use Rattle.meaning.specs.Space.{processes, row_index, box_of}
use Rattle.meaning.specs.Streams.{elements}
use Rattle.meaning.specs.Pipes.{entries, pipe_elements}
use Rattle.meaning.specs.Description.{no_stream}
use Rattle.meaning.specs.Array.{Pipe, pipe_of, pipes_from}
use Rattle.pipe_parts.specs.Starts.{entering}
use Rattle.window.specs.declared.Search.{Search}

-- ---- by numbers alone

-- a further pipe of k elements, where one of that length is found or none
abbrev pub counted_on : Search → ℕ → Option ℕ → Search
counted_on w k (Some n) = w
counted_on w k None =
    cond (eqb w.left 0) (record { left = w.left; start = w.start; length = Some k })
    (record { left = w.left - 1; start = w.start + k; length = None })

abbrev pub counted : Search → ℕ → Search
counted w k = counted_on w k w.length

unfoldable pub searched : Search → List ℕ → Search
searched w [] = w
searched w (k ∷ l) = searched (counted w k) l

abbrev pub looking : ℕ → ℕ → Search
looking left start = record { left = left; start = start; length = None }

pub searched_append : (w : Search) (l l' : List ℕ) → searched w (l ++ l') ≡ searched (searched w l) l'
unfolding searched
searched_append w [] l' = refl
searched_append w (k ∷ l) l' = searched_append (counted w k) l l'

-- the three cases of a further pipe
pub count_found : (w : Search) (k : ℕ) {n : ℕ} → w.length ≡ Some n → w ≡ counted w k
count_found w k e = ap (counted_on w k) (sym e)

pub count_here : (w : Search) (k : ℕ) → w.length ≡ None → w.left ≡ 0
    → record { left = w.left; start = w.start; length = Some k } ≡ counted w k
count_here w k e z =
    sym (ap (λ (b : Bool). cond b (record { left = w.left; start = w.start; length = Some k })
    (record { left = w.left - 1; start = w.start + k; length = None })) (eq-eqb w.left 0 z))
    ∙ ap (counted_on w k) (sym e)

pub count_on : (w : Search) (k : ℕ) → w.length ≡ None → (w.left ≡ 0 → ⊥)
    → record { left = w.left - 1; start = w.start + k; length = None } ≡ counted w k
count_on w k e z =
    sym (ap (λ (b : Bool). cond b (record { left = w.left; start = w.start; length = Some k })
    (record { left = w.left - 1; start = w.start + k; length = None })) (ne_eqb w.left 0 z))
    ∙ ap (counted_on w k) (sym e)

-- a search that has found stays
stays_found : (a b c : ℕ) (l : List ℕ) → searched (record { left = a; start = b; length = Some c }) l
    ≡ record { left = a; start = b; length = Some c }
unfolding searched
stays_found a b c [] = refl
stays_found a b c (k ∷ l) = stays_found a b c l

-- one that has some to pass over passes over one
passes_over : (q a k : ℕ) → counted (looking (suc q) a) k ≡ looking q (a + k)
passes_over q a k =
    let p : suc q - 1 ≡ q = omega arith in
    sym (count_on (looking (suc q) a) k refl (λ z. omega arith)) ∙ ap (λ (b : ℕ). looking b (a + k)) p

module _ {X : Type 0} (g : X → ℕ) where
  -- what it finds
  pub finds : (l : List X) (q a : ℕ) (z : X) → q < length l
      → searched (looking q a) (map g l) ≡ record { left = 0; start = a + total g (take q l); length = Some (g (get_or l q z)) }
  unfolding searched total
  finds [] q a z h = absurd (omega arith)
  finds (x ∷ l) zero a z h =
      stays_found 0 a (g x) (map g l)
      ∙ ap (λ (b : ℕ). record { left = 0; start = b; length = Some (g x) }) (none a)
    where
      none : (a : ℕ) → a ≡ a + 0
      none a = omega arith
  finds (x ∷ l) (suc q) a z h =
      ap (λ (w : Search). searched w (map g l)) (passes_over q a (g x))
      ∙ finds l q (a + g x) z (omega arith)
      ∙ ap (λ (b : ℕ). record { left = 0; start = b; length = Some (g (get_or l q z)) }) (sum a (g x) (total g (take q l)))
    where
      sum : (a b c : ℕ) → a + b + c ≡ a + (b + c)
      sum a b c = omega arith

  -- and where there is none
  pub misses : (l : List X) (q a : ℕ) → length l ≤ q → (searched (looking q a) (map g l)).length ≡ None
  unfolding searched
  misses [] q a h = refl
  misses (x ∷ l) zero a h = absurd (omega arith)
  misses (x ∷ l) (suc q) a h =
      ap (λ (w : Search). (searched w (map g l)).length) (passes_over q a (g x)) ∙ misses l q (a + g x) (omega arith)

-- ---- the processes of a stream

abbrev pub length_on : Nest → Stream → V2 → ℕ
length_on n s y = length (pipe_elements n s y)

-- the pipes that enter at some processes
abbrev pub lengths_of : Nest → Stream → List V2 → List ℕ
lengths_of n s l = map (length_on n s) (filter (entering n s) l)

abbrev pub visited : Nest → Stream → V2 → Search → Search
visited n s y w = cond (entering n s y) (counted w (length_on n s y)) w

module _ (n : Nest) (s : Stream) (w : Search) where
  pub visit_yes : (y : V2) {r : Search} {k : ℕ} → entering n s y ≡ true → r ≡ counted w k → k ≡ length_on n s y → r ≡ visited n s y w
  visit_yes y e h g =
      h ∙ ap (counted w) g ∙ sym (ap (λ (b : Bool). cond b (counted w (length_on n s y)) w) e)

  pub visit_no : (y : V2) → entering n s y ≡ false → w ≡ visited n s y w
  visit_no y e = sym (ap (λ (b : Bool). cond b (counted w (length_on n s y)) w) e)

  visit_cons : (y : V2) (l : List V2) → searched (visited n s y w) (lengths_of n s l) ≡ searched w (lengths_of n s (y ∷ l))
  unfolding searched filter
  visit_cons y l = go (entering n s y)
    where
      go : (b : Bool) → searched (cond b (counted w (length_on n s y)) w) (lengths_of n s l)
          ≡ searched w (map (length_on n s) (cond b (y ∷ filter (entering n s) l) (filter (entering n s) l)))
      go true = refl
      go false = refl

  pub visit_next : (l : List V2) (p : ℕ) → p < length l
      → searched (visited n s (get_or l p zero2) w) (lengths_of n s (drop (p + 1) l)) ≡ searched w (lengths_of n s (drop p l))
  visit_next l p h =
      ap (λ (k : ℕ). searched (visited n s (get_or l p zero2) w) (lengths_of n s (drop k l))) (add-one p)
      ∙ visit_cons (get_or l p zero2) (drop (suc p) l)
      ∙ ap (λ (m : List V2). searched w (lengths_of n s m)) (sym (drop-cons l p zero2 h))

  pub visit_end : (l : List V2) (p : ℕ) → length l ≤ p → w ≡ searched w (lengths_of n s (drop p l))
  unfolding searched filter
  visit_end l p h = rw (drop_of_length-le l h)

-- ---- the streams

-- the pipes of a stream; of several
abbrev pub stream_lengths : Nest → Stream → List ℕ
stream_lengths n s = lengths_of n s (processes n)

abbrev pub all_lengths : Nest → List Stream → List ℕ
all_lengths n ss = each (stream_lengths n) ss

module _ (n : Nest) (w : Search) where
  pub stream_next : (ss : List Stream) (i : ℕ) → i < length ss
      → searched (searched w (stream_lengths n (get_or ss i no_stream))) (all_lengths n (drop (i + 1) ss))
      ≡ searched w (all_lengths n (drop i ss))
  unfolding each
  stream_next ss i h =
      ap (λ (k : ℕ). searched (searched w (stream_lengths n (get_or ss i no_stream))) (all_lengths n (drop k ss))) (add-one i)
      ∙ sym (searched_append w (stream_lengths n (get_or ss i no_stream)) (all_lengths n (drop (suc i) ss)))
      ∙ ap (λ (m : List Stream). searched w (all_lengths n m)) (sym (drop-cons ss i no_stream h))

  pub stream_end : (ss : List Stream) (i : ℕ) → length ss ≤ i → w ≡ searched w (all_lengths n (drop i ss))
  unfolding searched each
  stream_end ss i h = rw (drop_of_length-le ss h)

-- they are the array's
pub pipe_lengths : (n : Nest) (i e : ℕ) (ss : List Stream) → map (λ r. length r.elements) (pipes_from n i e ss) ≡ all_lengths n ss
unfolding pipes_from each
pipe_lengths n i e [] = refl
pipe_lengths n i e (s ∷ ss) =
    both (entries n s) (pipes_from n (suc i) (e + length (elements n s)) ss)
    ∙ ap (λ (l : List ℕ). stream_lengths n s ++ l) (pipe_lengths n (suc i) (e + length (elements n s)) ss)
  where
    both : (l : List V2) (l' : List Pipe) → map (λ r. length r.elements) (map (pipe_of n i e s) l ++ l')
        ≡ map (length_on n s) l ++ map (λ r. length r.elements) l'
    both [] l' = refl
    both (y ∷ l) l' = ap₂ ◌∷◌ (length-map (pipe_elements n s y) (λ p. e + row_index (box_of n s.map) p)) (both l l')
