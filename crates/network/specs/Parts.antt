-- The waiting and the received list by pipes: where a pipe's part stands, what a receive changes there, and that the list of a start has
-- the elements' values. Assumes nothing.
use Rattle.std.specs.Prelude.{◌≡◌, refl, get_or, set, take, drop, replicate}
use Rattle.std.proofs.Common.{sym, ◌∙◌, ap, ap₂, length-append, length-drop, take-append-drop, length-take-le, get_or-take, get_or-drop}
use Rattle.std.proofs.Common.{drop-drop, ext_get_or, get_or-append-add, get_or-set_same, get_or-set_other, lt-ltb, le-ltb}
use mathlib.Core.List.{List, [], ◌∷◌, ◌++◌, map, map-append}
use Prim.Native.Nat.{ℕ, zero, suc, ◌+◌, ◌-◌, ◌≤◌, ◌<◌}
use native.Mathlib.Omega.{arith}
use Rattle.std.proofs.Math.ListN.{length, get_or-append}
use Rattle.std.proofs.lemmas.List.{length-map, length-replicate, get_or-replicate}
use Rattle.meaning.specs.Lists.{each, total}
use Rattle.meaning.specs.Array.{Array, Pipe, pipe_number, no_pipe, pipe_at, elements_on, pipe_order, part_start, part_of, list_length}
use Rattle.meaning.specs.Body.{gather}
use Rattle.lists.specs.Sums.{part_ends}
use Rattle.lists.specs.Members.{each_length}
use Rattle.abstract_network.specs.Cases.{Order, less, at_least, order}
use Rattle.network.specs.Layout.{block_apart}
use Rattle.network.specs.Wiring.{element_at, element_pipe}
use Rattle.network.specs.Slots.{out_of}

module _ {X : Type 0} (f : X → List ℕ) (d : X) where
  -- the j-th of the q-th list stands where the lists before it end
  each_at : (l : List X) (q j : ℕ) → q < length l → j < length (f (get_or l q d))
      → get_or (each f l) (total (λ x. length (f x)) (take q l) + j) 0 ≡ get_or (f (get_or l q d)) j 0
  unfolding each total
  each_at [] q j h k = absurd (omega arith)
  each_at (x ∷ l) zero j h k = let e : 0 + j ≡ j = omega arith in rw e (get_or-append (f x) (each f l) 0 j k)
  each_at (x ∷ l) (suc q) j h k =
      let e : length (f x) + total (λ x. length (f x)) (take q l) + j
      ≡ length (f x) + (total (λ x. length (f x)) (take q l) + j) = omega arith in
      rw e (get_or-append-add (f x) (each f l) (total (λ x. length (f x)) (take q l) + j) 0 ∙ each_at l q j (omega arith) k)

map_each : {X : Type 0} (f : ℕ → ℕ) (g : X → List ℕ) (l : List X) → map f (each g l) ≡ each (λ x. map f (g x)) l
unfolding each
map_each f g [] = refl
map_each f g (x ∷ l) = map-append f (g x) (each g l) ∙ ap (λ (r : List ℕ). map f (g x) ++ r) (map_each f g l)

-- a list cut into parts of given sizes, each of them known
each_is : {X : Type 0} (f : X → List ℕ) (size : X → ℕ) (d : X) (l : List X) (out : List ℕ) → length out ≡ total size l
    → ((q : ℕ) → q < length l → take (size (get_or l q d)) (drop (total size (take q l)) out) ≡ f (get_or l q d)) → out ≡ each f l
unfolding each total
each_is f size d [] [] e h = refl
each_is f size d [] (x ∷ out) e h = absurd (omega arith)
each_is f size d (x ∷ l) out e h =
    sym (take-append-drop (size x) out)
    ∙ ap₂ ◌++◌ (h 0 (omega arith))
    (each_is f size d l (drop (size x) out) (omega (arith, length-drop (size x) out)) (λ q m.
    ap (take (size (get_or l q d))) (drop-drop (total size (take q l)) (size x) out) ∙ h (suc q) (omega arith)))

pub get_d_map : (f : ℕ → ℕ) (l : List ℕ) (j : ℕ) → j < length l → get_or (map f l) j 0 ≡ f (get_or l j 0)
get_d_map f [] j h = absurd (omega arith)
get_d_map f (x ∷ l) zero h = refl
get_d_map f (x ∷ l) (suc j) h = get_d_map f l j (omega arith)

module _ (A : Array) where
  -- a pipe's part is within the list, and two places in parts are one only if pipe and number are
  part_end : (q : ℕ) → q < pipe_number A → part_start A q + elements_on A q ≤ list_length A
  part_end q h =
      omega
      (arith, part_ends (λ (r : Pipe). length r.elements) no_pipe A.pipes q h, each_length (λ (r : Pipe). r.elements) A.pipes)

  pub part_below : (q i : ℕ) → i < elements_on A q → part_start A q + i < list_length A
  part_below q i h = omega (arith, part_end q (element_pipe A q i h))

  pub part_apart : (q i q' i' : ℕ) → i < elements_on A q → i' < elements_on A q' → part_start A q + i ≡ part_start A q' + i'
      → (q ≡ q') × (i ≡ i')
  part_apart q i q' i' h h' e =
      block_apart (λ (r : Pipe). length r.elements) no_pipe A.pipes q i q' i' (element_pipe A q i h) (element_pipe A q' i' h') h h' e

  -- the waiting list of a start
  pub waiting_is : (values : List ℕ) (q j : ℕ) → j < elements_on A q
      → get_or (gather values (pipe_order A)) (part_start A q + j) 0 ≡ get_or values (element_at A q j) 0
  waiting_is values q j h =
      get_d_map (λ e. get_or values e 0) (pipe_order A) (part_start A q + j) (part_below q j h)
      ∙ ap (λ (e : ℕ). get_or values e 0) (each_at (λ (r : Pipe). r.elements) no_pipe A.pipes q j (element_pipe A q j h) h)

  -- the received list after v came to place x of pipe q
  module _ (out : List ℕ) (long : list_length A ≤ length out) (q x v : ℕ) (l : x < elements_on A q) where
    pub out_new : out_of A (set out (part_start A q + x) v) q x ≡ v
    out_new = rw (lt-ltb x (elements_on A q) l) (get_or-set_same out (part_start A q + x) v 0 (omega (arith, part_below q x l)))

    pub out_old : (q' i : ℕ) → (q ≡ q' → x ≡ i → ⊥) → out_of A (set out (part_start A q + x) v) q' i ≡ out_of A out q' i
    out_old q' i n = go (order i (elements_on A q'))
      where
        go : Order i (elements_on A q') → out_of A (set out (part_start A q + x) v) q' i ≡ out_of A out q' i
        go (less h) =
            rw (lt-ltb i (elements_on A q') h)
            (get_or-set_other out (part_start A q + x) (part_start A q' + i) v 0
            (λ e. let z = part_apart q x q' i l h (sym e) in n z.0 z.1))
        go (at_least h) = rw (le-ltb i (elements_on A q') h)

  pub out_is : (out : List ℕ) (q i : ℕ) → i < elements_on A q → out_of A out q i ≡ get_or out (part_start A q + i) 0
  out_is out q i h = rw (lt-ltb i (elements_on A q) h)

  -- ---- a pipe's part of the received list

  -- where k elements are received, f is the value of each, and the rest is 0
  pub part_is : (out : List ℕ) → list_length A ≤ length out → (f : ℕ → ℕ) (q k : ℕ) → q < pipe_number A → k ≤ elements_on A q
      → ((i : ℕ) → i < k → get_or out (part_start A q + i) 0 ≡ f (element_at A q i))
      → ((i : ℕ) → k ≤ i → i < elements_on A q → get_or out (part_start A q + i) 0 ≡ 0)
      → part_of A q out ≡ map f (take k (pipe_at A q).elements) ++ replicate (elements_on A q - k) 0
  part_is out long f q k h l g z =
      ext_get_or 0 (part_of A q out) (first ++ rest) (whole ∙ omega (arith, length-append first rest, first_length, rest_length))
      (λ i m. let m : i < n = omega (arith, whole) in
      get_or-take n (drop (part_start A q) out) i 0 m ∙ get_or-drop (part_start A q) out i 0 ∙ go i m (order i k))
    where
      n : ℕ
      n = elements_on A q

      first : List ℕ
      first = map f (take k (pipe_at A q).elements)

      rest : List ℕ
      rest = replicate (n - k) 0

      whole : length (part_of A q out) ≡ n
      whole = length-take-le n (drop (part_start A q) out) (omega (arith, part_end q h, length-drop (part_start A q) out))

      first_length : length first ≡ k
      first_length = length-map (take k (pipe_at A q).elements) f ∙ length-take-le k (pipe_at A q).elements l

      rest_length : length rest ≡ n - k
      rest_length = length-replicate (n - k) 0

      go : (i : ℕ) → i < n → Order i k → get_or out (part_start A q + i) 0 ≡ get_or (first ++ rest) i 0
      go i m (less o) =
          g i o
          ∙ ap f (sym (get_or-take k (pipe_at A q).elements i 0 o))
          ∙ sym (get_d_map f (take k (pipe_at A q).elements) i (omega (arith, length-take-le k (pipe_at A q).elements l)))
          ∙ sym (get_or-append first rest 0 i (omega (arith, first_length)))
      go i m (at_least o) =
          let e : length first + (i - k) ≡ i = omega (arith, first_length) in
          z i o m
          ∙ sym (get_or-replicate (n - k) (i - k) 0 0 (omega arith))
          ∙ sym (get_or-append-add first rest (i - k) 0)
          ∙ ap (λ (i : ℕ). get_or (first ++ rest) i 0) e

  -- a list whose parts are the values of the pipes' elements has those of all in pipe order
  pub parts_are : (out : List ℕ) → length out ≡ list_length A → (f : ℕ → ℕ)
      → ((q : ℕ) → q < pipe_number A → part_of A q out ≡ map f (pipe_at A q).elements) → out ≡ map f (pipe_order A)
  parts_are out e f h =
      each_is (λ (r : Pipe). map f r.elements) (λ r. length r.elements) no_pipe A.pipes out
      (e ∙ each_length (λ (r : Pipe). r.elements) A.pipes) h
      ∙ sym (map_each f (λ (r : Pipe). r.elements) A.pipes)
