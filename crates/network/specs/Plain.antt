-- The plain run on the flat store is the abstract plain run, element by element. Assumes nothing.
use Rattle.std.specs.Prelude.{◌≡◌, true, eqb, length, set, take}
use Rattle.std.proofs.Math.Path.{refl, sym, ap, ap₂}
use Rattle.std.proofs.Common.{◌∙◌, subst, le_refl, take-suc, ext_get_or}
use mathlib.Core.List.{List, [], ◌∷◌, ◌++◌, map}
use Prim.Native.Nat.{ℕ, zero, suc, ◌+◌, ◌≤◌, ◌<◌}
use native.Mathlib.Omega.{arith}
use Rattle.std.proofs.Math.ListN.{get_or, length-set}
use Rattle.std.proofs.lemmas.List.{length-map}
use Rattle.std.proofs.Math.Seq.{get_or-set_same, get_or-set_other, take-length}
use Rattle.integers.specs.Vectors.{zero3}
use Rattle.integers.specs.declared.V3.{V3}
use Rattle.meaning.specs.declared.Nest.{Nest}
use Rattle.meaning.specs.declared.Stream.{Stream}
use Rattle.meaning.specs.declared.Description.{Description}
use Rattle.meaning.specs.Lists.{any, total, numbers, numbers_from}
use Rattle.meaning.specs.Loops.{instances}
use Rattle.meaning.specs.Streams.{elements, hop}
use Rattle.meaning.specs.Description.{streams_of}
use Rattle.meaning.specs.Body.{body, stream_start, element_count, touched_from, touched_by, gather, scatter, execute, execute_all}
use Rattle.meaning.specs.Body.{store_after}
use Rattle.meaning.specs.Body.{final_values}
use Rattle.meaning.specs.Array.{Array, array_of, instance_at, stream_count, elements_on, pipe_order, list_length}
use Rattle.meaning.specs.Rules.{stream_on, body_at}
use Rattle.lists.specs.Rows.{length_numbers, get_d_first, same_numbers}
use Rattle.abstract_network.specs.Cases.{Order, less, at_least, order, Equal, same, other, equal}
use Rattle.abstract_network.specs.Values.{Program, exec, plain, exec_hit, exec_miss}
use Rattle.network.specs.Wiring.{element_at, Wired, element_pipe}
use Rattle.network.specs.Programs.{length_body, program_of}

-- ---- the store keeps its length

scatter_length : (S es vs : List ℕ) → length (scatter S es vs) ≡ length S
unfolding scatter
scatter_length S [] vs = refl
scatter_length S (e ∷ es) [] = refl
scatter_length S (e ∷ es) (v ∷ vs) = scatter_length (set S e v) es vs ∙ length-set S e v

pub execute_length : (d : Description) (xs : List V3) (S : List ℕ) → length (execute_all d xs S) ≡ length S
unfolding execute_all execute
execute_length d [] S = refl
execute_length d (x ∷ xs) S =
    execute_length d xs (execute d x S) ∙ scatter_length S (touched_by d x) (body d x (gather S (touched_by d x)))

-- ---- values put at the places t i, t (i + 1), ..

module _ (t : ℕ → ℕ) where
  scatter_other : (n i : ℕ) (S vs : List ℕ) (e : ℕ) → ((j : ℕ) → i ≤ j → j < i + n → t j ≡ e → ⊥)
      → get_or (scatter S (map t (numbers_from i n)) vs) e 0 ≡ get_or S e 0
  unfolding scatter numbers_from
  scatter_other zero i S vs e f = refl
  scatter_other (suc n) i S [] e f = refl
  scatter_other (suc n) i S (v ∷ vs) e f =
      scatter_other n (suc i) (set S (t i) v) vs e (λ j a b. f j (omega arith) (omega arith))
      ∙ get_or-set_other S (t i) e v 0 (λ d. f i (le_refl i) (omega arith) (sym d))

  scatter_there : (n i : ℕ) (S vs : List ℕ) → ((j j' : ℕ) → i ≤ j → j < j' → j' < i + n → t j' ≡ t j → ⊥) → n ≤ length vs
      → (j : ℕ) → i ≤ j → j < i + n → t j < length S → (k : ℕ) → i + k ≡ j
      → get_or (scatter S (map t (numbers_from i n)) vs) (t j) 0 ≡ get_or vs k 0
  unfolding scatter numbers_from
  scatter_there zero i S vs d l j a b h k e = absurd (omega arith)
  scatter_there (suc n) i S [] d l j a b h k e = absurd (omega arith)
  scatter_there (suc n) i S (v ∷ vs) d l j a b h zero e =
      let z : j ≡ i = omega arith in
      scatter_other n (suc i) (set S (t i) v) vs (t j) (λ m u w. d j m a (omega arith) (omega arith))
      ∙ ap (λ (x : ℕ). get_or (set S (t i) v) (t x) 0) z
      ∙ get_or-set_same S (t i) v 0 (omega (arith, ap t z))
  scatter_there (suc n) i S (v ∷ vs) d l j a b h (suc k) e =
      scatter_there n (suc i) (set S (t i) v) vs (λ u w x y z. d u w (omega arith) y (omega arith)) (omega arith) j
      (omega arith) (omega arith) (omega (arith, length-set S (t i) v)) k (omega arith)

-- ---- lists of instances

execute_append : (d : Description) (xs ys : List V3) (S : List ℕ) → execute_all d (xs ++ ys) S ≡ execute_all d ys (execute_all d xs S)
unfolding execute_all
execute_append d [] ys S = refl
execute_append d (x ∷ xs) ys S = execute_append d xs ys (execute d x S)

-- the store after one more instance
pub store_next : (d : Description) (j : ℕ) (S : List ℕ) → j < length (instances d.nest)
    → store_after d (suc j) S ≡ execute d (get_or (instances d.nest) j zero3) (store_after d j S)
unfolding execute_all
store_next d j S h =
    ap (λ (xs : List V3). execute_all d xs S) (take-suc (instances d.nest) j zero3 h)
    ∙ execute_append d (take j (instances d.nest)) (get_or (instances d.nest) j zero3 ∷ []) S

length_touched : (n : Nest) (k : ℕ) (ss : List Stream) (x : V3) → length (touched_from n k ss x) ≡ length ss
unfolding touched_from
length_touched n k [] x = refl
length_touched n k (s ∷ ss) x = ap suc (length_touched n (k + length (elements n s)) ss x)

total_rises : {X : Type 0} (f : X → ℕ) (l : List X) (i j : ℕ) → i ≤ j → total f (take i l) ≤ total f (take j l)
unfolding total
total_rises f [] zero zero h = omega arith
total_rises f [] zero (suc j) h = omega arith
total_rises f [] (suc i) zero h = omega arith
total_rises f [] (suc i) (suc j) h = omega arith
total_rises f (x ∷ l) zero j h = omega arith
total_rises f (x ∷ l) (suc i) zero h = absurd (omega arith)
total_rises f (x ∷ l) (suc i) (suc j) h = omega (arith, total_rises f l i j (omega arith))

total_most : {X : Type 0} (f : X → ℕ) (l : List X) (i : ℕ) → total f (take i l) ≤ total f l
unfolding total
total_most f [] zero = omega arith
total_most f [] (suc i) = omega arith
total_most f (x ∷ l) zero = omega arith
total_most f (x ∷ l) (suc i) = omega (arith, total_most f l i)

-- ---- the plain run

-- e is the number of an element of stream s
pub record Among (d : Description) (s e : ℕ) : Type 0 where
  pub from : stream_start d.nest (streams_of d) s ≤ e
  pub below : e < stream_start d.nest (streams_of d) (suc s)

-- an element's number is in one stream's range, and below the number of elements
among_apart : (d : Description) (s s' e : ℕ) → s < s' → Among d s e → Among d s' e → ⊥
among_apart d s s' e h a b =
    omega (arith, a.below, b.from, total_rises (λ s. length (elements d.nest s)) (streams_of d) (suc s) s' h)

among_lt : (d : Description) (s e : ℕ) → Among d s e → e < element_count d.nest (streams_of d)
among_lt d s e a = omega (arith, a.below, total_most (λ s. length (elements d.nest s)) (streams_of d) (suc s))

pub streams_are : (d : Description) → stream_count (array_of d) ≡ length (streams_of d)
unfolding array_of
streams_are d = length-map (streams_of d) (hop d.nest)

-- what geometry has to show of a description beside its wiring: the instances by number are those of the written order, and elements have
-- the numbers that the plain run gives them
pub record Described (d : Description) (W : Wired (array_of d)) : Type 0 where
  -- the instances are those of the loops, and the i-th of the written order is the one that its process fires
  pub instances_are : W.instances ≡ length (instances d.nest)
  pub instance_is : (i : ℕ) → i < W.instances → instance_at (array_of d) (W.owner i) (W.firing i) ≡ get_or (instances d.nest) i zero3
  -- it touches the elements that the index maps say, each within its stream's box
  pub touched_is : (i s : ℕ) → i < W.instances → s < length (streams_of d)
      → W.touched i s ≡ get_or (touched_by d (get_or (instances d.nest) i zero3)) s 0
  pub touched_among : (i s : ℕ) → i < W.instances → s < length (streams_of d) → Among d s (W.touched i s)
  -- the pipes' elements are within their streams' boxes, and add up to all elements
  pub element_among : (q j : ℕ) → j < elements_on (array_of d) q → Among d (stream_on (array_of d) q) (element_at (array_of d) q j)
  pub elements_add : list_length (array_of d) ≡ element_count d.nest (streams_of d)
  -- and each waits somewhere
  pub element_waits : (e : ℕ) → e < element_count d.nest (streams_of d) → any (eqb e) (pipe_order (array_of d)) ≡ true

module _ (d : Description) (W : Wired (array_of d)) (D : Described d W) (values : List ℕ)
    (enough : element_count d.nest (streams_of d) ≤ length values) where
  abbrev A : Array
  A = array_of d

  abbrev m : ℕ
  m = stream_count (array_of d)

  abbrev P : Program
  P = program_of W values

  abbrev xs : List V3
  xs = instances d.nest

  touched_list : (i : ℕ) → i < W.instances → touched_by d (get_or xs i zero3) ≡ map (W.touched i) (numbers m)
  touched_list i h =
      let a = length_touched d.nest 0 (streams_of d) (get_or xs i zero3) in
      let b = length_numbers (W.touched i) 0 m in
      let e = streams_are d in
      ext_get_or 0 (touched_by d (get_or xs i zero3)) (map (W.touched i) (numbers m)) (omega arith)
      (λ s l. sym (D.touched_is i s h (omega arith)) ∙ sym (get_d_first (W.touched i) 0 m s (omega arith)))

  gathered : (f : ℕ → ℕ) (S : List ℕ) (i n : ℕ) → gather S (map f (numbers_from i n)) ≡ map (λ s. get_or S (f s) 0) (numbers_from i n)
  unfolding numbers_from
  gathered f S i zero = refl
  gathered f S i (suc n) = ap (λ (l : List ℕ). get_or S (f i) 0 ∷ l) (gathered f S (suc i) n)

  bodies_are : (x : V3) (vs : List ℕ) → body d x vs ≡ body_at A x vs
  unfolding array_of
  bodies_are x vs = refl

  -- one instance on a store, by streams
  made : ℕ → List ℕ → List ℕ
  made i S = body_at A (instance_at A (W.owner i) (W.firing i)) (map (λ s. get_or S (W.touched i s) 0) (numbers m))

  -- one instance puts what its body makes at the elements that it touches
  execute_is : (i : ℕ) (S : List ℕ) → i < W.instances
      → execute d (get_or xs i zero3) S ≡ scatter S (map (W.touched i) (numbers m)) (made i S)
  unfolding execute made
  execute_is i S h =
      ap₂ (λ (es vs : List ℕ). scatter S es vs) (touched_list i h)
      (bodies_are (get_or xs i zero3) (gather S (touched_by d (get_or xs i zero3)))
      ∙ ap₂ (λ (x : V3) (vs : List ℕ). body_at A x vs) (sym (D.instance_is i h))
      (ap (gather S) (touched_list i h) ∙ gathered (W.touched i) S 0 m))

  apart : (i s s' : ℕ) → i < W.instances → s < s' → s' < m → W.touched i s' ≡ W.touched i s → ⊥
  apart i s s' h l l' e =
      among_apart d s s' (W.touched i s) l (D.touched_among i s h (omega (arith, streams_are d)))
      (subst (Among d s') e (D.touched_among i s' h (omega (arith, streams_are d))))

  -- the store after j instances has the abstract plain run's values
  pub plain_is : (j : ℕ) → j ≤ W.instances → (s e : ℕ) → s < m → Among d s e → plain P j s e ≡ get_or (store_after d j values) e 0
  unfolding plain execute_all made
  plain_is zero h s e l a = refl
  plain_is (suc j) h s e l a =
      go (equal (W.touched j s) e) (plain_is j (omega arith))
      ∙ sym (ap (λ (T : List ℕ). get_or T e 0) (store_next d j values (omega (arith, D.instances_are))
      ∙ execute_is j (store_after d j values) (omega arith)))
    where
      S : List ℕ
      S = store_after d j values

      away : (k : ℕ) → k < m → W.touched j k ≡ e → (W.touched j s ≡ e → ⊥) → ⊥
      away k v i n = pick (order s k) (order k s)
        where
          here : Among d k e
          here = subst (Among d k) i (D.touched_among j k (omega arith) (omega (arith, streams_are d)))

          pick : Order s k → Order k s → ⊥
          pick (less o) o' = among_apart d s k e o a here
          pick (at_least o) (less o') = among_apart d k s e o' here a
          pick (at_least o) (at_least o') = let z : s ≡ k = omega arith in n (ap (W.touched j) z ∙ i)

      go : Equal (W.touched j s) e → ((s e : ℕ) → s < m → Among d s e → plain P j s e ≡ get_or S e 0)
          → exec P j (plain P j) s e ≡ get_or (scatter S (map (W.touched j) (numbers m)) (made j S)) e 0
      go (other n) ih =
          exec_miss P j (plain P j) s e n
          ∙ ih s e l a
          ∙ sym (scatter_other (W.touched j) m 0 S (made j S) e (λ k u v i. away k (omega arith) i n))
      go (same n) ih =
          exec_hit P j (plain P j) s e n
          ∙ ap (λ (vs : List ℕ). get_or (body_at A (instance_at A (W.owner j) (W.firing j)) vs) s 0)
          (same_numbers _ _ 0 m (λ k u v.
          ih k (W.touched j k) (omega arith) (D.touched_among j k (omega arith) (omega (arith, streams_are d)))))
          ∙ sym
          (scatter_there (W.touched j) m 0 S (made j S) (λ u w x y z. apart j u w (omega arith) y (omega arith))
          (omega (arith, length_made)) s (omega arith) (omega arith)
          (omega (arith, n, among_lt d s e a, execute_length d (take j xs) values)) s (omega arith))
          ∙ ap (λ (x : ℕ). get_or (scatter S (map (W.touched j) (numbers m)) (made j S)) x 0) n
        where
          length_made : length (made j S) ≡ m
          length_made =
              length_body A (instance_at A (W.owner j) (W.firing j)) (map (λ s. get_or S (W.touched j s) 0) (numbers m))
              ∙ length_numbers (λ s. get_or S (W.touched j s) 0) 0 m

  -- the final value of a pipe's element
  pub final_is : (q j : ℕ) → j < elements_on A q
      → plain P W.instances (stream_on A q) (element_at A q j) ≡ get_or (final_values d values) (element_at A q j) 0
  final_is q j h =
      plain_is W.instances (le_refl W.instances) (stream_on A q) (element_at A q j)
      (W.stream_lt q (element_pipe A q j h)) (D.element_among q j h)
      ∙ ap (λ (ys : List V3). get_or (execute_all d ys values) (element_at A q j) 0)
      (ap (λ (n : ℕ). take n xs) D.instances_are ∙ take-length xs)
