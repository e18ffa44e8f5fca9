-- Firing of the code is document 01's: the same test, and the same words after it. Assumes nothing.
use Rattle.std.specs.Prelude.{◌≡◌, Bool, true, false, cond, length, get_or, set, take}
use Rattle.std.proofs.Math.Path.{refl}
use Rattle.std.proofs.Common.{sym, ◌∙◌, ap, get_or-set_other}
use mathlib.Core.List.{List, [], ◌∷◌, map, map-map}
use Prim.Native.Nat.{ℕ, zero, suc, ◌+◌, ◌≤◌, ◌<◌}
use Rattle.std.proofs.Math.Numerals.{add-one}
use native.Mathlib.Omega.{arith}
use Rattle.integers.specs.declared.V3.{V3}
use Rattle.meaning.specs.declared.Line.{Line}
use Rattle.meaning.specs.Lists.{every, numbers, numbers_from}
use Rattle.meaning.specs.Body.{scatter}
use Rattle.meaning.specs.Array.{Array, stop_at, count_at, instance_at, elements_on, stream_count, pipe_through, on_pipe, place_on}
use Rattle.meaning.specs.State.{Word, Firings, Taken, Given, index, read}
use Rattle.meaning.specs.Rules.{used_word, used_words, ready_to_use, ready_to_fire, write_all, body_at, do_fire}
use Rattle.body.specs.Execute.{execute_at, execute_words}
use Rattle.ports.specs.declared.Port.{Port}
use Rattle.ports.specs.Links.{word}
use Rattle.ports.specs.Ports.{PortIs}
use Rattle.ports.specs.Places.{pipe, place, process_is, stream_is}
use Rattle.fire.specs.Firing.{uses, can_use, no_port, used_at, used_in, can_fire, fired, used_length, used_at_lem}
use Rattle.ports.specs.LinksMeaning.{held, held_past, count_up}

-- what firing looks at in the row of process p and stream s
pub record UsesOf (A : Array) (p s : ℕ) (r : Port) : Type 0 where
  pub at : r.at ≡ index A (Taken p s)
  pub fired : r.fired ≡ index A (Firings p)
  pub count : r.count ≡ count_at A p
  pub soak : r.soak ≡ (stop_at A (pipe_through A p s) (place_on A p (pipe_through A p s))).soak
  pub total : r.total ≡ elements_on A (pipe_through A p s)
  pub keeps : r.keeps ≡ (stop_at A (pipe_through A p s) (place_on A p (pipe_through A p s))).keeps

-- the row of a port serves firing
pub port_uses : (A : Array) (p s : ℕ) → on_pipe A p s ≡ true → (r : Port) → PortIs A (pipe A p s) (place A p s) r → UsesOf A p s r
port_uses A p s on r is =
    let e = process_is A p s on in
    let f = stream_is A p s on in
    record {
      at = ap (λ (r : Port). r.at) is ∙ rw (e, f);
      fired = ap (λ (r : Port). r.fired) is ∙ rw e;
      count = ap (λ (r : Port). r.count) is ∙ rw e;
      soak = ap (λ (r : Port). r.soak) is;
      total = ap (λ (r : Port). r.total) is;
      keeps = ap (λ (r : Port). r.keeps) is;
    }

-- the rows of process p
pub record ProcessIs (A : Array) (p : ℕ) (ks : List Port) (m : ℕ) : Type 0 where
  pub streams : m ≡ stream_count A
  pub some : 0 < m
  pub most : m ≤ 6
  pub rows : length ks ≡ 6
  pub ports : (s : ℕ) → s < m → UsesOf A p s (get_or ks s no_port)

-- ---- lists over the streams

module _ {B : Type 0} (f : Port → B) (g : ℕ → B) where
  each_from : (n i : ℕ) (ks : List Port) → n ≤ length ks → ((s : ℕ) → s < n → f (get_or ks s no_port) ≡ g (i + s))
      → map f (take n ks) ≡ map g (numbers_from i n)
  unfolding numbers_from
  each_from zero i ks l h = refl
  each_from (suc n) i [] l h = absurd (omega arith)
  each_from (suc n) i (k ∷ ks) l h =
      let z : i + 0 ≡ i = omega arith in
      let a : f k ≡ g i = rw z at (h 0 (omega arith)) in
      let b : map f (take n ks) ≡ map g (numbers_from (suc i) n) =
      each_from n (suc i) ks (omega arith) (λ s d. let e : i + suc s ≡ suc i + s = omega arith in rw e at (h (suc s) (omega arith))) in
      rw (a, b)

  each_stream : (n : ℕ) (ks : List Port) → n ≤ length ks → ((s : ℕ) → s < n → f (get_or ks s no_port) ≡ g s)
      → map f (take n ks) ≡ map g (numbers n)
  each_stream n ks l h = each_from n 0 ks l (λ s d. let z : 0 + s ≡ s = omega arith in rw z (h s d))

every_map : {X : Type 0} (f : X → Bool) (l : List X) → every f l ≡ every (λ b. b) (map f l)
unfolding every
every_map f [] = refl
every_map f (x ∷ l) = ap (λ (b : Bool). cond (f x) b false) (every_map f l)

-- a word that is none of the places keeps its value
scatter_other : (st ps vs : List ℕ) (i : ℕ) → ((j : ℕ) → j < length ps → i ≡ get_or ps j 0 → ⊥) → word (scatter st ps vs) i ≡ word st i
unfolding scatter
scatter_other st [] vs i h = refl
scatter_other st (p ∷ ps) [] i h = refl
scatter_other st (p ∷ ps) (v ∷ vs) i h =
    scatter_other (set st p v) ps vs i (λ j d e. h (suc j) (omega arith) e)
    ∙ get_or-set_other st p i v 0 (λ (e : i ≡ p). h 0 (omega arith) e)

-- ---- the words of a process

module _ (A : Array) (st : List ℕ) (p : ℕ) (ks : List Port) (m : ℕ) (is : ProcessIs A p ks m) where
  use_is : (s : ℕ) → s < m → can_use st (get_or ks s no_port) ≡ ready_to_use A st p s
  unfolding uses
  use_is s h =
      let u = is.ports s h in
      rw (u.at, u.fired, u.keeps, u.total, u.soak, add-one (read A st (Given p s)))

  rows : m ≤ length ks
  rows = omega (arith, is.rows, is.most)

  all_use : every (can_use st) (take m ks) ≡ every (ready_to_use A st p) (numbers m)
  all_use =
      every_map (can_use st) (take m ks)
      ∙ ap (every (λ b. b)) (each_stream (can_use st) (ready_to_use A st p) m ks rows use_is)
      ∙ sym (every_map (ready_to_use A st p) (numbers m))

  pub fire_ready : can_fire st ks m ≡ ready_to_fire A st p
  fire_ready = let u = is.ports 0 is.some in rw (u.fired, u.count, all_use, is.streams)

  -- the word of stream s
  abbrev word_of : ℕ → Word
  word_of s = used_word A (stop_at A (pipe_through A p s) (place_on A p (pipe_through A p s))).keeps p s

  used_is : (s : ℕ) → s < m → used_in ks s ≡ index A (word_of s)
  used_is s h =
      let u = is.ports s h in
      rw (u.at, u.keeps) (held A p s (stop_at A (pipe_through A p s) (place_on A p (pipe_through A p s))).keeps)

  words_are : map used_at (take m ks) ≡ map (index A) (used_words A p)
  words_are =
      each_stream used_at (λ s. index A (word_of s)) m ks rows used_is
      ∙ sym (map-map (index A) word_of (numbers m))
      ∙ ap (λ (m : ℕ). map (index A) (map word_of (numbers m))) is.streams

  -- none of them counts the firings
  firings_apart : (j : ℕ) → j < m → index A (Firings p) < used_in ks j
  firings_apart j h =
      let k = (stop_at A (pipe_through A p j) (place_on A p (pipe_through A p j))).keeps in
      omega (arith, used_is j h, held_past A p j k)

  pub fire_does : (x : V3) (ls : List Line) → ls ≡ A.lines → x ≡ instance_at A p (read A st (Firings p))
      → fired x ls st ks m ≡ do_fire A st p
  fire_does x ls el ex =
      let u = is.ports 0 is.some in
      let at = index A (Firings p) in
      let f = read A st (Firings p) in
      let x = instance_at A p f in
      let ps = map used_at (take m ks) in
      let ws = used_words A p in
      let l = used_length ks m is.most is.rows in
      rw (u.fired, el, ex, add-one f)
      (count_up (execute_at x A.lines st ps) (write_all A st ws (body_at A x (map (read A st) ws))) at f
      (ap (execute_at x A.lines st) words_are ∙ execute_words A x st ws)
      (scatter_other st ps _ at
      (λ j h e. let h : j < m = omega arith in omega (arith, firings_apart j h, used_at_lem ks m is.most is.rows j h))))
