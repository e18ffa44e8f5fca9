-- Firing as a function of a state's words, as the code carries it out. Assumes nothing.
use Rattle.std.specs.Prelude.{◌≡◌, refl, Bool, true, false, cond, ◌&&◌, List, [], ◌∷◌, map, ℕ, zero, suc, ◌+◌, ◌-◌, ◌≤◌, ◌<◌, eqb, ltb}
use Rattle.std.specs.Prelude.{length, get_or, set, take, drop, replicate}
use Rattle.std.proofs.Common.{sym, ◌∙◌, ap, arith, length-take, drop_of_length-le, drop-cons, get_or-take, length-take-le, ext_get_or}
use Rattle.std.proofs.Common.{ltb-true}
use Rattle.std.proofs.Math.Numerals.{add-one}
use Rattle.std.proofs.lemmas.List.{length-map}
use Rattle.integers.specs.Fill.{fill_by, fill_length}
use Rattle.integers.proofs.Fill.{fill_at_lem}
use Rattle.integers.specs.declared.V3.{V3}
use Rattle.meaning.specs.declared.Line.{Line}
use Rattle.meaning.specs.Lists.{every}
use Rattle.lists.specs.Tests.{both_true}
use Rattle.body.specs.Fit.{Fit, Runnable}
use Rattle.body.specs.Execute.{execute_at}
use Rattle.ports.specs.declared.Port.{Port}
use Rattle.ports.specs.Links.{word}
use Rattle.ports.specs.Ports.{PortFits}

-- ---- use: x were taken and y given, f instances have fired

unfoldable pub uses : Port → ℕ → ℕ → ℕ → Bool
uses k x y f = cond k.keeps (ltb 0 x && ltb y k.total) (eqb x (y + 1) && eqb y (k.soak + f))

abbrev pub can_use : List ℕ → Port → Bool
can_use l k = uses k (word l k.at) (word l (k.at + 1)) (word l k.fired)

-- ---- fire

abbrev pub no_port : Port
no_port = record { at = 0; before = 0; after = 0; room = 0; fired = 0; hop = 0; soak = 0; count = 0; total = 0; keeps = false }

-- the ports of a process's m streams, in a state of n words; their indices have 32 bits
pub record ProcessFits (n : ℕ) (ks : List Port) (m : ℕ) : Type 0 where
  pub some : 0 < m
  pub most : m ≤ 6
  pub small : (s : ℕ) → s < m → (get_or ks s no_port).at + 4 ≤ 4294967296
  pub ports : (s : ℕ) → s < m → PortFits n (get_or ks s no_port)

-- the words that they use have numbers of 32 bits
pub record UsedFit (ks : List Port) (m : ℕ) : Type 0 where
  pub most : m ≤ 6
  pub small : (s : ℕ) → s < m → (get_or ks s no_port).at + 4 ≤ 4294967296

pub used_fit : (n : ℕ) (ks : List Port) (m : ℕ) → ProcessFits n ks m → UsedFit ks m
used_fit n ks m f = record { most = f.most; small = f.small }

-- the word that an instance uses
abbrev pub used_at : Port → ℕ
used_at k = k.at + cond k.keeps 3 2

abbrev pub used_in : List Port → ℕ → ℕ
used_in ks s = used_at (get_or ks s no_port)

abbrev pub can_fire : List ℕ → List Port → ℕ → Bool
can_fire l ks m = ltb (word l (get_or ks 0 no_port).fired) (get_or ks 0 no_port).count && every (can_use l) (take m ks)

abbrev pub fired : V3 → List Line → List ℕ → List Port → ℕ → List ℕ
fired x ls l ks m =
    set (execute_at x ls l (map used_at (take m ks))) (get_or ks 0 no_port).fired (word l (get_or ks 0 no_port).fired + 1)

-- ---- a loop over the ports

module _ (f : Port → Bool) (ks : List Port) (i m : ℕ) (h : i < m) (l : m ≤ length ks) where
  port_next : drop i (take m ks) ≡ get_or ks i no_port ∷ drop (suc i) (take m ks)
  port_next =
      drop-cons (take m ks) i no_port (omega (arith, length-take-le m ks l))
      ∙ ap (λ (k : Port). k ∷ drop (suc i) (take m ks)) (get_or-take m ks i no_port h)

  pub every_next : f (get_or ks i no_port) ≡ true → every f (drop i (take m ks)) ≡ every f (drop (i + 1) (take m ks))
  unfolding every
  every_next e = rw (port_next, add-one, e)

  pub every_stop : f (get_or ks i no_port) ≡ false → every f (drop i (take m ks)) ≡ false
  unfolding every
  every_stop e = rw (port_next, e)

pub every_end : (f : Port → Bool) (ks : List Port) (i m : ℕ) → m ≤ i → every f (drop i (take m ks)) ≡ true
unfolding every
every_end f ks i m h = let e : length (take m ks) ≤ i = omega (arith, length-take m ks) in rw (drop_of_length-le (take m ks) e)

-- ---- the words that an instance uses

map_at : (f : Port → ℕ) (ks : List Port) (i : ℕ) → i < length ks → get_or (map f ks) i 0 ≡ f (get_or ks i no_port)
map_at f [] i h = absurd (omega arith)
map_at f (k ∷ ks) zero h = refl
map_at f (k ∷ ks) (suc i) h = map_at f ks i (omega arith)

module _ (ks : List Port) (m : ℕ) (h : m ≤ 6) (l : length ks ≡ 6) where
  pub used_length : length (map used_at (take m ks)) ≡ m
  used_length = length-map (take m ks) used_at ∙ length-take-le m ks (omega arith)

  pub used_at_lem : (i : ℕ) → i < m → get_or (map used_at (take m ks)) i 0 ≡ used_in ks i
  used_at_lem i g =
      map_at used_at (take m ks) i (omega (arith, length-take-le m ks (omega arith)))
      ∙ ap used_at (get_or-take m ks i no_port g)

  -- the first m words that the loop stored
  pub used_list : take (m - 0) (fill_by (used_in ks) m (replicate 6 0)) ≡ map used_at (take m ks)
  used_list =
      let z : m - 0 ≡ m = omega arith in
      let n = fill_length (used_in ks) m (replicate 6 0) in
      let t = length-take-le m (fill_by (used_in ks) m (replicate 6 0)) (omega arith) in
      rw z
      (ext_get_or 0 (take m (fill_by (used_in ks) m (replicate 6 0))) (map used_at (take m ks)) (t ∙ sym used_length)
      (λ i g.
      let g : i < m = omega arith in
      get_or-take m (fill_by (used_in ks) m (replicate 6 0)) i 0 g ∙ fill_at_lem (used_in ks) m i (replicate 6 0) 0 g h
      ∙ sym (used_at_lem i g)))

used_lt : (n : ℕ) (k : Port) → PortFits n k → used_at k < n
used_lt n k f = go k.keeps
  where
    go : (b : Bool) → k.at + cond b 3 2 < n
    go true = omega (arith, f.block)
    go false = omega (arith, f.block)

-- the body can run on them
pub runnable : (n : ℕ) (ks : List Port) (m count : ℕ) (ls : List Line) → ProcessFits n ks m → length ks ≡ 6 → Fit m count ls
    → Runnable count ls n (map used_at (take m ks))
runnable n ks m count ls f l g =
    let e = used_length ks m f.most l in
    record {
      lines = rw e g;
      places = record {
        streams = omega (arith, f.most);
        within = λ i h.
            let b : i < m = omega arith in
            rw (used_at_lem ks m f.most l i b) (used_lt n (get_or ks i no_port) (f.ports i b));
      };
    }

pub fire_facts : (l : List ℕ) (ks : List Port) (m : ℕ) → can_fire l ks m ≡ true
    → word l (get_or ks 0 no_port).fired < (get_or ks 0 no_port).count
fire_facts l ks m h = ltb-true _ _ (both_true _ _ h).0
