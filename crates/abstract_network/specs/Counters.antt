-- The network as counters: steps, rules, the counter invariant, and that each rule keeps it. Assumes nothing.
use Rattle.std.specs.Prelude.{◌≡◌, refl, ℕ, zero, suc, ◌+◌, ◌-◌, ◌≤◌, ◌<◌, min}
use Rattle.std.proofs.Common.{sym, ap, ap₂, subst, arith}
use Rattle.abstract_network.specs.Cases.{Order, less, at_least, order, Equal, same, other, equal}

-- Stops. A process on a pipe either lets every element through its hand, using some on the way, or keeps the first.
-- A null process lets all through with soak = elems and count = 0.
pub data Kind : Type 0 where
  through : Kind
  keep : Kind

-- what the numbers of a stop satisfy
pub data Shape (n s t : ℕ) : Kind → Type 0 where
  room : s + t ≤ n → Shape n s t through
  some : 0 < n → Shape n s t keep

-- n elements of the pipe, soak s, count t; taken x, given y, fired f
module _ (n s t x y f : ℕ) where
  pub data AtStop : Kind → Type 0 where
    passing : y ≤ x → x ≤ suc y → min (y - s) t ≤ f → f ≤ x - s → AtStop through
    fresh : x ≡ 0 → y ≡ 0 → f ≡ 0 → AtStop keep
    holding : suc y ≤ x → x ≤ suc (suc y) → y < n → AtStop keep
    gone : x ≡ n → y ≡ n → f ≡ t → AtStop keep

  -- the hand is empty
  pub data Hand : Kind → Type 0 where
    empty : x ≡ y → Hand through
    first : x ≡ 0 → Hand keep
    free : x ≡ suc y → Hand keep

  -- there is something to give
  pub data Offer : Kind → Type 0 where
    soaked : y < x → y < s → Offer through
    drained : y < x → s + t ≤ y → Offer through
    used : y < x → y < s + f → Offer through
    passed : x ≡ suc (suc y) → Offer keep
    kept : x ≡ suc y → x ≡ n → f ≡ t → Offer keep

  -- the element of the next firing is there
  pub data Use : Kind → Type 0 where
    hand : x ≡ suc (s + f) → y ≡ s + f → Use through
    held : y < x → Use keep

module _ {n s t x y f : ℕ} where
  pub stop_get : {K : Kind} → x < n → AtStop n s t x y f K → Hand n s t x y f K → AtStop n s t (suc x) y f K
  stop_get l (passing a b u v) (empty e) = passing (omega arith) (omega arith) u (omega arith)
  stop_get l (fresh a b u) h = holding (omega arith) (omega arith) (omega arith)
  stop_get l (holding a b u) (first e) = absurd (omega arith)
  stop_get l (holding a b u) (free e) = holding (omega arith) (omega arith) u
  stop_get l (gone a b u) h = absurd (omega arith)

  pub stop_put : {K : Kind} → x ≤ n → AtStop n s t x y f K → Offer n s t x y f K → AtStop n s t x (suc y) f K
  stop_put l (passing a b u v) (soaked d e) = passing d (omega arith) (omega arith) v
  stop_put l (passing a b u v) (drained d e) = passing d (omega arith) (omega arith) v
  stop_put l (passing a b u v) (used d e) = passing d (omega arith) (omega arith) v
  stop_put l (fresh a b u) (passed d) = absurd (omega arith)
  stop_put l (fresh a b u) (kept d e g) = absurd (omega arith)
  stop_put l (holding a b u) (passed d) = holding (omega arith) (omega arith) (omega arith)
  stop_put l (holding a b u) (kept d e g) = gone e (omega arith) g
  stop_put l (gone a b u) (passed d) = absurd (omega arith)
  stop_put l (gone a b u) (kept d e g) = absurd (omega arith)

  pub stop_fire : {K : Kind} → f < t → AtStop n s t x y f K → Use n s t x y f K → AtStop n s t x y (suc f) K
  stop_fire l (passing a b u v) (hand d e) = passing a b (omega arith) (omega arith)
  stop_fire l (fresh a b u) (held d) = absurd (omega arith)
  stop_fire l (holding a b u) (held d) = holding a b u
  stop_fire l (gone a b u) (held d) = absurd (omega arith)

  -- given is never ahead of taken
  pub stop_order : {K : Kind} → AtStop n s t x y f K → y ≤ x
  stop_order (passing a b u v) = a
  stop_order (fresh a b u) = omega arith
  stop_order (holding a b u) = omega arith
  stop_order (gone a b u) = omega arith

  -- all given: all taken, all fired
  pub stop_done : {K : Kind} → Shape n s t K → x ≤ n → f ≤ t → y ≡ n → AtStop n s t x y f K → (x ≡ n) × (f ≡ t)
  stop_done (room p) l w e (passing a b u v) = omega arith
  stop_done (some h) l w e (fresh a b u) = absurd (omega arith)
  stop_done (some h) l w e (holding a b u) = absurd (omega arith)
  stop_done (some h) l w e (gone a b u) = (a, u)

-- Steps. Link k of pipe q lies before its place k.
pub data Step : Type 0 where
  put : ℕ → ℕ → Step  -- into link k: send where k is 0, else give at place k - 1
  get : ℕ → ℕ → Step  -- out of link k: take at place k, receive where k is the pipe's length
  fire : ℕ → Step

-- how often each step was granted
abbrev pub Counts : Type 0
Counts = Step → ℕ

pub record Net : Type 0 where
  pub stops : ℕ → ℕ  -- of pipe q, its places
  pub elements : ℕ → ℕ  -- its elements
  pub hop : ℕ → ℕ  -- the places of its links
  pub process : ℕ → ℕ → ℕ  -- the process at place k of pipe q
  pub kind : ℕ → ℕ → Kind
  pub soak : ℕ → ℕ → ℕ
  pub count : ℕ → ℕ  -- of process p, its instances

module _ (N : Net) where
  open N use {stops, elements, hop, process, kind, soak, count}

  -- a law of stops at place k of pipe q
  abbrev pub At : (ℕ → ℕ → ℕ → ℕ → ℕ → ℕ → Kind → Type 0) → Counts → ℕ → ℕ → Type 0
  At F c q k = F (elements q) (soak q k) (count (process q k)) (c (get q k)) (c (put q (suc k))) (c (fire (process q k))) (kind q k)

  -- the rules: when a step may be granted
  abbrev pub Guard : Counts → Step → Type 0
  Guard c (put q zero) = (c (put q 0) < elements q) × (c (put q 0) < c (get q 0) + hop q)
  Guard c (put q (suc k)) = (k < stops q) × (c (put q (suc k)) < c (get q (suc k)) + hop q) × At Offer c q k
  Guard c (get q k) = (k ≤ stops q) × (c (get q k) < c (put q k)) × (k < stops q → At Hand c q k)
  Guard c (fire p) = (c (fire p) < count p) × ((q k : ℕ) → k < stops q → process q k ≡ p → At Use c q k)

  -- the counter invariant
  pub record Inv (c : Counts) : Type 0 where
    pub fires : (p : ℕ) → c (fire p) ≤ count p
    pub head : (q : ℕ) → c (put q 0) ≤ elements q
    pub link : (q k : ℕ) → k ≤ stops q → (c (get q k) ≤ c (put q k)) × (c (put q k) ≤ c (get q k) + hop q)
    pub stop : (q k : ℕ) → k < stops q → At AtStop c q k

-- c' is c with one more of a
pub record OneMore (c c' : Counts) (a : Step) : Type 0 where
  pub up : c' a ≡ suc (c a)
  pub rest : (b : Step) → (a ≡ b → ⊥) → c' b ≡ c b

pub put≢get : {q k q' k' : ℕ} → put q k ≡ get q' k' → ⊥
put≢get e = let z : ◌≡◌ {A = ℕ} 0 1 = cc in omega arith

pub put≢fire : {q k p : ℕ} → put q k ≡ fire p → ⊥
put≢fire e = let z : ◌≡◌ {A = ℕ} 0 1 = cc in omega arith

pub get≢fire : {q k p : ℕ} → get q k ≡ fire p → ⊥
get≢fire e = let z : ◌≡◌ {A = ℕ} 0 1 = cc in omega arith

-- a is b, or not
pub eq_step : (a b : Step) → Dec (a ≡ b)
eq_step (put q k) (put q' k') = go (equal q q') (equal k k')
  where
    go : Equal q q' → Equal k k' → Dec (put q k ≡ put q' k')
    go (same e) (same d) = yes (ap₂ put e d)
    go (other n) d = no (λ e. n (cc))
    go (same e) (other n) = no (λ e. n (cc))
eq_step (put q k) (get q' k') = no put≢get
eq_step (put q k) (fire p) = no put≢fire
eq_step (get q k) (put q' k') = no (λ e. put≢get (sym e))
eq_step (get q k) (get q' k') = go (equal q q') (equal k k')
  where
    go : Equal q q' → Equal k k' → Dec (get q k ≡ get q' k')
    go (same e) (same d) = yes (ap₂ get e d)
    go (other n) d = no (λ e. n (cc))
    go (same e) (other n) = no (λ e. n (cc))
eq_step (get q k) (fire p) = no get≢fire
eq_step (fire p) (put q k) = no (λ e. put≢fire (sym e))
eq_step (fire p) (get q k) = no (λ e. get≢fire (sym e))
eq_step (fire p) (fire p') = go (equal p p')
  where
    go : Equal p p' → Dec (fire p ≡ fire p')
    go (same e) = yes (ap fire e)
    go (other n) = no (λ e. n (cc))

module _ {c c' : Counts} {a : Step} (B : OneMore c c' a) where
  pub data Hit (b : Step) : Type 0 where
    hit : a ≡ b → c' b ≡ suc (c b) → Hit b
    miss : (a ≡ b → ⊥) → c' b ≡ c b → Hit b

  pub hit? : (b : Step) → Hit b
  hit? b = go (eq_step a b)
    where
      go : Dec (a ≡ b) → Hit b
      go (yes e) = hit e (subst (λ b. c' b ≡ suc (c b)) e B.up)
      go (no n) = miss n (B.rest b n)

module _ (N : Net) where
  open N use {stops, elements, hop, process, kind, soak, count}

  module _ {c : Counts} (I : Inv N c) where
    -- along a pipe the counters fall
    pub below_head : (q k : ℕ) → k ≤ stops q → c (put q k) ≤ elements q
    below_head q zero h = I.head q
    below_head q (suc k) h =
        let l : k ≤ stops q = omega arith in
        omega (arith, below_head q k l, I.link q k l, stop_order (I.stop q k h))

    pub get_elements : (q k : ℕ) → k ≤ stops q → c (get q k) ≤ elements q
    get_elements q k h = omega (arith, below_head q k h, (I.link q k h).0)

    -- all out: all done
    module _ (shapes : (q k : ℕ) → k < stops q → Shape (elements q) (soak q k) (count (process q k)) (kind q k)) (q : ℕ)
        (out : c (get q (stops q)) ≡ elements q) where
      pub all_put : (j k : ℕ) → k + j ≡ stops q → c (put q k) ≡ elements q
      all_put zero k h =
          let e : stops q ≡ k = omega arith in
          let o = rw e at out in omega (arith, below_head q k (omega arith), (I.link q k (omega arith)).0)
      all_put (suc j) k h =
          let ih = all_put j (suc k) (omega arith) in
          let d = stop_done (shapes q k (omega arith)) (get_elements q k (omega arith)) (I.fires (process q k)) ih
          (I.stop q k (omega arith)) in
          omega (arith, below_head q k (omega arith), (I.link q k (omega arith)).0)

      pub all_get : (k : ℕ) → k < stops q → (c (get q k) ≡ elements q) × (c (fire (process q k)) ≡ count (process q k))
      all_get k h =
          stop_done (shapes q k h) (get_elements q k (omega arith)) (I.fires (process q k))
          (all_put (stops q - suc k) (suc k) (omega arith)) (I.stop q k h)

    -- what is taken out further on was put in here
    pub along : (q k j : ℕ) → k < j → j ≤ stops q → c (get q j) ≤ c (put q (suc k))
    along q k zero h l = absurd (omega arith)
    along q k (suc j) h l = go (order k j) (λ d. along q k j d (omega arith))
      where
        go : Order k j → (k < j → c (get q j) ≤ c (put q (suc k))) → c (get q (suc j)) ≤ c (put q (suc k))
        go (less d) ih = omega (arith, ih d, stop_order (I.stop q j l), (I.link q (suc j) l).0)
        go (at_least d) ih = let e : k ≡ j = omega arith in rw e (I.link q (suc j) l).0

  -- it holds at the start
  pub inv_start : Inv N (λ a. 0)
  inv_start =
      record {
        fires = λ p. omega arith;
        head = λ q. omega arith;
        link = λ q k l. omega arith;
        stop = λ q k l. begin (kind q k);
      }
    where
      begin : {n s t : ℕ} (K : Kind) → AtStop n s t 0 0 0 K
      begin through = passing (omega arith) (omega arith) (omega arith) (omega arith)
      begin keep = fresh refl refl refl
