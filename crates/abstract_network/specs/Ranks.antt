-- The order in which elements pass each link, and that every element is in one place: what a process is about to use is nowhere else on the
-- pipe. Assumes nothing.
use Rattle.std.specs.Prelude.{◌≡◌, cond, ◌⊎◌, ℕ, zero, suc, ◌+◌, ◌-◌, ◌≤◌, ◌<◌, min, ltb}
use Rattle.std.proofs.Common.{inl, inr, le_refl, arith, lt-ltb, le-ltb}
use Rattle.abstract_network.specs.Cases.{Order, less, at_least, order}
use Rattle.abstract_network.specs.Counters.{Kind, through, keep, AtStop, passing, fresh, holding, gone, stop_order, put}
use Rattle.abstract_network.specs.Counters.{get}
use Rattle.abstract_network.specs.Counters.{Counts, Net, Inv, along}

-- the place of the g-th in the order of the pipe, g < 2 n
unfoldable pub wrap : ℕ → ℕ → ℕ
wrap n g = cond (ltb g n) g (g - n)

pub data Wrap (n g : ℕ) : Type 0 where
  low : g < n → wrap n g ≡ g → Wrap n g
  high : n ≤ g → wrap n g ≡ g - n → Wrap n g

pub wrapped : (n g : ℕ) → Wrap n g
unfolding wrap
wrapped n g = go (order g n)
  where
    go : Order g n → Wrap n g
    go (less l) = low l (rw (lt-ltb g n l))
    go (at_least l) = high l (rw (le-ltb g n l))

pub wrap_lt : (n g : ℕ) → g < n + n → wrap n g < n
wrap_lt n g h = go (wrapped n g)
  where
    go : Wrap n g → wrap n g < n
    go (low a b) = omega arith
    go (high a b) = omega arith

-- how the rank goes on past a stop
pub data Next (r r' : ℕ) : Kind → Type 0 where
  level : r' ≡ r → Next r r' through
  rise : r' ≡ suc r → Next r r' keep

-- the rank of link k: how many keeping stops stand before it; on a pipe either none keeps or as many as it has elements
pub record Ranked (N : Net) : Type 0 where
  pub rank : ℕ → ℕ → ℕ
  pub start : (q : ℕ) → rank q 0 ≡ 0
  pub next : (q k : ℕ) → k < N.stops q → Next (rank q k) (rank q (suc k)) (N.kind q k)
  pub end : (q : ℕ) → (rank q (N.stops q) ≡ 0) ⊎ (rank q (N.stops q) ≡ N.elements q)
  pub some : (q k : ℕ) → k < N.stops q → 0 < N.elements q

next_le : {r r' : ℕ} {K : Kind} → Next r r' K → r ≤ r'
next_le (level e) = omega arith
next_le (rise e) = omega arith

next_keep : {r r' : ℕ} {K : Kind} → K ≡ keep → Next r r' K → r' ≡ suc r
next_keep e (level d) = absurd (let z : ◌≡◌ {A = ℕ} 0 1 = cc in omega arith)
next_keep e (rise d) = d

up_step : {n s t x y f r r' R : ℕ} {K : Kind} → 0 < n → r' ≤ R → Next r r' K → AtStop n s t x y f K → min n (suc R - r') ≤ y
    → min n (suc R - r) ≤ x
up_step z l (level e) (passing a b _ _) h = omega arith
up_step z l (rise e) (fresh a b u) h = absurd (omega arith)
up_step z l (rise e) (holding a b u) h = omega arith
up_step z l (rise e) (gone a b u) h = omega arith

down_step : {n s t x y f r r' R z : ℕ} {K : Kind} → r' ≤ n → suc R ≤ r → x ≤ z → Next r r' K → AtStop n s t x y f K
    → z + r ≤ n + R → y + r' ≤ n + R
down_step k l w (level e) (passing a b _ _) h = omega arith
down_step k l w (rise e) (fresh a b u) h = omega arith
down_step k l w (rise e) (holding a b u) h = omega arith
down_step k l w (rise e) (gone a b u) h = absurd (omega arith)

module _ (N : Net) (R : Ranked N) where
  open N use {stops, elements, hop, process, kind, soak, count}
  open R use {rank}

  rank_le : (q d k : ℕ) → k + d ≤ stops q → rank q k ≤ rank q (k + d)
  rank_le q zero k h = let e : k + 0 ≡ k = omega arith in rw e (le_refl (rank q k))
  rank_le q (suc d) k h =
      let e : k + suc d ≡ suc (k + d) = omega arith in
      rw e (omega (arith, rank_le q d k (omega arith), next_le (R.next q (k + d) (omega arith))))

  pub rank_mono : (q k k' : ℕ) → k ≤ k' → k' ≤ stops q → rank q k ≤ rank q k'
  rank_mono q k k' h l = let e : k + (k' - k) ≡ k' = omega arith in rw e at (rank_le q (k' - k) k (omega arith))

  pub rank_elements : (q k : ℕ) → k ≤ stops q → rank q k ≤ elements q
  rank_elements q k h = go (R.end q)
    where
      go : (rank q (stops q) ≡ 0) ⊎ (rank q (stops q) ≡ elements q) → rank q k ≤ elements q
      go (inl e) = omega (arith, rank_mono q k (stops q) h (le_refl _))
      go (inr e) = omega (arith, rank_mono q k (stops q) h (le_refl _))

  pub rank_keep : (q k : ℕ) → k < stops q → kind q k ≡ keep → (rank q (suc k) ≡ suc (rank q k)) × (rank q k < elements q)
  rank_keep q k h e = let d = next_keep e (R.next q k h) in (d, omega (arith, rank_elements q (suc k) h))

  pub rank_zero : (q k : ℕ) → rank q (stops q) ≡ 0 → k ≤ stops q → rank q k ≡ 0
  rank_zero q k e h = omega (arith, rank_mono q k (stops q) h (le_refl _))

  -- past the last stop the order is the written one
  pub wrap_end : (q i : ℕ) → i < elements q → wrap (elements q) (rank q (stops q) + i) ≡ i
  wrap_end q i l = go (R.end q) (wrapped (elements q) (rank q (stops q) + i))
    where
      go : (rank q (stops q) ≡ 0) ⊎ (rank q (stops q) ≡ elements q) → Wrap (elements q) (rank q (stops q) + i)
          → wrap (elements q) (rank q (stops q) + i) ≡ i
      go (inl e) (low a b) = omega arith
      go (inl e) (high a b) = absurd (omega arith)
      go (inr e) (low a b) = absurd (omega arith)
      go (inr e) (high a b) = omega arith

  module _ {c : Counts} (I : Inv N c) (q : ℕ) where
    -- upstream of a get that has been done
    pub upstream : (j k : ℕ) → k < j → j ≤ stops q → c (get q j) ≤ c (get q k)
    upstream j k h l = omega (arith, along N I q k j h l, stop_order (I.stop q k (omega arith)))

    -- process k keeps its own element: it has taken it and not given it
    module _ (k : ℕ) (h : k < stops q) (K : kind q k ≡ keep) (taken : 0 < c (get q k)) (held : c (put q (suc k)) < elements q) where
      pub above : (d j : ℕ) → j + d ≡ k → min (elements q) (suc (rank q k) - rank q j) ≤ c (get q j)
      above zero j e = let d : j ≡ k = omega arith in rw d (omega arith)
      above (suc d) j e =
          let ih = above d (suc j) (omega arith) in
          let l = (I.link q (suc j) (omega arith)).0 in
          up_step (R.some q k h) (rank_mono q (suc j) k (omega arith) (omega arith)) (R.next q j (omega arith))
          (I.stop q j (omega arith)) (omega arith)

      pub below : (d j : ℕ) → suc k + d ≡ j → j ≤ stops q → c (put q j) + rank q j ≤ elements q + rank q k
      below zero j e l = let d : j ≡ suc k = omega arith in rw d (omega (arith, (rank_keep q k h K).0))
      below (suc d) zero e l = absurd (omega arith)
      below (suc d) (suc j) e l =
          down_step
          {z = c (put q j)}
          (rank_elements q (suc j) l)
          (omega (arith, rank_mono q (suc k) j (omega arith) (omega arith), (rank_keep q k h K).0))
          (I.link q j (omega arith)).0
          (R.next q j l)
          (I.stop q j l)
          (below d j (omega arith) (omega arith))

      -- an element that is to be given next into link j, or lies in it, is not the one kept
      pub apart : (j a : ℕ) → j ≤ stops q → (j ≤ k → c (get q j) ≤ a) → (k < j → a < c (put q j)) → a < elements q
          → wrap (elements q) (rank q j + a) ≡ rank q k → ⊥
      apart j a l u v w e = go (order k j) (wrapped (elements q) (rank q j + a))
        where
          go : Order k j → Wrap (elements q) (rank q j + a) → ⊥
          go (less o) (low b d) = omega (arith, rank_mono q (suc k) j o l, (rank_keep q k h K).0)
          go (less o) (high b d) = omega (arith, below (j - suc k) j (omega arith) l, v o)
          go (at_least o) (low b d) = omega (arith, above (k - j) j (omega arith), u o)
          go (at_least o) (high b d) = omega (arith, rank_mono q j k o (omega arith))
