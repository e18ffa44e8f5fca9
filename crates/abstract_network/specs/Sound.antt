-- Sound counters: what is asked of any state, reached or not. Every granted step keeps it, and the counter invariant implies it.
-- Assumes nothing.
use Rattle.std.specs.Prelude.{◌≡◌, ℕ, suc, ◌+◌, ◌≤◌, ◌<◌}
use Rattle.std.proofs.Common.{arith}
use Rattle.abstract_network.specs.Counters.{Kind, through, keep, AtStop, passing, fresh, holding, gone}
use Rattle.abstract_network.specs.Counters.{put, get, fire, Counts, Net, Inv}
use Rattle.abstract_network.specs.Counters.{below_head, get_elements}
use Rattle.abstract_network.specs.Cases.{Order, less, at_least, order}

-- taken x and given y at a stop of a pipe of n elements
pub data Balance (n x y : ℕ) : Kind → Type 0 where
  even : x ≡ y → Balance n x y through
  ahead : x ≡ suc y → Balance n x y through
  untaken : x ≡ 0 → y ≡ 0 → Balance n x y keep
  keeping : suc y ≤ x → x ≤ suc (suc y) → y < n → Balance n x y keep
  given : x ≡ n → y ≡ n → Balance n x y keep

module _ {n s t x y f : ℕ} where
  balance_of : {K : Kind} → AtStop n s t x y f K → Balance n x y K
  balance_of (passing a b u v) = go (order y x)
    where
      go : Order y x → Balance n x y through
      go (less l) = ahead (omega arith)
      go (at_least l) = even (omega arith)
  balance_of (fresh a b u) = untaken a b
  balance_of (holding a b u) = keeping a b u
  balance_of (gone a b u) = given a b

module _ (N : Net) where
  open N use {stops, elements, hop, process, kind, soak, count}

  pub record Sound (c : Counts) : Type 0 where
    pub fires : (p : ℕ) → c (fire p) ≤ count p
    pub puts : (q k : ℕ) → k ≤ stops q → c (put q k) ≤ elements q
    pub gets : (q k : ℕ) → k ≤ stops q → c (get q k) ≤ elements q
    pub link : (q k : ℕ) → k ≤ stops q → (c (get q k) ≤ c (put q k)) × (c (put q k) ≤ c (get q k) + hop q)
    pub balance : (q k : ℕ) → k < stops q → Balance (elements q) (c (get q k)) (c (put q (suc k))) (kind q k)

  -- the counter invariant implies it
  pub inv_sound : {c : Counts} → Inv N c → Sound c
  inv_sound I =
      record {
        fires = I.fires;
        puts = below_head N I;
        gets = get_elements N I;
        link = I.link;
        balance = λ q k l. balance_of (I.stop q k l);
      }
