-- Rows of ports: the row of a place of a pipe, and rows whose words lie in a state. Assumes nothing.
use Rattle.std.specs.Prelude.{◌≡◌, ℕ, suc, ◌+◌, ◌≤◌, ◌<◌}
use Rattle.meaning.specs.Array.{Array, stop_at, pipe_at, count_at, elements_on}
use Rattle.meaning.specs.State.{Firings, Taken, index}
use Rattle.meaning.specs.Rules.{process_on, stream_on, put_in, taken_out, link_place}
use Rattle.ports.specs.declared.Port.{Port}

-- the row of the process at place k of pipe q
abbrev pub port_of : Array → ℕ → ℕ → Port
port_of A q k =
    record {
      at = index A (Taken (process_on A q k) (stream_on A q));
      before = index A (put_in A q k);
      after = index A (taken_out A q (suc k));
      room = index A (link_place A q (suc k) 0);
      fired = index A (Firings (process_on A q k));
      hop = (pipe_at A q).hop;
      soak = (stop_at A q k).soak;
      count = count_at A (process_on A q k);
      total = elements_on A q;
      keeps = (stop_at A q k).keeps;
    }

abbrev pub PortIs : Array → ℕ → ℕ → Port → Type 0
PortIs A q k r = r ≡ port_of A q k

-- the row's words lie in a state of n words
pub record PortFits (n : ℕ) (k : Port) : Type 0 where
  pub block : k.at + 4 + k.hop ≤ n
  pub before : k.before < n
  pub after : k.after < n
  pub room : k.room + k.hop ≤ n
  pub fired : k.fired < n
  pub soak : k.soak < 4294967296
  pub count : k.count < 4294967296

-- rows with the same numbers are the same
pub same_port : {x y : Port} → x.at ≡ y.at → x.before ≡ y.before → x.after ≡ y.after → x.room ≡ y.room
    → x.fired ≡ y.fired → x.hop ≡ y.hop → x.soak ≡ y.soak → x.count ≡ y.count → x.total ≡ y.total → x.keeps ≡ y.keeps → x ≡ y
same_port a b c d k l m o q s =
    λ i. record {
      at = a i;
      before = b i;
      after = c i;
      room = d i;
      fired = k i;
      hop = l i;
      soak = m i;
      count = o i;
      total = q i;
      keeps = s i;
    }
