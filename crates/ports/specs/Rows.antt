-- The row of any process and stream. Off every pipe it has a link without places, so that its port can take and give nothing and is sound
-- where its counts are 0. Assumes nothing.
use Rattle.std.specs.Prelude.{◌≡◌, refl, Bool, true, false, cond, ℕ, ◌+◌, ◌≤◌, ◌<◌}
use Rattle.std.proofs.Common.{mul-le-mul_right, arith}
use Rattle.meaning.specs.Array.{Array, process_count, stream_count, count_at, stop_at, on_pipe}
use Rattle.meaning.specs.State.{Firings, Taken, Given, Place, stride, index, word_count}
use Rattle.lists.specs.Sums.{part_ends}
use Rattle.ports.specs.declared.Port.{Port}
use Rattle.ports.specs.Ports.{port_of, PortFits}
use Rattle.ports.specs.Places.{pipe, place, pipe_on, place_on_lem, process_is}
use Rattle.ports.specs.Layout.{Regular, port_fits}

-- the row of process p and stream i off every pipe
abbrev pub off_port : Array → ℕ → ℕ → Port
off_port A p i =
    record {
      at = index A (Taken p i);
      before = index A (Taken p i);
      after = index A (Given p i);
      room = index A (Place p i 0);
      fired = index A (Firings p);
      hop = 0;
      soak = 0;
      count = count_at A p;
      total = 0;
      keeps = false;
    }

-- and anywhere
abbrev pub row_of : Array → ℕ → ℕ → Port
row_of A p i = cond (on_pipe A p i) (port_of A (pipe A p i) (place A p i)) (off_port A p i)

-- what is on no pipe and what is
pub row_on : (A : Array) (p i : ℕ) → on_pipe A p i ≡ true → row_of A p i ≡ port_of A (pipe A p i) (place A p i)
row_on A p i e = rw e

pub row_off : (A : Array) (p i : ℕ) → on_pipe A p i ≡ false → row_of A p i ≡ off_port A p i
row_off A p i e = rw e

-- ---- the rows fit

module _ (A : Array) (reg : Regular A) (n : ℕ) (w : word_count A ≤ n) (p i : ℕ) (hp : p < process_count A) (hi : i < stream_count A)
    (count : count_at A p < 4294967296) where
  off_inside : index A (Taken p i) + 4 ≤ n
  off_inside =
      omega (arith, part_ends (λ h. 4 + h) 0 A.hops i hi, mul-le-mul_right (stride A) hp)

  off_fits : PortFits n (off_port A p i)
  off_fits =
      record {
        block = omega (arith, off_inside);
        before = omega (arith, off_inside);
        after = omega (arith, off_inside);
        room = omega (arith, off_inside);
        fired = omega (arith, off_inside);
        soak = omega arith;
        count = count;
      }

  pub row_fits : (on_pipe A p i ≡ true → (stop_at A (pipe A p i) (place A p i)).soak < 4294967296) → PortFits n (row_of A p i)
  row_fits soak = go (on_pipe A p i) refl
    where
      go : (b : Bool) → on_pipe A p i ≡ b → PortFits n (cond b (port_of A (pipe A p i) (place A p i)) (off_port A p i))
      go true e =
          port_fits A reg (pipe A p i) (pipe_on A p i e) n (place A p i) w (place_on_lem A p i e) (soak e) (rw (process_is A p i e) count)
      go false e = off_fits
