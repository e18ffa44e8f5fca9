-- Rows of a pipe's ends: the row of a pipe, and rows whose words lie in a state. Assumes nothing.
use Rattle.std.specs.Prelude.{◌≡◌, ℕ, ◌+◌, ◌≤◌, ◌<◌}
use Rattle.meaning.specs.Array.{Array, pipe_at, stops_on, elements_on, part_start}
use Rattle.meaning.specs.State.{Sent, Received, index}
use Rattle.meaning.specs.Rules.{put_in, taken_out, link_place}
use Rattle.ports.specs.declared.End.{End}

-- the row of pipe q
abbrev pub end_of : Array → ℕ → End
end_of A q =
    record {
      sent = index A (Sent q);
      after = index A (taken_out A q 0);
      room = index A (link_place A q 0 0);
      before = index A (put_in A q (stops_on A q));
      received = index A (Received q);
      last = index A (link_place A q (stops_on A q) 0);
      hop = (pipe_at A q).hop;
      total = elements_on A q;
      offset = part_start A q;
    }

abbrev pub EndIs : Array → ℕ → End → Type 0
EndIs A q e = e ≡ end_of A q

-- the row's words lie in a state of n words
pub record EndFits (n : ℕ) (e : End) : Type 0 where
  pub sent : e.sent < n
  pub after : e.after < n
  pub room : e.room + e.hop ≤ n
  pub before : e.before < n
  pub received : e.received < n
  pub last : e.last + e.hop ≤ n
  pub total : e.total < 4294967296

-- rows with the same numbers are the same
pub same_end : {x y : End} → x.sent ≡ y.sent → x.after ≡ y.after → x.room ≡ y.room → x.before ≡ y.before → x.received ≡ y.received
    → x.last ≡ y.last → x.hop ≡ y.hop → x.total ≡ y.total → x.offset ≡ y.offset → x ≡ y
same_end a b c d e f g h k =
    λ i. record {
      sent = a i;
      after = b i;
      room = c i;
      before = d i;
      received = e i;
      last = f i;
      hop = g i;
      total = h i;
      offset = k i;
    }
