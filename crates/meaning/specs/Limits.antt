-- The boards, request 2.9, and their limits, for the refusals 6, 10 and 14: document 01's for the gauges, the bench's of request 2.9, and 5
-- for the longest hop by request 2.8.
use Rattle.std.specs.Prelude.{cond, ℕ, ◌+◌, ◌*◌, ◌≤◌, eqb}
use Rattle.meaning.specs.declared.Limits.{Limits}

-- "our bench board holds 256 processes and 1,024 instances; the gauges keep 1,024 and 4,096": "0 gauge or 1 bench". Another word names no
-- board, and what is told it is refused by 33 whatever the limits (`Accept.refused33`)
abbrev pub limits_of : ℕ → Limits
limits_of board =
    record { board = board; instances = cond (eqb board 1) 1024 4096; processes = cond (eqb board 1) 256 1024; hop = 5 }

abbrev pub gauge_limits : Limits
gauge_limits = limits_of 0

abbrev pub bench_limits : Limits
bench_limits = limits_of 1

-- "up to": no limit is above the other's
pub record UpTo (l k : Limits) : Type 0 where
  pub instances : l.instances ≤ k.instances
  pub processes : l.processes ≤ k.processes
  pub hop : l.hop ≤ k.hop

-- as they were before request 2.8
abbrev pub former_limits : ℕ → Limits
former_limits board =
    record { board = board; instances = (limits_of board).instances; processes = (limits_of board).processes; hop = 8 }

-- ---- what the gauge's allow lists, with six streams

-- the elements of all streams: every element is touched, so each has no more than there are instances
abbrev pub elements_most : ℕ
elements_most = 6 * gauge_limits.instances

-- their pipes: each has an entry of its own
abbrev pub pipes_most : ℕ
pipes_most = 6 * gauge_limits.processes

-- ---- what the gauge's allow a state (docs/STATE.md), with six streams and of each no more pipes than processes

-- the words of a process, "1 + sum of (4 + h)"
abbrev pub process_words_most : ℕ
process_words_most = 1 + 6 * (4 + gauge_limits.hop)

-- the words of the ends of a stream's pipes, "sum of (2 + h)"
abbrev pub end_words_most : ℕ
end_words_most = gauge_limits.processes * (2 + gauge_limits.hop)

abbrev pub state_words_most : ℕ
state_words_most = gauge_limits.processes * process_words_most + 6 * end_words_most
