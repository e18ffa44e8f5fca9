-- The pipe of a process and a stream, and the process's place on it. Assumes nothing.
use Rattle.std.specs.Prelude.{◌≡◌, true, ◌&&◌, ℕ, ◌<◌, eqb}
use Rattle.std.proofs.Common.{eqb-true, ltb-true}
use Rattle.meaning.specs.Lists.{any}
use Rattle.meaning.specs.Array.{Array, no_pipe, no_stop, pipe_at, stops_on, pipe_number, is_stop, pipe_through, on_pipe, place_on}
use Rattle.meaning.specs.Rules.{process_on, stream_on}
use Rattle.lists.specs.Tests.{both_true, any_position, position_passes}

-- the pipe of process p and stream s, and the process's place on it
abbrev pub pipe : Array → ℕ → ℕ → ℕ
pipe A p s = pipe_through A p s

abbrev pub place : Array → ℕ → ℕ → ℕ
place A p s = place_on A p (pipe_through A p s)

module _ (A : Array) (p s : ℕ) (on : on_pipe A p s ≡ true) where
  pub pipe_on : pipe A p s < pipe_number A
  pipe_on = ltb-true _ _ on

  through : (eqb (stream_on A (pipe A p s)) s && any (is_stop p) (pipe_at A (pipe A p s)).stops) ≡ true
  through = position_passes (λ r. eqb r.stream s && any (is_stop p) r.stops) no_pipe A.pipes pipe_on

  pub place_on_lem : place A p s < stops_on A (pipe A p s)
  place_on_lem = any_position (is_stop p) (pipe_at A (pipe A p s)).stops (both_true (eqb (stream_on A (pipe A p s)) s) _ through).1

  pub stream_is : stream_on A (pipe A p s) ≡ s
  stream_is = eqb-true _ _ (both_true _ _ through).0

  pub process_is : process_on A (pipe A p s) (place A p s) ≡ p
  process_is = eqb-true _ _ (position_passes (is_stop p) no_stop (pipe_at A (pipe A p s)).stops place_on_lem)
