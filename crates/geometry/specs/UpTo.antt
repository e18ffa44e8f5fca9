-- What is accepted under some limits is accepted under higher ones: of two lists of tests the second applies only where the first does.
-- Assumes nothing.
use Rattle.std.specs.Prelude.{◌≡◌, Bool, true, false, not, cond, ◌&&◌, ℕ, suc, ◌≤◌, ◌<◌, T, eqb, ltb, length}
use mathlib.Core.List.{List, [], ◌∷◌, ◌++◌}
use Rattle.std.proofs.Common.{arith, ltb→lt, lt→ltb}
use Rattle.meaning.specs.declared.Limits.{Limits}
use Rattle.meaning.specs.declared.Nest.{Nest}
use Rattle.meaning.specs.declared.Stream.{Stream}
use Rattle.meaning.specs.declared.Description.{Description}
use Rattle.meaning.specs.Limits.{limits_of, gauge_limits, UpTo}
use Rattle.meaning.specs.Tests.{Test, ◌if◌, refusal}
use Rattle.meaning.specs.Loops.{instances}
use Rattle.meaning.specs.Space.{processes}
use Rattle.meaning.specs.Streams.{stationary, hop}
use Rattle.meaning.specs.Description.{description_of, streams_of, written}
use Rattle.meaning.specs.Accept.{refused33, stream_tests, tests_from, nest_tests, byte_tests, all_tests, refusal_of}
use Rattle.meaning.specs.Conditions.{Known}

-- ---- milder tests

-- tests of the same numbers, of which the second list's apply only where the first list's do
data Milder : List Test → List Test → Type 0 where
  none : Milder [] []
  and : (n : ℕ) (a b : Bool) {ts us : List Test} → 0 < n → (T b → T a) → Milder ts us → Milder ((n if a) ∷ ts) ((n if b) ∷ us)

same : (n : ℕ) (b : Bool) {ts us : List Test} → 0 < n → Milder ts us → Milder ((n if b) ∷ ts) ((n if b) ∷ us)
same n b p k = and n b b p (λ x. x) k

append : {ts us vs ws : List Test} → Milder ts us → Milder vs ws → Milder (ts ++ vs) (us ++ ws)
append none m = m
append (and n a b p f k) m = and n a b p f (append k m)

passes : {ts us : List Test} → Milder ts us → refusal ts ≡ 0 → refusal us ≡ 0
unfolding refusal
passes none e = e
passes (and n a b {ts} {us} p f k) e = go a b f e (λ h. passes k h)
  where
    go : (a b : Bool) → (T b → T a) → cond a n (refusal ts) ≡ 0 → (refusal ts ≡ 0 → refusal us ≡ 0) → cond b n (refusal us) ≡ 0
    go true b f e ih = absurd (omega arith)
    go false true f e ih = absurd (f tt)
    go false false f e ih = ih e

-- over a lower limit wherever over a higher one
over : (n m k : ℕ) → m ≤ n → T (ltb n k) → T (ltb m k)
over n m k h t = lt→ltb m k (omega (arith, ltb→lt n k t))

-- ---- Accept's tests

module _ {l k : Limits} (u : UpTo l k) where
  of_stream_lem : (n : Nest) (w : Bool) (s : Stream) → Milder (stream_tests l n w s) (stream_tests k n w s)
  of_stream_lem n w s =
      same 11 _ (omega arith) (same 12 _ (omega arith) (same 13 _ (omega arith)
      (and 14 _ _ (omega arith) (longer (not (stationary n s)))
      (same 15 _ (omega arith) (same 16 _ (omega arith) (same 17 _ (omega arith) none))))))
    where
      longer : (b : Bool) → T (b && ltb k.hop (hop n s)) → T (b && ltb l.hop (hop n s))
      longer true t = over k.hop l.hop (hop n s) u.hop t
      longer false t = t

  of_streams_lem : (d : Description) (i : ℕ) (ss : List Stream) → Milder (tests_from l d i ss) (tests_from k d i ss)
  unfolding tests_from
  of_streams_lem d i [] = none
  of_streams_lem d i (s ∷ ss) = append (of_stream_lem d.nest (written d i) s) (of_streams_lem d (suc i) ss)

  of_nest : (n : Nest) → Milder (nest_tests l n) (nest_tests k n)
  of_nest n =
      same 5 _ (omega arith)
      (and 6 _ _ (omega arith) (over k.instances l.instances (length (instances n)) u.instances)
      (same 7 _ (omega arith) (same 8 _ (omega arith)
      (and 10 _ _ (omega arith) (over k.processes l.processes (length (processes n)) u.processes) none))))

  of_bytes : (s : List ℕ) → Milder (byte_tests s) (byte_tests s)
  of_bytes s = same 1 _ (omega arith) (same 2 _ (omega arith) (same 3 _ (omega arith) (same 4 _ (omega arith) none)))

  of_all : Known k → (s : List ℕ) → Milder (all_tests l s) (all_tests k s)
  of_all known s =
      let d = description_of s in
      and 33 (refused33 l) (refused33 k) (omega arith) (λ t. absurd (omega (arith, ltb→lt 1 k.board t)))
      (append (of_bytes s) (append (of_nest d.nest) (of_streams_lem d 0 (streams_of d))))

  -- what is accepted under some limits is accepted under higher ones of a board
  pub up_to_lem : Known k → (s : List ℕ) → refusal_of l s ≡ 0 → refusal_of k s ≡ 0
  unfolding refusal_of
  up_to_lem known s e = passes (of_all known s) e

-- and so under the gauge's: what is needed of sizes follows from those alone
pub by_gauge : {l : Limits} → UpTo l gauge_limits → (s : List ℕ) → refusal_of l s ≡ 0 → refusal_of gauge_limits s ≡ 0
by_gauge u s e = up_to_lem u (omega arith) s e

-- no board's limits are above the gauge's
pub limits_up_to : (board : ℕ) → UpTo (limits_of board) gauge_limits
limits_up_to board =
    let b = eqb board 1 in
    record { instances = least b 1024 4096 (omega arith); processes = least b 256 1024 (omega arith); hop = omega arith }
  where
    least : (b : Bool) (m n : ℕ) → m ≤ n → cond b m n ≤ n
    least true m n h = h
    least false m n h = omega arith

pub by_board : (board : ℕ) (s : List ℕ) → refusal_of (limits_of board) s ≡ 0 → refusal_of gauge_limits s ≡ 0
by_board board s e = by_gauge (limits_up_to board) s e
