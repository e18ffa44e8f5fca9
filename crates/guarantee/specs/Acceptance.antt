-- Accept answers Accepted exactly where all conditions are met, and refuses by the number of the first that fails. Assumes nothing.
use Rattle.std.specs.Prelude.{◌≡◌, refl, ◌↔◌, Bool, true, false, cond, eqb, length, get_or}
use Rattle.std.proofs.Math.Path.{sym, ap, subst}
use Rattle.std.proofs.Common.{◌∙◌, zero-add, length-append, length-take, ne_eqb}
use mathlib.Core.List.Memᴰ.{head as here}
use mathlib.Core.List.Memᴰ.{tail as there}
use mathlib.Core.List.{List, [], ◌∷◌, ◌++◌, Memᴰ as In}
use Prim.Native.Nat.{ℕ, suc, ◌+◌, ◌<◌}
use native.Mathlib.Omega.{arith}
use Rattle.std.proofs.lemmas.Bool.{eqb-false}
use Rattle.integers.specs.declared.V3.{V3}
use Rattle.meaning.specs.declared.Limits.{Limits}
use Rattle.meaning.specs.declared.Stream.{Stream}
use Rattle.meaning.specs.declared.Description.{Description}
use Rattle.meaning.specs.Lists.{each, numbers, numbers_from}
use Rattle.meaning.specs.Tests.{Test}
use Rattle.meaning.specs.Points.{Directed, Within}
use Rattle.meaning.specs.Description.{sizes_of, description_of, streams_of, stream_of as decoded, no_stream, written}
use Rattle.meaning.specs.Accept.{stream_tests, tests_from, all_tests, refusal_of, figures, divisors, accept, Accepts}
use Rattle.meaning.specs.Answers.{accept_number, Accepted, Refused}
use Rattle.meaning.specs.Conditions.{stream_of, Meets, StreamMeets, AcceptedExactly, Condition, Condition.Board, Condition.Begins}
use Rattle.meaning.specs.Conditions.{Condition.Sizes-fit, Condition.Long, Condition.Words-fit, Condition.Bounds-fit, Condition.Instances}
use Rattle.meaning.specs.Conditions.{Condition.Place-rank, Condition.Increment, Condition.Processes, Condition.Rank, Condition.Line}
use Rattle.meaning.specs.Conditions.{Condition.Move, Condition.Hop, Condition.Order, Condition.Loading, Condition.Touched, Asks, of_stream}
use Rattle.meaning.specs.Conditions.{conditions, RefusedExactly}
use Rattle.lists.specs.Members.{in_each, each_in, in_numbers, numbers_in}
use Rattle.lists.specs.Rows.{length_numbers}
use Rattle.network.specs.Declined.{numbers_are}
use Rattle.guarantee.specs.Refusals.{refuses_less, Tries, Tries.none, Tries.next, numbered, all_hold, none_refuses, first_fails}
use Rattle.guarantee.specs.Refusals.{refuses_first}
use Rattle.guarantee.specs.WordConditions.{refuses2, refuses3, refuses4, directed}
use Rattle.guarantee.specs.NestConditions.{refuses5, some_instance, refuses6, refuses_rank, refuses_line, line_found, refuses10}
use Rattle.guarantee.specs.StreamConditions.{says_written, refuses13, refuses14, refuses15, refuses16, refuses17}

-- ---- Accept's tests try the conditions in their order

module _ (l : Limits) (s : List ℕ) where
  abbrev d : Description
  d = description_of s

  module _ (dirs : Directed d.nest) {x : V3} (w : Within d.nest x) where
    try_stream : (i : ℕ) (cs : List Condition) (ts : List Test) → Tries (Asks l s) cs ts
        → Tries (Asks l s) (of_stream i ++ cs) (stream_tests l d.nest (written d i) (stream_of d i) ++ ts)
    try_stream i cs ts rest =
        let t = stream_of d i in
        next (refuses_rank t.map) (λ r.
        next (refuses_line d.nest t.map r) (λ k. let h = line_found d.nest t.map r k in
        next (refuses13 t h) (λ _.
        next (refuses14 t h l) (λ _.
        next (refuses15 t h (says_written d i) dirs) (λ _.
        next (refuses16 t h) (λ _.
        next (refuses17 dirs w t) (λ _. rest)))))))

    -- of the streams from number i on
    try_streams : (i : ℕ) (ss : List Stream) → ((k : ℕ) → get_or ss k no_stream ≡ stream_of d (i + k))
        → Tries (Asks l s) (each of_stream (numbers_from i (length ss))) (tests_from l d i ss)
    unfolding each numbers_from tests_from
    try_streams i [] e = none
    try_streams i (t ∷ ss) e =
        let f : i + 0 ≡ i = omega arith in
        let this : stream_of d i ≡ t = sym (e 0 ∙ ap (stream_of d) f) in
        subst (λ (t : Stream). Tries (Asks l s) (each of_stream (i ∷ numbers_from (suc i) (length ss)))
        (stream_tests l d.nest (written d i) t ++ tests_from l d (suc i) ss)) this
        (try_stream i (each of_stream (numbers_from (suc i) (length ss))) (tests_from l d (suc i) ss)
        (try_streams (suc i) ss (λ k. let g : i + suc k ≡ suc i + k = omega arith in e (suc k) ∙ ap (stream_of d) g)))

  -- the description's streams are as many as its sizes say
  pub streams_length : length (streams_of d) ≡ (sizes_of s).streams
  unfolding description_of
  streams_length = simp (length-take, length-append) (omega (arith, length_numbers (decoded s (sizes_of s)) 0 (sizes_of s).streams))

  pub tries : Tries (Asks l s) (conditions (sizes_of s).streams) (all_tests l s)
  unfolding description_of
  tries =
      let z = sizes_of s in
      let n = d.nest in
      next (refuses_less 1 l.board) (λ _.
      next (refuses_less (length s) 12) (λ _.
      next (refuses2 z) (λ sizes.
      next (refuses3 s z) (λ _.
      next (refuses4 s z) (λ words.
      next (refuses5 n) (λ bounds.
      next (refuses6 l n bounds) (λ _.
      next (refuses_rank n.place) (λ rank.
      next (refuses_line n n.place rank) (λ _.
      next (refuses10 l (directed s z sizes words) (some_instance n bounds)) (λ _.
      subst (λ (m : ℕ). Tries (Asks l s) (each of_stream (numbers m)) (tests_from l d 0 (streams_of d))) streams_length
      (try_streams (directed s z sizes words) (some_instance n bounds) 0 (streams_of d)
      (λ k. ap (stream_of d) (sym (zero-add k))))))))))))))

  -- ---- all conditions are met: one by one, and as document 01 has them

  pub meets_of : ((c : Condition) → In c (conditions (sizes_of s).streams) → Asks l s c) → Meets l s
  meets_of f =
      record {
        board = f _ (here refl);
        begins = f _ (there (here refl));
        sizes = f _ (there (there (here refl)));
        long = f _ (there (there (there (here refl))));
        words = f _ (there (there (there (there (here refl)))));
        bounds = f _ (there (there (there (there (there (here refl))))));
        instances = f _ (there (there (there (there (there (there (here refl)))))));
        rank = f _ (there (there (there (there (there (there (there (here refl))))))));
        increment = f _ (there (there (there (there (there (there (there (there (here refl)))))))));
        processes = f _ (there (there (there (there (there (there (there (there (there (here refl))))))))));
        streams = λ i h. stream i (λ c k.
            f c (there (there (there (there (there (there (there (there (there (there
            (in_each of_stream (in_numbers 0 (sizes_of s).streams i (omega arith) (omega arith)) k))))))))))));
      }
    where
      stream : (i : ℕ) → ((c : Condition) → In c (of_stream i) → Asks l s c) → StreamMeets l d i
      stream i g =
          record {
            rank = g (Rank i) (here refl);
            line = g (Line i) (there (here refl));
            move = g (Move i) (there (there (here refl)));
            hop = g (Hop i) (there (there (there (here refl))));
            order = g (Order i) (there (there (there (there (here refl)))));
            loading = g (Loading i) (there (there (there (there (there (here refl))))));
            touched = g (Touched i) (there (there (there (there (there (there (here refl)))))));
          }

  pub of_meets : Meets l s → (c : Condition) → In c (conditions (sizes_of s).streams) → Asks l s c
  of_meets m c i = go i
    where
      by : (b : Condition) → Asks l s b → c ≡ b → Asks l s c
      by b h e = subst (Asks l s) (sym e) h

      stream : (i : ℕ) → StreamMeets l d i → In c (of_stream i) → Asks l s c
      stream i h (here e) = by (Rank i) h.rank e
      stream i h (there (here e)) = by (Line i) h.line e
      stream i h (there (there (here e))) = by (Move i) h.move e
      stream i h (there (there (there (here e)))) = by (Hop i) h.hop e
      stream i h (there (there (there (there (here e))))) = by (Order i) h.order e
      stream i h (there (there (there (there (there (here e)))))) = by (Loading i) h.loading e
      stream i h (there (there (there (there (there (there (here e))))))) = by (Touched i) h.touched e
      stream i h (there (there (there (there (there (there (there x))))))) = elim x [ ]

      go : In c (conditions (sizes_of s).streams) → Asks l s c
      go (here e) = by Board m.board e
      go (there (here e)) = by Begins m.begins e
      go (there (there (here e))) = by Sizes-fit m.sizes e
      go (there (there (there (here e)))) = by Long m.long e
      go (there (there (there (there (here e))))) = by Words-fit m.words e
      go (there (there (there (there (there (here e)))))) = by Bounds-fit m.bounds e
      go (there (there (there (there (there (there (here e))))))) = by Instances m.instances e
      go (there (there (there (there (there (there (there (here e)))))))) = by Place-rank m.rank e
      go (there (there (there (there (there (there (there (there (here e))))))))) = by Increment m.increment e
      go (there (there (there (there (there (there (there (there (there (here e)))))))))) = by Processes m.processes e
      go (there (there (there (there (there (there (there (there (there (there k)))))))))) =
          let r = each_in of_stream (numbers (sizes_of s).streams) k in
          let b = numbers_in 0 (sizes_of s).streams r.mem in
          stream r.from (m.streams r.from (omega (arith, b.1))) r.is

  not_refused : refusal_of l s ≡ 0 ↔ Meets l s
  unfolding refusal_of
  not_refused = (λ e. meets_of (all_hold tries e), λ m. none_refuses tries (of_meets m))

-- ---- Accept

-- what is accepted is not refused
pub accepted_not_refused : (l : Limits) (s : List ℕ) → Accepts l s → refusal_of l s ≡ 0
accepted_not_refused l s e = sym (numbers_are l s).accept ∙ e

-- DEMAND 2: a description is accepted exactly if it meets the conditions
pub accepted_exactly : AcceptedExactly
unfolding accept
accepted_exactly l s = (
  λ e. (not_refused l s).0 (accepted_not_refused l s (ap accept_number e)),
  λ m. rw ((not_refused l s).1 m),
)

-- and refused by k exactly if the condition of k fails and those listed before it hold
pub refused_exactly : RefusedExactly
unfolding accept refusal_of
refused_exactly l s k = (
  λ e. let r = go (eqb (refusal_of l s) 0) (eqb-false (refusal_of l s) 0) e in first_fails (tries l s) r.0 r.1,
  λ f. back (refusal_of l s) (refuses_first (tries l s) f) (subst (λ (k : ℕ). 0 < k) f.number (numbered f.failed).0),
)
  where
    go : (b : Bool) → (b ≡ false → refusal_of l s ≡ 0 → ⊥)
        → cond b (Accepted (figures (description_of s)) (divisors (description_of s))) (Refused (refusal_of l s)) ≡ Refused k
        → (refusal_of l s ≡ k) × (0 < k)
    go true h e = absurd (let z : ◌≡◌ {A = ℕ} 0 1 = cc in omega arith)
    go false h e = let z : refusal_of l s ≡ k = cc in (z, positive (refusal_of l s) z (h refl))
      where
        positive : (r : ℕ) → r ≡ k → (r ≡ 0 → ⊥) → 0 < k
        positive r e n = omega arith

    back : (r : ℕ) → r ≡ k → 0 < k
        → cond (eqb r 0) (Accepted (figures (description_of s)) (divisors (description_of s))) (Refused r) ≡ Refused k
    back r e h = rw (ne_eqb r 0 (λ g. omega arith)) (ap Refused e)

-- ---- an accepted description has a stream

pub some_stream : (l : Limits) (s : List ℕ) → refusal_of l s ≡ 0 → 0 < length (streams_of (description_of s))
some_stream l s e = omega (arith, streams_length l s, ((not_refused l s).0 e).sizes.streams.0)
