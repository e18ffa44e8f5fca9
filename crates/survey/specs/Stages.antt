-- The refusals in stages, each a test or two and the stage after them; lists of tests one after the other; stream by stream. Assumes
-- nothing.
use Rattle.std.specs.Prelude.{◌≡◌, Bool, true, false, List, [], ◌∷◌, ◌++◌, ℕ, ◌+◌, ◌≤◌, ◌<◌, T, drop}
use Rattle.std.proofs.Math.Path.{refl, sym}
use Rattle.std.proofs.Common.{◌∙◌, arith, drop_of_length-le, get_or-take, ltb-false}
use Rattle.std.proofs.Math.Numerals.{add-one}
use Rattle.std.proofs.Math.ListN.{length, get_or}
use Rattle.std.proofs.Math.Seq.{drop-cons}
use Rattle.meaning.specs.declared.Limits.{Limits}
use Rattle.meaning.specs.declared.Nest.{Nest}
use Rattle.meaning.specs.declared.Stream.{Stream}
use Rattle.meaning.specs.declared.Description.{Description}
use Rattle.meaning.specs.Tests.{Test, ◌if◌, refusal}
use Rattle.meaning.specs.Loops.{instances}
use Rattle.meaning.specs.Space.{processes}
use Rattle.meaning.specs.Description.{description_of, streams_of, no_stream, written}
use Rattle.meaning.specs.Accept.{refused33, refused6, refused7, refused8, refused10, refused13, refused14, refused15, refused16, refused17}
use Rattle.meaning.specs.Accept.{stream_tests, tests_from, refusal_of}
use Rattle.meaning.specs.Walk.{walk_tests, walk_refusal}
use Rattle.geometry.specs.Tests.{numbered, none_applies, one_applies}
use Rattle.decode.specs.Refusals.{first_tests, refuses, passes, passed}

-- ---- the stages

-- 6, 7, 8 and 10
abbrev pub layout_tests : Limits → Nest → List Test
layout_tests l n = (6 if refused6 l n) ∷ (7 if refused7 n) ∷ (8 if refused8 n) ∷ (10 if refused10 l n) ∷ []

-- 16 and 17, 15 to 17, and 13 to 17; 11 to 17 are `stream_tests`
abbrev pub late_tests : Nest → Stream → List Test
late_tests n s = (16 if refused16 n s) ∷ (17 if refused17 n s) ∷ []

abbrev pub order_tests : Nest → Bool → Stream → List Test
order_tests n w s = (15 if refused15 w n s) ∷ late_tests n s

abbrev pub move_tests : Limits → Nest → Bool → Stream → List Test
move_tests l n w s = (13 if refused13 n s) ∷ (14 if refused14 l n s) ∷ order_tests n w s

-- 33 and 1 to 5
abbrev pub early_tests : Limits → List ℕ → List Test
early_tests l s = (33 if refused33 l) ∷ first_tests s

-- 33 and 1 to 10, after those
pub walk_tests_lem : (l : Limits) (s : List ℕ) → refusal (early_tests l s ++ layout_tests l (description_of s).nest) ≡ walk_refusal l s
unfolding description_of walk_refusal
walk_tests_lem l s = refl

-- all, after those
pub all_tests_lem : (l : Limits) (s : List ℕ)
    → refusal (walk_tests l s ++ tests_from l (description_of s) 0 (streams_of (description_of s))) ≡ refusal_of l s
unfolding refusal_of
all_tests_lem l s = refl

-- the instances and the processes are within the limits
pub few : (l : Limits) (n : Nest) → refusal (layout_tests l n) ≡ 0 → length (instances n) ≤ l.instances
few l n e = ltb-false l.instances (length (instances n)) (passed 6 (refused6 l n) _ (λ g. omega arith) e).0

pub few_processes : (l : Limits) (n : Nest) → refusal (layout_tests l n) ≡ 0 → length (processes n) ≤ l.processes
few_processes l n e =
    let p6 = passed 6 (refused6 l n) _ (λ g. omega arith) e in
    let p7 = passed 7 (refused7 n) _ (λ g. omega arith) p6.1 in
    let p8 = passed 8 (refused8 n) _ (λ g. omega arith) p7.1 in
    ltb-false l.processes (length (processes n)) (passed 10 (refused10 l n) _ (λ g. omega arith) p8.1).0

-- a stage, from what a call ensures of its flag f: a test that applies, and one that does not
pub applies : (n : ℕ) {f b : Bool} (l : List Test) → f ≡ b → f ≡ true → n ≡ refusal ((n if b) ∷ l)
applies n l e t = refuses n l (sym e ∙ t)

pub skips : {r : ℕ} (n : ℕ) {f b : Bool} (l : List Test) → f ≡ b → f ≡ false → r ≡ refusal l → r ≡ refusal ((n if b) ∷ l)
skips n l e t h = passes n l (sym e ∙ t) h

-- ---- one list of tests after another

-- from what a call ensures of its answer q: none of the first list applies, or one does
pub goes_on : {q r : ℕ} (a b : List Test) → T (numbered a) → q ≡ refusal a → q ≡ 0 → r ≡ refusal b → r ≡ refusal (a ++ b)
goes_on a b t e z h = h ∙ none_applies a b t (sym e ∙ z)

pub stops : {q : ℕ} (a b : List Test) → q ≡ refusal a → (q ≡ 0 → ⊥) → q ≡ refusal (a ++ b)
stops a b e f = e ∙ one_applies a b (λ z. f (e ∙ z))

-- the streams after 33 and 1 to 10
module _ (l : Limits) (s : List ℕ) {q : ℕ} (e : q ≡ walk_refusal l s) where
  abbrev of_streams : List Test
  of_streams = tests_from l (description_of s) 0 (streams_of (description_of s))

  pub walk_goes_on : {r : ℕ} → q ≡ 0 → r ≡ refusal of_streams → r ≡ refusal_of l s
  unfolding numbered walk_refusal
  walk_goes_on z h = goes_on (walk_tests l s) of_streams tt e z h ∙ all_tests_lem l s

  pub walk_stops : (q ≡ 0 → ⊥) → q ≡ refusal_of l s
  unfolding walk_refusal
  walk_stops f = stops (walk_tests l s) of_streams e f ∙ all_tests_lem l s

-- ---- stream by stream

-- the refusal of the streams from i on
module _ (l : Limits) (d : Description) where
  abbrev pub from : ℕ → ℕ
  from i = refusal (tests_from l d i (drop i (streams_of d)))

  module _ (in_use : length (streams_of d) ≡ d.sizes.streams) where
    pub streams_end : (i : ℕ) → d.sizes.streams ≤ i → 0 ≡ from i
    unfolding tests_from refusal
    streams_end i h = let k : length (streams_of d) ≤ i = omega (arith, in_use) in rw (drop_of_length-le (streams_of d) k)

    module _ (i : ℕ) (h : i < d.sizes.streams) {s : Stream} (e : s ≡ get_or d.streams i no_stream) where
      tests : List Test
      tests = stream_tests l d.nest (written d i) s

      split : refusal (tests ++ tests_from l d (i + 1) (drop (i + 1) (streams_of d))) ≡ from i
      unfolding tests_from tests
      split =
          let k : i < length (streams_of d) = omega (arith, in_use) in
          let at : s ≡ get_or (streams_of d) i no_stream = e ∙ sym (get_or-take d.sizes.streams d.streams i no_stream h) in
          rw (at, add-one i, drop-cons (streams_of d) i no_stream k)

      -- one stream is passed, or refused
      pub stream_passed : {r : ℕ} → r ≡ refusal (stream_tests l d.nest (written d i) s) → r ≡ 0 → from (i + 1) ≡ from i
      unfolding numbered tests
      stream_passed g z = goes_on tests (tests_from l d (i + 1) (drop (i + 1) (streams_of d))) tt g z refl ∙ split

      pub stream_refused : {r : ℕ} → r ≡ refusal (stream_tests l d.nest (written d i) s) → (r ≡ 0 → ⊥) → r ≡ from i
      unfolding tests
      stream_refused g f = stops tests (tests_from l d (i + 1) (drop (i + 1) (streams_of d))) g f ∙ split
