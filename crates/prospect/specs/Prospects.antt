-- What a prospect holds, and that its answer to a vector is Accept's. Assumes nothing.
use Rattle.std.specs.Prelude.{◌≡◌, refl, Bool, true, false, cond, ℕ, suc, ◌+◌, ◌≤◌, ◌<◌, T, get_or, drop, pos}
use Rattle.std.proofs.Math.Path.{sym, ap₂}
use Rattle.std.proofs.Common.{◌∙◌, ap, subst, drop_of_length-le, drop-cons, get_or-take}
use mathlib.Core.List.{List, [], ◌∷◌, ◌++◌, map}
use Rattle.std.proofs.Math.Decide.{ℕ_discrete}
use native.Mathlib.Omega.{arith}
use Rattle.std.proofs.Math.ListN.{length}
use borrow.Author.Tests.{eq-eqb, ne_eqb}
use Rattle.integers.specs.Words.{eq_z}
use Rattle.integers.specs.Vectors.{dot}
use Rattle.integers.specs.declared.V3.{V3}
use Rattle.meaning.specs.declared.Limits.{Limits}
use Rattle.meaning.specs.declared.Stream.{Stream}
use Rattle.meaning.specs.declared.Description.{Description}
use Rattle.meaning.specs.Lists.{numbers}
use Rattle.meaning.specs.Tests.{Test, refusal}
use Rattle.meaning.specs.Loops.{increment}
use Rattle.meaning.specs.Description.{no_stream, streams_of, written}
use Rattle.meaning.specs.Accept.{refused10, stream_tests, tests_from}
use Rattle.meaning.specs.Calls.{or_else}
use Rattle.meaning.specs.HowManyWork.{stepped, with_nest}
use Rattle.lists.specs.Rows.{length_numbers, get_d_first}
use Rattle.geometry.specs.Tests.{numbered, none_applies, one_applies}
use Rattle.choices.specs.Turning.{still_by, processes_same}
use Rattle.choices.specs.Answers.{later_tests}
use Rattle.vectors.specs.Within.{Within}
use Rattle.decode.specs.Refusals.{accepts}
use Rattle.outlook.specs.declared.Outlook.{Outlook}
use Rattle.outlook.specs.Outlooks.{OutlookOf, no_outlook, answer_by as answer_of, answer_by_lem}
use Rattle.prospect.specs.declared.Prospect.{Prospect}

-- ---- what it holds

-- the outlooks of the first m streams, and of all
abbrev pub FirstOutlooks : Description → ℕ → List Outlook → Type 0
FirstOutlooks d m os =
    (i : ℕ) → i < m → OutlookOf d.nest (written d i) (get_or d.streams i no_stream) (get_or os i no_outlook)

abbrev pub OutlooksOf : Description → List Outlook → Type 0
OutlooksOf d = FirstOutlooks d d.sizes.streams

pub record ProspectOf (l : Limits) (d : Description) (p : Prospect) : Type 0 where
  pub increment_is : p.increment ≡ increment d.nest
  pub increment_small : Within 200 p.increment
  pub crowded_is : p.crowded ≡ refused10 l d.nest
  pub streams_is : p.streams ≡ d.sizes.streams
  pub hop_is : p.hop ≡ l.hop
  pub few : d.sizes.streams ≤ 6
  pub in_use : length (streams_of d) ≡ d.sizes.streams
  pub outlooks : p.crowded ≡ false → OutlooksOf d p.outlooks

-- ---- the answer

-- the first answer of some streams that is not 0
unfoldable pub first_by : ℕ → V3 → List Outlook → ℕ
first_by hop v [] = 0
first_by hop v (o ∷ os) = or_else (answer_of o hop v) (first_by hop v os)

abbrev pub used : Prospect → List Outlook
used p = map (λ i. get_or p.outlooks i no_outlook) (numbers p.streams)

pub used_length : (p : Prospect) → length (used p) ≡ p.streams
used_length p = length_numbers (λ i. get_or p.outlooks i no_outlook) 0 p.streams

pub used_at_lem : (p : Prospect) (i : ℕ) → i < p.streams → get_or (used p) i no_outlook ≡ get_or p.outlooks i no_outlook
used_at_lem p = get_d_first (λ i. get_or p.outlooks i no_outlook) no_outlook p.streams

abbrev pub answer_by : Prospect → V3 → ℕ
answer_by p v = cond (eq_z (dot v p.increment) (pos 0)) 8 (cond p.crowded 10 (first_by p.hop v (used p)))

-- what it is found by
pub record Answering (p : Prospect) (v : V3) : Type 0 where
  pub vector : Within 8 v
  pub increment : Within 200 p.increment
  pub few : p.streams ≤ 6
  pub lines : p.crowded ≡ false → (i : ℕ) → i < p.streams → Within 200 (get_or p.outlooks i no_outlook).line

pub answering : {l : Limits} {d : Description} {p : Prospect} {v : V3} → ProspectOf l d p → Within 8 v → Answering p v
answering h w =
    record {
      vector = w;
      increment = h.increment_small;
      few = omega (arith, h.few, h.streams_is);
      lines = λ e i m. (h.outlooks e i (omega (arith, h.streams_is))).line_small;
    }

-- one stream after another, as a loop comes by them
module _ (hop : ℕ) (v : V3) (os : List Outlook) where
  pub first_end : (i : ℕ) → length os ≤ i → 0 ≡ first_by hop v (drop i os)
  unfolding first_by
  first_end i h = rw (drop_of_length-le os h)

  pub first_here : (i : ℕ) {o : Outlook} {a : ℕ} → i < length os → o ≡ get_or os i no_outlook → a ≡ answer_of o hop v → (a ≡ 0 → ⊥)
      → a ≡ first_by hop v (drop i os)
  unfolding first_by
  first_here i {o} {a} h e f n =
      rw (drop-cons os i no_outlook h, sym e, sym f, ne_eqb a 0 n)

  pub first_next : (i : ℕ) {o : Outlook} {a : ℕ} → i < length os → o ≡ get_or os i no_outlook → a ≡ answer_of o hop v → a ≡ 0
      → first_by hop v (drop (suc i) os) ≡ first_by hop v (drop i os)
  unfolding first_by
  first_next i {o} {a} h e f z =
      rw (drop-cons os i no_outlook h, sym e, sym f, z)

-- ---- it is Accept's

both : (a b : List Test) → T (numbered a) → or_else (refusal a) (refusal b) ≡ refusal (a ++ b)
both a b t = go (ℕ_discrete (refusal a) 0)
  where
    go : Dec (refusal a ≡ 0) → or_else (refusal a) (refusal b) ≡ refusal (a ++ b)
    go (yes e) = ap (λ (c : Bool). cond c (refusal b) (refusal a)) (eq-eqb (refusal a) 0 e) ∙ none_applies a b t e
    go (no f) = ap (λ (c : Bool). cond c (refusal b) (refusal a)) (ne_eqb (refusal a) 0 f) ∙ one_applies a b f

module _ (l : Limits) (d : Description) (v : V3) where
  abbrev other : Description
  other = with_nest d (stepped d.nest v)

  streams_by : (i : ℕ) (ss : List Stream) (os : List Outlook) → length os ≡ length ss
      → ((j : ℕ) → j < length ss → OutlookOf d.nest (written d (i + j)) (get_or ss j no_stream) (get_or os j no_outlook))
      → first_by l.hop v os ≡ refusal (tests_from l other i ss)
  unfolding first_by tests_from numbered
  streams_by i [] [] e h = accepts
  streams_by i [] (o ∷ os) e h = absurd (omega arith)
  streams_by i (s ∷ ss) [] e h = absurd (omega arith)
  streams_by i (s ∷ ss) (o ∷ os) e h =
      ap₂ or_else (here_is (h 0 (omega arith))) (streams_by (suc i) ss os (omega arith) (λ j m. there_is j (h (suc j) (omega arith))))
      ∙ both (stream_tests l (stepped d.nest v) (written d i) s) (tests_from l other (suc i) ss) tt
    where
      here_is : OutlookOf d.nest (written d (i + 0)) s o
          → answer_of o l.hop v ≡ refusal (stream_tests l (stepped d.nest v) (written d i) s)
      here_is k =
          let z : i + 0 ≡ i = omega arith in
          answer_by_lem l (subst (λ (m : ℕ). OutlookOf d.nest (written d m) s o) z k) v

      there_is : (j : ℕ) → OutlookOf d.nest (written d (i + suc j)) (get_or ss j no_stream) (get_or os j no_outlook)
          → OutlookOf d.nest (written d (suc i + j)) (get_or ss j no_stream) (get_or os j no_outlook)
      there_is j k =
          let z : i + suc j ≡ suc i + j = omega arith in
          subst (λ (m : ℕ). OutlookOf d.nest (written d m) (get_or ss j no_stream) (get_or os j no_outlook)) z k

  pub answer_is : {p : Prospect} → ProspectOf l d p → answer_by p v ≡ refusal (later_tests l d v)
  unfolding refusal
  answer_is {p} h =
      rw (still_by d.nest v, processes_same d.nest v l, sym h.increment_is, sym h.crowded_is) (go p.crowded refl)
    where
      used_is : length (used p) ≡ length (streams_of d)
      used_is = used_length p ∙ h.streams_is ∙ sym h.in_use

      stream : p.crowded ≡ false → (j : ℕ) → j < length (streams_of d)
          → OutlookOf d.nest (written d (0 + j)) (get_or (streams_of d) j no_stream) (get_or (used p) j no_outlook)
      stream e j m =
          let k : j < d.sizes.streams = omega (arith, h.in_use) in
          let z : 0 + j ≡ j = omega arith in
          let w : j < p.streams = omega (arith, h.streams_is) in
          rw (z, get_or-take d.sizes.streams d.streams j no_stream k, used_at_lem p j w)
          (h.outlooks e j k)

      streams : p.crowded ≡ false → first_by p.hop v (used p) ≡ refusal (tests_from l other 0 (streams_of d))
      streams e =
          ap (λ (k : ℕ). first_by k v (used p)) h.hop_is ∙ streams_by 0 (streams_of d) (used p) used_is (λ j m. stream e j m)

      go : (b : Bool) → p.crowded ≡ b
          → cond (eq_z (dot v p.increment) (pos 0)) 8 (cond b 10 (first_by p.hop v (used p)))
          ≡ cond (eq_z (dot v p.increment) (pos 0)) 8 (cond b 10 (refusal (tests_from l other 0 (streams_of d))))
      go true e = refl
      go false e = ap (λ (a : ℕ). cond (eq_z (dot v p.increment) (pos 0)) 8 a) (streams e)
