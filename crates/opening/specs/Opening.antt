-- The refusals 20, 26, 21 and 22 of a memory, and what holds once there is none. Assumes nothing.
use Rattle.std.specs.Prelude.{◌≡◌, Bool, not, cond, List, [], ◌∷◌, ◌++◌, ℕ, ◌≤◌, ◌<◌, eqb, ltb, length, take}
use Rattle.std.proofs.Math.Path.{refl}
use Rattle.std.proofs.Common.{sym, ◌∙◌, ap, subst, arith, ne_eqb}
use Rattle.std.proofs.Math.Bool.{true, false}
use Rattle.std.proofs.lemmas.Bool.{not-false}
use Rattle.meaning.specs.declared.Description.{Description}
use Rattle.meaning.specs.declared.Figures.{Figures}
use Rattle.meaning.specs.Tests.{Test, ◌if◌, refusal}
use Rattle.meaning.specs.declared.Limits.{Limits}
use Rattle.meaning.specs.Limits.{gauge_limits, UpTo}
use Rattle.meaning.specs.Description.{description_of}
use Rattle.meaning.specs.Space.{count}
use Rattle.meaning.specs.Array.{array_of, process_count, stream_count, count_at, instance_at, on_pipe}
use Rattle.meaning.specs.Rules.{Memory, sound}
use Rattle.meaning.specs.Accept.{refusal_of, figures}
use Rattle.meaning.specs.Calls.{length_of, state_length, or_else, memory_tests, refused_by}
use Rattle.geometry.specs.Descriptions.{Laid, laid}
use Rattle.geometry.specs.UpTo.{by_gauge}
use Rattle.geometry.specs.Processes.{run_at}
use Rattle.addresses.specs.Through.{point_of}
use Rattle.decode.specs.Refusals.{passed}
use Rattle.declines.specs.Tests.{memory_lengths, memory_fits}
use Rattle.figures.specs.Shares.{Described, AllLanes, described}
use Rattle.survey.specs.declared.Survey.{Survey}
use Rattle.survey.specs.OfBytes.{SurveyOf}
use Rattle.layout.specs.Spans.{Spans}
use Rattle.body.specs.Fit.{Fit}
use Rattle.ports.specs.Layout.{Regular}
use Rattle.ports.specs.Rows.{row_of}
use Rattle.sound_rows.specs.Rows.{Single}
use Rattle.port_table.specs.declared.Size.{Size}
use Rattle.port_table.specs.PortsOf.{SizeOf, PortsOf, RowsFit, PartsFit}
use Rattle.sound.specs.States.{state_sound}
use Rattle.sound.specs.Meaning.{sound_is}
use Rattle.port_fits.specs.Instances.{count_is, count_most, instance_is}
use Rattle.port_fits.specs.Sizes.{size_of, regular, single, size_of_lem}
use Rattle.port_fits.specs.Fits.{rows_fit, parts_fit, on_total}
use Rattle.port_fits.specs.Lines.{lines_fit, lines_are}
use Rattle.opening.specs.declared.Opening.{Opening}

abbrev pub size_from : Description → Figures → Size
size_from d f = record { processes = f.processes; streams = d.sizes.streams; pipes = f.pipes }

-- what acceptance gives
pub record Grounds (d : Description) : Type 0 where
  pub described : Described d
  pub laid : Laid d
  pub regular : Regular (array_of d)
  pub single : Single (array_of d)
  pub size : SizeOf (array_of d) (size_of d)
  pub rows : (b : List ℕ) (n : ℕ) → PortsOf (array_of d) b → state_length d ≤ n → RowsFit n b (size_of d)
  pub parts : (b : List ℕ) → PortsOf (array_of d) b → PartsFit (length_of d) b (size_of d)
  pub on : (p i : ℕ) → p < process_count (array_of d) → i < stream_count (array_of d)
      → on_pipe (array_of d) p i ≡ ltb 0 (row_of (array_of d) p i).total
  pub lines : Fit d.sizes.streams d.sizes.lines d.lines
  pub lines_are : take d.sizes.lines d.lines ≡ (array_of d).lines
  pub counts : (p : ℕ) → p < process_count (array_of d) → count_at (array_of d) p ≡ count d.nest (point_of d p)
  pub counts_most : (p : ℕ) → p < process_count (array_of d) → count_at (array_of d) p ≤ 4096
  pub instances : (p : ℕ) → p < process_count (array_of d) → (f : ℕ) → f < count_at (array_of d) p
      → instance_at (array_of d) p f ≡ run_at d.nest (point_of d p) f

pub grounds : (s : List ℕ) → refusal_of gauge_limits s ≡ 0 → Grounds (description_of s)
grounds s ok =
    record {
      described = described s ok;
      laid = laid gauge_limits s ok;
      regular = regular s ok;
      single = single s ok;
      size = size_of_lem s ok;
      rows = λ b n. rows_fit s ok n;
      parts = λ b. parts_fit s ok;
      on = on_total s ok;
      lines = lines_fit s ok;
      lines_are = lines_are s ok;
      counts = count_is s ok;
      counts_most = count_most s ok;
      instances = instance_is s ok;
    }

-- lists of the right lengths
pub record Standing (d : Description) (z : Size) (state : List ℕ) : Type 0 where
  pub grounds : Grounds d
  pub size : z ≡ size_of d
  pub long : state_length d ≤ length state

module _ {d : Description} {z : Size} {state : List ℕ} (h : Standing d z state) {b : List ℕ} (p : PortsOf (array_of d) b) where
  pub rows_fit_in : RowsFit (length state) b z
  rows_fit_in = subst (RowsFit (length state) b) (sym h.size) (h.grounds.rows b (length state) p h.long)

  pub sound_by : state_sound b state z ≡ sound (array_of d) state
  sound_by =
      sound_is (array_of d) h.grounds.regular h.grounds.single p
      (subst (SizeOf (array_of d)) (sym h.size) h.grounds.size) state

-- nothing is refused: the port table is that of the array
pub record Stood (d : Description) (M : Memory) (b : List ℕ) (z : Size) : Type 0 where
  pub size : z ≡ size_of d
  pub table : PortsOf (array_of d) b
  pub waiting : length M.waiting ≡ length_of d
  pub received : length M.received ≡ length_of d
  pub state : state_length d ≤ length M.state
  pub sound : sound (array_of d) M.state ≡ true

-- the memory of a surveyed description: the survey is handed on, and the lanes are filled
pub record Opens (v : Survey) (M : Memory) (b w : List ℕ) (o : Opening) : Type 0 where
  pub survey_is : o.survey ≡ v
  pub stood : Stood v.description M b o.size
  pub lanes : AllLanes v.description w

-- by the bytes of a description
pub record Opened (s : List ℕ) (M : Memory) (b : List ℕ) (z : Size) : Type 0 where
  pub accepted : refusal_of gauge_limits s ≡ 0
  pub stood : Stood (description_of s) M b z

-- what an opening hands on: the survey, the port table of the array and the words of its processes
pub record Answered (s : List ℕ) (M : Memory) (b w : List ℕ) (o : Opening) : Type 0 where
  pub opened : Opened s M b o.size
  pub survey : SurveyOf s o.survey
  pub spans : Spans (description_of s).nest w

-- ---- tests one after the other

module _ (d : Description) (M : Memory) where
  abbrev lengths : List Test
  lengths = memory_lengths (length_of d) (state_length d) (length M.waiting) (length M.received) (length M.state)

  abbrev sound_test : List Test
  sound_test = (22 if not (sound (array_of d) M.state)) ∷ []

  -- 22 comes last
  lengths_first : refusal (memory_tests d M) ≡ or_else (refusal lengths) (refusal sound_test)
  unfolding refusal
  lengths_first = go (not (eqb (length M.waiting) (length_of d))) (not (eqb (length M.received) (length_of d)))
      (ltb (length M.state) (state_length d))
    where
      go : (a b c : Bool) → refusal ((20 if a) ∷ (26 if b) ∷ (21 if c) ∷ sound_test)
          ≡ or_else (refusal ((20 if a) ∷ (26 if b) ∷ (21 if c) ∷ [])) (refusal sound_test)
      go true b c = refl
      go false true c = refl
      go false false true = refl
      go false false false = refl

  -- and a call's own tests after those of the memory
  memory_first : (ts : List Test) → refusal (memory_tests d M ++ ts) ≡ or_else (refusal (memory_tests d M)) (refusal ts)
  unfolding refusal
  memory_first ts =
      go (not (eqb (length M.waiting) (length_of d))) (not (eqb (length M.received) (length_of d)))
      (ltb (length M.state) (state_length d)) (not (sound (array_of d) M.state))
    where
      go : (a b c e : Bool) → refusal ((20 if a) ∷ (26 if b) ∷ (21 if c) ∷ (22 if e) ∷ ts)
          ≡ or_else (refusal ((20 if a) ∷ (26 if b) ∷ (21 if c) ∷ (22 if e) ∷ [])) (refusal ts)
      go true b c e = refl
      go false true c e = refl
      go false false true e = refl
      go false false false true = refl
      go false false false false = refl

pub own_last : (l : Limits) (s : List ℕ) (M : Memory) (ts : List Test)
    → refused_by l s (memory_tests (description_of s) M ++ ts) ≡ or_else (refused_by l s (memory_tests (description_of s) M)) (refusal ts)
own_last l s M ts = ap (or_else (refusal_of l s)) (memory_first (description_of s) M ts) ∙ go (eqb (refusal_of l s) 0) refl
  where
    go : (b : Bool) → eqb (refusal_of l s) 0 ≡ b
        → cond b (or_else (refusal (memory_tests (description_of s) M)) (refusal ts)) (refusal_of l s)
        ≡ or_else (cond b (refusal (memory_tests (description_of s) M)) (refusal_of l s)) (refusal ts)
    go true e = refl
    go false e = rw e refl

-- ---- the code's figures

module _ (d : Description) {f : Figures} (e : f ≡ figures d) where
  pub size_is : size_from d f ≡ size_of d
  size_is = ap (size_from d) e

  module _ (M : Memory) {n : ℕ}
      (r : n ≡ refusal (memory_lengths f.elements f.words (length M.waiting) (length M.received) (length M.state))) where
    own : n ≡ refusal (lengths d M)
    own = r ∙ ap (λ (f : Figures).
        refusal (memory_lengths f.elements f.words (length M.waiting) (length M.received) (length M.state))) e

    pub lengths_hold : n ≡ 0
        → (length M.waiting ≡ length_of d) × (length M.received ≡ length_of d) × (state_length d ≤ length M.state)
    lengths_hold z = memory_fits (length_of d) (state_length d) _ _ _ (sym own ∙ z)

    -- a length is refused
    pub lengths_refused : (n ≡ 0 → ⊥) → n ≡ refusal (memory_tests d M)
    lengths_refused g = sym (lengths_first d M ∙ rw (← own, ne_eqb n 0 g) refl)

    -- none is: 22 or nothing
    module _ (h : n ≡ 0) where
      pub lengths_passed : {k : ℕ} → k ≡ refusal (sound_test d M) → k ≡ refusal (memory_tests d M)
      lengths_passed ke = ke ∙ sym (lengths_first d M ∙ rw (← own, h) refl)

      pub stands_lem : {b : List ℕ} {z : Size} → z ≡ size_of d → 0 ≡ refusal (sound_test d M) → PortsOf (array_of d) b → Stood d M b z
      stands_lem ze ke table =
          let l = lengths_hold h in
          record {
            size = ze;
            table = table;
            waiting = l.0;
            received = l.1;
            state = l.2;
            sound = not-false _ (passed 22 _ _ (λ g. omega arith) (sym ke)).0;
          }

-- ---- the whole opening

module _ (l : Limits) (s : List ℕ) (M : Memory) where
  -- the tests of the memory on the description of the bytes
  abbrev tests : List Test
  tests = memory_tests (description_of s) M

  pub accepted_number : {n : ℕ} {d : Description} → refusal_of l s ≡ 0 → d ≡ description_of s → n ≡ refusal (memory_tests d M)
      → n ≡ refused_by l s tests
  accepted_number ok e h = h ∙ ap (λ (d : Description). refusal (memory_tests d M)) e ∙ rw ok refl

  pub refused_number : {n : ℕ} → n ≡ refusal_of l s → (n ≡ 0 → ⊥) → n ≡ refused_by l s tests
  refused_number {n} e g = rw (← e, ne_eqb n 0 g) refl

module _ {l : Limits} (u : UpTo l gauge_limits) (s : List ℕ) (M : Memory) {b w lanes : List ℕ} where
  pub opened : {v : Survey} {o : Opening} → refusal_of l s ≡ 0 → SurveyOf s v → Spans v.description.nest w → Opens v M b lanes o
      → Answered s M b w o
  opened {v} {o} ok h laid k =
      record {
        opened = record { accepted = by_gauge u s ok; stood = subst (λ (d : Description). Stood d M b o.size) h.description_is k.stood };
        survey = subst (SurveyOf s) (sym k.survey_is) h;
        spans = subst (λ (d : Description). Spans d.nest w) h.description_is laid;
      }

pub lanes_are : {s : List ℕ} {v : Survey} {M : Memory} {b lanes : List ℕ} {o : Opening} → SurveyOf s v → Opens v M b lanes o
    → AllLanes (description_of s) lanes
lanes_are {lanes = lanes} h k = subst (λ (d : Description). AllLanes d lanes) h.description_is k.lanes
