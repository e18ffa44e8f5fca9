-- The lanes of all streams: a block of words for each of them. Assumes nothing.
use Rattle.std.specs.Prelude.{◌≡◌, ◌⊎◌, Bool, List, ℕ, ◌+◌, ◌*◌, ◌≤◌, ◌<◌, length, get_or, drop, replicate}
use Rattle.std.proofs.Common.{sym, ◌∙◌, ap, subst, subst₂, inl, inr, eq-or-lt_of_le, mul-le-mul_left, arith, length-drop, get_or-take}
use Rattle.std.proofs.Common.{get_or-drop, length-take-le}
use Rattle.std.proofs.lemmas.List.{length-replicate}
use borrow.Rule.Slice.PartMut.{put_mid, mid_of, same_len_mid}
use Rattle.meaning.specs.declared.Nest.{Nest}
use Rattle.meaning.specs.declared.Stream.{Stream}
use Rattle.meaning.specs.Limits.{gauge_limits}
use Rattle.meaning.specs.Space.{processes}
use Rattle.meaning.specs.Description.{no_stream}
use Rattle.lists.specs.Stores.{replicated}
use Rattle.layout.specs.Parts.{put_before, put_in, put_after}
use Rattle.layout.specs.Spans.{Spans}
use Rattle.survey.specs.declared.Flow.{Flow}
use Rattle.lanes.specs.Lanes.{Lanes, One, One.nobody, One.somebody}
use Rattle.lanes.specs.Flow.{Flows, LanesIn, Seen}

-- the words of a stream's lanes, and of all of them
abbrev pub own_lane_words : ℕ
own_lane_words = 3 * gauge_limits.processes

abbrev pub lane_words : ℕ
lane_words = 6 * own_lane_words

pub lanes_of : {n n' : Nest} {s s' : Stream} {l : List ℕ} → n ≡ n' → s ≡ s' → LanesIn n s l → LanesIn n' s' l
lanes_of {l} e f = subst₂ (λ (n : Nest) (s : Stream). LanesIn n s l) e f

-- with them, what the later functions look at
pub seen_of : {f : Flow} {n : Nest} {s : Stream} {spans l : List ℕ} → Flows f → f.nest ≡ n → f.stream ≡ s → Spans n spans
    → 3072 ≤ length spans → LanesIn n s l → Seen f spans l
seen_of {f} {n} {s} {spans} {l} flows en es of long has =
    record {
      flows = flows;
      of_spans = subst (λ (n : Nest). Spans n spans) (sym en) of;
      long = long;
      of_lanes = lanes_of (sym en) (sym es) has;
    }

-- the block of stream i
abbrev pub block_of : ℕ → List ℕ → List ℕ
block_of i w = mid_of (3072 * i) 3072 w

-- the lanes of the first m of some streams, and zeros past them
pub record LanesOf (n : Nest) (ss : List Stream) (m : ℕ) (w : List ℕ) : Type 0 where
  pub words : length w ≡ lane_words
  pub lanes : (i : ℕ) → i < m → LanesIn n (get_or ss i no_stream) (block_of i w)
  pub rest : (k : ℕ) → 3072 * m ≤ k → get_or w k 0 ≡ 0

-- a word of a block
block_at : (i : ℕ) (w : List ℕ) (k : ℕ) → k < 3072 → get_or (block_of i w) k 0 ≡ get_or w (3072 * i + k) 0
block_at i w k l = get_or-take 3072 (drop (3072 * i) w) k 0 l ∙ get_or-drop (3072 * i) w k 0

block_length : (i : ℕ) (w : List ℕ) → 3072 * i + 3072 ≤ length w → length (block_of i w) ≡ 3072
block_length i w h = length-take-le 3072 (drop (3072 * i) w) (omega (arith, length-drop (3072 * i) w))

-- words that are the same hold the same lanes
same_lanes : {E : ℕ → ℕ} {C : ℕ → Bool} {m : Bool} {n : ℕ} {l l' : List ℕ} → n ≤ 1024 → length l' ≡ 3072
    → ((k : ℕ) → k < 3072 → get_or l' k 0 ≡ get_or l k 0) → Lanes E C m n n l → Lanes E C m n n l'
same_lanes {E} {C} {n = n} {l} {l'} few w same h =
    record {
      words = w;
      entries = λ p b. same p (omega arith) ∙ h.entries p b;
      held = λ e b. same (2048 + e) (omega arith) ∙ h.held e b;
      one = λ i e b. go e (h.one i e b) (same (1024 + e) (omega arith));
      running = λ i p b t. same (1024 + p) (omega arith) ∙ h.running i p b t;
    }
  where
    go : (e : ℕ) {w w' : ℕ} → One E C n e w → w' ≡ w → One E C n e w'
    go e (nobody z s) r = nobody (r ∙ z) s
    go e (somebody p z b t q) r = somebody p (r ∙ z) b t q

-- words that are all zero
pub zero_words : {w : List ℕ} → w ≡ replicate lane_words 0 → length w ≡ lane_words
zero_words e = ap length e ∙ length-replicate {A = ℕ} lane_words 0

-- ---- stream by stream

pub lanes_none : (n : Nest) (ss : List Stream) {w : List ℕ} → w ≡ replicate lane_words 0 → LanesOf n ss 0 w
lanes_none n ss {w} e =
    record {
      words = zero_words e;
      lanes = λ i l. absurd (omega arith);
      rest = λ k l. ap (λ (w : List ℕ). get_or w k 0) e ∙ replicated 0 lane_words k;
    }

-- the part of the list that stream i is lent, of k words from its first one on
module _ {n : Nest} {ss : List Stream} {i : ℕ} {w : List ℕ} (lt : i < 6) (h : LanesOf n ss i w) {k : ℕ} (wide : k ≡ 3072) where
  room : 3072 * i + 3072 ≤ length w
  room = omega (arith, h.words)

  pub part_length : length (mid_of (3072 * i) k w) ≡ 3072
  part_length = ap (λ (k : ℕ). length (mid_of (3072 * i) k w)) wide ∙ block_length i w room

  -- it comes as zeros
  pub part_zeros : (j : ℕ) → j < 3072 → get_or (mid_of (3072 * i) k w) j 0 ≡ 0
  part_zeros j l =
      ap (λ (k : ℕ). get_or (mid_of (3072 * i) k w) j 0) wide ∙ block_at i w j l ∙ h.rest (3072 * i + j) (omega arith)

  -- once it holds the lanes of the stream, there are those of a further one
  module _ (few : length (processes n) ≤ 1024) (ys : List ℕ) (new : LanesIn n (get_or ss i no_stream) ys) where
    abbrev w' : List ℕ
    w' = put_mid (3072 * i) k w ys

    words' : length w' ≡ lane_words
    words' = same_len_mid (3072 * i) k w ys (new.words ∙ sym part_length) ∙ h.words

    block_long : (j : ℕ) → j < 6 → length (block_of j w') ≡ 3072
    block_long j l = block_length j w' (omega (arith, words'))

    pub lanes_next : LanesOf n ss (i + 1) w'
    lanes_next =
        record {
          words = words';
          lanes = λ j l. go j (eq-or-lt_of_le (let b : j ≤ i = omega arith in b));
          rest = λ j l. put_after (3072 * i) k w ys 0 (omega (arith, room)) j (new.words ∙ sym wide) (omega arith)
              ∙ h.rest j (omega arith);
        }
      where
        go : (j : ℕ) → (j ≡ i) ⊎ (j < i) → LanesIn n (get_or ss j no_stream) (block_of j w')
        go j (inl e) =
            rw e (same_lanes few (block_long i lt)
            (λ q l. block_at i w' q l ∙ put_in (3072 * i) k w ys 0 (omega (arith, room)) q (omega (arith, new.words))) new)
        go j (inr b) =
            same_lanes few (block_long j (omega arith))
            (λ q l. block_at j w' q l
            ∙ put_before (3072 * i) k w ys 0 (omega (arith, room)) (3072 * j + q) (omega (arith, mul-le-mul_left 3072 b))
            ∙ sym (block_at j w q l)) (h.lanes j b)

-- the part of the list from which stream i is read
pub part_lanes : {n : Nest} {ss : List Stream} {m : ℕ} {w : List ℕ} → LanesOf n ss m w → (i : ℕ) → i < m → {k : ℕ} → k ≡ 3072
    → LanesIn n (get_or ss i no_stream) (mid_of (3072 * i) k w)
part_lanes {n} {ss} {w} h i l e = subst (λ (k : ℕ). LanesIn n (get_or ss i no_stream) (mid_of (3072 * i) k w)) (sym e) (h.lanes i l)
