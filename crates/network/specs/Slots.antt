-- The words of a state as the network sees them: by pipe and place. A slot has at most one word, and different slots have different words,
-- so that writing one changes no other. Assumes nothing.
use Rattle.std.specs.Prelude.{◌≡◌, cond, List, ℕ, zero, suc, ◌+◌, ◌≤◌, ◌<◌, ltb, get_or}
use Rattle.std.proofs.Math.Path.{refl}
use Rattle.std.proofs.Common.{sym, ◌∙◌, ap, ap₂, subst, le_refl, arith, lt-ltb, le-ltb}
use Rattle.meaning.specs.Array.{Array, process_count, pipe_number, pipe_at, stops_on, elements_on, part_start, pipe_through}
use Rattle.meaning.specs.State.{Word, Firings, Taken, Given, Hand, Keep, Place, Sent, Received, End, read}
use Rattle.meaning.specs.Rules.{process_on, stream_on, taken_out, link_place}
use Rattle.abstract_network.specs.Cases.{Order, less, at_least, order}
use Rattle.abstract_network.specs.Counters.{Step, put, get, fire, Counts}
use Rattle.abstract_network.specs.Words.{Words}
use Rattle.network.specs.Layout.{Live}
use Rattle.network.specs.Wiring.{Wired, stop_pipe, HasPort, has_port_lem, port_is, place_at}

-- of pipe q what was sent; of its place k what was taken out of the link there, what was given, hand, keep, and the link's places; of
-- process p its firings
pub data Slot : Type 0 where
  sent : ℕ → Slot
  taken : ℕ → ℕ → Slot
  given : ℕ → ℕ → Slot
  fired : ℕ → Slot
  hand : ℕ → ℕ → Slot
  kept : ℕ → ℕ → Slot
  place : ℕ → ℕ → ℕ → Slot

-- slots are told apart by what they are, by pipe, place and number
abbrev pub sort : Slot → ℕ
sort (sent q) = 0
sort (taken q k) = 1
sort (given q k) = 2
sort (fired p) = 3
sort (hand q k) = 4
sort (kept q k) = 5
sort (place q k i) = 6

abbrev pub first : Slot → ℕ
first (sent q) = q
first (taken q k) = q
first (given q k) = q
first (fired p) = p
first (hand q k) = q
first (kept q k) = q
first (place q k i) = q

abbrev pub second : Slot → ℕ
second (sent q) = 0
second (taken q k) = k
second (given q k) = k
second (fired p) = 0
second (hand q k) = k
second (kept q k) = k
second (place q k i) = k

abbrev pub third : Slot → ℕ
third (sent q) = 0
third (taken q k) = 0
third (given q k) = 0
third (fired p) = 0
third (hand q k) = 0
third (kept q k) = 0
third (place q k i) = i

-- the slot of a step's counter
abbrev pub counter : Step → Slot
counter (put q zero) = sent q
counter (put q (suc k)) = given q k
counter (get q k) = taken q k
counter (fire p) = fired p

module _ (A : Array) where
  -- a slot's word
  abbrev pub word_of : Slot → Word
  word_of (sent q) = Sent q
  word_of (taken q k) = taken_out A q k
  word_of (given q k) = Given (process_on A q k) (stream_on A q)
  word_of (fired p) = Firings p
  word_of (hand q k) = Hand (process_on A q k) (stream_on A q)
  word_of (kept q k) = Keep (process_on A q k) (stream_on A q)
  word_of (place q k i) = link_place A q k i

  -- the slots that have one
  abbrev pub Has : Slot → Type 0
  Has (sent q) = q < pipe_number A
  Has (taken q k) = (q < pipe_number A) × (k ≤ stops_on A q)
  Has (given q k) = k < stops_on A q
  Has (fired p) = p < process_count A
  Has (hand q k) = k < stops_on A q
  Has (kept q k) = k < stops_on A q
  Has (place q k i) = (q < pipe_number A) × (k ≤ stops_on A q) × (i < (pipe_at A q).hop)

  below : (a b : ℕ) → Dec (a < b)
  below a b = go (order a b)
    where
      go : Order a b → Dec (a < b)
      go (less l) = yes l
      go (at_least l) = no (λ k. omega arith)

  most : (a b : ℕ) → Dec (a ≤ b)
  most a b = go (order b a)
    where
      go : Order b a → Dec (a ≤ b)
      go (less l) = no (λ k. omega arith)
      go (at_least l) = yes l

  pub has : (a : Slot) → Dec (Has a)
  has (sent q) = below q (pipe_number A)
  has (taken q k) = go (below q (pipe_number A)) (most k (stops_on A q))
    where
      go : Dec (q < pipe_number A) → Dec (k ≤ stops_on A q) → Dec ((q < pipe_number A) × (k ≤ stops_on A q))
      go (yes l) (yes m) = yes (l, m)
      go (no n) d = no (λ h. n h.0)
      go (yes l) (no n) = no (λ h. n h.1)
  has (given q k) = below k (stops_on A q)
  has (fired p) = below p (process_count A)
  has (hand q k) = below k (stops_on A q)
  has (kept q k) = below k (stops_on A q)
  has (place q k i) = go (below q (pipe_number A)) (most k (stops_on A q)) (below i (pipe_at A q).hop)
    where
      go : Dec (q < pipe_number A) → Dec (k ≤ stops_on A q) → Dec (i < (pipe_at A q).hop)
          → Dec ((q < pipe_number A) × (k ≤ stops_on A q) × (i < (pipe_at A q).hop))
      go (yes l) (yes m) (yes n) = yes (l, m, n)
      go (no n) d e = no (λ h. n h.0)
      go (yes l) (no n) e = no (λ h. n h.1)
      go (yes l) (yes m) (no n) = no (λ h. n h.2)

  -- what a state has in a slot; 0 where the slot has no word
  abbrev pub pick : (a : Slot) → Dec (Has a) → List ℕ → ℕ
  pick a (yes h) st = read A st (word_of a)
  pick a (no n) st = 0

  unfoldable pub view : List ℕ → Slot → ℕ
  view st a = pick a (has a) st

  -- a slot that has a word has what it reads
  pub view_is : (st : List ℕ) (a : Slot) → Has a → view st a ≡ read A st (word_of a)
  unfolding view
  view_is st a h = go (has a)
    where
      go : (d : Dec (Has a)) → pick a d st ≡ read A st (word_of a)
      go (yes h') = refl
      go (no n) = absurd (n h)

  pub view_none : (st : List ℕ) (a : Slot) → (Has a → ⊥) → view st a ≡ 0
  unfolding view
  view_none st a n = go (has a)
    where
      go : (d : Dec (Has a)) → pick a d st ≡ 0
      go (yes h) = absurd (n h)
      go (no n') = refl

  -- the slot of a word
  abbrev pub slot_of : Word → Slot
  slot_of (Firings p) = fired p
  slot_of (Taken p s) = taken (pipe_through A p s) (place_at A p s)
  slot_of (Given p s) = given (pipe_through A p s) (place_at A p s)
  slot_of (Hand p s) = hand (pipe_through A p s) (place_at A p s)
  slot_of (Keep p s) = kept (pipe_through A p s) (place_at A p s)
  slot_of (Place p s i) = place (pipe_through A p s) (place_at A p s) i
  slot_of (Sent q) = sent q
  slot_of (Received q) = taken q (stops_on A q)
  slot_of (End q i) = place q (stops_on A q) i

  -- a process whose pipe is there has its place on it
  pub on : (p s : ℕ) → pipe_through A p s < pipe_number A → HasPort A p s
  on p s h = has_port_lem A p s (lt-ltb (pipe_through A p s) (pipe_number A) h)

  stop_on : (p s : ℕ) → place_at A p s < stops_on A (pipe_through A p s) → HasPort A p s
  stop_on p s h = on p s (stop_pipe A (pipe_through A p s) (place_at A p s) h)

  -- and the word of that slot, if it has one
  pub word_slot : (w : Word) → Has (slot_of w) → word_of (slot_of w) ≡ w
  word_slot (Firings p) h = refl
  word_slot (Taken p s) h =
      let z = on p s h.0 in
      rw (lt-ltb (place_at A p s) (stops_on A (pipe_through A p s)) z.place_lt) (ap₂ Taken z.process z.stream)
  word_slot (Given p s) h = let z = stop_on p s h in ap₂ Given z.process z.stream
  word_slot (Hand p s) h = let z = stop_on p s h in ap₂ Hand z.process z.stream
  word_slot (Keep p s) h = let z = stop_on p s h in ap₂ Keep z.process z.stream
  word_slot (Place p s i) h =
      let z = on p s h.0 in
      rw (lt-ltb (place_at A p s) (stops_on A (pipe_through A p s)) z.place_lt) (ap₂ (λ (p s : ℕ). Place p s i) z.process z.stream)
  word_slot (Sent q) h = refl
  word_slot (Received q) h = rw (le-ltb (stops_on A q) (stops_on A q) (le_refl (stops_on A q)))
  word_slot (End q i) h = rw (le-ltb (stops_on A q) (stops_on A q) (le_refl (stops_on A q)))

  module _ (W : Wired A) where
    pub slot_word : (a : Slot) → Has a → slot_of (word_of a) ≡ a
    slot_word (sent q) h = refl
    slot_word (taken q k) (h, l) = go (order k (stops_on A q))
      where
        go : Order k (stops_on A q) → slot_of (taken_out A q k) ≡ taken q k
        go (less m) = let z = port_is W q k m in rw (lt-ltb k (stops_on A q) m) (ap₂ taken z.1 z.2)
        go (at_least m) = let e : stops_on A q ≡ k = omega arith in rw (le-ltb k (stops_on A q) m) (ap (taken q) e)
    slot_word (given q k) h = let z = port_is W q k h in ap₂ given z.1 z.2
    slot_word (fired p) h = refl
    slot_word (hand q k) h = let z = port_is W q k h in ap₂ hand z.1 z.2
    slot_word (kept q k) h = let z = port_is W q k h in ap₂ kept z.1 z.2
    slot_word (place q k i) (h, l, r) = go (order k (stops_on A q))
      where
        go : Order k (stops_on A q) → slot_of (link_place A q k i) ≡ place q k i
        go (less m) = let z = port_is W q k m in rw (lt-ltb k (stops_on A q) m) (ap₂ (λ (q k : ℕ). place q k i) z.1 z.2)
        go (at_least m) = let e : stops_on A q ≡ k = omega arith in rw (le-ltb k (stops_on A q) m) (ap (λ (k : ℕ). place q k i) e)

    -- so a word whose slot has none is no slot's word
    pub no_slot : (w : Word) → (Has (slot_of w) → ⊥) → (a : Slot) → Has a → word_of a ≡ w → ⊥
    no_slot w n a h e = n (subst Has (sym (slot_word a h) ∙ ap slot_of e) h)

    -- a slot's word is live
    pub word_live : (a : Slot) → Has a → Live A (word_of a)
    word_live (sent q) h = h
    word_live (taken q k) (h, l) = go (order k (stops_on A q))
      where
        go : Order k (stops_on A q) → Live A (taken_out A q k)
        go (less m) = rw (lt-ltb k (stops_on A q) m) (W.process_lt q k m, W.stream_lt q h)
        go (at_least m) = rw (le-ltb k (stops_on A q) m) h
    word_live (given q k) h = (W.process_lt q k h, W.stream_lt q (stop_pipe A q k h))
    word_live (fired p) h = h
    word_live (hand q k) h = (W.process_lt q k h, W.stream_lt q (stop_pipe A q k h))
    word_live (kept q k) h = (W.process_lt q k h, W.stream_lt q (stop_pipe A q k h))
    word_live (place q k i) (h, l, r) = go (order k (stops_on A q))
      where
        go : Order k (stops_on A q) → Live A (link_place A q k i)
        go (less m) = rw (lt-ltb k (stops_on A q) m) (W.process_lt q k m, W.stream_lt q h, omega (arith, W.hop_is q h))
        go (at_least m) = rw (le-ltb k (stops_on A q) m) (h, r)

  -- ---- the counters and the words of a state; the received list is by pipes too

  abbrev pub counts_of : List ℕ → Counts
  counts_of st a = view st (counter a)

  abbrev pub out_of : List ℕ → ℕ → ℕ → ℕ
  out_of out q i = cond (ltb i (elements_on A q)) (get_or out (part_start A q + i) 0) 0

  abbrev pub words_of : List ℕ → (ℕ → ℕ → ℕ) → Words
  words_of st out =
      record { link = λ q k i. view st (place q k i); hand = λ q k. view st (hand q k); kept = λ q k. view st (kept q k); out = out }
