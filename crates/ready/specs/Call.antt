-- What the call answers and leaves, by the port table of an array, and that this is what document 01 says. Assumes nothing.
use Rattle.std.specs.Prelude.{◌≡◌, Bool, List, [], ◌∷◌, ◌++◌, ℕ, zero, suc, ◌≤◌, ◌<◌, length, take}
use Rattle.std.proofs.Math.Path.{refl, sym, ap₂}
use Rattle.std.proofs.Common.{◌∙◌, ap, arith}
use Rattle.std.proofs.Math.Bool.{true, false, cond}
use Rattle.std.proofs.Math.Dec.{ltb}
use borrow.Author.Tests.{ne_eqb, le-ltb, ltb-false}
use Rattle.meaning.specs.declared.Limits.{Limits}
use Rattle.meaning.specs.Answers.{Ready, ReadyAnswer, Refused}
use Rattle.meaning.specs.Tests.{◌if◌, refusal}
use Rattle.meaning.specs.Description.{description_of}
use Rattle.meaning.specs.Array.{array_of}
use Rattle.meaning.specs.Rules.{Memory}
use Rattle.meaning.specs.Calls.{can_move, memory_tests, refused_by, Readied, ready_call}
use Rattle.decode.specs.Refusals.{passed}
use Rattle.declines.specs.Tests.{ready_lengths}
use Rattle.port_table.specs.declared.Size.{Size}
use Rattle.port_table.specs.PortsOf.{RowsFit}
use Rattle.step_rules.specs.Meaning.{Stands}
use Rattle.opening.specs.Opening.{Opened, grounds, own_last}
use Rattle.opening.specs.Opened.{fits, stands}
use Rattle.bits.specs.Words.{cleared, marked, ones_of, lowest_from}
use Rattle.bits.specs.Ready.{marked_to, readied, ready_call_lem}
use Rattle.ready_words.specs.Moves.{moves_by}
use Rattle.ready_words.specs.Meaning.{moves_is}

-- ---- by a port table

-- how many bits are set in the first sixteen words, and the lowest, n if there is none
abbrev pub answer_of : ℕ → List ℕ → ReadyAnswer
answer_of n words = Ready (ones_of (take 16 words)) (lowest_from n 0 (take 16 words))

-- nothing is refused: there are sixteen words
pub many_words : (words : List ℕ) {n : ℕ} → n ≡ refusal (ready_lengths (length words)) → n ≡ 0 → 16 ≤ length words
many_words words e h = ltb-false (length words) 16 (passed 27 _ [] (λ g. omega arith) (sym e ∙ h)).0

module _ (b st : List ℕ) (z : Size) (words : List ℕ) where
  -- the words of the processes that can move
  abbrev pub marked_by : List ℕ
  marked_by = marked_to (moves_by b st z.streams) z.processes (cleared words)

  -- 27, or what they say; and what the words are then
  unfoldable pub answer_by : ReadyAnswer
  answer_by = cond (ltb (length words) 16) (Refused 27) (answer_of z.processes marked_by)

  unfoldable pub left_by : List ℕ
  left_by = cond (ltb (length words) 16) words marked_by

  module _ {n : ℕ} (e : n ≡ refusal (ready_lengths (length words))) where
    pub answer_few : (n ≡ 0 → ⊥) → (Refused n ≡ answer_by) × (words ≡ left_by)
    unfolding answer_by left_by refusal
    answer_few f = go (ltb (length words) 16) e
      where
        go : (b : Bool) → n ≡ refusal ((27 if b) ∷ [])
            → (Refused n ≡ cond b (Refused 27) (answer_of z.processes marked_by)) × (words ≡ cond b words marked_by)
        go true k = (ap Refused k, refl)
        go false k = absurd (f k)

  pub answer_marked : {left : List ℕ} → 16 ≤ length words → left ≡ marked_by → (answer_of z.processes left ≡ answer_by) × (left ≡ left_by)
  unfolding answer_by left_by
  answer_marked h e = let t = le-ltb (length words) 16 h in (rw (t, e) refl, rw t e)

-- ---- by the port table of an array

-- tests that agree on the first n processes
marked_same : (f g : ℕ → Bool) (n : ℕ) (words : List ℕ) → ((p : ℕ) → p < n → f p ≡ g p) → marked_to f n words ≡ marked_to g n words
unfolding marked_to
marked_same f g zero words h = refl
marked_same f g (suc n) words h =
    ap₂ (λ (b : Bool) (w : List ℕ). cond b (marked w n) w) (h n (omega arith)) (marked_same f g n words λ p l. h p (omega arith))

-- r and w are what the call answers and leaves
abbrev pub Readies : Limits → List ℕ → List ℕ → Memory → ReadyAnswer → List ℕ → Type 0
Readies l s words M r w = (r ≡ (ready_call l s words M).answer) × (w ≡ (ready_call l s words M).words)

-- the rows of the port table fit the state
pub opened_fits : (s : List ℕ) (M : Memory) {b : List ℕ} {z : Size} → Opened s M b z → RowsFit (length M.state) b z
opened_fits s M o = fits (grounds s o.accepted) o.stood

module _ (l : Limits) (s words : List ℕ) (M : Memory) where
  -- the refusal of the description, of the memory or of the words
  abbrev number : ℕ
  number = refused_by l s (memory_tests (description_of s) M ++ ((27 if ltb (length words) 16) ∷ []))

  declined : (n : ℕ) → n ≡ number → (n ≡ 0 → ⊥) → Readies l s words M (Refused n) words
  unfolding ready_call
  declined n e g = let q = ne_eqb n 0 g in (rw (← e, q) refl, rw (← e, q) refl)

  module _ {n : ℕ} (e : n ≡ refused_by l s (memory_tests (description_of s) M)) where
    -- the memory's refusal is the call's
    pub memory_refused : (n ≡ 0 → ⊥) → Readies l s words M (Refused n) words
    memory_refused g =
        declined n (sym (own_last l s M ((27 if ltb (length words) 16) ∷ []) ∙ rw (← e, ne_eqb n 0 g) refl)) g

    module _ (none : n ≡ 0) {b : List ℕ} {z : Size} (o : Opened s M b z) where
      t : Stands (array_of (description_of s)) b z
      t = stands (grounds s o.accepted) o.stood

      own : number ≡ refusal ((27 if ltb (length words) 16) ∷ [])
      own = own_last l s M ((27 if ltb (length words) 16) ∷ []) ∙ rw (← e, none) refl

      marked_is : marked_by b M.state z words ≡ readied l s M.state words
      marked_is =
          marked_same (moves_by b M.state z.streams) (can_move l s M.state) z.processes (cleared words)
          (moves_is t M o.stood.sound)
          ∙ ap (λ (n : ℕ). marked_to (can_move l s M.state) n (cleared words)) t.size.processes

      -- nothing of the memory is refused
      pub readies : {r : ReadyAnswer} {w : List ℕ} → (r ≡ answer_by b M.state z words) × (w ≡ left_by b M.state z words)
          → Readies l s words M r w
      unfolding answer_by left_by refusal
      readies {r} {w} k = go (ltb (length words) 16) refl
        where
          go : (f : Bool) → ltb (length words) 16 ≡ f → Readies l s words M r w
          go true q =
              let d = declined 27 (sym (own ∙ rw q refl)) (λ e. omega arith) in
              let a : answer_by b M.state z words ≡ Refused 27 = rw q refl in
              let left : left_by b M.state z words ≡ words = rw q refl in (k.0 ∙ a ∙ d.0, k.1 ∙ left ∙ d.1)
          go false q =
              let c = ready_call_lem l s words M (omega (arith, t.size.processes, (opened_fits s M o).processes)) (own ∙ rw q refl) in
              let a : answer_by b M.state z words ≡ answer_of z.processes (marked_by b M.state z words) = rw q refl in
              let left : left_by b M.state z words ≡ marked_by b M.state z words = rw q refl in (
                k.0 ∙ a ∙ ap₂ answer_of t.size.processes marked_is ∙ sym (ap (λ (x : Readied l s). x.answer) c),
                k.1 ∙ left ∙ marked_is ∙ sym (ap (λ (x : Readied l s). x.words) c),
              )
