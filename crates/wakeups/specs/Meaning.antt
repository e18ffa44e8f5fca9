-- By the port table of an array no two steps look at the same word, and readiness changes only near a step that was done. Assumes nothing.
use Rattle.std.specs.Prelude.{◌≡◌, refl, Bool, true, false, cond, List, ℕ, ◌+◌, ◌≤◌, ◌<◌, ltb, length, get_or}
use Rattle.std.proofs.Common.{sym, ◌∙◌, ap, ap₂, true≢false, arith, lt-ltb}
use Rattle.meaning.specs.Array.{Array, pipe_number, pipe_at, on_pipe}
use Rattle.meaning.specs.State.{Firings, Taken, index, word_count}
use Rattle.meaning.specs.declared.Step.{Step}
use Rattle.meaning.specs.declared.Step.TheVariants.{Send, Take, Fire, Give, Receive}
use Rattle.meaning.specs.Rules.{sound, Memory, ready, apply}
use Rattle.ports.specs.declared.Port.{Port}
use Rattle.ports.specs.declared.End.{End}
use Rattle.ports.specs.Places.{pipe, pipe_on, stream_is, process_is}
use Rattle.ports.specs.Ends.{end_of}
use Rattle.ports.specs.Rows.{row_of, row_on, row_off}
use Rattle.port_table.specs.declared.Size.{Size}
use Rattle.port_table.specs.PortsOf.{port_at, end_at}
use Rattle.step_rules.specs.Meaning.{Stands, can_is}
use Rattle.network.specs.Wiring.{Wired, Course, moving, stationary}
use Rattle.network.specs.Ready.{There}
use Rattle.network.proofs.States.{sound_kept}
use Rattle.nearby.specs.Nearby.{counter, foreign, Moves, sends, takes, gives, receives, counter_below, stays}
use Rattle.nearby.specs.Apart.{foreign_below, foreign_apart}
use Rattle.step_order.specs.Ranks.{rank_count, step_at}
use Rattle.step_order.specs.Steps.{send_step, take_step, fire_step, give_step, receive_step}
use Rattle.step_order.proofs.Steps.{step_inside, rank_apart}
use Rattle.step_order.specs.Steps.{Ranked, send, take, fire, give, receive}
use Rattle.step_order.proofs.Steps.{ranked}
use Rattle.wakeups.specs.Wakeups.{none, foreign_by, counter_by, can_at, Apart, WakeupsOf, Local}

-- ---- the rows of a wired array

module _ {A : Array} (W : Wired A) where
  -- a pipe's links have places
  some_on : (p i : ℕ) → on_pipe A p i ≡ true → ltb 0 (pipe_at A (pipe A p i)).hop ≡ true
  some_on p i e = lt-ltb 0 _ (go (W.course (pipe A p i) (pipe_on A p i e)))
    where
      go : {q : ℕ} → Course A W.pace W.late W.time q → 0 < (pipe_at A q).hop
      go (moving θ l f g) = l
      go (stationary e r f l g) = omega arith

-- ---- the words of a rank

-- a step that is one of the array's, and looks at a neighbour's word or counts one up; or one that is never ready
data Looking (A : Array) (b : List ℕ) (z : Size) (r : ℕ) : Type 0 where
  moves : {a : Step} → step_at z r ≡ a → There A a → Moves a → foreign_by b z r ≡ foreign A a
      → counter_by b z r ≡ counter A a → Looking A b z r
  fires : (p : ℕ) → step_at z r ≡ Fire p → There A (Fire p) → foreign_by b z r ≡ none → counter_by b z r ≡ counter A (Fire p)
      → Looking A b z r
  never : {a : Step} → step_at z r ≡ a → ((st : List ℕ) → ready A st a ≡ false) → foreign_by b z r ≡ none → Looking A b z r

module _ {A : Array} (W : Wired A) {b : List ℕ} {z : Size} (s : Stands A b z) where
  end_row : (q : ℕ) → q < z.pipes → (q < pipe_number A) × (end_at b q ≡ end_of A q)
  end_row q h = let l : q < pipe_number A = omega (arith, s.size.pipes) in (l, s.table.ends q l)

  port_row_lem : (p i : ℕ) → p < z.processes → i < z.streams → port_at b p i ≡ row_of A p i
  port_row_lem p i h l = s.table.ports p i (omega (arith, s.size.processes)) (omega (arith, s.size.streams))

  looking : (r : ℕ) → r < rank_count z → Looking A b z r
  looking r h = go (ranked z r h)
    where
      go : Ranked z r → Looking A b z r
      go (send q l e) =
          let d : step_at z r ≡ Send q = rw e (send_step z q l) in
          let t = end_row q l in
          moves {a = Send q} d t.0 sends (rw d (ap (λ (k : End). k.after) t.1)) (rw d (ap (λ (k : End). k.sent) t.1))
      go (receive q l e) =
          let d : step_at z r ≡ Receive q = rw e (receive_step z q) in
          let t = end_row q l in
          moves {a = Receive q} d t.0 receives (rw d (ap (λ (k : End). k.before) t.1))
          (rw d (ap (λ (k : End). k.received) t.1))
      go (fire p l e) =
          let d : step_at z r ≡ Fire p = rw e (fire_step z p l) in
          fires p d (omega (arith, s.size.processes)) (rw d refl)
          (rw d (ap (λ (k : Port). k.fired) (port_row_lem p 0 l s.size.some) ∙ fired_at (on_pipe A p 0) refl))
        where
          fired_at : (t : Bool) → on_pipe A p 0 ≡ t → (row_of A p 0).fired ≡ index A (Firings p)
          fired_at true e = rw (row_on A p 0 e) (ap (λ (p : ℕ). index A (Firings p)) (process_is A p 0 e))
          fired_at false e = rw (row_off A p 0 e) refl
      go (take p i l m e) = on (on_pipe A p i) refl
        where
          d : step_at z r ≡ Take p i
          d = rw e (take_step z p i l m)

          on : (t : Bool) → on_pipe A p i ≡ t → Looking A b z r
          on true e =
              let t = port_row_lem p i l m ∙ row_on A p i e in
              moves {a = Take p i} d e takes
              (rw d (ap (λ (k : Port). cond (ltb 0 k.hop) k.before none) t ∙ rw (some_on W p i e) refl))
              (rw d (ap (λ (k : Port). k.at) t ∙ ap₂ (λ (p i : ℕ). index A (Taken p i)) (process_is A p i e) (stream_is A p i e)))
          on false e =
              let t = port_row_lem p i l m ∙ row_off A p i e in
              never {a = Take p i} d (λ st. rw e refl) (rw d (ap (λ (k : Port). cond (ltb 0 k.hop) k.before none) t))
      go (give p i l m e) = on (on_pipe A p i) refl
        where
          d : step_at z r ≡ Give p i
          d = rw e (give_step z p i l m)

          on : (t : Bool) → on_pipe A p i ≡ t → Looking A b z r
          on true e =
              let t = port_row_lem p i l m ∙ row_on A p i e in
              moves {a = Give p i} d e gives
              (rw d (ap (λ (k : Port). cond (ltb 0 k.hop) k.after none) t ∙ rw (some_on W p i e) refl))
              (rw d (ap (λ (k : Port). k.at + 1) t ∙ ap₂ (λ (p i : ℕ). index A (Taken p i) + 1) (process_is A p i e) (stream_is A p i e)))
          on false e =
              let t = port_row_lem p i l m ∙ row_off A p i e in
              never {a = Give p i} d (λ st. rw e refl) (rw d (ap (λ (k : Port). cond (ltb 0 k.hop) k.after none) t))

  module _ (few : word_count A ≤ none) where
    pub apart : Apart b z
    apart r r' h h' l e = go (looking r h) (looking r' h')
      where
        go : Looking A b z r → Looking A b z r' → r ≡ r'
        go (moves {a} i t m f c) (moves {a = a'} i' t' m' f' c') =
            rank_apart z r r' h h' (i ∙ foreign_apart W a a' t t' m m' (sym f ∙ e ∙ f') ∙ sym i')
        go (moves i t m f c) (fires p i' t' f' c') = absurd (omega arith)
        go (moves i t m f c) (never i' n f') = absurd (omega arith)
        go (fires p i t f c) y = absurd (omega arith)
        go (never i n f) y = absurd (omega arith)

    module _ (M : Memory) (w : List ℕ) (table : WakeupsOf b z w) (words : word_count A ≤ length M.state) (t : sound A M.state ≡ true)
        (r : ℕ) (h : r < rank_count z) (can : can_at b M.state z r ≡ true) where
      can_ready : (M : Memory) → sound A M.state ≡ true → (x : ℕ) → x < rank_count z
          → can_at b M.state z x ≡ ready A M.state (step_at z x)
      can_ready M t x l = can_is s M t (step_at z x) (step_inside z x l)

      -- the step that is done
      abbrev done : Step
      done = step_at z r

      is_ready : ready A M.state done ≡ true
      is_ready = sym (can_ready M t r h) ∙ can

      record Counting : Type 0 where
        there : There A done
        counts : counter_by b z r ≡ counter A done

      counting : Counting
      counting = go (looking r h)
        where
          go : Looking A b z r → Counting
          go (moves i t m f c) = record { there = rw i t; counts = c ∙ ap (counter A) (sym i) }
          go (fires p i t f c) = record { there = rw i t; counts = c ∙ ap (counter A) (sym i) }
          go (never i n f) = absurd (true≢false (sym is_ready ∙ ap (ready A M.state) i ∙ n M.state))

      next_sound : sound A (apply A M done).state ≡ true
      next_sound = sound_kept W M done words t counting.there is_ready

      pub local : Local b z w M.state (apply A M done).state r
      local x l own far = can_ready (apply A M done) next_sound x l ∙ go (looking x l) ∙ sym (can_ready M t x l)
        where
          -- a step that is one of the array's
          one : There A (step_at z x) → (foreign A (step_at z x) ≡ counter A done → ⊥)
              → ready A (apply A M done).state (step_at z x) ≡ ready A M.state (step_at z x)
          one h n = stays W M words t done (step_at z x) counting.there h is_ready own n

          go : Looking A b z x → ready A (apply A M done).state (step_at z x) ≡ ready A M.state (step_at z x)
          go (moves {a} i h m f c) =
              let e : foreign_by b z x ≡ foreign A (step_at z x) = f ∙ ap (foreign A) (sym i) in
              let below : foreign_by b z x < none = omega (arith, f, foreign_below W m h) in
              one (rw i h) (λ d. far (ap (λ (j : ℕ). get_or w j 0) (counting.counts ∙ sym d ∙ sym e) ∙ table.wakes x l below))
          go (fires p i h f c) =
              one (rw i h) (λ d. let u : word_count A ≡ counter A done = ap (foreign A) (sym i) ∙ d in
              omega (arith, counter_below W done counting.there))
          go (never i n f) =
              ap (ready A (apply A M done).state) i ∙ n (apply A M done).state ∙ sym (ap (ready A M.state) i ∙ n M.state)
