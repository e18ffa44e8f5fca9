-- After a ready step only the steps near it can have changed their readiness: those of its own process or pipe end, and the one that looks
-- at the word that it counts up from the other end of a link. Assumes nothing.
use Rattle.std.specs.Prelude.{◌≡◌, refl, Bool, true, ◌⊎◌, ℕ, zero, suc, ◌≤◌, ◌<◌, length}
use Rattle.std.proofs.Common.{sym, ◌∙◌, ap, ap₂, subst₂, inl, inr, le_refl, arith, lt-ltb, le-ltb}
use Rattle.meaning.specs.Array.{Array, pipe_number, stops_on, pipe_through, on_pipe, place_on}
use Rattle.meaning.specs.State.{Word, Firings, Taken, Given, Hand, Keep, Place, Sent, Received, End, index, word_count}
use Rattle.meaning.specs.declared.Step.{Step}
use Rattle.meaning.specs.declared.Step.TheVariants.{Send, Take, Fire, Give, Receive}
use Rattle.meaning.specs.Rules.{process_on, stream_on, put_in, taken_out, sound, Memory, ready}
use Rattle.meaning.specs.Rules.{apply}
use Rattle.abstract_network.specs.Counters.{put, get, fire, put≢fire, get≢fire}
use Rattle.abstract_network.specs.Counters as Abstract
use Rattle.network.proofs.Places.{layout}
use Rattle.network.specs.Wiring.{net_of, Wired, stop_pipe, has_port_lem, port_is, place_at}
use Rattle.network.specs.Slots.{Has, word_of, word_live}
use Rattle.network.specs.Slots as Slots
use Rattle.network.specs.Decide.{Says, holds, fails, said}
use Rattle.network.specs.Ready.{step_of, There, says_ready}
use Rattle.network.proofs.Steps.{step_more}
use Rattle.network.proofs.States.{says_sound, sound_kept}
use Rattle.nearby.specs.Looks.{Looks, self, put_get, get_put, offer_get, offer_fire, hand_put, use_get, use_put, guard_same}

-- ---- the words and the steps near a step

-- the word that a step counts up
abbrev pub counted : Step → Word
counted (Send q) = Sent q
counted (Take p s) = Taken p s
counted (Fire p) = Firings p
counted (Give p s) = Given p s
counted (Receive q) = Received q

module _ (A : Array) where
  abbrev pub counter : Step → ℕ
  counter a = index A (counted a)

  -- the one word of a neighbour that a step's readiness looks at, the count at the other end of its link; a firing looks at none
  abbrev pub foreign : Step → ℕ
  foreign (Send q) = index A (taken_out A q 0)
  foreign (Take p s) = let q = pipe_through A p s in index A (put_in A q (place_on A p q))
  foreign (Fire p) = word_count A
  foreign (Give p s) = let q = pipe_through A p s in index A (taken_out A q (suc (place_on A p q)))
  foreign (Receive q) = index A (put_in A q (stops_on A q))

-- the second step is one of the first's own
pub data Own : Step → Step → Type 0 where
  itself : {a : Step} → Own a a
  take_give : {p s : ℕ} → Own (Take p s) (Give p s)
  take_fire : {p s : ℕ} → Own (Take p s) (Fire p)
  give_take : {p s : ℕ} → Own (Give p s) (Take p s)
  give_fire : {p s : ℕ} → Own (Give p s) (Fire p)
  fire_give : {p s : ℕ} → Own (Fire p) (Give p s)

-- the steps that move an element: all but the firings
pub data Moves : Step → Type 0 where
  sends : {q : ℕ} → Moves (Send q)
  takes : {p s : ℕ} → Moves (Take p s)
  gives : {p s : ℕ} → Moves (Give p s)
  receives : {q : ℕ} → Moves (Receive q)

-- ---- a step, its word and its step of the abstract network

-- the step at the other end of a link
abbrev pub across : Abstract.Step → Abstract.Step
across (put q k) = get q k
across (get q k) = put q k
across (fire p) = fire p

-- the step that counts a word up; of hands, keeps and places one beside it
abbrev counts : Word → Step
counts (Firings p) = Fire p
counts (Taken p s) = Take p s
counts (Given p s) = Give p s
counts (Hand p s) = Take p s
counts (Keep p s) = Take p s
counts (Place p s i) = Take p s
counts (Sent q) = Send q
counts (Received q) = Receive q
counts (End q i) = Receive q

counts_counted : (a : Step) → counts (counted a) ≡ a
counts_counted (Send q) = refl
counts_counted (Take p s) = refl
counts_counted (Fire p) = refl
counts_counted (Give p s) = refl
counts_counted (Receive q) = refl

module _ (A : Array) where
  -- the word of a step of the abstract network
  abbrev pub word_at : Abstract.Step → Word
  word_at x = word_of A (Slots.counter x)

  counter_has : (a : Step) → There A a → Has A (Slots.counter (step_of A a))
  counter_has (Send q) h = h
  counter_has (Take p s) h =
      let l = (has_port_lem A p s h).place_lt in (stop_pipe A (pipe_through A p s) (place_at A p s) l, omega arith)
  counter_has (Fire p) h = h
  counter_has (Give p s) h = (has_port_lem A p s h).place_lt
  counter_has (Receive q) h = (h, le_refl (stops_on A q))

  counted_is : (a : Step) → There A a → word_at (step_of A a) ≡ counted a
  counted_is (Send q) h = refl
  counted_is (Take p s) h =
      let z = has_port_lem A p s h in
      rw (lt-ltb (place_at A p s) (stops_on A (pipe_through A p s)) z.place_lt) (ap₂ Taken z.process z.stream)
  counted_is (Fire p) h = refl
  counted_is (Give p s) h = let z = has_port_lem A p s h in ap₂ Given z.process z.stream
  counted_is (Receive q) h = rw (le-ltb (stops_on A q) (stops_on A q) (le_refl (stops_on A q)))

  -- different steps of the array are different steps of the abstract network
  pub step_apart : (a b : Step) → There A a → There A b → step_of A a ≡ step_of A b → a ≡ b
  step_apart a b h l e =
      sym (counts_counted a) ∙ ap counts (sym (counted_is a h) ∙ ap word_at e ∙ counted_is b l) ∙ counts_counted b

  put_word : (q k : ℕ) → word_at (put q k) ≡ put_in A q k
  put_word q zero = refl
  put_word q (suc k) = refl

  pub foreign_is : {b : Step} → Moves b → foreign A b ≡ index A (word_at (across (step_of A b)))
  foreign_is sends = refl
  foreign_is (takes {p} {s}) = ap (index A) (sym (put_word (pipe_through A p s) (place_at A p s)))
  foreign_is gives = refl
  foreign_is (receives {q}) = ap (index A) (sym (put_word q (stops_on A q)))

  moves_of : (b : Step) → ((p : ℕ) → step_of A b ≡ fire p → ⊥) → Moves b
  moves_of (Send q) n = sends
  moves_of (Take p s) n = takes
  moves_of (Fire p) n = absurd (n p refl)
  moves_of (Give p s) n = gives
  moves_of (Receive q) n = receives

  -- a step looks at the word that the step at the other end of its link counts up
  beyond : (a b : Step) → There A a → Moves b → across (step_of A b) ≡ step_of A a → foreign A b ≡ counter A a
  beyond a b h m e = foreign_is m ∙ ap (λ (x : Abstract.Step). index A (word_at x)) e ∙ ap (index A) (counted_is a h)

module _ {A : Array} (W : Wired A) where
  pub counter_below : (a : Step) → There A a → counter A a < word_count A
  counter_below a h =
      rw (counted_is A a h) at
      ((layout A).below (word_at A (step_of A a)) (word_live A W (Slots.counter (step_of A a)) (counter_has A a h)))

  -- ---- the steps at place k of pipe q

  module _ (q k : ℕ) (l : k < stops_on A q) where
    on_pipe_lem : on_pipe A (process_on A q k) (stream_on A q) ≡ true
    on_pipe_lem =
        lt-ltb (pipe_through A (process_on A q k) (stream_on A q)) (pipe_number A) (omega (arith, W.pipe_is q k l, stop_pipe A q k l))

    take_at : (a : Step) → There A a → step_of A a ≡ get q k → Take (process_on A q k) (stream_on A q) ≡ a
    take_at a h e =
        let z = port_is W q k l in step_apart A (Take (process_on A q k) (stream_on A q)) a on_pipe_lem h (ap₂ get z.1 z.2 ∙ sym e)

    give_at : (a : Step) → There A a → step_of A a ≡ put q (suc k) → Give (process_on A q k) (stream_on A q) ≡ a
    give_at a h e =
        let z = port_is W q k l in
        step_apart A (Give (process_on A q k) (stream_on A q)) a on_pipe_lem h (ap₂ (λ (q k : ℕ). put q (suc k)) z.1 z.2 ∙ sym e)

    fire_at : (a : Step) → There A a → step_of A a ≡ fire (process_on A q k) → Fire (process_on A q k) ≡ a
    fire_at a h e = step_apart A (Fire (process_on A q k)) a (W.process_lt q k l) h (sym e)

  -- a step that looks at the counter of another is near it
  near : (a b : Step) → There A a → There A b → {y x : Abstract.Step} → Looks (net_of A) y x → step_of A b ≡ y → step_of A a ≡ x
      → Own a b ⊎ (foreign A b ≡ counter A a)
  near a b h l self e d = inl (subst₂ Own refl (step_apart A a b h l (d ∙ sym e)) itself)
  near a b h l put_get e d = inr (beyond A a b h (moves_of A b (λ p z. put≢fire (sym e ∙ z))) (ap across e ∙ sym d))
  near a b h l get_put e d = inr (beyond A a b h (moves_of A b (λ p z. get≢fire (sym e ∙ z))) (ap across e ∙ sym d))
  near a b h l (offer_get {q} {k} m) e d = inl (subst₂ Own (take_at q k m a h d) (give_at q k m b l e) take_give)
  near a b h l (offer_fire {q} {k} m) e d = inl (subst₂ Own (fire_at q k m a h d) (give_at q k m b l e) fire_give)
  near a b h l (hand_put {q} {k} m) e d = inl (subst₂ Own (give_at q k m a h d) (take_at q k m b l e) give_take)
  near a b h l (use_get {q} {k} m z) e d = inl (subst₂ Own (take_at q k m a h d) (fire_at q k m b l (e ∙ ap fire (sym z))) take_fire)
  near a b h l (use_put {q} {k} m z) e d = inl (subst₂ Own (give_at q k m a h d) (fire_at q k m b l (e ∙ ap fire (sym z))) give_fire)

-- ---- what stays

-- tests that say the same
says_same : {X Y : Type 0} {a b : Bool} → (X → Y) → (Y → X) → Says X a → Says Y b → b ≡ a
says_same f g (holds x) (holds y) = refl
says_same f g (holds x) (fails n) = absurd (n (f x))
says_same f g (fails n) (holds y) = absurd (n (g y))
says_same f g (fails n) (fails m) = refl

pub stays : {A : Array} (W : Wired A) (M : Memory) → word_count A ≤ length M.state → sound A M.state ≡ true → (a b : Step)
    → There A a → There A b
    → ready A M.state a ≡ true → (Own a b → ⊥) → (foreign A b ≡ counter A a → ⊥) → ready A (apply A M a).state b ≡ ready A M.state b
stays {A} W M w s a b h l r own far =
    let S = (said (says_sound W M.state) s).0 in
    let S' = (said (says_sound W (apply A M a).state) (sound_kept W M a w s h r)).0 in
    let B = step_more W M w S a h (said (says_ready A M.state W S a h) r) in
    let same = guard_same (net_of A) B (step_of A b) (λ o. none (near W a b h l o refl refl)) in
    says_same same.0 same.1 (says_ready A M.state W S b l) (says_ready A (apply A M a).state W S' b l)
  where
    none : Own a b ⊎ (foreign A b ≡ counter A a) → ⊥
    none (inl o) = own o
    none (inr e) = far e
