-- What a state has to show so that a put or a get on it is the abstract network's; the hand or the keep as a choice. Assumes nothing.
use Rattle.std.specs.Prelude.{◌≡◌, refl, Bool, true, false, cond, List, ℕ, suc, ◌+◌, ◌-◌, ◌≤◌, ◌<◌}
use Rattle.std.proofs.Common.{sym, ◌∙◌, ap, ap₂, subst, subst₂, arith}
use Rattle.meaning.specs.Array.{Array, pipe_number, stops_on, stop_at}
use Rattle.meaning.specs.State.{Hand, Keep}
use Rattle.meaning.specs.Rules.{process_on, stream_on, fill}
use Rattle.abstract_network.specs.Counters.{Step, put, get, put≢get}
use Rattle.abstract_network.specs.Words.{Taking, Giving, Moves}
use Rattle.network.specs.Wiring.{kind_of, net_of, Wired, ranked_of}
use Rattle.network.specs.Slots.{Slot, sent, taken, given, hand, place, sort, first, second, third, counter, Has, word_of, view}
use Rattle.network.specs.Slots.{counts_of, words_of}
use Rattle.network.specs.Slots as Slots
use Rattle.network.specs.Ready.{put_is, get_is}

get_q : {q k q' k' : ℕ} → get q k ≡ get q' k' → q ≡ q'
get_q e = cc

get_k : {q k q' k' : ℕ} → get q k ≡ get q' k' → k ≡ k'
get_k e = cc

put_q : {q k q' k' : ℕ} → put q k ≡ put q' k' → q ≡ q'
put_q e = cc

put_k : {q k q' k' : ℕ} → put q k ≡ put q' k' → k ≡ k'
put_k e = cc

-- ---- what a get and a put have to show

module _ {A : Array} (W : Wired A) (waiting : ℕ → ℕ → ℕ) (st st' : List ℕ) where
  module _ (out out' : ℕ → ℕ → ℕ) (q k : ℕ)
      (shifted : (i : ℕ) → view A st' (place q k i) ≡ view A st (place q k (suc i)))
      (links : (q' k' i : ℕ) → (get q k ≡ get q' k' → ⊥) → view A st' (place q' k' i) ≡ view A st (place q' k' i))
      (stops : (q' k' : ℕ) → (get q k ≡ get q' k' → ⊥)
      → (view A st' (hand q' k') ≡ view A st (hand q' k')) × (view A st' (Slots.kept q' k') ≡ view A st (Slots.kept q' k')))
      (taking : k < stops_on A q
      → Taking (view A st (taken q k)) (view A st (given q k)) (view A st (hand q k)) (view A st (Slots.kept q k)) (view A st (place q k 0))
      (view A st' (hand q k)) (view A st' (Slots.kept q k)) (kind_of (stop_at A q k).keeps))
      (receiving : k ≡ stops_on A q → out' q (view A st (taken q k)) ≡ view A st (place q k 0))
      (received : (q' i : ℕ) → (get q k ≡ get q' (stops_on A q') → view A st (taken q' (stops_on A q')) ≡ i → ⊥)
      → out' q' i ≡ out q' i) where
    pub get_moves : Moves (net_of A) (ranked_of W) waiting (counts_of A st) (get q k) (words_of A st out) (words_of A st' out')
    get_moves =
        record {
          moved = 0;
          send = λ q' e. absurd (put≢get (sym e));
          give = λ q' k' e. absurd (put≢get (sym e));
          filled = λ q' k' i e. absurd (put≢get (sym e));
          unfilled = λ q' k' i e. absurd (put≢get (sym e));
          take = λ q' k' l e.
              subst₂
              (λ (q k : ℕ). k < stops_on A q
              → Taking (view A st (taken q k)) (view A st (given q k)) (view A st (hand q k)) (view A st (Slots.kept q k))
              (view A st (place q k 0)) (view A st' (hand q k)) (view A st' (Slots.kept q k)) (kind_of (stop_at A q k).keeps))
              (get_q e)
              (get_k e)
              taking
              l;
          shift =
              λ q' k' i e. subst₂ (λ (q k : ℕ). view A st' (place q k i) ≡ view A st (place q k (suc i))) (get_q e) (get_k e) (shifted i);
          receive = λ q' e.
              subst₂ (λ (q k : ℕ). out' q (view A st (taken q k)) ≡ view A st (place q k 0)) (get_q e) (get_k e)
              (receiving (get_k e ∙ ap (stops_on A) (sym (get_q e))));
          received = received;
          other_link = λ q' k' i n n'. links q' k' i n';
          other_stop = λ q' k' n n'. stops q' k' n;
        }

  module _ (out : ℕ → ℕ → ℕ) (q k i v : ℕ)
      (next : view A st (counter (put q k)) ≡ view A st (taken q k) + i)
      (filled : view A st' (place q k i) ≡ v)
      (unfilled : (q' k' j : ℕ) → (place q k i ≡ place q' k' j → ⊥) → view A st' (place q' k' j) ≡ view A st (place q' k' j))
      (stops : (q' k' : ℕ) → (put q k ≡ put q' (suc k') → ⊥)
      → (view A st' (hand q' k') ≡ view A st (hand q' k')) × (view A st' (Slots.kept q' k') ≡ view A st (Slots.kept q' k')))
      (sending : k ≡ 0 → v ≡ waiting q (view A st (sent q)))
      (giving : (j : ℕ) → k ≡ suc j
      → Giving (view A st (taken q j)) (view A st (given q j)) (view A st (hand q j)) (view A st (Slots.kept q j)) v (view A st' (hand q j))
      (view A st' (Slots.kept q j)) (kind_of (stop_at A q j).keeps)) where
    pub put_moves : Moves (net_of A) (ranked_of W) waiting (counts_of A st) (put q k) (words_of A st out) (words_of A st' out)
    put_moves =
        record {
          moved = v;
          send = λ q' e. sending (put_k e) ∙ ap (λ (q : ℕ). waiting q (view A st (sent q))) (put_q e);
          give = λ q' k' e.
              subst
              (λ (q : ℕ). Giving (view A st (taken q k')) (view A st (given q k')) (view A st (hand q k')) (view A st (Slots.kept q k')) v
              (view A st' (hand q k')) (view A st' (Slots.kept q k')) (kind_of (stop_at A q k').keeps))
              (put_q e)
              (giving k' (put_k e));
          filled = λ q' k' j e d.
              let z : i ≡ j = level q' k' j e d in
              ap (view A st') (λ t. place (put_q (sym e) t) (put_k (sym e) t) (sym z t)) ∙ filled;
          unfilled = λ q' k' j e n. unfilled q' k' j (λ p. n (same q' k' j e (ap third p)));
          take = λ q' k' l e. absurd (put≢get e);
          shift = λ q' k' j e. absurd (put≢get e);
          receive = λ q' e. absurd (put≢get e);
          received = λ q' j n. refl;
          other_link = λ q' k' j n n'. unfilled q' k' j (λ p. n (ap₂ put (ap first p) (ap second p)));
          other_stop = λ q' k' n n'. stops q' k' n';
        }
      where
        level : (q' k' j : ℕ) → put q k ≡ put q' k' → view A st (counter (put q' k')) ≡ view A st (taken q' k') + j → i ≡ j
        level q' k' j e d =
            omega (arith, ap (λ (a : Step). view A st (counter a)) e, ap₂ (λ (q k : ℕ). view A st (taken q k)) (put_q e) (put_k e))

        same : (q' k' j : ℕ) → put q k ≡ put q' k' → i ≡ j → view A st (counter (put q' k')) ≡ view A st (taken q' k') + j
        same q' k' j e d =
            omega (arith, ap (λ (a : Step). view A st (counter a)) e, ap₂ (λ (q k : ℕ). view A st (taken q k)) (put_q e) (put_k e))

-- ---- hand or keep

-- the slot of place k of pipe q that a test chooses: the keep or the hand
abbrev pub chosen : ℕ → ℕ → Bool → Slot
chosen q k b = cond b (Slots.kept q k) (hand q k)

pub chosen_sort : (q k : ℕ) (b : Bool) → (3 < sort (chosen q k b)) × (sort (chosen q k b) < 6)
chosen_sort q k true = omega arith
chosen_sort q k false = omega arith

pub chosen_at : (q k : ℕ) (b : Bool) → (first (chosen q k b) ≡ q) × (second (chosen q k b) ≡ k)
chosen_at q k true = (refl, refl)
chosen_at q k false = (refl, refl)

pub chosen_has : (A : Array) (q k : ℕ) (b : Bool) → k < stops_on A q → Has A (chosen q k b)
chosen_has A q k true l = l
chosen_has A q k false l = l

pub chosen_word : (A : Array) (q k : ℕ) (b : Bool)
    → word_of A (chosen q k b) ≡ cond b (Keep (process_on A q k) (stream_on A q)) (Hand (process_on A q k) (stream_on A q))
chosen_word A q k true = refl
chosen_word A q k false = refl

module _ (A : Array) (st : List ℕ) where
  -- the places of link k of pipe q past its fill are 0
  abbrev pub Spare : ℕ → ℕ → Type 0
  Spare q k = (i : ℕ) → view A st (counter (put q k)) ≤ view A st (taken q k) + i → view A st (place q k i) ≡ 0

  pub fill_is : (q k : ℕ) → q < pipe_number A → k ≤ stops_on A q → fill A st q k ≡ view A st (counter (put q k)) - view A st (taken q k)
  fill_is q k h l = ap₂ ◌-◌ (put_is A st q k h l) (get_is A st q k h l)
