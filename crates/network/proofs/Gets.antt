-- Take and receive on a state are the gets of the abstract network. Assumes nothing.
use Rattle.std.proofs.Math.Path.{◌≡◌, refl, ap}
use Rattle.std.proofs.Common.{sym, ◌∙◌, ap₂, le_refl, arith}
use Rattle.std.specs.Prelude.{Bool, cond, ◌&&◌, List, ℕ, suc, ◌≤◌, ◌<◌, eqb, length}
use Rattle.std.proofs.Math.Bool.{true, false}
use borrow.Author.Tests.{lt-ltb, le-ltb, eqb-true, eqb-false}
use Rattle.meaning.specs.Array.{Array, pipe_number, pipe_at, stops_on, stop_at}
use Rattle.meaning.specs.State.{Taken, Hand, Keep, Received, word_count, read, write}
use Rattle.meaning.specs.Rules.{process_on, stream_on, fill, oldest, without_oldest, increase, do_take, do_receive}
use Rattle.abstract_network.specs.Counters.{Step, put, get, OneMore}
use Rattle.abstract_network.specs.Words.{Taking, to_hand, to_keep_lem, past_keep, Moves}
use Rattle.abstract_network.specs.Sound.{Sound}
use Rattle.network.specs.Wiring.{kind_of, net_of, Wired, stop_pipe, ranked_of}
use Rattle.network.specs.Slots.{Slot, taken, given, hand, place, sort, first, second, counter, word_of, view, view_is, counts_of}
use Rattle.network.specs.Slots.{words_of}
use Rattle.network.specs.Slots as Slots
use Rattle.network.specs.Ready.{taken_is}
use Rattle.network.proofs.Links.{counter_sort, Written, written_length, more_other, more_written, one_more, set_there, set_other}
use Rattle.network.proofs.Links.{set_written, set_more, oldest_written, oldest_other, oldest_shift}
use Rattle.network.specs.Moving.{get_moves, chosen, chosen_sort, chosen_at, chosen_has, chosen_word, Spare, fill_is}

module _ {A : Array} (W : Wired A) (st : List ℕ) (long : word_count A ≤ length st) (S : Sound (net_of A) (counts_of A st)) where
  -- ---- getting out of link k of pipe q

  module _ (q k : ℕ) (h : q < pipe_number A) (l : k ≤ stops_on A q) (g : view A st (taken q k) < view A st (counter (put q k))) where
    some_fill : 0 < fill A st q k
    some_fill = omega (arith, fill_is A st q k h l)

    fill_hop : fill A st q k ≤ (pipe_at A q).hop
    fill_hop = omega (arith, fill_is A st q k h l, (S.link q k l).1)

    -- the link without its oldest
    st₁ : List ℕ
    st₁ = without_oldest A st q k

    st₁_written : Written W st st₁
    unfolding st₁
    st₁_written = oldest_written W q k h l st some_fill fill_hop

    st₁_long : word_count A ≤ length st₁
    st₁_long = omega (arith, written_length W st₁_written)

    st₁_counter : (d : Step) → view A st₁ (counter d) ≡ view A st (counter d)
    unfolding st₁
    st₁_counter d = oldest_other W q k h l st some_fill fill_hop (counter d) (λ j i. omega (arith, ap sort i, counter_sort d))

    st₁_other : (b : Slot) → ((j : ℕ) → place q k j ≡ b → ⊥) → view A st₁ b ≡ view A st b
    unfolding st₁
    st₁_other = oldest_other W q k h l st some_fill fill_hop

    st₁_shift : Spare A st q k → (i : ℕ) → view A st₁ (place q k i) ≡ view A st (place q k (suc i))
    unfolding st₁
    st₁_shift z = oldest_shift W q k h l st some_fill fill_hop long (λ i o. z i (omega (arith, fill_is A st q k h l)))

    oldest_is : oldest A st q k ≡ view A st (place q k 0)
    oldest_is = sym (view_is A st (place q k 0) (h, l, omega (arith, some_fill, fill_hop)))

  -- ---- take

  module _ (q k : ℕ) (l : k < stops_on A q) (g : view A st (taken q k) < view A st (counter (put q k))) where
    h : q < pipe_number A
    h = stop_pipe A q k l

    le : k ≤ stops_on A q
    le = omega (arith, l)

    -- what the take reads: the taken count, whether the stop keeps, and so where the element goes
    x : ℕ
    x = read A st (Taken (process_on A q k) (stream_on A q))

    to_keep : Bool
    to_keep = (stop_at A q k).keeps && eqb x 0

    counter_word : word_of A (taken q k) ≡ Taken (process_on A q k) (stream_on A q)
    counter_word = rw (lt-ltb k (stops_on A q) l)

    -- the state after it, by the test that chose the keep
    after : Bool → List ℕ
    after b =
        increase A
        (write A (st₁ q k h le g) (cond b (Keep (process_on A q k) (stream_on A q)) (Hand (process_on A q k) (stream_on A q)))
        (oldest A st q k))
        (Taken (process_on A q k) (stream_on A q))

    -- a take writes to slots only
    pub take_written : Written W st (do_take A st q k)
    unfolding after to_keep x st₁
    take_written =
        set_written W (st₁ q k h le g) (st₁_long q k h le g) (chosen q k to_keep) (chosen_has A q k to_keep l) (chosen_word A q k to_keep)
        (oldest A st q k)
        (taken q k) (h, le) counter_word (st₁_written q k h le g)

    -- it counts one more of what was taken there
    pub take_more : OneMore (counts_of A st) (counts_of A (do_take A st q k)) (get q k)
    unfolding after to_keep x st₁
    take_more =
        set_more W (st₁ q k h le g) (st₁_long q k h le g) (chosen q k to_keep) (chosen_has A q k to_keep l)
        (chosen_word A q k to_keep) (oldest A st q k)
        (taken q k) (h, le) counter_word (get q k) refl (chosen_sort q k to_keep).0 st (st₁_counter q k h le g)

    -- the hand or the keep has the link's oldest
    there : (b : Bool) → view A (after b) (chosen q k b) ≡ view A st (place q k 0)
    unfolding after
    there b =
        set_there W (st₁ q k h le g) (st₁_long q k h le g) (chosen q k b) (chosen_has A q k b l) (chosen_word A q k b) (oldest A st q k)
        (taken q k) (h, le) counter_word (λ i. omega (arith, ap sort i, chosen_sort q k b))
        ∙ oldest_is q k h le g

    -- all else is as the link's change left it
    elsewhere : (b : Bool) (d : Slot) → (chosen q k b ≡ d → ⊥) → (taken q k ≡ d → ⊥) → view A (after b) d ≡ view A (st₁ q k h le g) d
    unfolding after
    elsewhere b d m n =
        set_other W (st₁ q k h le g) (st₁_long q k h le g) (chosen q k b) (chosen_has A q k b l) (chosen_word A q k b) (oldest A st q k)
        (taken q k) (h, le) counter_word d m n

    module _ (waiting out : ℕ → ℕ → ℕ) (z : Spare A st q k) where
      links : (b : Bool) (q' k' i : ℕ) → view A (after b) (place q' k' i) ≡ view A (st₁ q k h le g) (place q' k' i)
      links b q' k' i = elsewhere b (place q' k' i) (λ e. omega (arith, ap sort e, chosen_sort q k b)) (λ e. omega (arith, ap sort e))

      -- another stop's hand and keep
      aside : (b : Bool) (q' k' : ℕ) → (get q k ≡ get q' k' → ⊥) → (d : Slot) → first d ≡ q' → second d ≡ k' → 3 < sort d → sort d < 6
          → view A (after b) d ≡ view A st d
      aside b q' k' n d u v r r' =
          elsewhere b d (λ e. n (ap₂ get (sym (chosen_at q k b).0 ∙ ap first e ∙ u) (sym (chosen_at q k b).1 ∙ ap second e ∙ v)))
          (λ e. omega (arith, ap sort e))
          ∙ st₁_other q k h le g d (λ j e. omega (arith, ap sort e))

      -- what the hand and the keep are then
      taking : (b c : Bool) → (b && eqb x 0) ≡ c
          → Taking (view A st (taken q k)) (view A st (given q k)) (view A st (hand q k)) (view A st (Slots.kept q k))
          (view A st (place q k 0)) (view A (after c) (hand q k)) (view A (after c) (Slots.kept q k)) (kind_of b)
      unfolding x
      taking false true e = absurd (let z : ◌≡◌ {A = ℕ} 0 1 = cc in omega arith)
      taking false false e =
          to_hand (there false)
          (elsewhere false (Slots.kept q k) (λ i. omega (arith, ap sort i)) (λ i. omega (arith, ap sort i))
          ∙ st₁_other q k h le g (Slots.kept q k) (λ j i. omega (arith, ap sort i)))
      taking true true e =
          to_keep_lem (sym (taken_is A st q k l) ∙ eqb-true (read A st (Taken (process_on A q k) (stream_on A q))) 0 e) (there true)
          (elsewhere true (hand q k) (λ i. omega (arith, ap sort i)) (λ i. omega (arith, ap sort i))
          ∙ st₁_other q k h le g (hand q k) (λ j i. omega (arith, ap sort i)))
      taking true false e =
          let n = eqb-false (read A st (Taken (process_on A q k) (stream_on A q))) 0 e in
          past_keep (omega (arith, taken_is A st q k l)) (there false)
          (elsewhere false (Slots.kept q k) (λ i. omega (arith, ap sort i)) (λ i. omega (arith, ap sort i))
          ∙ st₁_other q k h le g (Slots.kept q k) (λ j i. omega (arith, ap sort i)))

      -- and where the link's spare places are 0 it is a get of the abstract network
      pub take_moves : Moves (net_of A) (ranked_of W) waiting (counts_of A st) (get q k) (words_of A st out)
          (words_of A (do_take A st q k) out)
      unfolding after to_keep x st₁
      take_moves =
          get_moves W waiting st (do_take A st q k) out out q k
          (λ i. links to_keep q k i ∙ st₁_shift q k h le g z i)
          (λ q' k' i n. links to_keep q' k' i ∙ st₁_other q k h le g (place q' k' i) (λ j e. n (ap₂ get (ap first e) (ap second e))))
          (λ q' k' n. (
            aside to_keep q' k' n (hand q' k') refl refl (omega arith) (omega arith),
            aside to_keep q' k' n (Slots.kept q' k') refl refl
                (omega arith) (omega arith),
          ))
          (λ _. taking (stop_at A q k).keeps to_keep refl)
          (λ e. absurd (omega (arith, l)))
          (λ q' i n. refl)

  -- ---- receive

  module _ (q : ℕ) (h : q < pipe_number A) (g : view A st (taken q (stops_on A q)) < view A st (counter (put q (stops_on A q)))) where
    end : stops_on A q ≤ stops_on A q
    end = le_refl (stops_on A q)

    end_word : word_of A (taken q (stops_on A q)) ≡ Received q
    end_word = rw (le-ltb (stops_on A q) (stops_on A q) end)

    -- a receive writes to slots only
    pub receive_written : Written W st (do_receive A st q)
    unfolding st₁
    receive_written =
        more_written W (st₁ q (stops_on A q) h end g) (st₁_long q (stops_on A q) h end g) (taken q (stops_on A q)) (h, end) end_word
        (st₁_written q (stops_on A q) h end g)

    -- it counts one more of what was received
    pub receive_more : OneMore (counts_of A st) (counts_of A (do_receive A st q)) (get q (stops_on A q))
    unfolding st₁
    receive_more =
        one_more W (st₁ q (stops_on A q) h end g) (st₁_long q (stops_on A q) h end g) (taken q (stops_on A q)) (h, end) end_word
        (get q (stops_on A q)) refl st
        (st₁_counter q (stops_on A q) h end g)

    past : (d : Slot) → 3 < sort d → view A (do_receive A st q) d ≡ view A (st₁ q (stops_on A q) h end g) d
    unfolding st₁
    past d n = more_other W (st₁ q (stops_on A q) h end g) (st₁_long q (stops_on A q) h end g) (taken q (stops_on A q)) (h, end) end_word d
        (λ e. omega (arith, ap sort e))

    -- and is a get of the abstract network, if the received list changes in the pipe's next place only
    pub receive_moves : (waiting out out' : ℕ → ℕ → ℕ) → Spare A st q (stops_on A q)
        → out' q (view A st (taken q (stops_on A q))) ≡ oldest A st q (stops_on A q)
        → ((q' i : ℕ) → (q ≡ q' → view A st (taken q (stops_on A q)) ≡ i → ⊥) → out' q' i ≡ out q' i)
        → Moves (net_of A) (ranked_of W) waiting (counts_of A st) (get q (stops_on A q)) (words_of A st out)
        (words_of A (do_receive A st q) out')
    receive_moves waiting out out' z new old =
        get_moves W waiting st (do_receive A st q) out out' q (stops_on A q)
        (λ i. past (place q (stops_on A q) i) (omega arith) ∙ st₁_shift q (stops_on A q) h end g z i)
        (λ q' k' i n. past (place q' k' i) (omega arith) ∙ st₁_other q (stops_on A q) h end g (place q' k' i)
        (λ j e. n (ap₂ get (ap first e) (ap second e))))
        (λ q' k' n. (
          past (hand q' k') (omega arith) ∙ st₁_other q (stops_on A q) h end g (hand q' k') (λ j e. omega (arith, ap sort e)),
          past (Slots.kept q' k') (omega arith) ∙ st₁_other q (stops_on A q) h end g (Slots.kept q' k') (λ j e. omega (arith, ap sort e)),
        ))
        (λ l. absurd (omega arith))
        (λ e. new ∙ oldest_is q (stops_on A q) h end g)
        (λ q' i n. old q' i
        (λ e d. n (ap (λ (q : ℕ). get q (stops_on A q)) e) (ap (λ (q : ℕ). view A st (taken q (stops_on A q))) (sym e) ∙ d)))
