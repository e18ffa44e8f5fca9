-- Send and give on a state are the puts of the abstract network. Assumes nothing.
use Rattle.std.proofs.Math.Path.{◌≡◌, refl, sym, ap, subst}
use Rattle.std.proofs.Common.{◌∙◌, ap₂}
use Rattle.std.specs.Prelude.{Bool, cond, ◌&&◌, List, eqb, length, get_or}
use Rattle.std.proofs.Math.Bool.{true, false}
use Prim.Native.Nat.{ℕ, suc, ◌+◌, ◌≤◌, ◌<◌}
use native.Mathlib.Omega.{arith}
use borrow.Author.Tests.{eqb-true, eqb-false}
use Rattle.meaning.specs.Array.{Array, pipe_number, pipe_at, stops_on, stop_at, part_start}
use Rattle.meaning.specs.State.{Word, Taken, Given, Hand, Keep, Sent, word_count, read, write}
use Rattle.meaning.specs.Rules.{process_on, stream_on, fill, put_value, increase, do_send, do_give}
use Rattle.abstract_network.specs.Counters.{Offer, passed, kept, put, OneMore}
use Rattle.abstract_network.specs.Words.{Giving, of_hand, of_other, of_keep_lem, Moves}
use Rattle.abstract_network.specs.Sound.{Sound}
use Rattle.network.specs.Wiring.{kind_of, net_of, Wired, stop_pipe, ranked_of}
use Rattle.network.specs.Slots.{Slot, sent, taken, given, hand, place, sort, first, second, counter, Has, word_of, view, view_is}
use Rattle.network.specs.Slots.{counts_of, words_of}
use Rattle.network.proofs.Slots.{view_same, view_other}
use Rattle.network.specs.Slots as Slots
use Rattle.network.specs.Ready.{taken_is, given_is}
use Rattle.network.proofs.Links.{counter_sort, Written, nothing, also, written_length, more_other, more_written, one_more, set_there}
use Rattle.network.proofs.Links.{set_other, set_written, set_more}
use Rattle.network.specs.Moving.{put_moves, chosen, chosen_sort, chosen_at, chosen_has, chosen_word, fill_is}

module _ {A : Array} (W : Wired A) (st : List ℕ) (long : word_count A ≤ length st) (S : Sound (net_of A) (counts_of A st)) where
  -- ---- putting v into link k of pipe q

  module _ (q k : ℕ) (h : q < pipe_number A) (l : k ≤ stops_on A q)
      (g : view A st (counter (put q k)) < view A st (taken q k) + (pipe_at A q).hop) where
    fill_next : view A st (counter (put q k)) ≡ view A st (taken q k) + fill A st q k
    fill_next = omega (arith, fill_is A st q k h l, (S.link q k l).0)

    fill_has : Has A (place q k (fill A st q k))
    fill_has = (h, l, omega (arith, fill_next, g))

    putting_written : (v : ℕ) → Written W st (put_value A st q k v)
    putting_written v = also nothing (place q k (fill A st q k)) v fill_has

    putting_long : (v : ℕ) → word_count A ≤ length (put_value A st q k v)
    putting_long v = omega (arith, long, written_length W (putting_written v))

    putting_there : (v : ℕ) → view A (put_value A st q k v) (place q k (fill A st q k)) ≡ v
    putting_there v = view_same A W st (place q k (fill A st q k)) v long fill_has

    putting_other : (v : ℕ) (d : Slot) → (place q k (fill A st q k) ≡ d → ⊥) → view A (put_value A st q k v) d ≡ view A st d
    putting_other v d n = view_other A W st (place q k (fill A st q k)) d v fill_has n

  -- ---- send

  module _ (q : ℕ) (h : q < pipe_number A) (g : view A st (sent q) < view A st (taken q 0) + (pipe_at A q).hop) (list : List ℕ) where
    first_link : 0 ≤ stops_on A q
    first_link = omega arith

    v : ℕ
    v = get_or list (part_start A q + read A st (Sent q)) 0

    -- a send writes to slots only
    pub send_written : Written W st (do_send A list st q)
    unfolding v
    send_written =
        more_written W (put_value A st q 0 v) (putting_long q 0 h first_link g v) (sent q) h refl (putting_written q 0 h first_link g v)

    -- it counts one more of what was sent
    pub send_more : OneMore (counts_of A st) (counts_of A (do_send A list st q)) (put q 0)
    unfolding v
    send_more =
        one_more W (put_value A st q 0 v) (putting_long q 0 h first_link g v) (sent q) h refl (put q 0) refl st
        (λ d. putting_other q 0 h first_link g v (counter d) (λ e. omega (arith, ap sort e, counter_sort d)))

    past : (d : Slot) → 3 < sort d → view A (do_send A list st q) d ≡ view A (put_value A st q 0 v) d
    unfolding v
    past d n = more_other W (put_value A st q 0 v) (putting_long q 0 h first_link g v) (sent q) h refl d (λ e. omega (arith, ap sort e))

    -- and is a put of the abstract network, of the next waiting value
    pub send_moves : (waiting out : ℕ → ℕ → ℕ) → get_or list (part_start A q + read A st (Sent q)) 0 ≡ waiting q (view A st (sent q))
        → Moves (net_of A) (ranked_of W) waiting (counts_of A st) (put q 0) (words_of A st out) (words_of A (do_send A list st q) out)
    unfolding v
    send_moves waiting out e =
        put_moves W waiting st (do_send A list st q) out q 0 (fill A st q 0) v
        (fill_next q 0 h first_link g)
        (past (place q 0 (fill A st q 0)) (omega arith) ∙ putting_there q 0 h first_link g v)
        (λ q' k' j n. past (place q' k' j) (omega arith) ∙ putting_other q 0 h first_link g v (place q' k' j) n)
        (λ q' k' n. (
          past (hand q' k') (omega arith) ∙ putting_other q 0 h first_link g v (hand q' k') (λ i. omega (arith, ap sort i)),
          past (Slots.kept q' k') (omega arith) ∙ putting_other q 0 h first_link g v (Slots.kept q' k') (λ i. omega (arith, ap sort i)),
        ))
        (λ _. e)
        (λ j i. absurd (omega arith))

  -- ---- give

  module _ (q k : ℕ) (l : k < stops_on A q) (g : view A st (given q k) < view A st (taken q (suc k)) + (pipe_at A q).hop) where
    h : q < pipe_number A
    h = stop_pipe A q k l

    -- what the give reads: the two counts, whether the stop keeps, and so what it gives
    x : ℕ
    x = read A st (Taken (process_on A q k) (stream_on A q))

    y : ℕ
    y = read A st (Given (process_on A q k) (stream_on A q))

    of_keep : Bool
    of_keep = (stop_at A q k).keeps && eqb x (suc y)

    source : Bool → Word
    source b = cond b (Keep (process_on A q k) (stream_on A q)) (Hand (process_on A q k) (stream_on A q))

    source_is : (b : Bool) → word_of A (chosen q k b) ≡ source b
    unfolding source
    source_is = chosen_word A q k

    value : Bool → ℕ
    value b = read A st (source b)

    value_is : (b : Bool) → value b ≡ view A st (chosen q k b)
    unfolding value
    value_is b = ap (read A st) (sym (source_is b)) ∙ sym (view_is A st (chosen q k b) (chosen_has A q k b l))

    -- the link with the value, and the state after it, by the test that chose the keep
    st₁ : Bool → List ℕ
    st₁ b = put_value A st q (suc k) (value b)

    st₁_long : (b : Bool) → word_count A ≤ length (st₁ b)
    unfolding st₁
    st₁_long b = putting_long q (suc k) h l g (value b)

    after : Bool → List ℕ
    after b = increase A (write A (st₁ b) (source b) 0) (Given (process_on A q k) (stream_on A q))

    -- a give writes to slots only
    pub give_written : Written W st (do_give A st q k)
    unfolding after of_keep x y source value st₁
    give_written =
        set_written W (st₁ of_keep) (st₁_long of_keep) (chosen q k of_keep) (chosen_has A q k of_keep l) (source_is of_keep) 0
        (given q k) l refl
        (putting_written q (suc k) h l g (value of_keep))

    -- it counts one more of what was given there
    pub give_more : OneMore (counts_of A st) (counts_of A (do_give A st q k)) (put q (suc k))
    unfolding after of_keep x y source value st₁
    give_more =
        set_more W (st₁ of_keep) (st₁_long of_keep) (chosen q k of_keep) (chosen_has A q k of_keep l) (source_is of_keep) 0
        (given q k) l refl
        (put q (suc k)) refl
        (chosen_sort q k of_keep).0 st
        (λ d. putting_other q (suc k) h l g (value of_keep) (counter d) (λ e. omega (arith, ap sort e, counter_sort d)))

    -- what was given is cleared
    emptied : (b : Bool) → view A (after b) (chosen q k b) ≡ 0
    unfolding after
    emptied b =
        set_there W (st₁ b) (st₁_long b) (chosen q k b) (chosen_has A q k b l) (source_is b) 0 (given q k) l refl
        (λ e. omega (arith, ap sort e, chosen_sort q k b))

    elsewhere : (b : Bool) (d : Slot) → (chosen q k b ≡ d → ⊥) → (given q k ≡ d → ⊥) → view A (after b) d ≡ view A (st₁ b) d
    unfolding after
    elsewhere b = set_other W (st₁ b) (st₁_long b) (chosen q k b) (chosen_has A q k b l) (source_is b) 0 (given q k) l refl

    -- what no rule of this link writes
    aside : (b : Bool) (d : Slot) → (chosen q k b ≡ d → ⊥) → 3 < sort d → sort d < 6 → view A (after b) d ≡ view A st d
    unfolding st₁
    aside b d n r r' =
        elsewhere b d n (λ e. omega (arith, ap sort e)) ∙ putting_other q (suc k) h l g (value b) d (λ e. omega (arith, ap sort e))

    links : (b : Bool) (q' k' i : ℕ) → view A (after b) (place q' k' i) ≡ view A (st₁ b) (place q' k' i)
    links b q' k' i = elsewhere b (place q' k' i) (λ e. omega (arith, ap sort e, chosen_sort q k b)) (λ e. omega (arith, ap sort e))

    aside_at : (b : Bool) (q' k' : ℕ) → (put q (suc k) ≡ put q' (suc k') → ⊥) → (d : Slot) → first d ≡ q' → second d ≡ k'
        → 3 < sort d → sort d < 6 → view A (after b) d ≡ view A st d
    aside_at b q' k' n d u v =
        aside b d
        (λ e. n (ap₂ (λ (q k : ℕ). put q (suc k)) (sym (chosen_at q k b).0 ∙ ap first e ∙ u) (sym (chosen_at q k b).1 ∙ ap second e ∙ v)))

    module _ (waiting out : ℕ → ℕ → ℕ) (n s t f : ℕ) where
      -- what is given, and what the hand and the keep are then
      giving : (b c : Bool) → (b && eqb x (suc y)) ≡ c → Offer n s t (view A st (taken q k)) (view A st (given q k)) f (kind_of b)
          → Giving (view A st (taken q k)) (view A st (given q k)) (view A st (hand q k)) (view A st (Slots.kept q k)) (value c)
          (view A (after c) (hand q k)) (view A (after c) (Slots.kept q k)) (kind_of b)
      unfolding x y
      giving false true e o = absurd (let z : ◌≡◌ {A = ℕ} 0 1 = cc in omega arith)
      giving false false e o =
          of_hand (value_is false) (emptied false)
          (aside false (Slots.kept q k) (λ i. omega (arith, ap sort i)) (omega arith) (omega arith))
      giving true true e o =
          of_keep_lem
          (sym (taken_is A st q k l)
          ∙ eqb-true (read A st (Taken (process_on A q k) (stream_on A q))) (suc (read A st (Given (process_on A q k) (stream_on A q)))) e
          ∙ ap suc (given_is A st q k l))
          (value_is true)
          (emptied true)
          (aside true (hand q k) (λ i. omega (arith, ap sort i)) (omega arith) (omega arith))
      giving true false e o =
          of_other (two o) (value_is false) (emptied false)
          (aside false (Slots.kept q k) (λ i. omega (arith, ap sort i)) (omega arith) (omega arith))
        where
          two : Offer n s t (view A st (taken q k)) (view A st (given q k)) f (kind_of true)
              → view A st (taken q k) ≡ suc (suc (view A st (given q k)))
          two (passed i) = i
          two (kept i j m) =
              absurd
              (eqb-false (read A st (Taken (process_on A q k) (stream_on A q)))
              (suc (read A st (Given (process_on A q k) (stream_on A q)))) e
              (taken_is A st q k l ∙ i ∙ ap suc (sym (given_is A st q k l))))

      -- and is a put of the abstract network
      pub give_moves : Offer n s t (view A st (taken q k)) (view A st (given q k)) f (kind_of (stop_at A q k).keeps)
          → Moves (net_of A) (ranked_of W) waiting (counts_of A st) (put q (suc k)) (words_of A st out) (words_of A (do_give A st q k) out)
      unfolding after of_keep x y source value st₁
      give_moves o =
          put_moves W waiting st (do_give A st q k) out q (suc k) (fill A st q (suc k)) (value of_keep)
          (fill_next q (suc k) h l g)
          (links of_keep q (suc k) (fill A st q (suc k)) ∙ putting_there q (suc k) h l g (value of_keep))
          (λ q' k' j n. links of_keep q' k' j ∙ putting_other q (suc k) h l g (value of_keep) (place q' k' j) n)
          (λ q' k' n. (
            aside_at of_keep q' k' n (hand q' k') refl refl (omega arith) (omega arith),
            aside_at of_keep q' k' n (Slots.kept q' k') refl
                refl (omega arith) (omega arith),
          ))
          (λ e. absurd (omega arith))
          (λ j e. let i : k ≡ j = omega arith in
          subst
          (λ (j : ℕ). Giving (view A st (taken q j)) (view A st (given q j)) (view A st (hand q j))
          (view A st (Slots.kept q j)) (value of_keep)
          (view A (do_give A st q k) (hand q j)) (view A (do_give A st q k) (Slots.kept q j)) (kind_of (stop_at A q j).keeps))
          i
          (giving (stop_at A q k).keeps of_keep refl o))
