-- Every granted step keeps the invariant of demand 3. Assumes nothing.
use Rattle.std.specs.Prelude.{◌≡◌, true, ◌⊎◌}
use Rattle.std.proofs.Math.Path.{sym, ap, subst}
use Rattle.std.proofs.Common.{◌∙◌, ap₂, inl, inr, arith}
use Prim.Native.Nat.{ℕ, suc, ◌<◌}
use Rattle.std.proofs.Math.Decide.{ℕ_discrete}
use Rattle.abstract_network.specs.Cases.{Equal, same, other, equal}
use Rattle.abstract_network.specs.Counters.{Step, put, fire, Counts, Guard}
use Rattle.abstract_network.specs.Counters.{OneMore}
use Rattle.abstract_network.specs.Counters.{get_elements}
use Rattle.abstract_network.specs.Ranks.{rank_zero}
use Rattle.abstract_network.specs.Words.{Words, Moves, stored_move}
use Rattle.abstract_network.specs.Firing.{Own, Owns, Fires, Changed, stored_fire}
use Rattle.abstract_network.specs.Turns.{Fired, in_turn}
use Rattle.abstract_network.specs.Values.{Store, Fired', inputs, exec, exec_hit, exec_miss, Upto, valued_same}
use Rattle.abstract_network.specs.Values.{valued_fire, value_first}
use Rattle.abstract_network.specs.System.{word, word_is, System, sent}
use Rattle.abstract_network.specs.Good.{view, uses, Granted, moves, fires, Good}
use Rattle.abstract_network.proofs.Counters.{inv_step}

module _ (X : System) where
  open X use {net, ranked, lined, laid, program, geometry, bodied}
  open net use {stops, elements, hop, process, kind, soak, count}
  open ranked use {rank}
  open laid use {pipe_through, place_on, stream_on}
  open program use {streams, instances, touched, body, written, values}
  open geometry use {owner, firing, instance_of, element_on}

  good_move : {c c' : Counts} {a : Step} {W W' : Words} → Good X c W → ((p : ℕ) → a ≡ fire p → ⊥) → Guard net c a → OneMore c c' a
      → Moves net ranked (view X values) c a W W' → Good X c' W'
  good_move {c} {c'} {a} {W} {W'} Q n g B M =
      record {
        inv = inv_step net B Q.inv g;
        store = Q.store;
        valued = valued_same program (Fired net owner firing c) (Fired net owner firing c') Q.store still Q.valued;
        stored = stored_move net ranked B Q.inv g (view X Q.store) (view X values) M Q.stored unsent;
      }
    where
      still : (i : ℕ) → i < instances → (Fired net owner firing c i → Fired net owner firing c' i) ×
          (Fired net owner firing c' i → Fired net owner firing c i)
      still i h = let e = B.rest (fire (owner i)) (n (owner i)) in omega arith

      unsent : (q : ℕ) → c (put q 0) < elements q → view X Q.store q (c (put q 0)) ≡ view X values q (c (put q 0))
      unsent q l =
          value_first program bodied (Fired net owner firing c) Q.store Q.valued (stream_on q) (element_on q (c (put q 0)))
          (geometry.stream_lt q (omega arith))
          (λ i h e f. omega (arith, sent net ranked Q.inv owner firing i q (c (put q 0)) (geometry.find i q (c (put q 0)) h l e) f))

  module _ {c c' : Counts} {W W' : Words} (Q : Good X c W) (p : ℕ) (g : Guard net c (fire p)) (B : OneMore c c' (fire p))
      (M : Fires net ranked c p W W' (λ q k. body (instance_of p (c (fire p))) (uses X W p) (stream_on q))) where
    i : ℕ
    i = instance_of p (c (fire p))

    old : Store
    old = Q.store

    i_lt : i < instances
    unfolding i
    i_lt = (geometry.instance_is p (c (fire p)) g.0).0

    i_owner : owner i ≡ p
    unfolding i
    i_owner = (geometry.instance_is p (c (fire p)) g.0).1

    i_nth : firing i ≡ c (fire p)
    unfolding i
    i_nth = (geometry.instance_is p (c (fire p)) g.0).2

    -- it is the turn of i
    turn : (s : ℕ) → s < streams → written s ≡ true → Upto touched instances (Fired net owner firing c) s (touched i s) i
    turn s l w =
        in_turn net owner firing Q.inv i (subst (λ (p : ℕ). Guard net c (fire p)) (sym i_owner) g)
        (i_nth ∙ ap (λ (p : ℕ). c (fire p)) (sym i_owner)) instances touched s i_lt
        (λ i h. (geometry.instance_of_lem i h).0)
        (geometry.meets s l w)

    -- the words that it uses are the values of its elements
    words : (s : ℕ) → s < streams → uses X W p s ≡ inputs program i old s
    unfolding old
    words s l =
        let a = geometry.stream_at p s (omega (arith, g.0)) l in
        let o = laid.on p s (omega (arith, g.0)) a.0 in
        at (pipe_through p s) (place_on p s) o.0 o.1 a.1
      where
        at : (q k : ℕ) → k < stops q → process q k ≡ p → stream_on q ≡ s
            → word (kind q k) (W.hand q k) (W.kept q k) ≡ Q.store s (touched i s)
        at q k h e z =
            let w = word_is (λ t. rank_zero net ranked q (suc k) (lined.moves q k h t (rw e (omega (arith, g.0)))) h)
            (get_elements net Q.inv q k (omega arith)) (g.1 q k h e) (Q.stored.holds q k h) in
            let o : Own (soak q k) (firing i) (rank q k) w.0 (kind q k) = subst
            (λ (f : ℕ). Own (soak q k) f (rank q k) w.0 (kind q k)) (ap (λ (p : ℕ). c (fire p)) e ∙ sym i_nth) w.1 in
            w.2 ∙ ap (Q.store (stream_on q)) (sym (geometry.touch i q k w.0 i_lt h (e ∙ sym i_owner) o))
            ∙ ap (λ (s : ℕ). Q.store s (touched i s)) z

    new : ℕ → ℕ → ℕ
    new q k = body (instance_of p (c (fire p))) (uses X W p) (stream_on q)

    owned : (q k j : ℕ) → process q k ≡ p → Owns net ranked c q k j → Own (soak q k) (firing i) (rank q k) j (kind q k)
    owned q k j e o = subst (λ (f : ℕ). Own (soak q k) f (rank q k) j (kind q k)) (ap (λ (p : ℕ). c (fire p)) e ∙ sym i_nth) o

    disowned : (q k j : ℕ) → process q k ≡ p → Own (soak q k) (firing i) (rank q k) j (kind q k) → Owns net ranked c q k j
    disowned q k j e o = subst (λ (f : ℕ). Own (soak q k) f (rank q k) j (kind q k)) (i_nth ∙ ap (λ (p : ℕ). c (fire p)) (sym e)) o

    changed : Changed net ranked c p new (view X old) (view X (exec program i old))
    unfolding new i
    changed =
        record {
          own = λ q k j h e o.
              exec_hit program i old (stream_on q) (element_on q j) (geometry.touch i q k j i_lt h (e ∙ sym i_owner) (owned q k j e o))
              ∙ sym (bodied.local i (uses X W p) (inputs program i old) words (stream_on q) (geometry.stream_lt q (ranked.some q k h)));
          rest = λ q j l n.
              exec_miss program i old (stream_on q) (element_on q j)
              (λ e. let t = geometry.find i q j i_lt l e in
              n t.pos t.on (t.is ∙ i_owner) (disowned q t.pos j (t.is ∙ i_owner) t.own));
        }

    next : (k : ℕ) → k < instances → (Fired net owner firing c k ⊎ (k ≡ i) → Fired net owner firing c' k) ×
        (Fired net owner firing c' k → Fired net owner firing c k ⊎ (k ≡ i))
    unfolding i
    next k h = go (ℕ_discrete (owner k) p)
      where
        go : Dec (owner k ≡ p) → (Fired net owner firing c k ⊎ (k ≡ i) → Fired net owner firing c' k) ×
            (Fired net owner firing c' k → Fired net owner firing c k ⊎ (k ≡ i))
        go (yes e) = (fwd, λ l. back (equal (firing k) (c (fire p))) l)
          where
            up : c' (fire (owner k)) ≡ suc (c (fire (owner k)))
            up = rw e B.up

            at : c (fire (owner k)) ≡ c (fire p)
            at = ap (λ (p : ℕ). c (fire p)) e

            fwd : Fired net owner firing c k ⊎ (k ≡ i) → Fired net owner firing c' k
            fwd (inl f) = omega (arith, up)
            fwd (inr z) = omega (arith, up, at, ap firing z, i_nth)

            back : Equal (firing k) (c (fire p)) → Fired net owner firing c' k → Fired net owner firing c k ⊎ (k ≡ i)
            back (same z) l = inr (sym (geometry.instance_of_lem k h).1 ∙ ap₂ instance_of e z)
            back (other z) l = inl (omega (arith, up, at))
        go (no n) = (fwd, λ l. inl (omega (arith, apart)))
          where
            apart : c' (fire (owner k)) ≡ c (fire (owner k))
            apart = B.rest (fire (owner k)) (λ e. n (cc))

            fwd : Fired net owner firing c k ⊎ (k ≡ i) → Fired net owner firing c' k
            fwd (inl f) = omega (arith, apart)
            fwd (inr z) = absurd (n (ap owner z ∙ i_owner))

    good_fire : Good X c' W'
    unfolding old Fired' new
    good_fire =
        record {
          inv = inv_step net B Q.inv g;
          store = exec program i old;
          valued =
              valued_same program (λ k. Fired net owner firing c k ⊎ (k ≡ i)) (Fired net owner firing c') (exec program i old) next
              (valued_fire program bodied (Fired net owner firing c) old i i_lt turn Q.valued);
          stored = stored_fire net ranked lined B Q.inv g M changed Q.stored;
        }

  -- every granted step keeps a good state good
  pub good_step : {c c' : Counts} {a : Step} {W W' : Words} → Good X c W → Granted X c W a c' W' → Good X c' W'
  good_step Q (moves n g B M) = good_move Q n g B M
  good_step Q (fires p e g B M) = good_fire Q p g B M
