-- The four claims of demand 3 for every state that granted steps lead to. Assumes nothing.
use Rattle.std.specs.Prelude.{◌≡◌}
use Rattle.std.proofs.Common.{◌∙◌, le_refl}
use Rattle.std.proofs.Math.Path.{ap}
use Prim.Native.Nat.{ℕ, suc, ◌+◌, ◌-◌, ◌≤◌, ◌<◌}
use native.Mathlib.Omega.{arith}
use Rattle.abstract_network.specs.Cases.{Order, less, at_least, order}
use Rattle.abstract_network.specs.Counters.{Kind, Step, put, get, fire, Counts, Guard, get_elements, below_head, all_put}
use Rattle.abstract_network.specs.Counters.{all_get}
use Rattle.abstract_network.specs.Words.{Hold, passes, keeps, Words}
use Rattle.abstract_network.specs.Due.{Occurs, ready_occurs}
use Rattle.abstract_network.specs.Turns.{Fired}
use Rattle.abstract_network.specs.Values.{plain, value_last}
use Rattle.abstract_network.specs.System.{System, final}
use Rattle.abstract_network.specs.Good.{Granted, Good}

module _ (X : System) where
  open X use {net, ranked, laid, clock, program, geometry, bodied}
  open net use {stops, elements, hop, process, kind, soak, count}
  open laid use {pipe_through, place_on, stream_on}
  open program use {streams, instances}
  open geometry use {owner, firing, instance_of, element_on}

  abbrev pub Fine : Counts → Words → Type 0
  Fine c W = Good X c W

  abbrev pub Grant : Counts → Words → Step → Counts → Words → Type 0
  Grant c W a c' W' = Granted X c W a c' W'

  -- after t granted steps
  pub data Reach : ℕ → Counts → Words → Type 0 where
    start : Reach 0 (λ a. 0) (record { link = λ q k i. 0; hand = λ q k. 0; kept = λ q k. 0; out = λ q i. 0 })
    more : {t : ℕ} {c c' : Counts} {a : Step} {W W' : Words} → Reach t c W → Grant c W a c' W' → Reach (suc t) c' W'

  -- all values are out
  unfoldable pub Out : Counts → Type 0
  Out c = (q : ℕ) → c (get q (stops q)) ≡ elements q

  module _ {c : Counts} {W : Words} (Q : Fine c W) where
    -- stretch: what is received is final, and the rest is 0
    pub stretch : (q i : ℕ) → i < c (get q (stops q)) → W.out q i ≡ plain program instances (stream_on q) (element_on q i)
    stretch q i h =
        let l : i < elements q = omega (arith, get_elements net Q.inv q (stops q) (le_refl _)) in
        Q.stored.outs q i h
        ∙ value_last program bodied (Fired net owner firing c) Q.store Q.valued (stream_on q) (element_on q i)
        (geometry.stream_lt q (omega arith))
        (λ k b e. final net ranked Q.inv owner firing k q i (geometry.instance_of_lem k b).0 (geometry.find k q i b l e) h)

    pub stretch_rest : (q i : ℕ) → c (get q (stops q)) ≤ i → W.out q i ≡ 0
    stretch_rest q i h = Q.stored.blank q i h

    -- all out: every counter is at its total, and no step may be granted
    pub done : 0 < streams → Out c → (a : Step) → Occurs net a (c a) → ⊥
    unfolding Out
    done z o (put q k) (l, h) = omega (arith, all_put net Q.inv laid.shapes q (o q) (stops q - k) k (omega arith))
    done z o (get q k) (l, h) = go (order k (stops q))
      where
        go : Order k (stops q) → ⊥
        go (less b) = omega (arith, (all_get net Q.inv laid.shapes q (o q) k b).0)
        go (at_least b) = let e : k ≡ stops q = omega arith in omega (arith, o q, ap (λ (k : ℕ). c (get q k)) e)
    done z o (fire p) h =
        let s = geometry.stream_at p 0 (omega arith) z in
        let a = laid.on p 0 (omega arith) s.0 in
        let e = (all_get net Q.inv laid.shapes (laid.pipe_through p 0) (o (laid.pipe_through p 0)) (laid.place_on p 0) a.0).1 in
        omega (arith, ap (λ (p : ℕ). c (fire p)) a.1, ap count a.1)

    pub not_ready : 0 < streams → Out c → (a : Step) → Guard net c a → ⊥
    not_ready z o a g = done z o a (ready_occurs net Q.inv a g)

    -- finish: all out, the words are fixed
    pub finish_link : Out c → (q k i : ℕ) → k ≤ stops q → W.link q k i ≡ 0
    unfolding Out
    finish_link o q k i l = Q.stored.spare q k i l (go (order k (stops q)))
      where
        go : Order k (stops q) → c (put q k) ≤ c (get q k) + i
        go (less b) = omega (arith, (all_get net Q.inv laid.shapes q (o q) k b).0, below_head net Q.inv q k l)
        go (at_least b) = let e : k ≡ stops q = omega arith in
            omega (arith, o q, ap (λ (k : ℕ). c (get q k)) e, below_head net Q.inv q k l)

    pub finish_stop : Out c → (q k : ℕ) → k < stops q → (W.hand q k ≡ 0) × (W.kept q k ≡ 0)
    unfolding Out
    finish_stop o q k l =
        let e = (all_get net Q.inv laid.shapes q (o q) k l).0 in
        let d = all_put net Q.inv laid.shapes q (o q) (stops q - suc k) (suc k) (omega arith) in
        go (omega arith) (Q.stored.holds q k l)
      where
        go : {n r r' x y hv kv : ℕ} {B : ℕ → ℕ} {K : Kind} → x ≡ y → Hold n r r' x y B hv kv K → (hv ≡ 0) × (kv ≡ 0)
        go e (passes a b u) = (a e, u)
        go e (keeps a b u v) = (a (omega arith), u e)
