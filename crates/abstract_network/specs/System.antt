-- What the network needs to know of the geometry, and two facts that follow: an instance that has fired had its elements sent, and an
-- element that is out has had all its instances fired. Assumes nothing.
use Rattle.std.specs.Prelude.{◌≡◌, refl, true, ◌⊎◌, ℕ, zero, suc, ◌+◌, ◌-◌, ◌≤◌, ◌<◌}
use Rattle.std.proofs.Common.{◌∙◌, ap, inl, inr, le_refl, arith}
use Rattle.abstract_network.specs.Counters.{Kind, through, keep, AtStop, passing, fresh, holding, gone, Use, hand, held, put, get}
use Rattle.abstract_network.specs.Counters.{fire}
use Rattle.abstract_network.specs.Counters.{Counts, Net, Inv, along}
use Rattle.abstract_network.specs.Ranks.{wrap, Wrap, low, high, wrapped, Ranked, rank_keep, rank_zero, upstream, above, below}
use Rattle.abstract_network.specs.Words.{Hold, passes, keeps}
use Rattle.abstract_network.specs.Firing.{Own, in_hand, in_keep, Lined}
use Rattle.abstract_network.specs.Due.{Clock, Laid}
use Rattle.abstract_network.specs.Turns.{Before, Fired}
use Rattle.abstract_network.specs.Values.{Program, Body}

-- the word that a process uses
abbrev pub word : Kind → ℕ → ℕ → ℕ
word through hv kv = hv
word keep hv kv = kv

-- it is the value of the element that it owns
pub word_is : {n s t x y f r r' hv kv : ℕ} {B : ℕ → ℕ} {K : Kind} → (K ≡ through → r' ≡ 0) → x ≤ n → Use n s t x y f K
    → Hold n r r' x y B hv kv K → (j : ℕ) × Own s f r j K × (word K hv kv ≡ B j)
word_is {n} {s} {t} {x} {y} {f} {r} {r'} {B = B} z w (hand a b) (passes u v k) =
    (s + f, in_hand refl, v (omega arith) ∙ ap B (is (wrapped n (r' + y))))
  where
    is : Wrap n (r' + y) → wrap n (r' + y) ≡ s + f
    is (low h i) = omega (arith, z refl)
    is (high h i) = absurd (omega (arith, z refl))
word_is {r = r} z w (held a) (keeps u v k l) = (r, in_keep refl, l a)

module _ (N : Net) (R : Ranked N) where
  open N use {stops, elements, hop, process, kind, soak, count}
  open R use {rank}

  -- where instance i meets the j-th element of pipe q
  pub record Spot (owner firing : ℕ → ℕ) (i q j : ℕ) : Type 0 where
    pub pos : ℕ
    pub on : pos < stops q
    pub is : process q pos ≡ owner i
    pub own : Own (soak q pos) (firing i) (rank q pos) j (kind q pos)

  -- what geometry knows of the instances: which process fires each, and which elements of which pipes it touches
  pub record Geometry (D : Laid N) (P : Program) : Type 0 where
    pub owner : ℕ → ℕ  -- of instance i, the process that fires it
    pub firing : ℕ → ℕ  -- and as its how-manieth
    pub instance_of : ℕ → ℕ → ℕ  -- back from these
    pub element_on : ℕ → ℕ → ℕ  -- the j-th element of pipe q
    pub instance_is : (p j : ℕ) → j < count p
        → (instance_of p j < P.instances) × (owner (instance_of p j) ≡ p) × (firing (instance_of p j) ≡ j)
    pub instance_of_lem : (i : ℕ) → i < P.instances → (firing i < count (owner i)) × (instance_of (owner i) (firing i) ≡ i)
    pub stream_lt : (q : ℕ) → 0 < elements q → D.stream_on q < P.streams
    pub stream_at : (p s : ℕ) → 0 < count p → s < P.streams → (s < D.streams) × (D.stream_on (D.pipe_through p s) ≡ s)
    -- a firing uses the element that the pipe's order says
    pub touch : (i q k j : ℕ) → i < P.instances → k < stops q → process q k ≡ owner i → Own (soak q k) (firing i) (rank q k) j (kind q k)
        → P.touched i (D.stream_on q) ≡ element_on q j
    -- an instance that touches an element of a pipe fires at a process of that pipe that uses it
    pub find : (i q j : ℕ) → i < P.instances → j < elements q → P.touched i (D.stream_on q) ≡ element_on q j → Spot owner firing i q j
    -- of two instances that touch one written element the one before in written order comes to it before
    pub meets : (s : ℕ) → s < P.streams → P.written s ≡ true → (i i' : ℕ) → i < i' → i' < P.instances → P.touched i s ≡ P.touched i' s
        → Before N owner firing i i'

  module _ {c : Counts} (I : Inv N c) (owner firing : ℕ → ℕ) where
    -- what has fired was sent
    pub sent : (i q j : ℕ) → Spot owner firing i q j → Fired N owner firing c i → j < c (put q 0)
    sent i q j T f =
        go (I.stop q T.pos T.on) T.own refl
      where
        k : ℕ
        k = T.pos

        f' : firing i < c (fire (process q k))
        f' = rw T.is f

        start_of : 0 < k ⊎ (k ≡ 0) → c (get q k) ≤ c (put q 0)
        start_of (inl l) = omega (arith, upstream N R I q k 0 l (omega (arith, T.on)), (I.link q 0 (omega arith)).0)
        start_of (inr e) = rw e (I.link q 0 (omega arith)).0

        split : (a : ℕ) → 0 < a ⊎ (a ≡ 0)
        split zero = inr refl
        split (suc a) = inl (omega arith)

        go : {K : Kind} → AtStop (elements q) (soak q k) (count (process q k)) (c (get q k)) (c (put q (suc k))) (c (fire (process q k))) K
            → Own (soak q k) (firing i) (rank q k) j K → kind q k ≡ K → j < c (put q 0)
        go (passing a b u v) (in_hand e) K = omega (arith, start_of (split k), f')
        go (fresh a b u) (in_keep e) K = absurd (omega (arith, f'))
        go (holding a b u) (in_keep e) K =
            let h = above N R I q k T.on K (omega arith) u k 0 (omega arith) in
            omega (arith, R.start q, (rank_keep N R q k T.on K).1, (I.link q 0 (omega arith)).0, h)
        go (gone a b u) (in_keep e) K = omega (arith, start_of (split k), (rank_keep N R q k T.on K).1)

    -- what is out has fired: it is final
    pub final : (i q j : ℕ) → firing i < count (owner i) → Spot owner firing i q j → j < c (get q (stops q)) → Fired N owner firing c i
    final i q j h T o = rw T.is at (go (I.stop q T.pos T.on) T.own refl)
      where
        k : ℕ
        k = T.pos

        h' : firing i < count (process q k)
        h' = rw T.is h

        past : c (get q (stops q)) ≤ c (put q (suc k))
        past = along N I q k (stops q) T.on (le_refl _)

        go : {K : Kind} → AtStop (elements q) (soak q k) (count (process q k)) (c (get q k)) (c (put q (suc k))) (c (fire (process q k))) K
            → Own (soak q k) (firing i) (rank q k) j K → kind q k ≡ K → firing i < c (fire (process q k))
        go (passing a b u v) (in_hand e) K = omega (arith, past, h')
        go (fresh a b u) (in_keep e) K = absurd (omega (arith, past))
        go (holding a b u) (in_keep e) K = absurd (stuck (R.end q))
          where
            stuck : (rank q (stops q) ≡ 0) ⊎ (rank q (stops q) ≡ elements q) → ⊥
            stuck (inl z) = omega (arith, rank_zero N R q (suc k) z T.on, (rank_keep N R q k T.on K).0)
            stuck (inr z) =
                omega (
                  arith,
                  below N R I q k T.on K (omega arith) u (stops q - suc k) (stops q) (omega (arith, T.on)) (le_refl _),
                  (I.link q (stops q)
                      (le_refl _)).0,
                )
        go (gone a b u) (in_keep e) K = omega (arith, h')

-- a network with what geometry knows of it, and the program that it runs
pub record System : Type 0 where
  pub net : Net
  pub ranked : Ranked net
  pub lined : Lined net ranked
  pub laid : Laid net
  pub clock : Clock net
  pub program : Program
  pub geometry : Geometry net ranked laid program
  pub bodied : Body program
