-- The times of the firings: their steps, counted from so early a step on that none is negative and that what stays is loaded before.
-- Assumes a description that is not refused.
use Rattle.std.specs.Prelude.{◌≡◌, refl, ◌⊎◌, Bool, false, not, ℕ, zero, suc, ◌+◌, ◌*◌, ◌-◌, ◌≤◌, ◌<◌, T, get_or, ℤ, pos, negsuc, nat_abs}
use Rattle.std.specs.Prelude.{◌+ℤ◌, ◌*ℤ◌, ◌<ℤ◌}
use Rattle.std.proofs.Common.{sym, ◌∙◌, ap, ap₂, subst, inl, inr, le_refl, mul-le-mul_right, arith}
use Rattle.integers.specs.Differences.{gaps, parts, up, lt_out}
use Rattle.integers.specs.Variables.{linear}
use Rattle.integers.specs.Vectors.{zero2}
use Rattle.integers.proofs.Vectors.{dot_shift}
use Rattle.integers.specs.declared.V2.{V2}
use Rattle.meaning.specs.declared.Nest.{Nest}
use Rattle.meaning.specs.declared.Stream.{Stream}
use Rattle.meaning.specs.declared.Description.{Description}
use Rattle.meaning.specs.Lists.{total}
use Rattle.meaning.specs.Loops.{instances, step_of, increment}
use Rattle.meaning.specs.Space.{processes, first, computing}
use Rattle.meaning.specs.Streams.{line, stationary, hop}
use Rattle.meaning.specs.Pipes.{soak}
use Rattle.meaning.specs.Array.{Array, array_of, count_at, instance_at, pipe_number, pipe_at, stops_on, elements_on, stop_at}
use Rattle.meaning.specs.Rules.{process_on}
use Rattle.geometry.specs.Numbers.{decide, yes_cond}
use Rattle.geometry.specs.Instances.{within_in}
use Rattle.geometry.proofs.Processes.{instance_at_lem}
use Rattle.geometry.proofs.Passes.{instance_is}
use Rattle.geometry.specs.Positions.{at_pipe}
use Rattle.geometry.specs.Clock.{Clock}
use Rattle.geometry.specs.Descriptions.{Laid}
use Rattle.geometry.specs.Wiring.{process_at}
use Rattle.geometry.proofs.Wiring.{wired, flowing}
use Rattle.geometry.specs.Arrays.{stream_at, PipeIs, pipe_is}
use Rattle.abstract_network.specs.Cases.{Order, less, at_least, order}
use Rattle.network.specs.Wiring.{Course, moving, stationary as still}
use Rattle.lists.specs.Sums.{total_member}
use Rattle.guarantee.specs.Instances.{counted_lt}
use Rattle.guarantee.specs.Stops.{some_count, null_count, accepted, hop_of, stops_length, stop_inside, stop_place, count_is, run_is}
use Rattle.guarantee.specs.Stops.{soak_computing, moving_keeps, still_keeps}
use Rattle.guarantee.specs.Ranks.{still_ranks}

module _ (d : Description) where
  -- the step of the f-th instance that process p fires, counted from −o on
  abbrev pub time_from : ℕ → ℕ → ℕ → ℕ
  time_from o p f = up (pos o +ℤ step_of d.nest (instance_at (array_of d) p f))

  -- the step of the increment
  abbrev pub pace : ℕ
  pace = up (step_of d.nest (increment d.nest))

  -- counting from −b on, or from earlier, is early enough for pipe q
  abbrev Early : ℕ → ℕ → Type 0
  Early q b = (o : ℕ) → b ≤ o → Course (array_of d) pace (6 * o) (time_from o) q

module _ {d : Description} (laid : Laid d) where
  abbrev n : Nest
  n = d.nest

  abbrev A : Array
  A = array_of d

  pace_is : pos (pace d) ≡ step_of n (increment n)
  pace_is = go (step_of n (increment n)) laid.layout.inc.ahead
    where
      go : (a : ℤ) → pos 0 <ℤ a → pos (up a) ≡ a
      go (pos a) h = refl
      go (negsuc a) h = absurd (omega (arith, lt_out h))

  pub pace_positive : 0 < pace d
  pace_positive = go (step_of n (increment n)) laid.layout.inc.ahead
    where
      go : (a : ℤ) → pos 0 <ℤ a → 0 < up a
      go (pos a) h = omega (arith, lt_out h)
      go (negsuc a) h = absurd (omega (arith, lt_out h))

  -- a process fires in the order of the times
  pub time_rises : (o p i j : ℕ) → i ≤ j → j < count_at A p → time_from d o p i ≤ time_from d o p j
  time_rises o p i j l h =
      let g = step_at_lem i (omega arith) in
      let g' = step_at_lem j h in
      rw (g, g') (rises o (pace d) i j l (step_of n (first n (get_or (processes n) p zero2))))
    where
      step_at_lem : (f : ℕ) → f < count_at A p
          → step_of n (instance_at A p f) ≡ step_of n (first n (get_or (processes n) p zero2)) +ℤ pos f *ℤ pos (pace d)
      step_at_lem f c =
          let y = get_or (processes n) p zero2 in
          ap (step_of n) (instance_is d laid.layout p f (counted_lt laid p f c) c).1
          ∙ dot_shift n.step (first n y) (increment n) (pos f) ∙ ap (λ (w : ℤ). step_of n (first n y) +ℤ pos f *ℤ w) (sym pace_is)

      rises : (o σ i j : ℕ) → i ≤ j → (a : ℤ) → up (pos o +ℤ (a +ℤ pos i *ℤ pos σ)) ≤ up (pos o +ℤ (a +ℤ pos j *ℤ pos σ))
      rises o σ i j l = linear 0 1 _ λ p m. simp (gaps, parts) (omega (arith, mul-le-mul_right σ l))

  module _ {q : ℕ} (P : PipeIs d q) where
    abbrev s : Stream
    s = stream_at d P.stream

    abbrev y : V2
    y = P.entry

    -- ---- a moving stream's pipe

    moving_early : T (not (stationary n s)) → (b : ℕ) × Early d q b
    moving_early t = (
      nat_abs c.theta + hop n s,
      λ o l. moving (up (pos o +ℤ c.theta) - hop n s) positive (λ k h. moving_keeps laid P k h t) (at_stop o l),
    )
      where
        c : Clock n s y
        c = (flowing (accepted laid P) t).clocked y P.entry_in

        positive : 0 < (pipe_at A q).hop
        positive = omega (arith, hop_of laid P, (wired (accepted laid P)).places)

        -- θ + o and h of the clock, as naturals
        natural : (o h k i σ : ℕ) (θ : ℤ) → nat_abs θ + h ≤ o
            → up (pos o +ℤ (θ +ℤ pos k *ℤ pos h +ℤ pos i *ℤ pos σ)) ≡ (up (pos o +ℤ θ) - h) + suc k * h + i * σ
        natural o h k i σ = linear 0 1 _ λ p m. simp (gaps, parts) (omega arith)

        at_stop : (o : ℕ) → nat_abs c.theta + hop n s ≤ o → (k m : ℕ) → k < stops_on A q → m < count_at A (process_on A q k)
            → time_from d o (process_on A q k) m
            ≡ up (pos o +ℤ c.theta) - hop n s + suc k * (pipe_at A q).hop + ((stop_at A q k).soak + m) * pace d
        at_stop o l k m h g = time
          where
            p : V2
            p = process_at n s y k

            time : time_from d o (process_on A q k) m
                ≡ up (pos o +ℤ c.theta) - hop n s + suc k * (pipe_at A q).hop + ((stop_at A q k).soak + m) * pace d
            time =
                let u : T (computing n p) = some_count n p (omega (arith, count_is laid P k h)) in
                let r : step_of n (instance_at A (process_on A q k) m)
                ≡ c.theta +ℤ pos k *ℤ pos (hop n s) +ℤ pos ((stop_at A q k).soak + m) *ℤ pos (pace d) =
                ap (step_of n) (run_is laid P k h m g)
                ∙ c.step p (stop_inside laid P k h) (at_pipe (accepted laid P) y k zero2 (omega (arith, stops_length laid P))) u m
                ∙ ap₂ (λ (a : ℕ) (w : ℤ). c.theta +ℤ pos a *ℤ pos (hop n s) +ℤ pos (soak n s p + m) *ℤ w)
                (stop_place laid P k h) (sym pace_is)
                ∙ ap (λ (a : ℕ). c.theta +ℤ pos k *ℤ pos (hop n s) +ℤ pos (a + m) *ℤ pos (pace d)) (sym (soak_computing laid P k h u)) in
                ap (λ (w : ℤ). up (pos o +ℤ w)) r
                ∙ natural o (hop n s) k ((stop_at A q k).soak + m) (pace d) c.theta l
                ∙ ap (λ (a : ℕ). up (pos o +ℤ c.theta) - hop n s + suc k * a + ((stop_at A q k).soak + m) * pace d) (sym (hop_of laid P))

    -- ---- a stationary stream's pipe

    -- all steps are within this of 0
    abbrev reach : ℕ
    reach = total (λ x. nat_abs (step_of n x)) (instances n)

    still_early : T (stationary n s) → (b : ℕ) × Early d q b
    still_early t = (b, λ o l. still hop_one (still_ranks laid P t) rests (omega arith) (bounded o l))
      where
        b : ℕ
        b = suc (reach + stops_on A q + elements_on A q)

        hop_one : (pipe_at A q).hop ≡ 1
        hop_one = hop_of laid P ∙ yes_cond (stationary n s) 1 (up (step_of n (line n s))) t

        -- a stop that keeps nothing computes nothing
        rests : (k : ℕ) → k < stops_on A q → (stop_at A q k).keeps ≡ false → count_at A (process_on A q k) ≡ 0
        rests k h e =
            count_is laid P k h
            ∙ null_count n (process_at n s y k)
            (subst (λ (v : Bool). T (not v)) (still_keeps laid P k h t) (subst (λ (v : Bool). T (not v)) (sym e) tt))

        within_reach : (k m : ℕ) → k < stops_on A q → m < count_at A (process_on A q k)
            → nat_abs (step_of n (instance_at A (process_on A q k) m)) ≤ reach
        within_reach k m h g =
            rw (run_is laid P k h m g)
            (total_member (λ x. nat_abs (step_of n x))
            (within_in laid.layout.dirs
            (instance_at_lem laid.layout (process_at n s y k) m (omega (arith, count_is laid P k h))).within))

        between : (o c : ℕ) (a : ℤ) → nat_abs a ≤ c → c ≤ o → (o ≤ up (pos o +ℤ a) + c) × (up (pos o +ℤ a) ≤ o + c)
        between o c a h k = (above o c a h k, below o c a h k)
          where
            above : (o c : ℕ) (a : ℤ) → nat_abs a ≤ c → c ≤ o → o ≤ up (pos o +ℤ a) + c
            above o c = linear 0 1 _ λ p m. simp (gaps, parts) (omega arith)

            below : (o c : ℕ) (a : ℤ) → nat_abs a ≤ c → c ≤ o → up (pos o +ℤ a) ≤ o + c
            below o c = linear 0 1 _ λ p m. simp (gaps, parts) (omega arith)

        bounded : (o : ℕ) → b ≤ o → (k m : ℕ) → k < stops_on A q → m < count_at A (process_on A q k)
            → (2 * stops_on A q + 2 * elements_on A q < 3 * time_from d o (process_on A q k) m)
            × (3 * time_from d o (process_on A q k) m + 1 < 6 * o)
        bounded o l k m h g =
            let r = between o reach (step_of n (instance_at A (process_on A q k) m)) (within_reach k m h g) (omega arith) in
            (omega (arith, r.0), omega (arith, r.1))

  -- ---- all pipes

  -- one bound for all numbers below c, where each has one
  common : (E : ℕ → ℕ → Type 0) → ((q b b' : ℕ) → b ≤ b' → E q b → E q b') → (c : ℕ) → ((q : ℕ) → q < c → (b : ℕ) × E q b)
      → (b : ℕ) × ((q : ℕ) → q < c → E q b)
  common E grow zero f = (0, λ q h. absurd (omega arith))
  common E grow (suc c) f =
      let r = common E grow c (λ q h. f q (omega arith)) in
      let v = f c (omega arith) in
      (r.0 + v.0, λ q h. go r.0 v.0 r.1 v.1 q h (order q c))
    where
      go : (b b' : ℕ) → ((q : ℕ) → q < c → E q b) → E c b' → (q : ℕ) → q < suc c → Order q c → E q (b + b')
      go b b' r v q h (less l) = grow q b (b + b') (omega arith) (r q l)
      go b b' r v q h (at_least l) = let e : c ≡ q = omega arith in grow q b' (b + b') (omega arith) (subst (λ (q : ℕ). E q b') e v)

  -- from some step on it is early enough for all
  pub early : (o : ℕ) × ((q : ℕ) → q < pipe_number A → Course A (pace d) (6 * o) (time_from d o) q)
  early =
      let r = common (Early d) (λ q b b' l e o h. e o (omega arith)) (pipe_number A) (λ q h. go (pipe_is d q h)) in
      (r.0, λ q h. r.1 q h r.0 (le_refl r.0))
    where
      go : {q : ℕ} → PipeIs d q → (b : ℕ) × Early d q b
      go {q} P = at (decide (stationary n (stream_at d P.stream)))
        where
          at : T (stationary n (stream_at d P.stream)) ⊎ T (not (stationary n (stream_at d P.stream))) → (b : ℕ) × Early d q b
          at (inl t) = still_early P t
          at (inr t) = moving_early P t
