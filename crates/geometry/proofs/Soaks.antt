-- Soak and drain: the first and the last element that a process uses are those of its first and last instance; of a moving stream they are
-- steps inside the box, and firing m uses element soak + m; of a stationary one the process's rank. Assumes an accepted stream.
use Rattle.std.specs.Prelude.{◌≡◌, refl, ◌⊎◌, not, ℕ, suc, ◌+◌, ◌-◌, ◌≤◌, ◌<◌, T, length, get_or, pos}
use Rattle.std.proofs.Common.{sym, ◌∙◌, ap, subst, inl, inr, arith}
use Rattle.integers.specs.Vectors.{zero2, neg2, shift2, image}
use Rattle.integers.proofs.Vectors.{image_shift}
use Rattle.integers.specs.declared.V3.{V3}
use Rattle.integers.specs.declared.V2.{V2}
use Rattle.meaning.specs.declared.Nest.{Nest}
use Rattle.meaning.specs.declared.Stream.{Stream}
use Rattle.meaning.specs.Lists.{filter}
use Rattle.meaning.specs.Loops.{increment}
use Rattle.meaning.specs.Space.{box_of, space, instances_at, count, first, last, computing}
use Rattle.meaning.specs.Streams.{stationary, touches, pass}
use Rattle.meaning.specs.Pipes.{reach, pipe, uses, pipe_elements, soak, drain}
use Rattle.meaning.specs.Points.{Inside}
use Rattle.meaning.specs.Demand2.{Uses}
use Rattle.lists.specs.Members.{in_filter, filter_in, any_yes, yes_any}
use Rattle.geometry.specs.Numbers.{decide, eq2_eq, eq_eq2}
use Rattle.geometry.specs.Places.{ahead, position_is, position_last, get_d_ahead, ahead_lt, ahead_get_d, ahead_map}
use Rattle.geometry.specs.Boxes.{box_has}
use Rattle.geometry.specs.Segments.{at_in, in_at, first_at, last_at, segment, numbered}
use Rattle.geometry.specs.Processes.{RunAt, run_at}
use Rattle.geometry.proofs.Processes.{instance_at_lem, computes}
use Rattle.geometry.specs.Reach.{reach_shift}
use Rattle.geometry.specs.Pipes.{Accepted, still_elements, passes, pipe_self, still_element, touched_in}
use Rattle.geometry.proofs.Pipes.{held_one}
use Rattle.geometry.proofs.Elements.{elements_distinct}
use Rattle.geometry.specs.Moving.{index_is, length_is}
use Rattle.geometry.proofs.Moving.{index_on}

module _ {n : Nest} {s : Stream} (h : Accepted n s) where
  -- ---- a process uses what its instances touch

  pub uses_by : {y e : V2} → T (uses n s y e) → Uses n s y e
  uses_by {y} {e} t =
      let x = any_yes (λ x. touches s x e) (instances_at n y) t in
      (x.it, in_at h.layout.dirs y x.it x.mem, eq2_eq (image s.map x.it) e x.ok)

  pub by_uses : {y e : V2} → Uses n s y e → T (uses n s y e)
  by_uses {y} {e} u = yes_any (λ x. touches s x e) (at_in h.layout.dirs u.1) (eq_eq2 (image s.map u.0) e u.2)

  -- ---- their elements stand between those of the first and of the last

  pub first_index : {y : V2} {x : V3} → RunAt n y x
      → ahead (image s.map (first n y)) (pipe_elements n s y) ≤ ahead (image s.map x) (pipe_elements n s y)
  first_index {y} {x} a = go (decide (stationary n s))
    where
      go : T (stationary n s) ⊎ T (not (stationary n s))
          → ahead (image s.map (first n y)) (pipe_elements n s y) ≤ ahead (image s.map x) (pipe_elements n s y)
      go (inl t) =
          omega (
            arith,
            ap (λ (e : V2). ahead e (pipe_elements n s y))
                (still_element h t (first n y) x ((first_at h.layout.dirs a).to ∙ sym a.to)),
          )
      go (inr t) =
          let r = numbered h.layout.dirs h.layout.inc a in
          omega (
            arith,
            index_on h t r.at a (instance_at_lem h.layout y r.at r.lt),
            ap (λ (v : V3). ahead (image s.map v) (pipe_elements n s y)) r.eq,
          )

  pub last_index : {y : V2} {x : V3} → RunAt n y x
      → ahead (image s.map x) (pipe_elements n s y) ≤ ahead (image s.map (last n y)) (pipe_elements n s y)
  last_index {y} {x} a = go (decide (stationary n s))
    where
      go : T (stationary n s) ⊎ T (not (stationary n s))
          → ahead (image s.map x) (pipe_elements n s y) ≤ ahead (image s.map (last n y)) (pipe_elements n s y)
      go (inl t) =
          omega (
            arith,
            ap (λ (e : V2). ahead e (pipe_elements n s y)) (still_element h t x (last n y) (a.to ∙ sym (last_at h.layout.dirs a).to)),
          )
      go (inr t) =
          let r = numbered h.layout.dirs h.layout.inc a in
          let w = segment h.layout.dirs h.layout.inc a in
          omega (
            arith,
            r.lt,
            w.size,
            index_on h t r.at a (instance_at_lem h.layout y r.at r.lt),
            index_on h t w.span a (w.each w.span (omega arith)),
            ap (λ (v : V3). ahead (image s.map v) (pipe_elements n s y)) r.eq,
            ap (λ (v : V3). ahead (image s.map v) (pipe_elements n s y)) w.end,
          )

  -- the element of an instance of y stands in the pipe's list, and y uses it
  standing : {y : V2} {x : V3} → RunAt n y x
      → (ahead (image s.map x) (pipe_elements n s y) < length (pipe_elements n s y))
      × T (uses n s y (get_or (pipe_elements n s y) (ahead (image s.map x) (pipe_elements n s y)) zero2))
  standing {y} {x} a =
      let e = image s.map x in
      let i = touched_in h a in
      (ahead_lt e i, subst (λ (w : V2). T (uses n s y w)) (sym (get_d_ahead e zero2 i)) (by_uses (x, a, refl)))

  -- so soak is the first one's index, and drain counts what stands after the last one's
  pub soak_first : {y : V2} {x : V3} → RunAt n y x → soak n s y ≡ ahead (image s.map (first n y)) (pipe_elements n s y)
  soak_first {y} a =
      let es = pipe_elements n s y in
      let z = standing (first_at h.layout.dirs a) in
      position_is (uses n s y) es _ zero2 z.0 z.1
      (λ j k t. let u = uses_by t in
      omega
      (arith, first_index u.1, ap (λ (w : V2). ahead w es) u.2, ahead_get_d es j zero2 (elements_distinct h y) (omega (arith, z.0))))

  pub drain_last : {y : V2} {x : V3} → RunAt n y x
      → drain n s y ≡ length (pipe_elements n s y) - suc (ahead (image s.map (last n y)) (pipe_elements n s y))
  drain_last {y} a =
      let es = pipe_elements n s y in
      let z = standing (last_at h.layout.dirs a) in
      position_last (uses n s y) es _ zero2 z.0 z.1
      (λ j k b t. let u = uses_by t in
      omega (arith, last_index u.1, ap (λ (w : V2). ahead w es) u.2, ahead_get_d es j zero2 (elements_distinct h y) b))

  -- ---- G6: of a stationary stream

  -- the soak is the process's rank: the number of computing processes before it on the pipe
  pub soak_rank : T (stationary n s) → {y : V2} → Inside (space n) y → T (computing n y)
      → soak n s y ≡ ahead y (filter (computing n) (pipe n s y))
  soak_rank t {y} hy c =
      soak_first (computes h.layout y c) ∙ ap (ahead (image s.map (first n y))) (still_elements h t y)
      ∙ ahead_map (λ p. image s.map (first n p)) y (filter (computing n) (pipe n s y)) (in_filter (computing n) (pipe_self h hy) c)
      (λ p i e. held_one h t p y (filter_in (computing n) (pipe n s y) i).ok c e)

  -- those before it, its own, and those after it
  pub still_total : T (stationary n s) → {y : V2} {x : V3} → RunAt n y x → soak n s y + 1 + drain n s y ≡ length (pipe_elements n s y)
  still_total t {y} a =
      let f = first_at h.layout.dirs a in
      let l = last_at h.layout.dirs a in
      go (ahead_lt (image s.map (first n y)) (touched_in h f))
      (ap (λ (e : V2). ahead e (pipe_elements n s y)) (still_element h t (first n y) (last n y) (f.to ∙ sym l.to)))
      (soak_first a) (drain_last a)
    where
      go : {i j c k d : ℕ} → i < c → j ≡ i → k ≡ i → d ≡ c - suc j → k + 1 + d ≡ c
      go h e f g = omega arith

-- ---- of a moving one

module _ {n : Nest} {s : Stream} (h : Accepted n s) (moves : T (not (stationary n s))) where
  -- the report's equation (8): the steps against index map times increment, from the first instance's element, that stay in the box
  pub soak_is : {y : V2} {x : V3} → RunAt n y x → soak n s y ≡ reach (box_of n s.map) (neg2 (pass n s)) (image s.map (first n y))
  soak_is a = soak_first h a ∙ index_is h moves (first_at h.layout.dirs a)

  -- (9): those along it from the last instance's
  pub drain_is : {y : V2} {x : V3} → RunAt n y x → drain n s y ≡ reach (box_of n s.map) (pass n s) (image s.map (last n y))
  drain_is a = drain_last h a ∙ go (length_is h moves (last_at h.layout.dirs a)) (index_is h moves (last_at h.layout.dirs a))
    where
      go : {l i r f : ℕ} → l ≡ r + suc f → i ≡ r → l - suc i ≡ f
      go e g = omega arith

  -- firing i uses the element of index soak + i
  pub element_index : {y : V2} {x : V3} (i : ℕ) → RunAt n y x → RunAt n y (run_at n y i)
      → ahead (image s.map (run_at n y i)) (pipe_elements n s y) ≡ soak n s y + i
  element_index {y} i a b = index_on h moves i a b ∙ ap (λ (k : ℕ). k + i) (sym (soak_first h a))

  pub element_at_lem : (y : V2) (i : ℕ) (d : V2) → i < count n y
      → get_or (pipe_elements n s y) (soak n s y + i) d ≡ image s.map (run_at n y i)
  element_at_lem y i d k =
      let a = instance_at_lem h.layout y i k in
      ap (λ (c : ℕ). get_or (pipe_elements n s y) c d) (sym (element_index i a a))
      ∙ get_d_ahead (image s.map (run_at n y i)) d (touched_in h a)

  -- soak + count + drain is the pipe's number of elements, at each of its computing processes
  pub total_is : {y : V2} {x : V3} → RunAt n y x → length (pipe_elements n s y) ≡ soak n s y + count n y + drain n s y
  total_is {y} a =
      let w = segment h.layout.dirs h.layout.inc a in
      let f = first_at h.layout.dirs a in
      let l = last_at h.layout.dirs a in
      let e : image s.map (last n y) ≡ shift2 (image s.map (first n y)) (pos w.span) (pass n s) =
      ap (image s.map) w.end ∙ image_shift s.map (first n y) (increment n) (pos w.span) in
      let r =
      reach_shift (box_of n s.map) (passes h moves) w.span (box_has h.layout.dirs s.map f.within)
      (box_has h.layout.dirs s.map l.within) e in
      go (length_is h moves f) (soak_is a) (drain_is a) w.size r
    where
      go : {l k c d p q t : ℕ} → l ≡ p + suc q → k ≡ p → d ≡ t → {i : ℕ} → c ≡ suc i → q ≡ i + t → l ≡ k + c + d
      go a b c d e = omega arith
