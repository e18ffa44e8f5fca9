-- What the guard of a step of the abstract network looks at: the step's own counter, the counter of the other end of its link, and the
-- counters of its stop. Assumes nothing.
use Rattle.std.specs.Prelude.{◌≡◌, ◌↔◌, ℕ, zero, suc, ◌<◌}
use Rattle.std.proofs.Common.{sym, ◌∙◌, ap, subst, arith}
use Rattle.abstract_network.specs.Counters.{Kind, Hand, empty, first, free, Step, put, get, fire, Counts, Net, Guard, OneMore}

-- the hand does not depend on the firings
hand_any : {n s t x y f f' : ℕ} {K : Kind} → Hand n s t x y f K → Hand n s t x y f' K
hand_any (empty e) = empty e
hand_any (first e) = first e
hand_any (free e) = free e

module _ (N : Net) where
  open N use {stops, process}

  -- the guard of the first step looks at the counter of the second
  pub data Looks : Step → Step → Type 0 where
    self : {b : Step} → Looks b b
    put_get : {q k : ℕ} → Looks (put q k) (get q k)
    get_put : {q k : ℕ} → Looks (get q k) (put q k)
    offer_get : {q k : ℕ} → k < stops q → Looks (put q (suc k)) (get q k)
    offer_fire : {q k : ℕ} → k < stops q → Looks (put q (suc k)) (fire (process q k))
    hand_put : {q k : ℕ} → k < stops q → Looks (get q k) (put q (suc k))
    use_get : {q k p : ℕ} → k < stops q → process q k ≡ p → Looks (fire p) (get q k)
    use_put : {q k p : ℕ} → k < stops q → process q k ≡ p → Looks (fire p) (put q (suc k))

  -- counters that agree where it looks
  guard_as : {c c' : Counts} (b : Step) → ((x : Step) → Looks b x → c' x ≡ c x) → Guard N c b → Guard N c' b
  guard_as (put q zero) f (g, h) =
      let u = f (put q 0) self in
      let v = f (get q 0) put_get in (omega arith, omega arith)
  guard_as (put q (suc k)) f (l, g, o) =
      let u = f (put q (suc k)) self in
      let v = f (get q (suc k)) put_get in
      (l, omega arith, rw (f (get q k) (offer_get l), u, f (fire (process q k)) (offer_fire l)) o)
  guard_as (get q k) f (l, g, o) =
      let u = f (get q k) self in
      let v = f (put q k) get_put in
      (l, omega arith, λ m. rw (u, f (put q (suc k)) (hand_put m)) (hand_any (o m)))
  guard_as {c} {c'} (fire p) f (g, o) =
      let u = f (fire p) self in (
        omega arith,
        λ q k l e.
            rw (
              f (get q k) (use_get l e),
              f (put q (suc k)) (use_put l e),
              ap (λ (p : ℕ). c' (fire p)) e ∙ u ∙ ap (λ (p : ℕ). c (fire p)) (sym e),
            )
            (o q k l e),
      )

  -- one more of a counter at which it does not look
  pub guard_same : {c c' : Counts} {a : Step} → OneMore c c' a → (b : Step) → (Looks b a → ⊥) → Guard N c b ↔ Guard N c' b
  guard_same {c} {c'} {a} B b n = (guard_as b agree, guard_as b (λ x l. sym (agree x l)))
    where
      agree : (x : Step) → Looks b x → c' x ≡ c x
      agree x l = B.rest x (λ e. n (subst (Looks b) (sym e) l))
