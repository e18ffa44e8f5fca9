-- What a take, a give and a firing at a stop wait for: each may be granted, or something undone is due earlier. Assumes nothing.
use Rattle.std.specs.Prelude.{◌≡◌, ◌⊎◌, ℕ, suc, ◌+◌, ◌-◌, ◌≤◌, ◌<◌}
use Rattle.std.proofs.Common.{inl, inr, le_refl, arith}
use Rattle.abstract_network.specs.Cases.{Order, less, at_least, order}
use Rattle.abstract_network.specs.Counters.{Kind, through, keep, Shape, room, some, AtStop, passing, fresh, holding, gone, Hand}
use Rattle.abstract_network.specs.Counters.{empty, first}
use Rattle.abstract_network.specs.Counters.{free, Offer, soaked, drained, used, passed, kept, Use, hand, held}

-- an occurrence of a step with due times D, done x times of n, that is not done and is due before d
pub record Late (n x : ℕ) (D : ℕ → ℕ) (d : ℕ) : Type 0 where
  pub at : ℕ
  pub within : at < n
  pub undone : x ≤ at
  pub earlier : D at < d

-- what a stop's takes (G), gives (P) and firings (F) wait for is due earlier
pub record Through (n s t : ℕ) (G P F : ℕ → ℕ) : Type 0 where
  pub empty : (i : ℕ) → P i < G (suc i)
  pub taken : (i : ℕ) → G i < P i
  pub used : (m : ℕ) → m < t → F m < P (s + m)
  pub there : (m : ℕ) → m < t → G (s + m) < F m

pub record Keep (n s t : ℕ) (G P F : ℕ → ℕ) : Type 0 where
  pub empty : (i : ℕ) → suc (suc i) < n → P i < G (suc (suc i))
  pub taken : (i : ℕ) → suc i < n → G (suc i) < P i
  pub last : (i : ℕ) → suc i ≡ n → G i < P i
  pub used : (i m : ℕ) → suc i ≡ n → m < t → F m < P i
  pub there : (m : ℕ) → m < t → G 0 < F m

pub data Clocked (n s t : ℕ) (G P F : ℕ → ℕ) : Kind → Type 0 where
  is_through : Through n s t G P F → Clocked n s t G P F through
  is_keep : Keep n s t G P F → Clocked n s t G P F keep

module _ {n s t x y f : ℕ} {G P F : ℕ → ℕ} where
  pub judge_hand : {K : Kind} → Clocked n s t G P F K → x < n → AtStop n s t x y f K → Hand n s t x y f K ⊎ Late n y P (G x)
  judge_hand (is_through D) h (passing a b u v) = go (order y x)
    where
      go : Order y x → Hand n s t x y f through ⊎ Late n y P (G x)
      go (less l) =
          inr
          (let e : x ≡ suc y = omega arith in
          record { at = y; within = omega arith; undone = le_refl y; earlier = rw e (D.empty y) })
      go (at_least l) = inl (empty (omega arith))
  judge_hand (is_keep D) h (fresh a b u) = inl (first a)
  judge_hand (is_keep D) h (holding a b u) = go (order (suc y) x)
    where
      go : Order (suc y) x → Hand n s t x y f keep ⊎ Late n y P (G x)
      go (less l) =
          inr
          (let e : x ≡ suc (suc y) = omega arith in
          record { at = y; within = omega arith; undone = le_refl y; earlier = rw e (D.empty y (omega arith)) })
      go (at_least l) = inl (free (omega arith))
  judge_hand (is_keep D) h (gone a b u) = absurd (omega arith)

  pub judge_offer : {K : Kind} → Clocked n s t G P F K → f ≤ t → y < n → AtStop n s t x y f K
      → Offer n s t x y f K ⊎ (Late n x G (P y) ⊎ Late t f F (P y))
  judge_offer (is_through D) w h (passing a b u v) = go (order y x) (order y s) (order y (s + t)) (order y (s + f))
    where
      go : Order y x → Order y s → Order y (s + t) → Order y (s + f) → Offer n s t x y f through ⊎ (Late n x G (P y) ⊎ Late t f F (P y))
      go (at_least l) i j k = inr (inl (record { at = y; within = h; undone = l; earlier = D.taken y }))
      go (less l) (less i) j k = inl (soaked l i)
      go (less l) (at_least i) (at_least j) k = inl (drained l j)
      go (less l) (at_least i) (less j) (less k) = inl (used l k)
      go (less l) (at_least i) (less j) (at_least k) =
          inr
          (inr
          (let e : s + (y - s) ≡ y = omega arith in
          record { at = y - s; within = omega arith; undone = omega arith; earlier = rw e at (D.used (y - s) (omega arith)) }))
  judge_offer (is_keep D) w h S = go (order (suc y) n) S
    where
      Answer : Type 0
      Answer = Offer n s t x y f keep ⊎ (Late n x G (P y) ⊎ Late t f F (P y))

      -- the next is not the last: it takes the place of the one given
      more : suc y < n → x ≤ suc y → Answer
      more l i = inr (inl (record { at = suc y; within = l; undone = i; earlier = D.taken y l }))

      -- only the keep is left
      end : suc y ≡ n → x ≤ suc y → Order x n → Order f t → Answer
      end e i (less l) j = inr (inl (record { at = y; within = h; undone = omega arith; earlier = D.last y e }))
      end e i (at_least l) (less j) = inr (inr (record { at = f; within = j; undone = le_refl f; earlier = D.used y f e j }))
      end e i (at_least l) (at_least j) = inl (kept (omega arith) (omega arith) (omega arith))

      two : Order (suc y) n → Order (suc y) x → x ≤ suc (suc y) → Answer
      two o (less l) i = inl (passed (omega arith))
      two (less o) (at_least l) i = more o l
      two (at_least o) (at_least l) i = end (omega arith) l (order x n) (order f t)

      go : Order (suc y) n → AtStop n s t x y f keep → Answer
      go o (fresh a b u) = two o (order (suc y) x) (omega arith)
      go o (holding a b u) = two o (order (suc y) x) b
      go o (gone a b u) = absurd (omega arith)

  pub judge_use : {K : Kind} → Clocked n s t G P F K → Shape n s t K → f < t → AtStop n s t x y f K → Use n s t x y f K ⊎ Late n x G (F f)
  judge_use (is_through D) (room r) h (passing a b u v) = go (order (s + f) x)
    where
      go : Order (s + f) x → Use n s t x y f through ⊎ Late n x G (F f)
      go (less l) = inl (hand (omega arith) (omega arith))
      go (at_least l) = inr (record { at = s + f; within = omega arith; undone = l; earlier = D.there f h })
  judge_use (is_keep D) (some z) h (fresh a b u) = inr (record { at = 0; within = z; undone = omega arith; earlier = D.there f h })
  judge_use (is_keep D) (some z) h (holding a b u) = inl (held (omega arith))
  judge_use (is_keep D) (some z) h (gone a b u) = absurd (omega arith)
