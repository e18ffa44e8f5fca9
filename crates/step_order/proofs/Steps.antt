-- Every rank is that of a step inside the array, and different ranks are different steps. Assumes nothing.
use Rattle.std.specs.Prelude.{◌≡◌, refl, Bool, true, false, ℕ, ◌+◌, ◌*◌, ◌-◌, ◌/◌, ◌%◌, ◌<◌, ltb}
use Rattle.std.proofs.Common.{sym, ◌∙◌, ap, div-add-mod', div-lt_iff_lt-mul, mod-lt, arith, ltb-true, ltb-false}
use Rattle.meaning.specs.declared.Step.{Step}
use Rattle.meaning.specs.declared.Step.TheVariants.{Send, Take, Fire, Give, Receive}
use Rattle.port_table.specs.declared.Size.{Size}
use Rattle.step_rules.specs.Fits.{Inside}
use Rattle.step_order.specs.Ranks.{width, rank_count, step_at, take_rank, fire_rank, give_rank, receive_rank}
use Rattle.step_order.specs.Steps.{Ranked, send, take, fire, give, receive, send_step, take_step, fire_step, give_step, receive_step}

module _ (z : Size) (r : ℕ) where
  placed : (p o : ℕ) → p < z.processes → o < width z → r ≡ z.pipes + (p * width z + o) → Ranked z r
  placed p o h l e = go (ltb o z.streams) refl (ltb z.streams o) refl
    where
      go : (b : Bool) → ltb o z.streams ≡ b → (c : Bool) → ltb z.streams o ≡ c → Ranked z r
      go true b c d = take p o h (ltb-true _ _ b) (omega arith)
      go false b true d =
          let k = ltb-true z.streams o d in give p (o - z.streams - 1) h (omega arith) (omega arith)
      go false b false d = fire p h (omega (arith, ltb-false o z.streams b, ltb-false z.streams o d))

  pub ranked : r < rank_count z → Ranked z r
  ranked h = go (ltb r z.pipes) refl (ltb (r - z.pipes) (z.processes * width z)) refl
    where
      go : (b : Bool) → ltb r z.pipes ≡ b → (c : Bool) → ltb (r - z.pipes) (z.processes * width z) ≡ c → Ranked z r
      go true b c d = send r (ltb-true _ _ b) refl
      go false b true d =
          let k = r - z.pipes in
          let w : 0 < width z = omega arith in
          let l = ltb-false r z.pipes b in
          placed (k / width z) (k % width z) ((div-lt_iff_lt-mul w).1 (ltb-true _ _ d)) (mod-lt k w)
          (omega (arith, div-add-mod' k (width z)))
      go false b false d =
          let l = ltb-false r z.pipes b in
          let m = ltb-false (r - z.pipes) (z.processes * width z) d in
          receive (r - z.pipes - z.processes * width z) (omega arith) (omega arith)

-- ---- the step of a rank

module _ (z : Size) where
  pub step_inside : (r : ℕ) → r < rank_count z → Inside z (step_at z r)
  step_inside r h = go (ranked z r h)
    where
      go : Ranked z r → Inside z (step_at z r)
      go (send q h e) = rw (e, send_step z q h) h
      go (take p i h l e) = rw (e, take_step z p i h l) (h, l)
      go (fire p h e) = rw (e, fire_step z p h) h
      go (give p i h l e) = rw (e, give_step z p i h l) (h, l)
      go (receive q h e) = rw (e, receive_step z q) h

  -- different ranks are different steps: a step has one rank
  abbrev rank_of : Step → ℕ
  rank_of (Send q) = q
  rank_of (Take p i) = take_rank z p i
  rank_of (Fire p) = fire_rank z p
  rank_of (Give p i) = give_rank z p i
  rank_of (Receive q) = receive_rank z q

  rank_step : (r : ℕ) → r < rank_count z → rank_of (step_at z r) ≡ r
  rank_step r h = go (ranked z r h)
    where
      go : Ranked z r → rank_of (step_at z r) ≡ r
      go (send q h e) = rw (e, send_step z q h) refl
      go (take p i h l e) = rw (e, take_step z p i h l) refl
      go (fire p h e) = rw (e, fire_step z p h) refl
      go (give p i h l e) = rw (e, give_step z p i h l) refl
      go (receive q h e) = rw (e, receive_step z q) refl

  pub rank_apart : (r r' : ℕ) → r < rank_count z → r' < rank_count z → step_at z r ≡ step_at z r' → r ≡ r'
  rank_apart r r' h h' e = sym (rank_step r h) ∙ ap rank_of e ∙ rank_step r' h'
