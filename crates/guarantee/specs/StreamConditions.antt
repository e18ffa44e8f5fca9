-- Conditions 13 to 17 of a stream that has a line, against their tests. Assumes nothing.
use Rattle.std.specs.Prelude.{◌≡◌, Bool, true, false, not, cond, ◌&&◌, ℕ, ◌≤◌, T, ltb, eqb, ℤ, pos, negsuc, ◌≤ℤ◌}
use Rattle.std.proofs.Common.{subst, arith, T_not, eqb→eq}
use mathlib.Core.List.{List, Memᴰ as In}
use Rattle.std.proofs.Math.Dec.{eqb_refl}
use Rattle.integers.specs.Differences.{up, le_out, le_in}
use Rattle.integers.specs.Vectors.{zero2, image}
use Rattle.integers.specs.declared.V3.{V3}
use Rattle.integers.specs.declared.V2.{V2}
use Rattle.meaning.specs.declared.Limits.{Limits}
use Rattle.meaning.specs.declared.Nest.{Nest}
use Rattle.meaning.specs.declared.Stream.{Stream}
use Rattle.meaning.specs.declared.Line.{Line}
use Rattle.meaning.specs.declared.Description.{Description}
use Rattle.meaning.specs.Lists.{any}
use Rattle.meaning.specs.Loops.{step_of, place_of}
use Rattle.meaning.specs.Space.{eq2, box_of}
use Rattle.meaning.specs.Streams.{line, stationary, elements, touches, touched}
use Rattle.meaning.specs.Points.{Directed, Within, At, IsLine, Inside}
use Rattle.meaning.specs.Description.{lines_of, written}
use Rattle.meaning.specs.Accept.{against, refused13, refused14, refused15, refused16, refused17}
use Rattle.meaning.specs.Conditions.{Small, SmallMove, Moves, ShortHop, Onward, Written, KeepsOrder, LoadingFits, AllTouched}
use Rattle.lists.specs.Members.{any_yes, yes_any}
use Rattle.geometry.specs.Numbers.{eq_eq2}
use Rattle.geometry.specs.Instances.{within_in}
use Rattle.geometry.specs.Boxes.{points_inside}
use Rattle.geometry.specs.Accept.{touch, line_onward, onward_not}
use Rattle.network.specs.Decide.{Says, Says.holds, Says.fails, says_and}
use Rattle.guarantee.specs.Refusals.{Refuses, Refuses.met, Refuses.broken, refuses_as, refuses_not, says_by, says_eq2, says_small}
use Rattle.guarantee.specs.Refusals.{refuses_less}
use Rattle.guarantee.specs.NestConditions.{refuses_each, refuses_box}

-- some line has k for a word of its own
pub says_line : (word : Line → ℕ) (k : ℕ) (ls : List Line)
    → Says ((t : Line) × In t ls × (word t ≡ k)) (any (λ t. eqb (word t) k) ls)
says_line word k ls =
    says_by (any is ls) (λ t. let r = any_yes is ls t in (r.it, r.mem, eqb→eq (word r.it) k r.ok))
    (λ p. yes_any is p.1 (subst (λ (k : ℕ). T (eqb (word p.0) k)) p.2 (eqb_refl (word p.0))))
  where
    is : Line → Bool
    is t = eqb (word t) k

pub says_written : (d : Description) (i : ℕ) → Says (Written d i) (written d i)
says_written d i = says_line (λ t. t.target) i (lines_of d)

module _ {n : Nest} (s : Stream) (h : IsLine n s.map (line n s)) where
  -- ---- 13 and 14

  pub refuses13 : Refuses (SmallMove n s) (refused13 n s)
  refuses13 =
      refuses_each (λ u. Small (place_of n u).a × Small (place_of n u).b) h
      (refuses_not (says_and (says_small (place_of n (line n s)).a) (says_small (place_of n (line n s)).b)))

  pub refuses14 : (l : Limits) → Refuses (ShortHop l n s) (refused14 l n s)
  refuses14 l =
      refuses_each (λ u. Moves n u → step_of n u ≤ℤ pos l.hop) h (go (stationary n s) (says_eq2 (place_of n (line n s)) zero2))
    where
      below : (k : ℕ) (t : ℤ) → up t ≤ k → t ≤ℤ pos k
      below k t g = le_in (omega arith)

      above : (k : ℕ) (t : ℤ) → t ≤ℤ pos k → up t ≤ k
      above k (pos t) g = omega (arith, le_out g)
      above k (negsuc t) g = omega arith

      go : (b : Bool) → Says (place_of n (line n s) ≡ zero2) b
          → Refuses (Moves n (line n s) → step_of n (line n s) ≤ℤ pos l.hop) (not b && ltb l.hop (cond b 1 (up (step_of n (line n s)))))
      go true (holds e) = met (λ f. absurd (f e))
      go false (fails f) =
          refuses_as (λ g _. below l.hop (step_of n (line n s)) g) (λ g. above l.hop (step_of n (line n s)) (g f))
          (refuses_less l.hop (up (step_of n (line n s))))

  -- ---- 15: the first test is whether the stream is written

  pub refuses15 : {W : Type 0} {w : Bool} → Says W w → Directed n → Refuses (W → KeepsOrder n s) (refused15 w n s)
  refuses15 (fails f) d = met (λ y. absurd (f y))
  refuses15 (holds y) d =
      refuses_as (λ k _. k) (λ k. k y) (refuses_each (Onward n.direction) h (go (against n.direction (line n s)) (λ t. t) (λ t. t)))
    where
      go : (b : Bool) → (T b → T (against n.direction (line n s))) → (T (not b) → T (not (against n.direction (line n s))))
          → Refuses (Onward n.direction (line n s)) b
      go true f g = broken (λ o. onward_not n.direction (line n s) o (f tt))
      go false f g = met (line_onward d h (g tt))

  -- ---- 16

  pub refuses16 : Refuses (LoadingFits n s) (refused16 n s)
  refuses16 =
      refuses_each (λ u. (Moves n u → s.loading ≡ zero2) × (place_of n u ≡ zero2 → s.loading ≡ zero2 → ⊥)) h
      (go (stationary n s) (eq2 s.loading zero2) (says_eq2 (place_of n (line n s)) zero2) (says_eq2 s.loading zero2))
    where
      go : (a b : Bool) → Says (place_of n (line n s) ≡ zero2) a → Says (s.loading ≡ zero2) b
          → Refuses ((Moves n (line n s) → s.loading ≡ zero2) × (place_of n (line n s) ≡ zero2 → s.loading ≡ zero2 → ⊥)) (cond a b (not b))
      go true true (holds e) (holds f) = broken (λ p. p.1 e f)
      go true false (holds e) (fails f) = met (λ g. absurd (g e), λ _. f)
      go false true (fails e) (holds f) = met (λ _. f, λ g. absurd (e g))
      go false false (fails e) (fails f) = broken (λ p. f (p.0 e))

-- ---- 17

pub refuses17 : {n : Nest} → Directed n → {x : V3} → Within n x → (s : Stream) → Refuses (AllTouched n s) (refused17 n s)
refuses17 {n} d w s =
    refuses_box d w s.map (λ k. (e : V2) → Inside k e → (x : V3) × At n s.map e x) (go (refused17 n s) (λ t. t) (λ t. t))
  where
    Full : Type 0
    Full = (e : V2) → Inside (box_of n s.map) e → (x : V3) × At n s.map e x

    untouched : T (refused17 n s) → Full → ⊥
    untouched t f =
        let r = any_yes (λ e. not (touched n s e)) (elements n s) t in
        let p = f r.it (points_inside (box_of n s.map) r.it r.mem) in
        T_not (touched n s r.it) r.ok
        (yes_any (λ x. touches s x r.it) (within_in d p.1.within) (eq_eq2 (image s.map p.0) r.it p.1.to))

    all : T (not (refused17 n s)) → Full
    all t e k = let r = touch s d t e k in (r.by, r.at)

    go : (b : Bool) → (T b → T (refused17 n s)) → (T (not b) → T (not (refused17 n s))) → Refuses Full b
    go true f g = broken (untouched (f tt))
    go false f g = met (all (g tt))
