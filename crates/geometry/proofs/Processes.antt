-- That every instance is one firing of one process, and a process runs nothing else. Assumes what `Layout` says.
use Rattle.std.specs.Prelude.{◌≡◌, refl, not, ℕ, zero, suc, ◌+◌, ◌*◌, ◌/◌, ◌<◌, T, eqb, length, ℤ, pos, negsuc, ◌+ℤ◌, ◌-ℤ◌, ◌*ℤ◌, ◌<ℤ◌}
use Rattle.std.proofs.Common.{sym, ◌∙◌, ap, subst, mul-div_cancel, arith, eqb→eq}
use mathlib.Core.List.{List, [], ◌∷◌, Memᴰ as In}
use Rattle.std.proofs.Math.Dec.{not_T}
use Rattle.integers.specs.Differences.{gaps, parts, up, lt_out}
use Rattle.integers.specs.Variables.{linear}
use Rattle.integers.specs.Vectors.{shift3}
use Rattle.integers.proofs.Vectors.{dot_shift}
use Rattle.integers.specs.declared.V3.{V3}
use Rattle.integers.specs.declared.V2.{V2}
use Rattle.meaning.specs.declared.Nest.{Nest}
use Rattle.meaning.specs.Loops.{step_of, place_of, increment}
use Rattle.meaning.specs.Space.{instances_at, count, first, computing}
use Rattle.meaning.specs.Points.{IsLine as Line, Directed, Within, At}
use Rattle.geometry.specs.Numbers.{shift_shift3}
use Rattle.geometry.specs.Lines.{along}
use Rattle.geometry.specs.Segments.{at_in, first_at, segment, numbered, instance}
use Rattle.geometry.specs.Processes.{Layout, RunAt, run_at, firing_of}

-- i steps of σ > 0, counted by division
steps_between : (i : ℕ) (σ a b : ℤ) → pos 0 <ℤ σ → b ≡ a +ℤ pos i *ℤ σ → up (b -ℤ a) / up σ ≡ i
steps_between i (pos zero) a b h e = absurd (omega (arith, lt_out h))
steps_between i (pos (suc s)) a b h e = ap (λ (k : ℕ). k / suc s) (go a b e) ∙ mul-div_cancel i {n = suc s} (omega arith)
  where
    go : (a b : ℤ) → b ≡ a +ℤ pos i *ℤ pos (suc s) → up (b -ℤ a) ≡ i * suc s
    go = linear 0 2 _ λ p m. simp (gaps, parts) (omega arith)
steps_between i (negsuc s) a b h e = absurd (omega (arith, lt_out h))

module _ {n : Nest} (layout : Layout n) where
  -- G2: from an instance to its process and firing, and back
  firing_is : (y : V2) (i : ℕ) (x : V3) → place_of n x ≡ y → x ≡ run_at n y i → firing_of n x ≡ i
  firing_is y i x p e =
      steps_between i (step_of n (increment n)) (step_of n (first n (place_of n x))) (step_of n x) layout.inc.ahead
      (ap (step_of n) e ∙ dot_shift n.step (first n y) (increment n) (pos i)
      ∙ ap (λ (w : V2). step_of n (first n w) +ℤ pos i *ℤ step_of n (increment n)) (sym p))

  pub firing_lt : {x : V3} → Within n x → firing_of n x < count n (place_of n x)
  firing_lt {x} w =
      let r = numbered layout.dirs layout.inc (record { within = w; to = refl }) in
      subst (λ (k : ℕ). k < count n (place_of n x)) (sym (firing_is (place_of n x) r.at x refl r.eq)) r.lt

  pub instance_firing : {x : V3} → Within n x → run_at n (place_of n x) (firing_of n x) ≡ x
  instance_firing {x} w =
      let r = numbered layout.dirs layout.inc (record { within = w; to = refl }) in
      ap (run_at n (place_of n x)) (firing_is (place_of n x) r.at x refl r.eq) ∙ sym r.eq

  pub instance_at_lem : (y : V2) (i : ℕ) → i < count n y → RunAt n y (run_at n y i)
  instance_at_lem y i h = instance layout.dirs layout.inc y i h

  pub firing_instance : (y : V2) (i : ℕ) → i < count n y → firing_of n (run_at n y i) ≡ i
  firing_instance y i h = firing_is y i (run_at n y i) (instance_at_lem y i h).to refl

  -- an instance so many increments on is that many firings later
  pub firing_shift : {x x' : V3} → Within n x → Within n x' → (i : ℕ) → x' ≡ shift3 x (pos i) (increment n)
      → firing_of n x' ≡ firing_of n x + i
  firing_shift {x} {x'} w w' i e =
      let y = place_of n x in
      let p : place_of n x' ≡ y = ap (place_of n) e ∙ along layout.inc x (pos i) in
      firing_is y (firing_of n x + i) x' p
      (e ∙ ap (λ (u : V3). shift3 u (pos i) (increment n)) (sym (instance_firing w))
      ∙ shift_shift3 (first n y) (increment n) (pos (firing_of n x)) (pos i))

  -- a process computes exactly if it has an instance
  pub computes : (y : V2) → T (computing n y) → RunAt n y (first n y)
  computes y t = first_at layout.dirs (instance_at_lem y 0 (some (count n y) t))
    where
      some : (c : ℕ) → T (not (eqb c 0)) → 0 < c
      some zero t = absurd t
      some (suc c) t = omega arith
