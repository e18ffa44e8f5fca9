-- In the written order the instances that a matrix sends to one point are met by rising steps, or, where the matrix's line leads back, by
-- falling ones: so the first and the last of them are those met first and last, or last and first. Assumes directions of 1 or −1.
use Rattle.std.specs.Prelude.{◌≡◌, Bool, true, false, not, T, ℤ, ◌<ℤ◌}
use Rattle.std.proofs.Math.Path.{sym}
use Rattle.std.proofs.Common.{◌∙◌}
use Rattle.std.proofs.Math.Dec.{not_T}
use Rattle.std.specs.Int.Signed.{lt_z, clash_ℤ}
use Rattle.integers.specs.Vectors.{zero3, image}
use Rattle.integers.specs.declared.V3.{V3}
use Rattle.integers.specs.declared.V2.{V2}
use Rattle.integers.specs.declared.Matrix.{Matrix}
use Rattle.meaning.specs.declared.Nest.{Nest}
use Rattle.meaning.specs.Loops.{instances}
use Rattle.meaning.specs.Space.{eq2, sent_to, sooner, later, first_of, last_of}
use Rattle.meaning.specs.Accept.{against}
use Rattle.meaning.specs.Points.{IsLine as Line, Directed, Earlier}
use Rattle.meaning.specs.Sorted.{Sorted}
use Rattle.lists.specs.Members.{filter_in}
use Rattle.lists.specs.Tests.{is_true, is_false}
use Rattle.geometry.specs.Sorting.{sorted_map, sorted_with, sorted_filter}
use Rattle.geometry.specs.Best.{end_or, best_or_end}
use Rattle.geometry.specs.Numbers.{eq2_eq, lt_le}
use Rattle.geometry.specs.Instances.{instances_sorted}
use Rattle.geometry.specs.Order.{earlier_step, earlier_later}
use Rattle.geometry.specs.Accept.{line_leads, against_back}

less_tests : {a b : ℤ} → a <ℤ b → (lt_z a b ≡ true) × (lt_z b a ≡ false)
less_tests {a} {b} h =
    (is_true (lt_z a b) h.lt, is_false (lt_z b a) (not_T (lt_z b a) (λ t. clash_ℤ h (lt_le (record { lt = t })))))

module _ {n : Nest} {m : Matrix} {u : V3} (dirs : Directed n) (line : Line n m u) where
  abbrev back : Bool
  back = against n.direction u

  -- of two of them the one met later is the sooner exactly if the line leads back
  abbrev Met : V3 → V3 → Type 0
  Met x x' = (sooner n x' x ≡ back) × (later n x' x ≡ not back)

  met : (x x' : V3) → image m x ≡ image m x' → Earlier n.direction x x' → Met x x'
  met x x' e k = go back (line_leads dirs line) (against_back n.direction u)
    where
      go : (b : Bool) → (T (not b) → Earlier n.direction zero3 u) → (T b → Earlier n.direction u zero3)
          → (sooner n x' x ≡ b) × (later n x' x ≡ not b)
      go true f g = less_tests (earlier_later line (g tt) x x' e k)
      go false f g = let t = less_tests (earlier_step line (f tt) x x' e k) in (t.1, t.0)

  pub met_sorted : (y : V2) → Sorted Met (sent_to n m y)
  unfolding sent_to
  met_sorted y =
      sorted_map (λ x x' h. met x x' (h.0 ∙ sym h.1) h.2)
      (sorted_with (λ x. image m x ≡ y)
      (λ x k. eq2_eq (image m x) y (filter_in (λ v. eq2 (image m v) y) (instances n) k).ok)
      (sorted_filter (λ v. eq2 (image m v) y) (instances_sorted dirs)))

  -- the law: the first is the one met last if the line leads back, else the one met first; the last is the other one
  pub first_met : (y : V2) → first_of n m y ≡ end_or back zero3 (sent_to n m y)
  unfolding first_of
  first_met y = best_or_end (sooner n) back zero3 (sorted_map (λ x x' h. h.0) (met_sorted y))

  pub last_met : (y : V2) → last_of n m y ≡ end_or (not back) zero3 (sent_to n m y)
  unfolding last_of
  last_met y = best_or_end (later n) (not back) zero3 (sorted_map (λ x x' h. h.1) (met_sorted y))
