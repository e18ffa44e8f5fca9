-- `step_vectors::tally` meets its contract: the counts are those of the first j answers. Assumes nothing.
use mathlib.Core.Path.{◌≡◌, refl, sym, ◌∙◌, ap, subst}
use mathlib.Core.List.{[]}
use Prim.Native.Nat.{ℕ, ◌<◌}
use native.Mathlib.Omega.{arith}
use lib.ListN.{length, get_or, length-map}
use Rattle.integers.specs.declared.V3.{V3}
use Rattle.meaning.specs.StepVectors.{vectors, answer_count}
use Rattle.meaning.specs.HowManyWork.{step_vector}
use Rattle.lists.specs.Members.{map_at}
use Rattle.prospect.specs.declared.Prospect.{Prospect}
use Rattle.prospect.specs.Prospects.{answer_by}
use Rattle.step_vectors.specs.Tally.{answers_by, Tallying, count_most, counted_none, counted_next, counted_all}
use Rattle.step_vectors.proofs.tally.Goals as goal

pub vector_count-all-requires : goal.vector_count-all-requires
vector_count-all-requires c = let p = c.requires in (p.few, p.least, p.most)

pub loop-j-init : goal.loop-j-init
loop-j-init c = counted_none _ refl

pub vector_at-requires : goal.vector_at-requires
vector_at-requires c =
    let v = c.vector_count-all.ensures in
    let p = c.requires in
    record { few = p.few; least = p.least; most = p.most; place = omega (arith, c.loop-j-test.true, v.0) }

pub answer_to-requires : goal.answer_to-requires
answer_to-requires c =
    c.requires.answering c.vector_at.result c.vector_at.ensures.1

-- the answer of vector j, one that is counted
module _ (p : Prospect) (k loops j : ℕ) (l : j < length (vectors k loops)) where
  here_is : {r : ℕ} {x : V3} → r ≡ answer_by p x → x ≡ step_vector (get_or (vectors k loops) j []) → r ≡ get_or (answers_by p k loops) j 0
  here_is e h = e ∙ ap (answer_by p) h ∙ sym (map_at (λ v. answer_by p (step_vector v)) (vectors k loops) j [] 0 l)

  in_answers : j < length (answers_by p k loops)
  in_answers = omega (arith, l, length-map (vectors k loops) (λ v. answer_by p (step_vector v)))

below : (x : V3) {p : Prospect} {k loops r : ℕ} → Tallying p k loops → r ≡ answer_by p x → r < answer_count
below x h e = subst (λ (n : ℕ). n < answer_count) (sym e) (h.below x)

-- the answer of vector j, by its place
placed : (c : goal.After-place_of-a) → c.place_of-a.result ≡ answer_by c.args.p c.vector_at.result
placed c = c.place_of-a.ensures ∙ c.answer_to.ensures

pub offset_bounds-counts-a : goal.offset_bounds-counts-a
offset_bounds-counts-a c = record { fits = omega (arith, below c.vector_at.result c.requires (placed c)) }

pub bounds-counts-a : goal.bounds-counts-a
bounds-counts-a c = below c.vector_at.result c.requires (placed c)

pub overflow_add-counts : goal.overflow_add-counts
overflow_add-counts c =
    let a = c.args in
    let answers = answers_by a.p a.k a.loops in
    let v = c.vector_count-all.ensures in
    record {
      fits =
          omega (
            arith,
            count_most answers c.loop-j.invariant c.place_of-a.result (below c.vector_at.result c.requires (placed c)),
            length-map (vectors a.k a.loops) (λ v. answer_by a.p (step_vector v)),
            v.0,
            v.1,
          );
    }

pub bounds-counts-a-in-loop-j : goal.bounds-counts-a-in-loop-j
bounds-counts-a-in-loop-j c = below c.vector_at.result c.requires (placed c)

pub loop-j-preserved : goal.loop-j-preserved
loop-j-preserved c =
    let a = c.args in
    let j = c.loop-j.j in
    let l : j < length (vectors a.k a.loops) = omega (arith, c.loop-j-test.true, c.vector_count-all.ensures.0) in
    counted_next (answers_by a.p a.k a.loops) (in_answers a.p a.k a.loops j l)
    (here_is a.p a.k a.loops j l (placed c) c.vector_at.ensures.0)
    (below c.vector_at.result c.requires (placed c)) c.loop-j.invariant

pub returns : goal.returns
returns c =
    let a = c.args in
    counted_all (answers_by a.p a.k a.loops)
    (omega (
      arith,
      c.vector_count-all.ensures.0,
      length-map (vectors a.k a.loops) (λ v. answer_by a.p (step_vector v)),
    ))
    c.loop-j.invariant
