-- `port_fill::put_ends` meets its contract: the heads of the first p processes and the rows of the pipes that enter there are written, the
-- count is that of those pipes, and the start is where the part of the next one begins. Assumes nothing.
use mathlib.Core.Path.{◌≡◌, sym, ◌∙◌, ap, subst}
use Prim.Native.Nat.{ℕ, suc, ◌+◌, ◌<◌}
use native.Mathlib.Omega.{arith}
use lib.ListN.{length}
use Rattle.meaning.specs.Space.{processes}
use Rattle.pipe_parts.specs.Starts.{start_at, start_zero, start_next, entered_at, entered_zero, entered_next, entered_le}
use Rattle.pipe_parts.specs.Heads.{Heads, heads_zero, heads_next}
use Rattle.port_fill.specs.Marks.{marks_zero}
use Rattle.port_fill.specs.Strung.{end_rows, start_few, end_fillable, ends_turn, entered_all}
use Rattle.port_fill.proofs.put_ends.Goals as goal

pub loop-p-init : goal.loop-p-init
loop-p-init c =
    let n = c.args.f.nest in
    let t = c.args.f.stream in
    (start_zero n t c.args.first, entered_zero n t, heads_zero n t (omega arith), sym (marks_zero _ _ _ _ _))

pub entering_length-total-requires : goal.entering_length-total-requires
entering_length-total-requires c = let p = c.requires in
    record { seen = p.seen; lt = omega (arith, p.counted) }

pub put_head-requires : goal.put_head-requires
put_head-requires c =
    let p = c.requires in
    let f = c.args.f in
    let l = c.loop-p in (
      omega (arith, p.counted, p.seen.flows.laid.processes),
      l.invariant.2.words,
      omega (arith, l.invariant.1, entered_le f.nest f.stream l.p, p.seen.flows.laid.processes),
      c.entering_length-total.ensures.1,
    )

pub put_end-j-requires : goal.put_end-j-requires
put_end-j-requires c =
    let l = c.loop-p in
    end_fillable c.requires l.p (omega arith) c.entering_length-total.ensures.0 l.invariant.0 l.invariant.1

pub overflow_add-j : goal.overflow_add-j
overflow_add-j c =
    let a = c.args in
    let l = c.loop-p in
    let m : l.p < length (processes a.f.nest) = omega (arith, c.requires.counted) in
    omega (
      arith,
      l.invariant.1,
      entered_next a.f.nest a.f.stream l.p m _ c.put_end-j.ensures.0,
      entered_le a.f.nest a.f.stream (suc l.p),
      c.requires.seen.flows.laid.processes,
    )

pub overflow_add-start : goal.overflow_add-start
overflow_add-start c =
    let l = c.loop-p in
    omega (arith, start_few c.requires l.p l.invariant.0, c.entering_length-total.ensures.1)

pub loop-p-preserved : goal.loop-p-preserved
loop-p-preserved c =
    let a = c.args in
    let n = a.f.nest in
    let t = a.f.stream in
    let l = c.loop-p in
    let x = c.entering_length-total in
    let k = c.put_end-j in
    let z : suc l.p ≡ l.p + 1 = omega arith in
    let m : l.p < length (processes n) = omega (arith, c.requires.counted) in (
      ap (λ (u : ℕ). u + x.result) l.invariant.0 ∙ start_next n t a.first l.p m _ x.ensures.0 ∙ ap (start_at n t a.first) z,
      ap (λ (j : ℕ). j + k.result) l.invariant.1 ∙ entered_next n t l.p m _ k.ensures.0 ∙ ap (entered_at n t) z,
      heads_next l.invariant.2 (omega (arith, m, c.requires.seen.flows.laid.processes)) l.invariant.1 x.ensures.0 c.put_head.ensures,
      ends_turn n t a.g a.first a.base l.p a.ports.now l.invariant.3 l.invariant.0 l.invariant.1 k.ensures.1,
    )

pub returns : goal.returns
returns c =
    let a = c.args in
    let n = a.f.nest in
    let t = a.f.stream in
    let l = c.loop-p in
    let e : l.p ≡ a.processes = omega arith in (
      l.invariant.1 ∙ entered_all n t l.p (e ∙ c.requires.counted),
      subst (λ (k : ℕ). Heads n t k l.heads) e l.invariant.2,
      l.invariant.3 ∙ ap (λ (k : ℕ). end_rows n t a.g a.first a.base k a.ports.now) e,
    )
