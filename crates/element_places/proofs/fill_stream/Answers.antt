-- `element_places::fill_stream` meets its contract: the pipes that enter at the first p processes have said where their elements wait, and
-- the next one's part begins at the start. Assumes nothing.
use mathlib.Core.Path.{◌≡◌, sym, ◌∙◌, ap, ap₂}
use mathlib.Core.List.{List}
use Prim.Native.Nat.{ℕ, suc, ◌+◌}
use native.Mathlib.Omega.{arith}
use Rattle.layout.specs.Spans.{process_of}
use Rattle.pipe_parts.specs.Starts.{entering_length, start_at, start_zero, start_next, start_most}
use Rattle.element_places.specs.Spread.{spreads_zero, spreads_step}
use Rattle.element_places.specs.Order.{said_on, said}
use Rattle.element_places.proofs.fill_stream.Goals as goal

pub loop-p-init : goal.loop-p-init
loop-p-init c =
    let a = c.args in
    (sym (spreads_zero _ _ _ _), start_zero a.f.nest a.f.stream a.first)

pub put_pipe-start-requires : goal.put_pipe-start-requires
put_pipe-start-requires c =
    let p = c.requires in
    let l = c.loop-p in
    record {
      near = record { seen = p.seen; lt = omega (arith, p.counted) };
      fits = p.fits;
      low = omega (arith, l.invariant.1, start_most p.seen.flows.laid.accepted p.small c.args.first l.p, p.fits);
      words = l.auto.places ∙ p.words;
    }

pub overflow_add-start : goal.overflow_add-start
overflow_add-start c =
    let p = c.requires in
    let l = c.loop-p in
    omega (
      arith,
      l.invariant.1,
      c.put_pipe-start.ensures.1,
      p.fits,
      start_most p.seen.flows.laid.accepted p.small c.args.first l.p,
    )

pub loop-p-preserved : goal.loop-p-preserved
loop-p-preserved c =
    let a = c.args in
    let n = a.f.nest in
    let m = a.f.stream in
    let l = c.loop-p in
    let t = c.loop-p-test.true in
    let e = c.put_pipe-start in
    let z : suc l.p ≡ l.p + 1 = omega arith in (
      e.ensures.2
          ∙ ap₂ (λ (k : ℕ) (w : List ℕ). said_on n m a.first (process_of n l.p) k (entering_length n m l.p) w) l.invariant.1 l.invariant.0
          ∙ sym (spreads_step _ _ _ l.p a.places.now),
      ap (λ (k : ℕ). k + e.result) l.invariant.1
          ∙ start_next n m a.first l.p (omega (arith, t, c.requires.counted)) _ e.ensures.0 ∙ ap (start_at n m a.first) z,
    )

pub returns : goal.returns
returns c =
    let l = c.loop-p in
    let a = c.args in
    let e : l.p ≡ a.processes = omega arith in
    l.invariant.0 ∙ ap (λ (p : ℕ). said a.f.nest a.f.stream a.first p a.places.now) e
