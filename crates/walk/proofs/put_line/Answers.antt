-- `walk::put_line` meets its contract: a process that computes has its first instance, and so many by the increment. Assumes nothing.
use mathlib.Core.Path.{ap}
use Prim.Native.Nat.{ℕ, ◌+◌}
use native.Mathlib.Omega.{arith}
use Rattle.walk.specs.Walked.{no_line, own_small, own_line_lem}
use Rattle.walk.proofs.put_line.Goals as goal

pub bounds-spans-p : goal.bounds-spans-p
bounds-spans-p c = let p = c.requires in omega (arith, p.process, p.walkable.processes, p.words)

pub returns-then-count-eq0 : goal.returns-then-count-eq0
returns-then-count-eq0 c = no_line c.requires c.if-count-eq0.true

pub first_of-requires : goal.first_of-requires
first_of-requires c =
    let p = c.requires in
    let e = p.held.counts _ p.process in
    record {
      nest = p.walkable.nest;
      held = p.held;
      words = p.words;
      few = p.walkable.processes;
      process = p.process;
      some = omega (arith, e, c.if-count-eq0.false);
    }

pub put_instances-requires : goal.put_instances-requires
put_instances-requires c =
    let p = c.requires in
    let f = c.first_of.ensures in
    record {
      small = f.1;
      inside = own_small p f.0;
      short = p.within;
      fits = omega (arith, p.held.counts _ p.process, p.fits);
      room = p.room;
    }

pub overflow_cast-result : goal.overflow_cast-result
overflow_cast-result c =
    let p = c.requires in omega (arith, p.held.counts _ p.process, p.fits)

pub overflow_add-result : goal.overflow_add-result
overflow_add-result c =
    let p = c.requires in omega (arith, p.held.counts _ p.process, p.fits)

pub returns : goal.returns
returns c =
    let p = c.requires in (
      ap (λ (k : ℕ). c.args.from + k) (p.held.counts _ p.process),
      own_line_lem p c.first_of.ensures.0 c.put_instances.ensures,
    )
