-- The steps that the loop does are those of Run. Assumes nothing.
use Rattle.std.specs.Prelude.{◌≡◌, Bool, true, false, List, [], ◌∷◌, ◌++◌, ltb, length}
use Rattle.std.proofs.Math.Path.{refl}
use Rattle.std.proofs.Common.{sym, ◌∙◌, ap, append_assoc, append-nil, length-append, lt-ltb, le-ltb, ltb-true, ltb-false}
use Prim.Native.Nat.{ℕ, zero, suc, ◌+◌, ◌-◌, ◌≤◌, ◌<◌}
use native.Mathlib.Omega.{arith}
use Rattle.meaning.specs.Description.{description_of}
use Rattle.meaning.specs.Lists.{position, numbers}
use Rattle.meaning.specs.Array.{Array, array_of}
use Rattle.meaning.specs.declared.Step.{Step}
use Rattle.meaning.specs.Rules.{Memory, at, nothing, ready, apply, lowest, any_ready, run_steps, apply_all}
use Rattle.network.specs.Calls.{apply_append}
use Rattle.network.specs.Ready.{There}
use Rattle.port_table.specs.declared.Size.{Size}
use Rattle.ready_set.specs.Flags.{Kept}
use Rattle.ready_set.specs.Firsts.{position_hit}
use Rattle.step_rules.specs.declared.Program.{Program}
use Rattle.step_rules.specs.Steps.{program_of}
use Rattle.step_rules.specs.Fits.{Programmed, Inside}
use Rattle.step_rules.specs.Meaning.{Stands, can_is}
use Rattle.step_order.specs.Ranks.{Sized, rank_count, step_at, steps_most}
use Rattle.step_order.proofs.Steps.{step_inside}
use Rattle.step_order.proofs.Order.{lowest_some, lowest_none, any_ready_lem}
use Rattle.wakeups.specs.Wakeups.{can_at, flag_at, WakeupsOf}
use Rattle.opening.specs.Opening.{Grounds, grounds, Opened}
use Rattle.opening.specs.Opened.{stands, fits}
use Rattle.run_steps.specs.Positions.{bounded_some, bounded_none}
use Rattle.run_steps.specs.Going.{there_inside, state_length_lem, opened_step}

-- what the loop starts with
pub record Started (s : List ℕ) (g : Program) (b spans wakeups : List ℕ) (z : Size) (M : Memory) (flags : List ℕ) : Type 0 where
  pub opened : Opened s M b z
  pub program : g ≡ program_of (description_of s)
  pub programmed : Programmed g spans b z
  pub wakeups_of : WakeupsOf b z wakeups
  pub kept : Kept (flag_at b M.state z) flags

-- a memory that is in order, with the flags of its ready steps
pub record Ready (s : List ℕ) (b : List ℕ) (z : Size) (M : Memory) (flags : List ℕ) : Type 0 where
  pub opened : Opened s M b z
  pub kept : Kept (flag_at b M.state z) flags

-- the first `done` of the steps are done
pub record Partly (s : List ℕ) (b : List ℕ) (z : Size) (steps : ℕ) (M : Memory) (done : ℕ) (M' : Memory) (flags : List ℕ) : Type 0 where
  pub ready : Ready s b z M' flags
  pub within : done ≤ steps
  pub words : length M'.state ≡ length M.state
  pub first : List Step
  pub count : length first ≡ done
  pub memory : apply_all (array_of (description_of s)) M first ≡ M'
  pub rest : run_steps (array_of (description_of s)) steps M ≡ first ++ run_steps (array_of (description_of s)) (steps - done) M'

-- all of them are
pub record Ended (s : List ℕ) (b : List ℕ) (z : Size) (steps : ℕ) (M : Memory) (done : ℕ) (M' : Memory) (flags : List ℕ) : Type 0 where
  pub ready : Ready s b z M' flags
  pub count : length (run_steps (array_of (description_of s)) steps M) ≡ done
  pub memory : apply_all (array_of (description_of s)) M (run_steps (array_of (description_of s)) steps M) ≡ M'

pub partly_start : (s b : List ℕ) (z : Size) (steps : ℕ) (M : Memory) (flags : List ℕ) → Ready s b z M flags
    → Partly s b z steps M 0 M flags
unfolding apply_all
partly_start s b z steps M flags r =
    record {
      ready = r;
      within = omega arith;
      words = refl;
      first = [];
      count = refl;
      memory = refl;
      rest = let e : steps - 0 ≡ steps = omega arith in rw e refl;
    }

-- one step, none
apply_one : (A : Array) (M : Memory) (a : Step) → apply_all A M (a ∷ []) ≡ apply A M a
unfolding apply_all
apply_one A M a = refl

run_none : (A : Array) (M : Memory) → run_steps A 0 M ≡ []
unfolding run_steps
run_none A M = refl

-- ---- the lowest ready step

module _ {s : List ℕ} {b : List ℕ} {z : Size} {M : Memory} {flags : List ℕ} (h : Ready s b z M flags) where
  abbrev A : Array
  A = array_of (description_of s)

  ground : Grounds (description_of s)
  ground = grounds s h.opened.accepted

  stand : Stands A b z
  stand = stands ground h.opened.stood

  pub sized : Sized z
  sized = let f = fits ground h.opened.stood in record { processes = f.processes; streams = f.streams; pipes = f.pipes }

  ranks_few : rank_count z ≤ 32768
  ranks_few = omega (arith, steps_most sized, sized.pipes)

  pub inside : (r : ℕ) → r < rank_count z → Inside z (step_at z r)
  inside = step_inside z

  can_ready : (r : ℕ) → r < rank_count z → can_at b M.state z r ≡ ready A M.state (step_at z r)
  can_ready r l = can_is stand M h.opened.stood.sound (step_at z r) (inside r l)

  abbrev flagged : ℕ → Bool
  flagged = flag_at b M.state z

  abbrev ready_rank : ℕ → Bool
  ready_rank r = ready A M.state (step_at z r)

  module _ {r : ℕ} (e : r ≡ position flagged (numbers 32768)) where
    pub some_rank : r < 32768 → r < rank_count z
    some_rank l = omega (arith, e, (bounded_some (can_at b M.state z) ready_rank (rank_count z) 32768 ranks_few can_ready (omega arith)).0)

    first_rank : r < 32768 → r ≡ position ready_rank (numbers (rank_count z))
    first_rank l = e ∙ sym (bounded_some (can_at b M.state z) ready_rank (rank_count z) 32768 ranks_few can_ready (omega arith)).1

    pub lowest_at : r < 32768 → lowest A M.state ≡ at (step_at z r)
    lowest_at l = lowest_some stand.size M.state r (first_rank l) (some_rank l)

    pub can_rank : r < 32768 → can_at b M.state z r ≡ true
    can_rank l =
        can_ready r (some_rank l) ∙ ap ready_rank (first_rank l)
        ∙ position_hit ready_rank (rank_count z) (omega (arith, first_rank l, some_rank l))

    none_rank : 32768 ≤ r → rank_count z ≤ position ready_rank (numbers (rank_count z))
    none_rank l = bounded_none (can_at b M.state z) ready_rank (rank_count z) 32768 ranks_few can_ready (omega arith)

    pub lowest_nothing : 32768 ≤ r → lowest A M.state ≡ nothing
    lowest_nothing l = lowest_none stand.size M.state _ refl (none_rank l)

    -- whether any is ready
    pub any_left : any_ready A M.state ≡ ltb r 32768
    any_left = any_ready_lem stand.size M.state ∙ go (ltb r 32768) refl
      where
        go : (x : Bool) → ltb r 32768 ≡ x → ltb (position ready_rank (numbers (rank_count z))) (rank_count z) ≡ x
        go true u = let l = ltb-true r 32768 u in
            lt-ltb (position ready_rank (numbers (rank_count z))) (rank_count z) (omega (arith, first_rank l, some_rank l))
        go false u = le-ltb (position ready_rank (numbers (rank_count z))) (rank_count z) (none_rank (ltb-false r 32768 u))

  -- the step of a rank that can be done is one of the array's, and ready
  module _ (r : ℕ) (l : r < rank_count z) (c : can_at b M.state z r ≡ true) where
    pub rank_ready : ready A M.state (step_at z r) ≡ true
    rank_ready = sym (can_ready r l) ∙ c

    pub rank_there : There A (step_at z r)
    rank_there = there_inside A stand.size M.state (step_at z r) (inside r l) rank_ready

    pub opened_next : Opened s (apply A M (step_at z r)) b z
    opened_next = opened_step h.opened (step_at z r) rank_there rank_ready

    pub words_next : length (apply A M (step_at z r)).state ≡ length M.state
    words_next = state_length_lem h.opened (step_at z r) rank_there rank_ready

-- ---- turns of the loop

module _ {s b : List ℕ} {z : Size} {steps : ℕ} {M : Memory} {done : ℕ} {M' : Memory} {flags : List ℕ}
    (h : Partly s b z steps M done M' flags) where
  abbrev B : Array
  B = array_of (description_of s)

  -- what Run does next
  next_steps : (a : Step) → done < steps → lowest B M'.state ≡ at a
      → run_steps B (steps - done) M' ≡ a ∷ run_steps B (steps - (done + 1)) (apply B M' a)
  unfolding run_steps
  next_steps a l e = let n : steps - done ≡ suc (steps - (done + 1)) = omega arith in rw (n, e) refl

  no_steps : lowest B M'.state ≡ nothing → (n : ℕ) → run_steps B n M' ≡ []
  unfolding run_steps
  no_steps e zero = refl
  no_steps e (suc n) = rw e refl

  pub partly_next : (a : Step) {M'' : Memory} {flags' : List ℕ} → done < steps → lowest B M'.state ≡ at a → M'' ≡ apply B M' a
      → Ready s b z M'' flags' → length M''.state ≡ length M'.state → Partly s b z steps M (done + 1) M'' flags'
  partly_next a {M''} l e m r w =
      record {
        ready = r;
        within = omega arith;
        words = w ∙ h.words;
        first = h.first ++ (a ∷ []);
        count = length-append h.first (a ∷ []) ∙ ap (λ (n : ℕ). n + 1) h.count;
        memory = apply_append B M h.first (a ∷ []) ∙ ap (λ (N : Memory). apply_all B N (a ∷ [])) h.memory ∙ one ∙ sym m;
        rest =
            h.rest ∙ ap (λ (l : List Step). h.first ++ l) (next_steps a l e)
            ∙ ap (λ (N : Memory). h.first ++ (a ∷ run_steps B (steps - (done + 1)) N)) (sym m)
            ∙ sym (append_assoc h.first (a ∷ []) (run_steps B (steps - (done + 1)) M''));
      }
    where
      one : apply_all B M' (a ∷ []) ≡ apply B M' a
      one = apply_one B M' a

  all_done : run_steps B (steps - done) M' ≡ [] → run_steps B steps M ≡ h.first
  all_done e = h.rest ∙ ap (λ (l : List Step). h.first ++ l) e ∙ append-nil h.first

  ended : run_steps B (steps - done) M' ≡ [] → Ended s b z steps M done M' flags
  ended e =
      record {
        ready = h.ready;
        count = ap length (all_done e) ∙ h.count;
        memory = ap (apply_all B M) (all_done e) ∙ h.memory;
      }

  -- enough steps are done
  pub ended_full : steps ≤ done → Ended s b z steps M done M' flags
  ended_full l = ended (full (steps - done) (omega arith))
    where
      full : (n : ℕ) → n ≡ 0 → run_steps B n M' ≡ []
      full n e = rw e (run_none B M')

  -- none is ready
  pub ended_none : lowest B M'.state ≡ nothing → Ended s b z steps M done M' flags
  ended_none e = ended (no_steps e (steps - done))
