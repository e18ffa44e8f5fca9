-- The steps of the ranks are Run's order, and the first ready step is that of the first rank whose step is ready. Assumes nothing.
use Rattle.std.specs.Prelude.{◌≡◌, Bool, get_or}
use Rattle.std.proofs.Math.Path.{refl, sym}
use Rattle.std.proofs.Common.{◌∙◌, ap, ap₂, zero-add, arith, length-append, get_or-append-add, ext_get_or, lt-ltb}
use Rattle.std.proofs.Math.Bool.{true, false, cond}
use mathlib.Core.List.{List, [], ◌∷◌, ◌++◌, map}
use Prim.Native.Nat.{ℕ, suc, ◌+◌, ◌*◌, ◌≤◌, ◌<◌}
use Rattle.std.proofs.Math.Dec.{ltb, leb-suc-suc}
use Rattle.std.proofs.Math.ListN.{length, get_or-append}
use Rattle.std.proofs.lemmas.List.{length-map}
use Rattle.meaning.specs.Lists.{any, each, position, numbers}
use Rattle.meaning.specs.Array.{Array, process_count, stream_count}
use Rattle.meaning.specs.declared.Step.{Step}
use Rattle.meaning.specs.declared.Step.TheVariants.{Send, Take, Fire, Give, Receive}
use Rattle.meaning.specs.Rules.{at, nothing, first_ready, in_order, ready, any_ready, lowest}
use Rattle.lists.specs.Members.{map_at, each_length, each_at, numbers_length, numbers_at}
use Rattle.lists.specs.Sums.{total_same}
use Rattle.port_table.specs.declared.Size.{Size}
use Rattle.port_table.specs.PortsOf.{SizeOf}
use Rattle.step_order.specs.Ranks.{width, rank_count, step_at, take_rank, fire_rank, give_rank, receive_rank, steps_inside}
use Rattle.step_order.specs.Steps.{Ranked, send, take, fire, give, receive, send_step, take_step, fire_step, give_step}
use Rattle.step_order.specs.Steps.{receive_step}
use Rattle.step_order.proofs.Steps.{ranked}

-- ---- the order by the numbers of pipes, processes and streams

abbrev steps_by : ℕ → ℕ → List Step
steps_by m p = map (Take p) (numbers m) ++ (Fire p ∷ map (Give p) (numbers m))

abbrev order_by : ℕ → ℕ → ℕ → List Step
order_by q n m = map Send (numbers q) ++ (each (steps_by m) (numbers n) ++ map Receive (numbers q))

numbered : (f : ℕ → Step) (n j : ℕ) → j < n → get_or (map f (numbers n)) j (Send 0) ≡ f j
numbered f n j h = map_at f (numbers n) j 0 (Send 0) (rw numbers_length h) ∙ ap f (numbers_at 0 n j 0 h ∙ zero-add j)

many : (f : ℕ → Step) (n : ℕ) → length (map f (numbers n)) ≡ n
many f n = length-map (numbers n) f ∙ numbers_length 0 n

-- past the members of a list
past : (l l' : List Step) (n i j : ℕ) → length l ≡ n → j ≡ n + i → get_or (l ++ l') j (Send 0) ≡ get_or l' i (Send 0)
past l l' n i j e k = ap (λ (c : ℕ). get_or (l ++ l') c (Send 0)) (k ∙ ap (λ (c : ℕ). c + i) (sym e)) ∙ get_or-append-add l l' i (Send 0)

module _ (z : Size) where
  steps_many : (p : ℕ) → length (steps_by z.streams p) ≡ width z
  steps_many p =
      length-append (map (Take p) (numbers z.streams)) _
      ∙ ap₂ (λ (a b : ℕ). a + suc b) (many (Take p) z.streams) (many (Give p) z.streams) ∙ omega arith

  all_many : length (each (steps_by z.streams) (numbers z.processes)) ≡ z.processes * width z
  all_many =
      each_length (steps_by z.streams) (numbers z.processes)
      ∙ total_same (λ p. length (steps_by z.streams p)) (width z) steps_many (numbers z.processes)
      ∙ ap (λ (n : ℕ). n * width z) (numbers_length 0 z.processes)

  abbrev order : List Step
  order = order_by z.pipes z.processes z.streams

  order_many : length order ≡ rank_count z
  order_many =
      length-append (map Send (numbers z.pipes)) _
      ∙ ap₂ ◌+◌ (many Send z.pipes)
      (length-append (each (steps_by z.streams) (numbers z.processes)) _ ∙ ap₂ ◌+◌ all_many (many Receive z.pipes))
      ∙ omega arith

  -- place o of process p
  process_at_lem : (p o r : ℕ) → p < z.processes → o < width z → r ≡ z.pipes + (p * width z + o)
      → get_or order r (Send 0) ≡ get_or (steps_by z.streams p) o (Send 0)
  process_at_lem p o r h l e =
      past (map Send (numbers z.pipes)) _ z.pipes (p * width z + o) r (many Send z.pipes) e
      ∙ get_or-append (each (steps_by z.streams) (numbers z.processes)) _ (Send 0) (p * width z + o)
      (omega (arith, all_many, steps_inside z h))
      ∙ each_at (steps_by z.streams) (width z) steps_many (numbers z.processes) p o 0 (Send 0) (rw numbers_length h) l
      ∙ ap (λ (p : ℕ). get_or (steps_by z.streams p) o (Send 0)) (numbers_at 0 z.processes p 0 h ∙ zero-add p)

  order_at : (r : ℕ) → Ranked z r → get_or order r (Send 0) ≡ step_at z r
  order_at r (send q h e) =
      rw (e, send_step z q h)
      (get_or-append (map Send (numbers z.pipes)) _ (Send 0) q (omega (arith, many Send z.pipes)) ∙ numbered Send z.pipes q h)
  order_at r (take p i h l e) =
      rw (e, take_step z p i h l)
      (process_at_lem p i (take_rank z p i) h (omega arith) (omega arith)
      ∙ get_or-append (map (Take p) (numbers z.streams)) _ (Send 0) i (omega (arith, many (Take p) z.streams))
      ∙ numbered (Take p) z.streams i l)
  order_at r (fire p h e) =
      rw (e, fire_step z p h)
      (process_at_lem p z.streams (fire_rank z p) h (omega arith) (omega arith)
      ∙ past (map (Take p) (numbers z.streams)) _ z.streams 0 z.streams (many (Take p) z.streams) (omega arith))
  order_at r (give p i h l e) =
      rw (e, give_step z p i h l)
      (process_at_lem p (z.streams + 1 + i) (give_rank z p i) h (omega arith) (omega arith)
      ∙ past (map (Take p) (numbers z.streams)) _ z.streams (suc i) (z.streams + 1 + i) (many (Take p) z.streams) (omega arith)
      ∙ numbered (Give p) z.streams i l)
  order_at r (receive q h e) =
      rw (e, receive_step z q)
      (past (map Send (numbers z.pipes)) _ z.pipes (z.processes * width z + q) (receive_rank z q) (many Send z.pipes) (omega arith)
      ∙ past (each (steps_by z.streams) (numbers z.processes)) _ (z.processes * width z) q (z.processes * width z + q) all_many refl
      ∙ numbered Receive z.pipes q h)

  order_is : order ≡ map (step_at z) (numbers (rank_count z))
  order_is =
      ext_get_or (Send 0) order (map (step_at z) (numbers (rank_count z))) (order_many ∙ sym (many (step_at z) (rank_count z)))
      (λ r h. let l : r < rank_count z = omega (arith, order_many) in
      order_at r (ranked z r l) ∙ sym (numbered (step_at z) (rank_count z) r l))

pub in_order_lem : {A : Array} {z : Size} → SizeOf A z → in_order A ≡ map (step_at z) (numbers (rank_count z))
in_order_lem {A} {z} s =
    ap (λ (q : ℕ). order_by q (process_count A) (stream_count A)) (sym s.pipes)
    ∙ ap₂ (λ (n m : ℕ). order_by z.pipes n m) (sym s.processes) (sym s.streams) ∙ order_is z

-- ---- the first that is ready

module _ (f : Step → Bool) (g : ℕ → Step) where
  abbrev place : List ℕ → ℕ
  place l = position (λ r. f (g r)) l

  first_some : (l : List ℕ) → place l < length l → first_ready f (map g l) ≡ at (g (get_or l (place l) 0))
  unfolding position first_ready
  first_some [] h = absurd (omega arith)
  first_some (x ∷ l) h = go (f (g x)) h (first_some l)
    where
      go : (b : Bool) → cond b 0 (suc (place l)) < suc (length l)
          → (place l < length l → first_ready f (map g l) ≡ at (g (get_or l (place l) 0)))
          → cond b (at (g x)) (first_ready f (map g l)) ≡ at (g (get_or (x ∷ l) (cond b 0 (suc (place l))) 0))
      go true h ih = refl
      go false h ih = ih (omega arith)

  first_none : (l : List ℕ) → length l ≤ place l → first_ready f (map g l) ≡ nothing
  unfolding position first_ready
  first_none [] h = refl
  first_none (x ∷ l) h = go (f (g x)) h (first_none l)
    where
      go : (b : Bool) → suc (length l) ≤ cond b 0 (suc (place l)) → (length l ≤ place l → first_ready f (map g l) ≡ nothing)
          → cond b (at (g x)) (first_ready f (map g l)) ≡ nothing
      go true h ih = absurd (omega arith)
      go false h ih = ih (omega arith)

  any_some : (l : List ℕ) → any f (map g l) ≡ ltb (place l) (length l)
  unfolding position any
  any_some [] = refl
  any_some (x ∷ l) = go (f (g x)) (any_some l)
    where
      go : (b : Bool) → any f (map g l) ≡ ltb (place l) (length l)
          → cond b true (any f (map g l)) ≡ ltb (cond b 0 (suc (place l))) (suc (length l))
      go true ih = sym (lt-ltb 0 (suc (length l)) (omega arith))
      go false ih = ih ∙ sym (leb-suc-suc (suc (place l)) (length l))

module _ {A : Array} {z : Size} (s : SizeOf A z) (st : List ℕ) where
  -- the lowest rank whose step is ready
  abbrev lowest_rank : ℕ
  lowest_rank = position (λ r. ready A st (step_at z r)) (numbers (rank_count z))

  pub lowest_some : (r : ℕ) → r ≡ lowest_rank → r < rank_count z → lowest A st ≡ at (step_at z r)
  lowest_some r e h =
      let k : lowest_rank < rank_count z = omega arith in
      ap (first_ready (ready A st)) (in_order_lem s) ∙ first_some (ready A st) (step_at z) (numbers (rank_count z)) (rw numbers_length k)
      ∙ ap (λ (r : ℕ). at (step_at z r)) (numbers_at 0 (rank_count z) lowest_rank 0 k ∙ zero-add lowest_rank ∙ sym e)

  pub lowest_none : (r : ℕ) → r ≡ lowest_rank → rank_count z ≤ r → lowest A st ≡ nothing
  lowest_none r e h =
      ap (first_ready (ready A st)) (in_order_lem s)
      ∙ first_none (ready A st) (step_at z) (numbers (rank_count z)) (omega (arith, numbers_length 0 (rank_count z)))

  pub any_ready_lem : any_ready A st ≡ ltb lowest_rank (rank_count z)
  any_ready_lem =
      ap (any (ready A st)) (in_order_lem s) ∙ any_some (ready A st) (step_at z) (numbers (rank_count z))
      ∙ ap (ltb lowest_rank) (numbers_length 0 (rank_count z))
