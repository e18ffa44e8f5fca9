-- Members of lists, and of the lists of an array's steps: what passes a test somewhere in the order of the steps is a step of the array.
-- Assumes nothing.
use Rattle.std.specs.Prelude.{◌≡◌, refl, Bool, true, false, cond, ◌⊎◌, ℕ, ◌<◌, T}
use Rattle.std.proofs.Common.{sym, subst, inl, inr, arith}
use mathlib.Core.List.Memᴰ.{head as here}
use mathlib.Core.List.Memᴰ.{map as in_map}
use mathlib.Core.List.Memᴰ.{tail as there}
use mathlib.Core.List.{List, [], ◌∷◌, ◌++◌, map, Memᴰ as In}
use mathlib.Core.List.Memᴰ.{append_cases as cases}
use mathlib.Core.List.Memᴰ.{append_left as left}
use mathlib.Core.List.Memᴰ.{append_right as right}
use Rattle.meaning.specs.Lists.{any, each, numbers}
use Rattle.meaning.specs.Array.{Array, process_count, stream_count, pipe_number, pipe_through, on_pipe}
use Rattle.meaning.specs.declared.Step.{Step}
use Rattle.meaning.specs.declared.Step.TheVariants.{Send, Take, Fire, Give, Receive}
use Rattle.meaning.specs.Rules.{ready_to_take, ready_to_give, ready, steps_of, in_order, at}
use Rattle.meaning.specs.Rules.{first_ready}
use Rattle.lists.specs.Members.{any_yes, yes_any, map_in, in_each, each_in, numbers_in, in_numbers}
use Rattle.lists.specs.Tests.{is_true, both_true}
use Rattle.network.specs.Wiring.{place_at}
use Rattle.network.specs.Ready.{There}

-- ---- members

module _ {X : Type 0} where
  -- of a function of the numbers below n, and of the lists that one makes of them
  in_row : (f : ℕ → X) (n j : ℕ) → j < n → In (f j) (map f (numbers n))
  in_row f n j h = in_map f (in_numbers 0 n j (omega arith) (omega arith))

  row_in : (f : ℕ → X) (n : ℕ) (a : X) → In a (map f (numbers n)) → (j : ℕ) × (j < n) × (a ≡ f j)
  row_in f n a i = let r = map_in f (numbers n) i in (r.from, omega (arith, (numbers_in 0 n r.mem).1), r.is)

  in_rows : (f : ℕ → List X) (n j : ℕ) → j < n → {a : X} → In a (f j) → In a (each f (numbers n))
  in_rows f n j h i = in_each f (in_numbers 0 n j (omega arith) (omega arith)) i

  rows_in : (f : ℕ → List X) (n : ℕ) (a : X) → In a (each f (numbers n)) → (j : ℕ) × (j < n) × In a (f j)
  rows_in f n a i = let r = each_in f (numbers n) i in (r.from, omega (arith, (numbers_in 0 n r.mem).1), r.is)

  -- some member passes
  pub any_in : (f : X → Bool) {a : X} {l : List X} → In a l → f a ≡ true → any f l ≡ true
  any_in f {l} i e = is_true (any f l) (yes_any f i (subst T (sym e) tt))

  pub in_any : (f : X → Bool) (l : List X) → any f l ≡ true → (a : X) × In a l × (f a ≡ true)
  in_any f l e = let r = any_yes f l (subst T (sym e) tt) in (r.it, r.mem, is_true (f r.it) r.ok)

-- ---- the steps in Run's order

module _ (A : Array) where
  -- a step of a pipe, process and stream that are there
  abbrev pub Listed : Step → Type 0
  Listed (Send q) = q < pipe_number A
  Listed (Take p s) = (p < process_count A) × (s < stream_count A)
  Listed (Fire p) = p < process_count A
  Listed (Give p s) = (p < process_count A) × (s < stream_count A)
  Listed (Receive q) = q < pipe_number A

  pub in_order_lem : (a : Step) → Listed a → In a (in_order A)
  in_order_lem (Send q) h = left _ (in_row Send (pipe_number A) q h)
  in_order_lem (Take p s) (h, l) =
      right (map Send (numbers (pipe_number A)))
      (left _ (in_rows (steps_of A) (process_count A) p h (left _ (in_row (Take p) (stream_count A) s l))))
  in_order_lem (Fire p) h =
      right (map Send (numbers (pipe_number A)))
      (left _ (in_rows (steps_of A) (process_count A) p h (right (map (Take p) (numbers (stream_count A))) (here refl))))
  in_order_lem (Give p s) (h, l) =
      right (map Send (numbers (pipe_number A)))
      (left _ (in_rows (steps_of A) (process_count A) p h
      (right (map (Take p) (numbers (stream_count A))) (there (in_row (Give p) (stream_count A) s l)))))
  in_order_lem (Receive q) h =
      right (map Send (numbers (pipe_number A)))
      (right (each (steps_of A) (numbers (process_count A))) (in_row Receive (pipe_number A) q h))

  pub listed : (a : Step) → In a (in_order A) → Listed a
  listed a i = go (cases (map Send (numbers (pipe_number A))) i)
    where
      gives : (p : ℕ) → p < process_count A → In a (Fire p ∷ map (Give p) (numbers (stream_count A))) → Listed a
      gives p h (here e) = subst Listed (sym e) h
      gives p h (there j) = let r = row_in (Give p) (stream_count A) a j in subst Listed (sym r.2) (h, r.1)

      port : (p : ℕ) → p < process_count A
          → In a (map (Take p) (numbers (stream_count A))) ⊎ In a (Fire p ∷ map (Give p) (numbers (stream_count A)))
          → Listed a
      port p h (inl j) = let r = row_in (Take p) (stream_count A) a j in subst Listed (sym r.2) (h, r.1)
      port p h (inr j) = gives p h j

      rest : In a (each (steps_of A) (numbers (process_count A))) ⊎ In a (map Receive (numbers (pipe_number A))) → Listed a
      rest (inl j) =
          let r = rows_in (steps_of A) (process_count A) a j in
          port r.0 r.1 (cases (map (Take r.0) (numbers (stream_count A))) r.2)
      rest (inr j) = let r = row_in Receive (pipe_number A) a j in subst Listed (sym r.2) r.1

      go : In a (map Send (numbers (pipe_number A)))
          ⊎ In a (each (steps_of A) (numbers (process_count A)) ++ map Receive (numbers (pipe_number A)))
          → Listed a
      go (inl j) = let r = row_in Send (pipe_number A) a j in subst Listed (sym r.2) r.1
      go (inr j) = rest (cases (each (steps_of A) (numbers (process_count A))) j)

  -- a listed step that is ready is one of the array's
  pub ready_there : (st : List ℕ) (a : Step) → Listed a → ready A st a ≡ true → There A a
  ready_there st (Send q) h e = h
  ready_there st (Take p s) h e = (both_true (on_pipe A p s) (ready_to_take A st (pipe_through A p s) (place_at A p s)) e).0
  ready_there st (Fire p) h e = h
  ready_there st (Give p s) h e = (both_true (on_pipe A p s) (ready_to_give A st (pipe_through A p s) (place_at A p s)) e).0
  ready_there st (Receive q) h e = h

-- what is found passes, and is a member
pub found_passes : (f : Step → Bool) (l : List Step) (a : Step) → first_ready f l ≡ at a → In a l × (f a ≡ true)
unfolding first_ready
found_passes f [] a e = absurd (let z : ◌≡◌ {A = ℕ} 0 1 = cc in omega arith)
found_passes f (b ∷ l) a e = go (f b) refl e (found_passes f l a)
  where
    go : (c : Bool) → f b ≡ c → cond c (at b) (first_ready f l) ≡ at a → (first_ready f l ≡ at a → In a l × (f a ≡ true))
        → In a (b ∷ l) × (f a ≡ true)
    go true d e ih = let z : b ≡ a = cc in subst (λ (a : Step). In a (b ∷ l) × (f a ≡ true)) z (here refl, d)
    go false d e ih = let r = ih e in (there r.0, r.1)
