-- By the port table of an array, a process can move where the code says so. Assumes nothing.
use Rattle.std.specs.Prelude.{◌≡◌, refl, Bool, false, ℕ, ◌<◌}
use Rattle.std.proofs.Math.Path.{sym, ap, ap₂}
use Rattle.std.proofs.Common.{◌∙◌, arith}
use Rattle.std.proofs.Math.Bool.{true, cond, ◌||◌}
use mathlib.Core.List.{List, ◌∷◌, map}
use Rattle.meaning.specs.Lists.{any, numbers}
use Rattle.meaning.specs.Array.{Array, stream_count}
use Rattle.meaning.specs.declared.Step.TheVariants.{Take, Fire, Give}
use Rattle.meaning.specs.Rules.{sound, Memory, ready, steps_of}
use Rattle.lists.specs.Rows.{same_any}
use Rattle.lists.specs.Tests.{any_append, any_map, any_either}
use Rattle.take_give.specs.Moves.{can_take, can_give}
use Rattle.fire.specs.Firing.{can_fire}
use Rattle.port_table.specs.declared.Size.{Size}
use Rattle.port_table.specs.PortsOf.{port_at, ports_at}
use Rattle.step_rules.specs.Steps.{can_by}
use Rattle.step_rules.specs.Meaning.{Stands, can_is}
use Rattle.ready_words.specs.Moves.{passes_by, moves_by}

-- takes, fire and gives in either order
order : (t f g : Bool) → (t || cond f true g) ≡ ((t || g) || f)
order true f g = refl
order false true true = refl
order false true false = refl
order false false true = refl
order false false false = refl

module _ (A : Array) (st : List ℕ) (p : ℕ) where
  abbrev takes_at : ℕ → Bool
  takes_at i = ready A st (Take p i)

  abbrev gives_at : ℕ → Bool
  gives_at i = ready A st (Give p i)

  steps_are : any (ready A st) (steps_of A p) ≡ (any (λ i. takes_at i || gives_at i) (numbers (stream_count A)) || ready A st (Fire p))
  unfolding any
  steps_are =
      let l = numbers (stream_count A) in
      any_append (ready A st) (map (Take p) l) (Fire p ∷ map (Give p) l)
      ∙ ap₂ (λ (t g : Bool). t || cond (ready A st (Fire p)) true g) (any_map (ready A st) (Take p) l) (any_map (ready A st) (Give p) l)
      ∙ order (any takes_at l) (ready A st (Fire p)) (any gives_at l)
      ∙ ap (λ (b : Bool). b || ready A st (Fire p)) (sym (any_either takes_at gives_at l))

module _ {A : Array} {b : List ℕ} {z : Size} (s : Stands A b z) (M : Memory) (t : sound A M.state ≡ true) (p : ℕ)
    (h : p < z.processes) where
  abbrev st : List ℕ
  st = M.state

  take_is : (i : ℕ) → i < z.streams → can_take st (port_at b p i) ≡ ready A st (Take p i)
  unfolding can_by
  take_is i l = can_is s M t (Take p i) (h, l)

  give_is : (i : ℕ) → i < z.streams → can_give st (port_at b p i) ≡ ready A st (Give p i)
  unfolding can_by
  give_is i l = can_is s M t (Give p i) (h, l)

  fire_is : can_fire st (ports_at b p) z.streams ≡ ready A st (Fire p)
  unfolding can_by
  fire_is = can_is s M t (Fire p) h

  pub moves_is : moves_by b st z.streams p ≡ any (ready A st) (steps_of A p)
  unfolding moves_by passes_by
  moves_is =
      ap₂ ◌||◌
      (same_any (passes_by b st p) (λ i. ready A st (Take p i) || ready A st (Give p i)) 0 z.streams
      (λ i a l. ap₂ ◌||◌ (take_is i (omega arith)) (give_is i (omega arith)))
      ∙ ap (λ (m : ℕ). any (λ i. ready A st (Take p i) || ready A st (Give p i)) (numbers m)) s.size.streams)
      fire_is
      ∙ sym (steps_are A st p)
