-- Values read at their elements' places are in element order. Assumes nothing.
use Rattle.std.specs.Prelude.{◌≡◌, List, map, ℕ, ◌≤◌, ◌<◌, length, get_or}
use Rattle.std.proofs.Common.{sym, ◌∙◌, ap, zero-add, arith, ext_get_or}
use Rattle.std.proofs.lemmas.List.{length-map}
use Rattle.integers.specs.Fill.{fill_by, fill_length}
use Rattle.integers.proofs.Fill.{fill_at_lem}
use Rattle.meaning.specs.declared.Description.{Description}
use Rattle.meaning.specs.Lists.{numbers}
use Rattle.meaning.specs.Calls.{length_of}
use Rattle.lists.specs.Members.{map_at, numbers_length, numbers_at}
use Rattle.geometry.specs.Places.{found}
use Rattle.geometry.proofs.PipeOrder.{numbers_all, list_length_lem}
use Rattle.addresses.specs.Orders.{found_at}
use Rattle.figures.specs.Shares.{elements_most_lem}
use Rattle.element_places.specs.Order.{PlacesOf, Placeable, place_of_element}

-- the value at the place of element e
abbrev pub placed : List ℕ → List ℕ → ℕ → ℕ
placed received places e = get_or received (get_or places e 0) 0

-- so many elements have a place, and each place is one of the list
pub record Readable (received places : List ℕ) (elements : ℕ) (output : List ℕ) : Type 0 where
  pub long : elements ≤ length places
  pub room : elements ≤ length output
  pub few : length received ≤ 24576
  pub lt : (e : ℕ) → e < elements → get_or places e 0 < length received

-- "received values in element order"
abbrev pub element_order : Description → List ℕ → List ℕ
element_order d received = map (λ e. get_or received (place_of_element d e) 0) (numbers (length_of d))

module _ {d : Description} (h : Placeable d) {places : List ℕ} (of : PlacesOf d places) where
  place_lt : (e : ℕ) → e < length_of d → get_or places e 0 < length_of d
  place_lt e l =
      let t = found 0 (numbers_all h.laid e l) in
      omega (arith, of.places e l, found_at h.laid t.at t.lt e t.is, t.lt, list_length_lem h.laid)

  module _ (received output : List ℕ) (lr : length received ≡ length_of d) (lo : length output ≡ length_of d) where
    pub readable : 24576 ≤ length places → Readable received places (length received) output
    readable l =
        let m = elements_most_lem h.described in
        record {
          long = omega (arith, l, m, lr);
          room = omega (arith, lr, lo);
          few = omega (arith, m, lr);
          lt = λ e b. omega (arith, place_lt e (omega (arith, lr)), lr);
        }

    pub ordered : {out : List ℕ} → out ≡ fill_by (placed received places) (length received) output → out ≡ element_order d received
    ordered o = o ∙ ext_get_or 0 _ _ (size ∙ sym (length-map (numbers (length_of d)) at ∙ numbers_length 0 (length_of d)))
        (λ k l. go k (omega (arith, size)))
      where
        at : ℕ → ℕ
        at e = get_or received (place_of_element d e) 0

        size : length (fill_by (placed received places) (length received) output) ≡ length_of d
        size = fill_length (placed received places) (length received) output ∙ lo

        go : (k : ℕ) → k < length_of d
            → get_or (fill_by (placed received places) (length received) output) k 0 ≡ get_or (element_order d received) k 0
        go k l =
            fill_at_lem (placed received places) (length received) k output 0 (omega (arith, lr)) (omega (arith, lr, lo))
            ∙ ap (λ (i : ℕ). get_or received i 0) (of.places k l)
            ∙ sym (map_at at (numbers (length_of d)) k 0 0 (omega (arith, numbers_length 0 (length_of d)))
            ∙ ap at (numbers_at 0 (length_of d) k 0 l ∙ zero-add k))
