-- Values in element order put at their elements' places are those values in pipe order; words cleared. Assumes nothing.
use Rattle.std.specs.Prelude.{◌≡◌, refl, List, ◌++◌, ℕ, ◌≤◌, ◌<◌, length, get_or, replicate}
use Rattle.std.proofs.Common.{sym, ◌∙◌, ap, subst, append-nil, arith, drop_of_length-le, ext_get_or}
use Rattle.std.proofs.lemmas.List.{length-map}
use Rattle.integers.specs.Fill.{fill_by}
use Rattle.meaning.specs.declared.Description.{Description}
use Rattle.meaning.specs.Body.{gather}
use Rattle.meaning.specs.Array.{array_of, pipe_order}
use Rattle.meaning.specs.Calls.{length_of}
use Rattle.lists.specs.Members.{map_at}
use Rattle.lists.specs.Fills.{fill_one}
use Rattle.geometry.specs.Places.{get_d_in, Found, found}
use Rattle.geometry.specs.Descriptions.{Laid}
use Rattle.geometry.proofs.PipeOrder.{numbers_lt, numbers_all, list_length_lem}
use Rattle.addresses.specs.Orders.{found_at}
use Rattle.element_places.specs.Spread.{spread, spread_length, spread_puts}
use Rattle.element_places.specs.Order.{PlacesOf}

-- ---- values put

-- each value has a place, and each place is one of the list
pub record Puttable (values places waiting : List ℕ) : Type 0 where
  pub long : length values ≤ length places
  pub few : length waiting ≤ 24576
  pub lt : (e : ℕ) → e < length values → get_or places e 0 < length waiting

abbrev pub put : List ℕ → List ℕ → ℕ → List ℕ → List ℕ
put values places = spread (λ e. get_or places e 0) (λ e. get_or values e 0)

module _ {d : Description} (laid : Laid d) {places : List ℕ} (of : PlacesOf d places) where
  abbrev order : List ℕ
  order = pipe_order (array_of d)

  -- where the number of an element stands in pipe order
  there : (e : ℕ) → e < length_of d → Found e order 0
  there e h = found 0 (numbers_all laid e h)

  place_is : (e : ℕ) (h : e < length_of d) → get_or places e 0 ≡ (there e h).at
  place_is e h = of.places e h ∙ found_at laid (there e h).at (there e h).lt e (there e h).is

  pub place_lt : (e : ℕ) → e < length_of d → get_or places e 0 < length_of d
  place_lt e h = omega (arith, place_is e h, (there e h).lt, list_length_lem laid)

  number_there : (e : ℕ) → e < length_of d → get_or order (get_or places e 0) 0 ≡ e
  number_there e h = ap (λ (k : ℕ). get_or order k 0) (place_is e h) ∙ (there e h).is

  module _ (values waiting : List ℕ) (lv : length values ≡ length_of d) (lw : length waiting ≡ length_of d) where
    pub puttable : 24576 ≤ length places → length_of d ≤ 24576 → Puttable values places waiting
    puttable l m =
        record {
          long = omega (arith, l, m, lv);
          few = omega (arith, m, lw);
          lt = λ e h. subst (λ (c : ℕ). get_or places e 0 < c) (sym lw) (place_lt e (omega (arith, lv)));
        }

    at_place : (k : ℕ) → k < length_of d → get_or (gather values order) k 0 ≡ get_or values (get_or order k 0) 0
    at_place k h = map_at (λ e. get_or values e 0) order k 0 0 (omega (arith, list_length_lem laid))

    -- they are then in pipe order
    pub gathered : {out : List ℕ} → out ≡ put values places (length values) waiting → out ≡ gather values order
    gathered o =
        o
        ∙ ext_get_or 0 (put values places (length values) waiting) (gather values order)
        (size ∙ lw ∙ sym (length-map order (λ e. get_or values e 0) ∙ list_length_lem laid)) (λ k h. go k (omega (arith, size, lw)))
      where
        size : length (put values places (length values) waiting) ≡ length waiting
        size = spread_length (λ e. get_or places e 0) (λ e. get_or values e 0) (length values) waiting

        right : (e : ℕ) → e < length values → get_or values e 0 ≡ get_or (gather values order) (get_or places e 0) 0
        right e h =
            let l : e < length_of d = omega (arith, lv) in
            sym (at_place (get_or places e 0) (place_lt e l) ∙ ap (λ (i : ℕ). get_or values i 0) (number_there e l))

        low : (e : ℕ) → e < length values → get_or places e 0 < length waiting
        low e h = subst (λ (c : ℕ). get_or places e 0 < c) (sym lw) (place_lt e (omega (arith, lv)))

        go : (k : ℕ) → k < length_of d → get_or (put values places (length values) waiting) k 0 ≡ get_or (gather values order) k 0
        go k h =
            let l : k < length order = omega (arith, list_length_lem laid) in
            let e = get_or order k 0 in
            let b : e < length_of d = numbers_lt laid (get_d_in order k 0 l) in
            let q : get_or places e 0 ≡ k = of.places e b ∙ found_at laid k l e refl in
            subst (λ (k : ℕ). get_or (put values places (length values) waiting) k 0 ≡ get_or (gather values order) k 0) q
            (spread_puts (λ e. get_or places e 0) (λ k. get_or (gather values order) k 0) (λ e. get_or values e 0)
            (length values) waiting right low e (omega (arith, b, lv)))

-- ---- words cleared

pub cleared_all : (k : ℕ) (xs : List ℕ) → length xs ≡ k → fill_by (λ p. 0) k xs ≡ replicate k 0
cleared_all k xs e =
    let h : length xs ≤ k = omega (arith, e) in
    fill_one 0 k xs (omega (arith, e)) ∙ ap (λ (l : List ℕ). replicate k 0 ++ l) (drop_of_length-le xs h) ∙ append-nil (replicate k 0)
