-- Request 2.7: the divisors in Accept's answer are those that the shortening rule takes out, and tell how far apart values and working
-- processes lie. Assumes nothing.
use Rattle.std.specs.Prelude.{◌≡◌, refl, ◌↔◌, Bool, true, false, List, [], ◌∷◌, map, ℕ, zero, suc, ◌+◌, ◌≤◌, ◌<◌, eqb, get_or, drop, ℤ}
use Rattle.std.specs.Prelude.{nat_abs, ◌+ℤ◌, ◌*ℤ◌}
use Rattle.std.proofs.Common.{sym, ◌∙◌, arith, get_or-drop, eqb-true}
use Rattle.std.proofs.Math.Path.{ap, subst}
use Rattle.std.specs.Int.{◌∣◌}
use Rattle.std.proofs.Math.Nat.{dvd-zero}
use Rattle.std.proofs.Math.ListN.{length}
use Rattle.std.proofs.Math.IntN.{pos}
use Rattle.std.proofs.lemmas.Bool.{eqb-false}
use Rattle.integers.specs.declared.V3.{V3}
use Rattle.integers.specs.declared.V2.{V2}
use Rattle.integers.specs.declared.Matrix.{Matrix}
use Rattle.integers.specs.Bounds.{abs_neg}
use Rattle.integers.specs.Vectors.{zero2, shift3}
use Rattle.lattice.specs.Shorten.{Divides, Shortens}
use Rattle.lattice.proofs.Shortening.{shortens}
use Rattle.lattice.specs.Lattice.{Independent, divisor_not}
use Rattle.lattice.specs.Independence.{trivial_only}
use Rattle.lattice.specs.Values.{Value, minors_with}
use Rattle.lattice.proofs.Values.{values, apart}
use Rattle.meaning.specs.declared.Limits.{Limits}
use Rattle.meaning.specs.declared.Stream.{Stream}
use Rattle.meaning.specs.declared.Row.{Row}
use Rattle.meaning.specs.declared.Description.{Description}
use Rattle.meaning.specs.Loops.{unshortened, short_of, line_of, divisor, increment}
use Rattle.meaning.specs.Space.{processes}
use Rattle.meaning.specs.Description.{sizes_of, description_of}
use Rattle.meaning.specs.Accept.{accept, Accepts, stream_divisor}
use Rattle.meaning.specs.Answers.{accept_values}
use Rattle.meaning.specs.Calls.{table}
use Rattle.meaning.specs.Conditions.{FullRank, HasLine, stream_of, Meets}
use Rattle.meaning.specs.Demand2.{row_at}
use Rattle.meaning.specs.CommonDivisors.{Before, Before.of_two, Before.of_three, Shown, value_at, Divided, CommonDivisors}
use Rattle.geometry.specs.TwoLoops.{Flat, planar, flat_stream, flat_value, flat_minors, flat_cross}
use Rattle.geometry.specs.Divisors.{in_use, past_use}
use Rattle.guarantee.specs.NestConditions.{line_found}
use Rattle.guarantee.specs.Acceptance.{accepted_not_refused, streams_length}
use Rattle.guarantee.proofs.Demand1.{demand_one}
use Rattle.requests.specs.BodyLines.{stream_at}
use Rattle.requests.specs.RunsLoops.{accepted_meets}
use Rattle.requests.specs.Outermost.{table_outermost}

-- ---- the matrices of a description of two loops

module _ (s : List ℕ) (e : (sizes_of s).loops ≡ 2) where
  flat_place : Flat (description_of s).nest.place
  unfolding description_of
  flat_place = (planar s (sizes_of s) e).place

  flat_map : (i : ℕ) → i < (sizes_of s).streams → Flat (stream_of (description_of s) i).map
  flat_map i h = subst (λ (t : Stream). Flat t.map) (sym (stream_at s i h)) (flat_stream s (sizes_of s) i e).0

-- ---- what a divisor says

module _ (d : Description) (m : Matrix) (sizes : (2 ≤ d.sizes.loops) × (d.sizes.loops ≤ 3)) (flat : d.sizes.loops ≡ 2 → Flat m) where
  before : Before d m (unshortened m)
  before = go (eqb d.sizes.loops 2) (eqb-true d.sizes.loops 2) (eqb-false d.sizes.loops 2)
    where
      go : (b : Bool) → (b ≡ true → d.sizes.loops ≡ 2) → (b ≡ false → d.sizes.loops ≡ 2 → ⊥) → Before d m (unshortened m)
      go true f g = of_two (f refl) (flat_cross (flat (f refl)))
      go false f g = of_three (let n = g refl in omega (arith, sizes.0, sizes.1)) refl

  -- of two loops the row's values are the multiples of the divisor
  multiples : ((y : V2) → Value m y ↔ Divides (divisor m) (minors_with m y)) → d.sizes.loops ≡ 2 → (a : ℤ)
      → ((i : ℤ) × (j : ℤ) × (m.top.x *ℤ i +ℤ m.top.y *ℤ j ≡ a)) ↔ (divisor m ∣ nat_abs a)
  multiples h e a =
      let v = flat_value (flat e) a in
      let w = h (record { a = a; b = pos 0 }) in
      let minors = flat_minors (flat e) a in (
        λ p. subst (λ (n : ℕ). divisor m ∣ n) (ap (λ (u : V3). nat_abs u.z) minors ∙ abs_neg a) (w.0 (v.1 p)).atz,
        λ k. v.0 (w.1 (subst (Divides (divisor m)) (sym minors)
            (record { atx = dvd-zero _; aty = dvd-zero _; atz = subst (λ (n : ℕ). divisor m ∣ n) (sym (abs_neg a)) k }))),
      )

  shown : FullRank m → HasLine d.nest m → Shown d m (divisor m)
  unfolding line_of
  shown f h =
      record {
        before = unshortened m;
        short = (short_of m).vector;
        is_before = before;
        shortens = short;
        line = line_found d.nest m f h;
        not_zero = λ e. divisor_not m.top m.low short free (ap pos e);
        multiples = multiples (values m short free);
        apart = apart m short free;
        values = values m short free;
      }
    where
      short : Shortens (unshortened m) (short_of m)
      short = shortens (unshortened m)

      free : Independent m.top m.low
      free = trivial_only m.top m.low f

-- ---- Accept's answer

module _ (l : Limits) (s : List ℕ) (e : Accepts l s) where
  abbrev dd : Description
  dd = description_of s

  meets : Meets l s
  meets = accepted_meets l s (accepted_not_refused l s e)

  past : (i : ℕ) → (sizes_of s).streams ≤ i → stream_divisor dd i ≡ 0
  unfolding description_of
  past i h = past_use dd (streams_length l s) i h

  of_stream_lem : (i : ℕ) → value_at l s (7 + i) ≡ stream_divisor dd i
  of_stream_lem i =
      sym (get_or-drop 7 (accept_values (accept l s)) i 0) ∙ ap (λ (vs : List ℕ). get_or (drop 7 vs) i 0) ((demand_one l s).values.accept e)
      ∙ six (stream_divisor dd) (λ i h. past i (omega (arith, meets.sizes.streams.1))) i
    where
      six : (f : ℕ → ℕ) → ((i : ℕ) → 6 ≤ i → f i ≡ 0) → (i : ℕ) → get_or (f 0 ∷ f 1 ∷ f 2 ∷ f 3 ∷ f 4 ∷ f 5 ∷ []) i 0 ≡ f i
      six f h zero = refl
      six f h (suc zero) = refl
      six f h (suc (suc zero)) = refl
      six f h (suc (suc (suc zero))) = refl
      six f h (suc (suc (suc (suc zero)))) = refl
      six f h (suc (suc (suc (suc (suc zero))))) = refl
      six f h (suc (suc (suc (suc (suc (suc i)))))) = sym (h _ (omega arith))

  of_place : value_at l s 6 ≡ divisor dd.nest.place
  of_place = ap (λ (vs : List ℕ). get_or vs 6 0) ((demand_one l s).values.accept e)

  working : (lent : List Row) → length (processes dd.nest) ≤ length lent → (p : ℕ) → p < length (processes dd.nest)
      → 0 < (row_at (table l s lent).rows p).count → Value dd.nest.place (get_or (processes dd.nest) p zero2)
  working lent h p q c =
      let x = shift3 (row_at (table l s lent).rows p).first (pos 0) (increment dd.nest) in
      (x, (((table_outermost l s lent e h p q c).instances x).1 (0, c, refl)).to)

  divided : Divided l s
  unfolding description_of
  divided =
      record {
        thirteen = ap length ((demand_one l s).values.accept e);
        place = subst (Shown dd dd.nest.place) (sym of_place)
            (shown dd dd.nest.place meets.sizes.loops (flat_place s) meets.rank meets.increment);
        stream = λ i h.
            let m = (stream_of dd i).map in
            subst (Shown dd m) (sym (of_stream_lem i ∙ in_use dd (streams_length l s) i h))
            (shown dd m meets.sizes.loops (λ two. flat_map s two i h) (meets.streams i h).rank (meets.streams i h).line);
        past = λ i h. of_stream_lem i ∙ past i h;
        working = working;
      }

-- REQUEST 2.7
pub common_divisors : CommonDivisors
common_divisors = divided
