-- The refusals 1 to 5 in stages, each a test and the stage after it; what refusal 2 leaves of the sizes. Assumes nothing.
use Rattle.std.specs.Prelude.{◌≡◌, refl, Bool, true, false, not, cond, ◌&&◌, ◌||◌, List, [], ◌∷◌, ◌++◌, ℕ, T, leb}
use Rattle.std.proofs.Common.{sym, ◌∙◌, ap, subst, leb-true}
use Rattle.std.proofs.lemmas.Bool.{not-false}
use Rattle.meaning.specs.declared.Sizes.{Sizes}
use Rattle.meaning.specs.declared.Nest.{Nest}
use Rattle.meaning.specs.Tests.{Test, ◌if◌, refusal}
use Rattle.meaning.specs.Description.{sizes_of, nest_of, refused1, refused2, refused3, refused4, refused5}
use Rattle.meaning.specs.Accept.{byte_tests}
use Rattle.lists.specs.Tests.{both_true}
use Rattle.decode.specs.Offsets.{Sized}

pub neither : (a b : Bool) → a || b ≡ false → (a ≡ false) × (b ≡ false)
neither true b e = absurd (subst T e tt)
neither false b e = (refl, e)

abbrev pub bound_tests : Nest → List Test
bound_tests n = (5 if refused5 n) ∷ []

abbrev pub word_tests : List ℕ → Sizes → List Test
word_tests s z = (4 if refused4 s z) ∷ bound_tests (nest_of s z)

abbrev pub length_tests : List ℕ → Sizes → List Test
length_tests s z = (3 if refused3 s z) ∷ word_tests s z

-- all five
abbrev pub first_tests : List ℕ → List Test
first_tests s = byte_tests s ++ bound_tests (nest_of s (sizes_of s))

-- the stages in a row are all five
pub stages : (s : List ℕ) → first_tests s ≡ (1 if refused1 s) ∷ (2 if refused2 (sizes_of s)) ∷ length_tests s (sizes_of s)
stages s = refl

-- a test that applies, one that does not, and no more tests
pub refuses : (n : ℕ) {b : Bool} (l : List Test) → b ≡ true → n ≡ refusal ((n if b) ∷ l)
unfolding refusal
refuses n l e = ap (λ (b : Bool). cond b n (refusal l)) (sym e)

pub passes : {r : ℕ} (n : ℕ) {b : Bool} (l : List Test) → b ≡ false → r ≡ refusal l → r ≡ refusal ((n if b) ∷ l)
unfolding refusal
passes n l e h = h ∙ ap (λ (b : Bool). cond b n (refusal l)) (sym e)

pub accepts : 0 ≡ refusal []
unfolding refusal
accepts = refl

-- none applies: not the first, nor one of the others
pub passed : (n : ℕ) (b : Bool) (l : List Test) → (n ≡ 0 → ⊥) → refusal ((n if b) ∷ l) ≡ 0 → (b ≡ false) × (refusal l ≡ 0)
unfolding refusal
passed n true l f e = absurd (f e)
passed n false l f e = (refl, e)

-- what refusal 2 leaves
pub sizes_in_range : (z : Sizes) → refused2 z ≡ false → Sized z
sizes_in_range z e =
    let p = neither (not a || not b) (not d) e in
    let q = neither (not a) (not b) p.0 in
    let l = both_true (leb 2 z.loops) (leb z.loops 3) (not-false a q.0) in
    let m = both_true (leb 1 z.streams) (leb z.streams 6) (not-false b q.1) in
    let n = both_true (leb 1 z.lines) (leb z.lines 8) (not-false d p.1) in
    record {
      least_loops = leb-true 2 z.loops l.0;
      most_loops = leb-true z.loops 3 l.1;
      least_streams = leb-true 1 z.streams m.0;
      most_streams = leb-true z.streams 6 m.1;
      least_lines = leb-true 1 z.lines n.0;
      most_lines = leb-true z.lines 8 n.1;
    }
  where
    a : Bool
    a = leb 2 z.loops && leb z.loops 3

    b : Bool
    b = leb 1 z.streams && leb z.streams 6

    d : Bool
    d = leb 1 z.lines && leb z.lines 8
