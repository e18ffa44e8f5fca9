-- The lines of an accepted description fit the registers, and they are those of its array. Assumes nothing.
use Rattle.std.specs.Prelude.{◌≡◌, List, ℕ, take}
use Rattle.std.proofs.Math.Path.{refl}
use Rattle.std.proofs.Common.{arith}
use Rattle.meaning.specs.declared.Description.{Description}
use Rattle.meaning.specs.Limits.{gauge_limits}
use Rattle.meaning.specs.Description.{description_of}
use Rattle.meaning.specs.Array.{array_of}
use Rattle.meaning.specs.Accept.{refusal_of}
use Rattle.decode.specs.Ranged.{Ranged}
use Rattle.figures.specs.Shares.{described}
use Rattle.body.specs.Fit.{Fit}

module _ (s : List ℕ) (ok : refusal_of gauge_limits s ≡ 0) where
  abbrev d : Description
  d = description_of s

  pub lines_fit : Fit d.sizes.streams d.sizes.lines d.lines
  lines_fit =
      let r : Ranged d = (described s ok).few.ranged in
      record {
        streams = r.sized.most_streams;
        lines = r.sized.most_lines;
        within = λ i l.
            let w = r.lines i in
            record { target = omega (arith, w.target); first = omega (arith, w.first); second = omega (arith, w.second) };
      }

  pub lines_are : take d.sizes.lines d.lines ≡ (array_of d).lines
  unfolding array_of
  lines_are = refl
