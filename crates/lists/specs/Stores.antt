-- Lists as stores: what stands in a list of one value, and the values that `scatter` puts. Assumes nothing.
use Rattle.std.specs.Prelude.{◌≡◌, refl, List, [], ◌∷◌, ℕ, zero, suc, length, get_or, set, take, replicate}
use Rattle.meaning.specs.Body.{scatter}

pub replicated : {X : Type 0} (x : X) (n i : ℕ) → get_or (replicate n x) i x ≡ x
replicated x zero i = refl
replicated x (suc n) zero = refl
replicated x (suc n) (suc i) = replicated x n i

-- values past the places change nothing
pub scatter_first : (store ps vs : List ℕ) → scatter store ps (take (length ps) vs) ≡ scatter store ps vs
unfolding scatter
scatter_first store [] vs = refl
scatter_first store (p ∷ ps) [] = refl
scatter_first store (p ∷ ps) (v ∷ vs) = scatter_first (set store p v) ps vs
