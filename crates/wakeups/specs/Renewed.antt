-- Flags tested anew. Assumes nothing.
use Rattle.std.specs.Prelude.{◌≡◌, refl, ◌⊎◌, Bool, true, false, List, ℕ, ◌+◌, ◌<◌, eqb}
use Rattle.std.proofs.Common.{sym, ◌∙◌, ap, inl, inr, true≢false, arith, eqb-true}
use Rattle.std.proofs.lemmas.Bool.{eqb-false}
use Rattle.port_table.specs.declared.Size.{Size}
use Rattle.ready_set.specs.Flags.{Kept, put}
use Rattle.ready_set.specs.Keeping.{put_same, put_other, kept_agree}
use Rattle.nearby.specs.Nearby.{Own}
use Rattle.step_order.specs.Ranks.{rank_count, step_at, take_rank, fire_rank, give_rank}

-- the numbers that are tested anew: one rank; the gives of a process; the steps of a process at a port; the own steps of a rank
abbrev pub OneRank : ℕ → ℕ → Type 0
OneRank r x = x ≡ r

abbrev pub GiveRank : Size → ℕ → ℕ → ℕ → Type 0
GiveRank z p n x = (i : ℕ) × (i < n) × (x ≡ give_rank z p i)

abbrev pub PortRank : Size → ℕ → ℕ → ℕ → Type 0
PortRank z p i x = (x ≡ take_rank z p i) ⊎ ((x ≡ fire_rank z p) ⊎ (x ≡ give_rank z p i))

abbrev pub OwnRank : Size → ℕ → ℕ → Type 0
OwnRank z r x = (x < rank_count z) × Own (step_at z r) (step_at z x)

-- what set g is kept after set f: each number is as before or as `new` says, and those in S are as `new` says
pub record Between (new f g : ℕ → Bool) (S : ℕ → Type 0) : Type 0 where
  pub each : (x : ℕ) → (g x ≡ f x) ⊎ (g x ≡ new x)
  pub these : (x : ℕ) → S x → g x ≡ new x

-- a set that is kept in l is so in l', but for numbers tested anew
pub record Renewed (new : ℕ → Bool) (S : ℕ → Type 0) (l l' : List ℕ) : Type 0 where
  pub keeps : (f : ℕ → Bool) → Kept f l → (g : ℕ → Bool) × (Kept g l') × (Between new f g S)

-- ---- the numbers of one more test

pub below_next : (r x : ℕ) → x < r + 1 → (x < r) ⊎ OneRank r x
below_next r x h = go (eqb x r) refl
  where
    go : (t : Bool) → eqb x r ≡ t → (x < r) ⊎ OneRank r x
    go true t = inr (eqb-true x r t)
    go false t = let n = eqb-false x r t in inl (omega arith)

pub give_next : (z : Size) (p i r x : ℕ) → r ≡ give_rank z p i → GiveRank z p (i + 1) x → GiveRank z p i x ⊎ OneRank r x
give_next z p i r x e (j, h, d) = go (below_next i j h)
  where
    go : (j < i) ⊎ OneRank i j → GiveRank z p i x ⊎ OneRank r x
    go (inl l) = inl (j, l, d)
    go (inr u) = inr (d ∙ ap (λ (i : ℕ). give_rank z p i) u ∙ sym e)

module _ {new : ℕ → Bool} where
  -- ---- nothing, one number, more

  pub renewed_none : {S : ℕ → Type 0} {l : List ℕ} → ((x : ℕ) → S x → ⊥) → Renewed new S l l
  renewed_none n = record { keeps = λ f k. (f, k, record { each = λ x. inl refl; these = λ x s. absurd (n x s) }) }

  pub renewed_one : (r : ℕ) (b : Bool) {l l' : List ℕ} → b ≡ new r
      → ((f : ℕ → Bool) → Kept f l → Kept (put f r b) l') → Renewed new (OneRank r) l l'
  renewed_one r b {l} {l'} e h = record { keeps = λ f k. (put f r b, h f k, between f) }
    where
      between : (f : ℕ → Bool) → Between new f (put f r b) (OneRank r)
      between f = record { each = λ x. go x (eqb x r) refl; these = λ x s. put_same f r b x s ∙ rw s e }
        where
          go : (x : ℕ) (t : Bool) → eqb x r ≡ t → (put f r b x ≡ f x) ⊎ (put f r b x ≡ new x)
          go x true t = let s = eqb-true x r t in inr (put_same f r b x s ∙ rw s e)
          go x false t = inl (put_other f r b x (eqb-false x r t))

  between_then : {f g h : ℕ → Bool} {S T U : ℕ → Type 0} → ((x : ℕ) → U x → S x ⊎ T x) → Between new f g S → Between new g h T
      → Between new f h U
  between_then {f} {g} {h} {S} {T} {U} c B D = record { each = λ x. all (B.each x) (D.each x); these = λ x u. some (c x u) (D.each x) }
    where
      all : {x : ℕ} → (g x ≡ f x) ⊎ (g x ≡ new x) → (h x ≡ g x) ⊎ (h x ≡ new x) → (h x ≡ f x) ⊎ (h x ≡ new x)
      all (inl a) (inl b) = inl (b ∙ a)
      all (inr a) (inl b) = inr (b ∙ a)
      all a (inr b) = inr b

      some : {x : ℕ} → S x ⊎ T x → (h x ≡ g x) ⊎ (h x ≡ new x) → h x ≡ new x
      some {x} (inl s) (inl b) = b ∙ B.these x s
      some (inl s) (inr b) = b
      some {x} (inr t) b = D.these x t

  pub renewed_then : {S T U : ℕ → Type 0} {l l' l'' : List ℕ} → ((x : ℕ) → U x → S x ⊎ T x) → Renewed new S l l' → Renewed new T l' l''
      → Renewed new U l l''
  renewed_then c R Q =
      record {
        keeps = λ f k.
            let p = R.keeps f k in
            let q = Q.keeps p.0 p.1 in (q.0, q.1, between_then c p.2 q.2);
      }

  pub renewed_less : {S T : ℕ → Type 0} {l l' : List ℕ} → ((x : ℕ) → S x → T x) → Renewed new T l l' → Renewed new S l l'
  renewed_less c R =
      record {
        keeps = λ f k. let p = R.keeps f k in (p.0, p.1, record { each = p.2.each; these = λ x s. p.2.these x (c x s) });
      }

  -- ---- where all others stay, all are as `new` says

  pub renewed_all : {S : ℕ → Type 0} {l l' : List ℕ} → Renewed new S l l' → (f : ℕ → Bool) → Kept f l
      → ((x : ℕ) → (S x → ⊥) → new x ≡ f x) → Kept new l'
  renewed_all {S} {l} {l'} R f k same =
      let p = R.keeps f k in kept_agree p.0 new l' (λ x _. as_new p.0 p.2 x) p.1
    where
      as_new : (g : ℕ → Bool) → Between new f g S → (x : ℕ) → g x ≡ new x
      as_new g B x = go (B.each x)
        where
          equal : (a b : Bool) → ((a ≡ b → ⊥) → a ≡ b) → a ≡ b
          equal true true h = refl
          equal true false h = h true≢false
          equal false true h = h (λ e. true≢false (sym e))
          equal false false h = refl

          go : (g x ≡ f x) ⊎ (g x ≡ new x) → g x ≡ new x
          go (inr e) = e
          go (inl e) = equal (g x) (new x) (λ n. e ∙ sym (same x (λ s. n (B.these x s))))

  -- the steps at a port one after the other
  pub port_renewed : (z : Size) (p i t f g : ℕ) {l l' l'' l''' : List ℕ} → t ≡ take_rank z p i → f ≡ fire_rank z p → g ≡ give_rank z p i
      → Renewed new (OneRank t) l l' → Renewed new (OneRank f) l' l'' → Renewed new (OneRank g) l'' l'''
      → Renewed new (PortRank z p i) l l'''
  port_renewed z p i t f g a b c R Q P = renewed_then split R (renewed_then (λ x u. u) Q P)
    where
      split : (x : ℕ) → PortRank z p i x → OneRank t x ⊎ (OneRank f x ⊎ OneRank g x)
      split x (inl e) = inl (e ∙ sym a)
      split x (inr (inl e)) = inr (inl (e ∙ sym b))
      split x (inr (inr e)) = inr (inr (e ∙ sym c))
