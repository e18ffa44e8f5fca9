-- The program that an array runs; the system of its network and program is in proofs/. A body changes no stream that is no line's target.
-- Assumes nothing.
use Rattle.std.specs.Prelude.{◌≡◌, refl, Bool, true, false, cond, List, [], ◌∷◌, ◌++◌, map, ℕ, ◌+◌, ◌<◌, eqb, length, get_or}
use Rattle.std.proofs.Common.{sym, ◌∙◌, ap, arith, length-append, length-take, get_or-set_other, get_or-take}
use Rattle.std.proofs.Math.ListN.{get_or-append}
use Rattle.std.proofs.lemmas.Bool.{eqb-false}
use Rattle.integers.specs.declared.V3.{V3}
use Rattle.meaning.specs.declared.Line.{Line}
use Rattle.meaning.specs.Lists.{any, numbers}
use Rattle.meaning.specs.Body.{result_of, run_line, run_lines}
use Rattle.meaning.specs.Lines.{line_leaves, lines_length}
use Rattle.meaning.specs.Array.{Array, instance_at, count_at, stream_count, pipe_through, stops_on, stop_at}
use Rattle.meaning.specs.Rules.{process_on, stream_on, body_at}
use Rattle.lists.specs.Rows.{length_numbers, get_d_first, same_numbers}
use Rattle.abstract_network.specs.Values.{Program, Body}
use Rattle.abstract_network.specs.Firing.{Own, in_hand, in_keep}
use Rattle.network.specs.Wiring.{kind_of, rank_at, net_of, element_at, writes, UsedAt, Wired, element_pipe, has_port_lem, ranked_of}
use Rattle.network.specs.Wiring.{laid_of}
use Rattle.abstract_network.specs.System.{Spot, Geometry}

-- ---- lines

-- a stream that is no line's target keeps its value
pub lines_keep : (x : V3) (s : ℕ) (ls : List Line) (vs : List ℕ) → (any (λ l. eqb l.target s) ls ≡ true → ⊥)
    → get_or (run_lines x ls vs) s 0 ≡ get_or vs s 0
unfolding run_lines any
lines_keep x s [] vs n = refl
lines_keep x s (l ∷ ls) vs n = go (eqb l.target s) refl n (lines_keep x s ls (run_line x l vs))
  where
    go : (b : Bool) → eqb l.target s ≡ b → (cond b true (any (λ l. eqb l.target s) ls) ≡ true → ⊥)
        → ((any (λ l. eqb l.target s) ls ≡ true → ⊥) → get_or (run_lines x ls (run_line x l vs)) s 0 ≡ get_or (run_line x l vs) s 0)
        → get_or (run_lines x ls (run_line x l vs)) s 0 ≡ get_or vs s 0
    go true e n ih = absurd (n refl)
    go false e n ih =
        ih n
        ∙ line_leaves x (λ ws. get_or ws s 0 ≡ get_or vs s 0) l vs
        (get_or-set_other vs l.target s (result_of l vs) 0 (λ d. eqb-false l.target s e (sym d))) refl

module _ (A : Array) where
  -- what the body of instance x makes of the streams' values f
  abbrev pub body_of : V3 → (ℕ → ℕ) → ℕ → ℕ
  body_of x f s = get_or (body_at A x (map f (numbers (stream_count A)))) s 0

  pub length_body : (x : V3) (vs : List ℕ) → length (body_at A x vs) ≡ length vs
  length_body x vs = simp (length-take, lines_length, length-append) (omega arith)

  -- a body changes no stream that is no line's target
  pub body_keeps : (x : V3) (f : ℕ → ℕ) (s : ℕ) → s < stream_count A → (writes A s ≡ true → ⊥) → body_of x f s ≡ f s
  body_keeps x f s h n =
      let e : length (map f (numbers (stream_count A))) ≡ stream_count A = length_numbers f 0 (stream_count A) in
      get_or-take (length (map f (numbers (stream_count A))))
      (run_lines x A.lines (map f (numbers (stream_count A)) ++ (0 ∷ 0 ∷ []))) s 0 (omega arith)
      ∙ lines_keep x s A.lines (map f (numbers (stream_count A)) ++ (0 ∷ 0 ∷ [])) n
      ∙ get_or-append (map f (numbers (stream_count A))) (0 ∷ 0 ∷ []) 0 s (omega arith)
      ∙ get_d_first f 0 (stream_count A) s h

-- ---- the program and its geometry

module _ {A : Array} (W : Wired A) (values : List ℕ) where
  -- the values by the elements' numbers
  abbrev pub program_of : Program
  program_of =
      record {
        streams = stream_count A;
        instances = W.instances;
        touched = W.touched;
        body = λ i. body_of A (instance_at A (W.owner i) (W.firing i));
        written = writes A;
        values = λ s e. get_or values e 0;
      }

  pub body_local : (i : ℕ) (f g : ℕ → ℕ) → ((s : ℕ) → s < stream_count A → f s ≡ g s) → (s : ℕ) → s < stream_count A
      → body_of A (instance_at A (W.owner i) (W.firing i)) f s ≡ body_of A (instance_at A (W.owner i) (W.firing i)) g s
  body_local i f g h s l =
      ap (λ (vs : List ℕ). get_or (body_at A (instance_at A (W.owner i) (W.firing i)) vs) s 0)
      (same_numbers f g 0 (stream_count A) (λ j u v. h j (omega arith)))

  abbrev pub bodied_of : Body program_of
  bodied_of = record { local = body_local; keeps = λ i f s h n. body_keeps A (instance_at A (W.owner i) (W.firing i)) f s h n }

  pub spot : (i q j : ℕ) → UsedAt A (W.owner i) (W.firing i) q j → Spot (net_of A) (ranked_of W) W.owner W.firing i q j
  spot i q j u = record { pos = u.place; on = u.on; is = u.process; own = owns (stop_at A q u.place).keeps u.index }
    where
      owns : {s f r : ℕ} (b : Bool) → cond b r (s + f) ≡ j → Own s f r j (kind_of b)
      owns true e = in_keep (sym e)
      owns false e = in_hand (sym e)

  pub touch_own : (i q k j : ℕ) → i < W.instances → k < stops_on A q → process_on A q k ≡ W.owner i
      → Own (stop_at A q k).soak (W.firing i) (rank_at A q k) j (kind_of (stop_at A q k).keeps)
      → W.touched i (stream_on A q) ≡ element_at A q j
  touch_own i q k j h l e o = W.touch i q k h l e ∙ ap (element_at A q) (index_of (stop_at A q k).keeps o)
    where
      index_of : {s f r : ℕ} (b : Bool) → Own s f r j (kind_of b) → cond b r (s + f) ≡ j
      index_of true (in_keep e) = sym e
      index_of false (in_hand e) = sym e

  pub stream_at : (p s : ℕ) → 0 < count_at A p → s < stream_count A → (s < stream_count A) × (stream_on A (pipe_through A p s) ≡ s)
  stream_at p s h l = (l, (has_port_lem A p s (W.on_all p s h l)).stream)

  abbrev pub geometry_of : Geometry (net_of A) (ranked_of W) (laid_of W) program_of
  geometry_of =
      record {
        owner = W.owner;
        firing = W.firing;
        instance_of = W.instance_of;
        element_on = element_at A;
        instance_is = W.instance_is;
        instance_of_lem = W.instance_of_lem;
        stream_lt = λ q h. W.stream_lt q (element_pipe A q 0 h);
        stream_at = stream_at;
        touch = touch_own;
        find = λ i q j h l e. spot i q j (W.find i q j h l e);
        meets = W.meets;
      }
