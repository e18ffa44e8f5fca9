-- A description that Accept does not refuse has all that the geometry asks for, whatever the limits. Assumes nothing.
use Rattle.std.specs.Prelude.{◌≡◌, refl, ◌⊎◌, Bool, true, false, not, cond, ◌&&◌, ◌||◌, ℕ, zero, suc, ◌+◌, ◌-◌, ◌≤◌, ◌<◌, T, eqb, leb, ltb}
use Rattle.std.specs.Prelude.{length, get_or, ℤ, pos, negsuc}
use Rattle.std.proofs.Common.{sym, subst, inl, inr, add-zero, zero-add, arith, T_not, ltb→lt, leb→le, eqb→eq}
use mathlib.Core.List.Memᴰ
use mathlib.Core.List.Memᴰ.{head as here}
use mathlib.Core.List.Memᴰ.{tail as there}
use mathlib.Core.List.{List, [], ◌∷◌, ◌++◌, Memᴰ as In}
use Rattle.std.specs.Int.Signed.{lt_z, lt_z_no, ≤ℤ_refl}
use Rattle.integers.specs.Words.{eq_z}
use Rattle.integers.specs.Bytes.{word_at}
use Rattle.integers.specs.Vectors.{zero3}
use Rattle.meaning.specs.declared.Nest.{Nest}
use Rattle.meaning.specs.declared.Sizes.{Sizes}
use Rattle.meaning.specs.declared.Limits.{Limits}
use Rattle.meaning.specs.declared.Description.{Description}
use Rattle.meaning.specs.declared.Stream.{Stream}
use Rattle.meaning.specs.Lists.{every, numbers_from}
use Rattle.meaning.specs.Streams.{line}
use Rattle.meaning.specs.Description.{sizes_of, direction_at, step_at, words_of, in_range, nest_of, no_stream, description_of, streams_of}
use Rattle.meaning.specs.Description.{written}
use Rattle.meaning.specs.Description.{refused2, refused4, refused5}
use Rattle.meaning.specs.Ranges.{in_directions}
use Rattle.meaning.specs.Accept.{refused33, against, stream_tests, tests_from, nest_tests, byte_tests, refusal_of}
use Rattle.meaning.specs.Tests.{Test, ◌if◌, refusal}
use Rattle.meaning.specs.Walk.{walk_tests, walk_refusal}
use Rattle.meaning.specs.Points.{Direction, Direction.onward, Direction.back, Directed, Within, Earlier}
use Rattle.lists.specs.Members.{in_numbers}
use Rattle.geometry.specs.Numbers.{eq_z_eq, and_left, and_right}
use Rattle.geometry.specs.Tests.{numbered as tests-numbered, both_pass}
use Rattle.geometry.specs.Processes.{Layout}
use Rattle.geometry.specs.Pipes.{Accepted}
use Rattle.geometry.specs.Accept.{line_of_lem, layout_of, accepted, line_leads}

-- ---- tests in order: where the answer is 0, none applies

abbrev numbered : Test → Bool
numbered t = ltb 0 t.number

unrefused : (l : List Test) → T (every numbered l) → refusal l ≡ 0 → {t : Test} → In t l → T (not t.applies)
unfolding refusal every
unrefused [] p e i = elim i [ ]
unrefused (u ∷ l) p e {t} i = go (numbered u) (ltb→lt 0 u.number) p u.applies (λ x. x) e i (λ q f k. unrefused l q f k)
  where
    go : (c : Bool) → (T c → 0 < u.number) → T (cond c (every numbered l) false) → (b : Bool) → (T (not b) → T (not u.applies))
        → cond b u.number (refusal l) ≡ 0 → In t (u ∷ l) → (T (every numbered l) → refusal l ≡ 0 → In t l → T (not t.applies))
        → T (not t.applies)
    go true h p true f e i ih = absurd (omega (arith, h tt))
    go true h p false f e (here q) ih = subst (λ (w : Test). T (not w.applies)) (sym q) (f tt)
    go true h p false f e (there k) ih = ih p e k
    go false h p b f e i ih = absurd p

every_append : (l l' : List Test) → T (every numbered l) → T (every numbered l') → T (every numbered (l ++ l'))
unfolding every
every_append [] l' p q = q
every_append (t ∷ l) l' p q = go (numbered t) p (λ r. every_append l l' r q)
  where
    go : (b : Bool) → T (cond b (every numbered l) false) → (T (every numbered l) → T (every numbered (l ++ l')))
        → T (cond b (every numbered (l ++ l')) false)
    go true p ih = ih p
    go false p ih = absurd p

streams_numbered : (l : Limits) (d : Description) (i : ℕ) (ss : List Stream) → T (every numbered (tests_from l d i ss))
unfolding tests_from every
streams_numbered l d i [] = tt
streams_numbered l d i (s ∷ ss) =
    every_append (stream_tests l d.nest (written d i) s) (tests_from l d (suc i) ss) tt (streams_numbered l d (suc i) ss)

-- the tests of stream i + k are among those from i on
in_tests : (l : Limits) (d : Description) (i : ℕ) (ss : List Stream) (k : ℕ) → k < length ss → {t : Test}
    → In t (stream_tests l d.nest (written d (i + k)) (get_or ss k no_stream)) → In t (tests_from l d i ss)
unfolding tests_from
in_tests l d i [] k h j = absurd (omega arith)
in_tests l d i (s ∷ ss) zero h {t} j =
    Memᴰ.append_left (tests_from l d (suc i) ss) (subst (λ (k : ℕ). In t (stream_tests l d.nest (written d k) s)) (add-zero i) j)
in_tests l d i (s ∷ ss) (suc k) h {t} j =
    Memᴰ.append_right (stream_tests l d.nest (written d i) s)
    (in_tests l d (suc i) ss k (omega arith)
    (subst (λ (c : ℕ). In t (stream_tests l d.nest (written d c) (get_or ss k no_stream))) (one i k) j))
  where
    one : (i k : ℕ) → i + suc k ≡ suc i + k
    one i k = omega arith

-- ---- refusals 2 and 4: the directions are 1 or −1

not_or : (p q : Bool) → T (not (p || q)) → T (not p) × T (not q)
not_or true q t = absurd t
not_or false q t = (tt, t)

not_not : (p : Bool) → T (not (not p)) → T p
not_not true t = tt
not_not false t = absurd t

or_else_lem : (p q : Bool) → T (p || q) → T p ⊎ T q
or_else_lem true q t = inl tt
or_else_lem false q t = inr t

every_in : (f : ℕ → Bool) {k : ℕ} (l : List ℕ) → T (every f l) → In k l → T (f k)
unfolding every
every_in f [] t i = elim i [ ]
every_in f {k} (j ∷ l) t i = go (f j) (λ x. x) t i (every_in f l)
  where
    go : (b : Bool) → (T b → T (f j)) → T (cond b (every f l) false) → In k (j ∷ l) → (T (every f l) → In k l → T (f k)) → T (f k)
    go true g t (here e) ih = subst (λ (c : ℕ). T (f c)) (sym e) (g tt)
    go true g t (there m) ih = ih t m
    go false g t i ih = absurd t

-- a word in the range of directions
direction : (z : Sizes) (k : ℕ) (w : ℤ) → direction_at z ≤ k → k < step_at z → T (in_range z k w) → Direction w
direction z k w h l t = go (or_else_lem (eq_z w (pos 1)) (eq_z w (negsuc 0)) (subst T (in_directions z k h l w) t))
  where
    go : T (eq_z w (pos 1)) ⊎ T (eq_z w (negsuc 0)) → Direction w
    go (inl u) = subst Direction (sym (eq_z_eq w (pos 1) u)) onward
    go (inr u) = subst Direction (sym (eq_z_eq w (negsuc 0) u)) back

directed : (s : List ℕ) (z : Sizes) → T (not (refused2 z)) → T (not (refused4 s z)) → Directed (nest_of s z)
unfolding nest_of
directed s z r2 r4 =
    record {
      outer = at (direction_at z) (omega arith) (omega (arith, loops.0));
      middle = at (direction_at z + 1) (omega arith) (omega (arith, loops.0));
      inner = third (eqb z.loops 2) (λ t. eqb→eq z.loops 2 t)
          (λ t e. T_not (eqb z.loops 2) t (subst (λ (r : ℕ). T (eqb r 2)) (sym e) tt));
    }
  where
    loops : (2 ≤ z.loops) × (z.loops ≤ 3)
    loops =
        let a = leb 2 z.loops in
        let b = leb z.loops 3 in
        let c = not (leb 1 z.streams && leb z.streams 6) in
        let d = not (leb 1 z.lines && leb z.lines 8) in
        let t = not_not (a && b) (not_or (not (a && b)) c (not_or (not (a && b) || c) d r2).0).0 in
        (leb→le 2 z.loops (and_left a b t), leb→le z.loops 3 (and_right a b t))

    long : step_at z ≤ words_of z
    long = omega arith

    at : (k : ℕ) → direction_at z ≤ k → k < step_at z → Direction (word_at s k)
    at k h l =
        direction z k (word_at s k) h l
        (every_in (λ k. in_range z k (word_at s k)) (numbers_from 3 (words_of z - 3))
        (not_not (every (λ k. in_range z k (word_at s k)) (numbers_from 3 (words_of z - 3))) r4)
        (in_numbers 3 (words_of z - 3) k (omega arith) (omega (arith, long))))

    third : (b : Bool) → (T b → z.loops ≡ 2) → (T (not b) → z.loops ≡ 2 → ⊥) → Direction (cond b (pos 1) (word_at s (direction_at z + 2)))
    third true f g = onward
    third false f g = at (direction_at z + 2) (omega arith) (go z.loops loops.0 loops.1 (g tt))
      where
        go : (r : ℕ) → 2 ≤ r → r ≤ 3 → (r ≡ 2 → ⊥) → 3 + r + r + 2 < 3 + r + r + r
        go r a b f = omega arith

-- ---- 5: there is an instance

some_instance : (n : Nest) → T (not (refused5 n)) → Within n n.left
some_instance n t =
    let a = lt_z n.right.x n.left.x in
    let b = lt_z n.right.y n.left.y in
    let c = lt_z n.right.z n.left.z in
    let u = not_or (a || b) c t in
    let w = not_or a b u.0 in
    record {
      inx = record { lo = ≤ℤ_refl n.left.x; hi = lt_z_no w.0 };
      iny = record { lo = ≤ℤ_refl n.left.y; hi = lt_z_no w.1 };
      inz = record { lo = ≤ℤ_refl n.left.z; hi = lt_z_no u.1 };
    }

-- ---- the loops and their layout

-- what is not refused has a walk
pub walk_passes : (l : Limits) (s : List ℕ) → refusal_of l s ≡ 0 → walk_refusal l s ≡ 0
unfolding refusal_of walk_refusal description_of tests-numbered
walk_passes l s e = (both_pass (walk_tests l s) (tests_from l (description_of s) 0 (streams_of (description_of s))) tt e).0

-- to what has one, none of the tests before any stream applies
pub walk_tests_lem : (l : Limits) (s : List ℕ) → walk_refusal l s ≡ 0 → {t : Test} → In t (walk_tests l s) → T (not t.applies)
unfolding walk_refusal every
walk_tests_lem l s e i = unrefused (walk_tests l s) tt e i

-- and it has all that the geometry asks of a nest
pub walk_layout : (l : Limits) (s : List ℕ) → walk_refusal l s ≡ 0 → Layout (description_of s).nest
unfolding description_of
walk_layout l s e =
    layout_of (directed s (sizes_of s) (of (there (there (here refl)))) (of (there (there (there (there (here refl)))))))
    (of (there (there (there (there (there (there (there (here refl)))))))))
    (of (there (there (there (there (there (there (there (there (here refl))))))))))
  where
    of : {t : Test} → In t (walk_tests l s) → T (not t.applies)
    of i = walk_tests_lem l s e i

-- ---- all of it

pub record Laid (d : Description) : Type 0 where
  pub layout : Layout d.nest
  pub some : Within d.nest d.nest.left
  pub stream : (i : ℕ) → i < length (streams_of d) → Accepted d.nest (get_or (streams_of d) i no_stream)
  pub leads : (i : ℕ) → i < length (streams_of d) → T (written d i)
      → Earlier d.nest.direction zero3 (line d.nest (get_or (streams_of d) i no_stream))

pub laid : (l : Limits) (s : List ℕ) → refusal_of l s ≡ 0 → Laid (description_of s)
unfolding refusal_of description_of every
laid l s e =
    record {
      layout = flat;
      some = some_instance n (of_nest (here refl));
      stream = λ i k.
          accepted flat (of_stream_lem i k (here refl)) (of_stream_lem i k (there (here refl)))
          (of_stream_lem i k (there (there (there (there (there (here refl)))))))
          (of_stream_lem i k (there (there (there (there (there (there (here refl))))))));
      leads = λ i k t.
          let st = get_or (streams_of d) i no_stream in
          line_leads flat.dirs (line_of_lem n st.map (of_stream_lem i k (here refl)) (of_stream_lem i k (there (here refl))))
          (written_not (written d i) (against n.direction (line n st)) t (of_stream_lem i k (there (there (there (there (here refl)))))));
    }
  where
    d : Description
    d = description_of s

    n : Nest
    n = d.nest

    before : List Test
    before = (33 if refused33 l) ∷ byte_tests s

    all : List Test
    all = before ++ (nest_tests l n ++ tests_from l d 0 (streams_of d))

    all_numbered : T (every numbered all)
    all_numbered =
        every_append before (nest_tests l n ++ tests_from l d 0 (streams_of d)) tt
        (every_append (nest_tests l n) (tests_from l d 0 (streams_of d)) tt (streams_numbered l d 0 (streams_of d)))

    of_nest : {t : Test} → In t (nest_tests l n) → T (not t.applies)
    of_nest i = walk_tests_lem l s (walk_passes l s e) (Memᴰ.append_right before i)

    of_stream_lem : (i : ℕ) → i < length (streams_of d) → {t : Test}
        → In t (stream_tests l n (written d i) (get_or (streams_of d) i no_stream)) → T (not t.applies)
    of_stream_lem i k {t} j =
        unrefused all all_numbered e (Memᴰ.append_right before (Memᴰ.append_right (nest_tests l n)
        (in_tests l d 0 (streams_of d) i k
        (subst (λ (c : ℕ). In t (stream_tests l n (written d c) (get_or (streams_of d) i no_stream))) (sym (zero-add i)) j))))

    flat : Layout n
    flat = walk_layout l s (walk_passes l s e)

    written_not : (w a : Bool) → T w → T (not (w && a)) → T (not a)
    written_not true a t u = u
    written_not false a t u = absurd t
