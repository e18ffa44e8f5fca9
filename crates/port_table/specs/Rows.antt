-- The words of rows, and rows read off words: what is read is what was written. Assumes nothing.
use Rattle.std.specs.Prelude.{◌≡◌, refl, Bool, true, false, not, cond, List, [], ◌∷◌, ℕ, ◌+◌, ◌<◌, eqb, get_or}
use Rattle.std.proofs.Common.{sym, ◌∙◌, ap, add-zero, arith}
use Rattle.ports.specs.declared.Port.{Port}
use Rattle.ports.specs.declared.End.{End}
use Rattle.ports.specs.Ports.{same_port}
use Rattle.ports.specs.Ends.{same_end}
use Rattle.port_table.specs.Pack.{low_end, high_end, pack, low, high, low_pack, high_pack}

-- numbers that fit their parts of a word
pub record PortWide (k : Port) : Type 0 where
  pub at : k.at < low_end
  pub before : k.before < low_end
  pub after : k.after < low_end
  pub room : k.room < low_end
  pub fired : k.fired < low_end
  pub hop : k.hop < high_end
  pub soak : k.soak < high_end
  pub count : k.count < high_end
  pub total : k.total < high_end

-- and of which some follow from others
pub record EndWide (e : End) : Type 0 where
  pub sent : e.sent < low_end
  pub after : e.after < low_end
  pub room : e.room ≡ e.after + 4
  pub before : e.before < low_end
  pub received : e.received ≡ e.sent + 1
  pub last : e.last ≡ e.sent + 2
  pub hop : e.hop < high_end
  pub total : e.total < high_end
  pub offset : e.offset < high_end

abbrev pub port_words : Port → List ℕ
port_words k =
    pack k.at k.soak ∷ pack k.before k.count ∷ pack k.after k.total ∷ pack k.room k.hop
    ∷ pack k.fired (cond k.keeps 1 0) ∷ []

abbrev pub end_words : End → List ℕ
end_words e = pack e.sent e.offset ∷ pack e.after e.total ∷ pack e.before e.hop ∷ []

-- the row of five words, and of three
abbrev pub port_unpacked : ℕ → ℕ → ℕ → ℕ → ℕ → Port
port_unpacked a b c d e =
    record {
      at = low a;
      before = low b;
      after = low c;
      room = low d;
      fired = low e;
      hop = high d;
      soak = high a;
      count = high b;
      total = high c;
      keeps = not (eqb (high e) 0);
    }

abbrev pub end_unpacked : ℕ → ℕ → ℕ → End
end_unpacked a b c =
    record {
      sent = low a;
      after = low b;
      room = low b + 4;
      before = low c;
      received = low a + 1;
      last = low a + 2;
      hop = high c;
      total = high b;
      offset = high a;
    }

-- the rows that stand from a place on
abbrev pub port_read : List ℕ → ℕ → Port
port_read l at = port_unpacked (get_or l at 0) (get_or l (at + 1) 0) (get_or l (at + 2) 0) (get_or l (at + 3) 0) (get_or l (at + 4) 0)

abbrev pub end_read : List ℕ → ℕ → End
end_read l at = end_unpacked (get_or l at 0) (get_or l (at + 1) 0) (get_or l (at + 2) 0)

-- ---- rows written and read

module _ (l : List ℕ) (at : ℕ) where
  pub port_words_lem : (f : ℕ → ℕ) → ((v : ℕ) → v < 5 → get_or l (at + v) 0 ≡ f v)
      → port_read l at ≡ port_unpacked (f 0) (f 1) (f 2) (f 3) (f 4)
  port_words_lem f h =
      let e = ap (λ (x : ℕ). get_or l x 0) (sym (add-zero at)) ∙ h 0 (omega arith) in
      λ i. port_unpacked (e i) (h 1 (omega arith) i) (h 2 (omega arith) i) (h 3 (omega arith) i) (h 4 (omega arith) i)

  pub end_words_lem : (f : ℕ → ℕ) → ((v : ℕ) → v < 3 → get_or l (at + v) 0 ≡ f v) → end_read l at ≡ end_unpacked (f 0) (f 1) (f 2)
  end_words_lem f h =
      let e = ap (λ (x : ℕ). get_or l x 0) (sym (add-zero at)) ∙ h 0 (omega arith) in
      λ i. end_unpacked (e i) (h 1 (omega arith) i) (h 2 (omega arith) i)

  pub read_port : (k : Port) → PortWide k → ((v : ℕ) → v < 5 → get_or l (at + v) 0 ≡ get_or (port_words k) v 0) → port_read l at ≡ k
  read_port k w h =
      port_words_lem (λ v. get_or (port_words k) v 0) h
      ∙ same_port (low_pack k.at k.soak w.at) (low_pack k.before k.count w.before)
      (low_pack k.after k.total w.after) (low_pack k.room k.hop w.room) (low_pack k.fired _ w.fired)
      (high_pack k.room k.hop w.room) (high_pack k.at k.soak w.at) (high_pack k.before k.count w.before)
      (high_pack k.after k.total w.after) (ap (λ (x : ℕ). not (eqb x 0)) (high_pack k.fired _ w.fired) ∙ truth k.keeps)
    where
      truth : (b : Bool) → not (eqb (cond b 1 0) 0) ≡ b
      truth true = refl
      truth false = refl

  pub read_end : (e : End) → EndWide e → ((v : ℕ) → v < 3 → get_or l (at + v) 0 ≡ get_or (end_words e) v 0) → end_read l at ≡ e
  read_end e w h =
      let sent = low_pack e.sent e.offset w.sent in
      let after = low_pack e.after e.total w.after in
      end_words_lem (λ v. get_or (end_words e) v 0) h
      ∙ same_end sent after (ap (λ (x : ℕ). x + 4) after ∙ sym w.room) (low_pack e.before e.hop w.before)
      (ap (λ (x : ℕ). x + 1) sent ∙ sym w.received) (ap (λ (x : ℕ). x + 2) sent ∙ sym w.last)
      (high_pack e.before e.hop w.before) (high_pack e.after e.total w.after) (high_pack e.sent e.offset w.sent)

-- a row stays where its words do
pub port_stays : (l m : List ℕ) (at : ℕ) → ((v : ℕ) → v < 5 → get_or l (at + v) 0 ≡ get_or m (at + v) 0) → port_read l at ≡ port_read m at
port_stays l m at h = port_words_lem l at (λ v. get_or m (at + v) 0) h ∙ sym (port_words_lem m at (λ v. get_or m (at + v) 0) (λ v _. refl))

pub end_stays : (l m : List ℕ) (at : ℕ) → ((v : ℕ) → v < 3 → get_or l (at + v) 0 ≡ get_or m (at + v) 0) → end_read l at ≡ end_read m at
end_stays l m at h = end_words_lem l at (λ v. get_or m (at + v) 0) h ∙ sym (end_words_lem m at (λ v. get_or m (at + v) 0) (λ v _. refl))
