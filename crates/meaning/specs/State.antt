-- Document 01, the words of a state and where they stand: "for each process its firings, and for each stream taken, given, hand, keep and
-- the places of the link into it; for each pipe sent, received and the places of its last link". That order is the program's choice
-- (docs/STATE.md).
use Rattle.std.specs.Prelude.{List, ◌∷◌, ◌++◌, map, ℕ, ◌+◌, ◌*◌, get_or, set, take}
use Rattle.meaning.specs.Lists.{total, each, numbers}
use Rattle.meaning.specs.Array.{Array, process_count, stream_count, pipe_number, pipe_at}

-- of process p; of process p and stream s; of pipe q. `place p s i` is a place of the link into p, `end q i` one of the pipe's last link
pub data Word : Type 0 where
  Firings : ℕ → Word
  Taken : ℕ → ℕ → Word
  Given : ℕ → ℕ → Word
  Hand : ℕ → ℕ → Word
  Keep : ℕ → ℕ → Word
  Place : ℕ → ℕ → ℕ → Word
  Sent : ℕ → Word
  Received : ℕ → Word
  End : ℕ → ℕ → Word

-- the words of a process
abbrev pub stride : Array → ℕ
stride A = 1 + total (λ h. 4 + h) A.hops

-- where the words of process p, those of its stream s, and those of pipe q begin
abbrev pub process_start : Array → ℕ → ℕ
process_start A p = p * stride A

abbrev pub port_start : Array → ℕ → ℕ → ℕ
port_start A p s = process_start A p + 1 + total (λ h. 4 + h) (take s A.hops)

abbrev pub end_start : Array → ℕ → ℕ
end_start A q = process_start A (process_count A) + total (λ r. 2 + r.hop) (take q A.pipes)

-- the place of a word (that different words stand at different places, `layout` of network says)
abbrev pub index : Array → Word → ℕ
index A (Firings p) = process_start A p
index A (Taken p s) = port_start A p s
index A (Given p s) = port_start A p s + 1
index A (Hand p s) = port_start A p s + 2
index A (Keep p s) = port_start A p s + 3
index A (Place p s i) = port_start A p s + 4 + i
index A (Sent q) = end_start A q
index A (Received q) = end_start A q + 1
index A (End q i) = end_start A q + 2 + i

-- how many words there are
abbrev pub word_count : Array → ℕ
word_count A = process_start A (process_count A) + total (λ r. 2 + r.hop) A.pipes

-- the words one after the other, as they stand (that the i-th of them stands at place i, `words-stand` of network says)
abbrev pub port_words : Array → ℕ → ℕ → List Word
port_words A p s = Taken p s ∷ Given p s ∷ Hand p s ∷ Keep p s ∷ map (Place p s) (numbers (get_or A.hops s 0))

abbrev pub process_words : Array → ℕ → List Word
process_words A p = Firings p ∷ each (port_words A p) (numbers (stream_count A))

abbrev pub pipe_words : Array → ℕ → List Word
pipe_words A q = Sent q ∷ Received q ∷ map (End q) (numbers (pipe_at A q).hop)

abbrev pub words : Array → List Word
words A = each (process_words A) (numbers (process_count A)) ++ each (pipe_words A) (numbers (pipe_number A))

abbrev pub read : Array → List ℕ → Word → ℕ
read A st w = get_or st (index A w) 0

abbrev pub write : Array → List ℕ → Word → ℕ → List ℕ
write A st w v = set st (index A w) v
