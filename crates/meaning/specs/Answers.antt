-- What a call answers: its values, or the number by which it declines; and each answer in document 01's terms: its number, 0 where the call
-- is not declined, and its values.
use Rattle.std.specs.Prelude.{Bool, cond, List, [], ◌∷◌, ℕ, Result, Ok, Err}
use Rattle.meaning.specs.declared.Figures.{Figures}
use Rattle.meaning.specs.declared.Divisors.{Divisors}
use Rattle.meaning.specs.declared.Ran as run
use Rattle.meaning.specs.declared.Readiness as ready

-- of Accept; of Table, Start, Step, Result, Plain run, Fill and Step vectors; of Run; of Ready; of Make
abbrev pub Acceptance : Type 0
Acceptance = Result (Figures × Divisors) ℕ

abbrev pub Answer : Type 0
Answer = Result Unit ℕ

abbrev pub RunAnswer : Type 0
RunAnswer = Result run.Ran ℕ

abbrev pub ReadyAnswer : Type 0
ReadyAnswer = Result ready.Readiness ℕ

abbrev pub MakeAnswer : Type 0
MakeAnswer = Result ℕ ℕ

-- the number by which a call declines
abbrev pub Refused : {A : Type 0} → ℕ → Result A ℕ
Refused n = Err n

abbrev pub Accepted : Figures → Divisors → Acceptance
Accepted f g = Ok (f, g)

abbrev pub Done : Answer
Done = Ok tt

abbrev pub Ran : ℕ → Bool → RunAnswer
Ran steps any = Ok (record { steps = steps; ready = any })

abbrev pub Ready : ℕ → ℕ → ReadyAnswer
Ready count lowest = Ok (record { count = count; lowest = lowest })

abbrev pub Made : ℕ → MakeAnswer
Made bytes = Ok bytes

-- its number, 0 where the call is not declined
abbrev pub declined_number : {A : Type 0} → Result A ℕ → ℕ
declined_number (Ok v) = 0
declined_number (Err n) = n

-- Accept: "P, instances, E, pipes, state words and total steps", and the divisors of place and of each stream (request 2.7)
abbrev pub accept_number : Acceptance → ℕ
accept_number a = declined_number a

abbrev pub accept_values : Acceptance → List ℕ
accept_values (Ok v) =
    let f = v.0 in
    let g = v.1 in
    f.processes ∷ f.instances ∷ f.elements ∷ f.pipes ∷ f.words ∷ f.steps
    ∷ g.place ∷ g.stream0 ∷ g.stream1 ∷ g.stream2 ∷ g.stream3 ∷ g.stream4 ∷ g.stream5 ∷ []
accept_values (Err n) = []

-- Table, Start, Step, Result, Plain run, Fill, Step vectors: no values
abbrev pub answer_number : Answer → ℕ
answer_number a = declined_number a

-- Run: "steps done and whether any is ready", 1 or 0
abbrev pub ran_number : RunAnswer → ℕ
ran_number a = declined_number a

abbrev pub ran_values : RunAnswer → List ℕ
ran_values (Ok r) = r.steps ∷ cond r.ready 1 0 ∷ []
ran_values (Err n) = []

-- Ready: "how many and the lowest"
abbrev pub ready_number : ReadyAnswer → ℕ
ready_number a = declined_number a

abbrev pub ready_values : ReadyAnswer → List ℕ
ready_values (Ok r) = r.count ∷ r.lowest ∷ []
ready_values (Err n) = []

-- Make: the number of bytes
abbrev pub made_number : MakeAnswer → ℕ
made_number a = declined_number a

abbrev pub made_values : MakeAnswer → List ℕ
made_values (Ok n) = n ∷ []
made_values (Err n) = []
