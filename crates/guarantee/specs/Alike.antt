-- One description under two limits: where the refusals are the same, every call answers and leaves the same. Assumes nothing.
use Rattle.std.specs.Prelude.{◌≡◌, List, ℕ}
use Rattle.std.proofs.Common.{ap}
use Rattle.meaning.specs.declared.Limits.{Limits}
use Rattle.meaning.specs.Accept.{refusal_of, answer_of, accept}
use Rattle.meaning.specs.Calls.{table, start, step, run, ready_call, window, result, plain_run}
use Rattle.meaning.specs.Alike.{AnsweredAlike}

-- one refusal: every call answers and leaves the same
pub same_refusal : (l k : Limits) (s : List ℕ) → refusal_of l s ≡ refusal_of k s → AnsweredAlike l k s
unfolding accept table start step run ready_call window result plain_run
same_refusal l k s r =
    record {
      accept = ap (answer_of s) r;
      table = λ rows. (rw r, rw r);
      start = λ values M. (rw r, rw r);
      step = λ kind number stream M. (rw r, rw r);
      run = λ n M. (rw r, rw r);
      ready = λ words M. (rw r, rw r);
      window = λ pipe side waiting received. (rw r, rw r);
      result = λ output M. (rw r, rw r);
      plain = λ values output. (rw r, rw r);
    }
