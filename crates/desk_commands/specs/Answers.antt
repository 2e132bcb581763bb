-- The answers to commands.
use Rattle.std.specs.Prelude.{ℕ, List, Option}
use Rattle.sieve_meaning.specs.declared.outcome.Outcome.{Outcome}
use Rattle.sieve_meaning.specs.declared.run_fault.RunFault.{RunFault}
use Rattle.record_archive.specs.Archive.{Line}

pub data Answer : Type 0 where
  done : Answer
  -- the outcome of a dry run
  dry_run : Outcome → Answer
  -- a capture has begun, with this ticket and this budget in steps
  begun : (ticket budget : ℕ) → Answer
  -- the steps of a capture so far, which have not come to its end
  running : (steps : ℕ) → Answer
  -- the steps of a capture that has come to its end
  ended : (steps : ℕ) → Answer
  -- a capture is whole: its fault, if it ended with one, and its records
  captured : (fault : Option RunFault) → List Line → Answer
  -- the records that are due
  listed : List Line → Answer
  -- the number of a refusal, and for some numbers an offset
  refused : ℕ → Option ℕ → Answer
