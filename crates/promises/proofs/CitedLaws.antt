-- Laws of other crates, as the lemmas here take them.
use Rattle.std.proofs.Common.{◌≡◌, ◌≤◌, ◌++◌, ℕ, List}
use Rattle.sieve_syntax.specs.Tree.{CommandTrees, commands_tokens}
use Rattle.sieve_syntax.specs.declared.token.Token.{Token}
use Rattle.sieve_text.specs.Tokens.{IsScan, IsFaulty}
use Rattle.sieve_text.specs.declared.fault.ScanRefusal.{ScanRefusal}
use Rattle.sieve_meaning.specs.Case.{Facts}
use Rattle.sieve_meaning.specs.declared.outcome.Outcome.{Outcome}
use Rattle.filing_image.specs.Program.{Program, parts}
use Rattle.filing_image.specs.Spelling.{spelling, Fits}
use Rattle.filing_verify.specs.Well.{IsWell}
use Rattle.filing_table.specs.Ends.{HasOutcome}
use Rattle.desk_commands.specs.Pinning.{BeginState, IsAlone, Pins, case_in}

-- A text has one list of tokens or one refusal, and not both: `one_scan`, `one_verdict`. A list of tokens has one tree
-- at most: `one_tree`.
pub record TextsAreOne : Type 0 where
  pub one_scan : (script : List ℕ) (ts us : List Token) → IsScan script ts → IsScan script us → ts ≡ us
  pub no_both : (script : List ℕ) (ts : List Token) (refusal : ScanRefusal) → IsScan script ts → IsFaulty script refusal → ⊥
  pub one_fault : (script : List ℕ) (a b : ScanRefusal) → IsFaulty script a → IsFaulty script b → a ≡ b
  pub at_most_one : (t u : CommandTrees) → commands_tokens t ≡ commands_tokens u → t ≡ u

-- octets spell one program at most: `one_spelling`
abbrev pub ProgramsAreOne : Type 0
ProgramsAreOne = (p q : Program) (x y : List ℕ) → Fits (parts p) → Fits (parts q) → spelling (parts p)
    ++ x ≡ spelling (parts q) ++ y → (p ≡ q) × (x ≡ y)

-- a run has one outcome at most: `a_run_ends_once`
abbrev pub OutcomesAreOne : Type 0
OutcomesAreOne = (p : Program) (c : Facts) (m n : ℕ) (a b : Outcome) → HasOutcome p c m a → HasOutcome p c n b → a ≡ b

-- a run has one length at most: `a_run_ends_once`
abbrev pub LengthsAreOne : Type 0
LengthsAreOne = (p : Program) (c : Facts) (m n : ℕ) (a b : Outcome) → HasOutcome p c m a → HasOutcome p c n b → m ≡ n

-- a run of a program that may run ends within its budget: `every_run_ends`
abbrev pub RunsEnd : Type 0
RunsEnd = (p : Program) (c : Facts) → IsWell p → (n : ℕ) × (o : Outcome) × (n ≤ p.budget) × HasOutcome p c n o

-- the run of what is pinned has the outcome of the capture alone: `pinned_runs_end_alone`
abbrev pub PinnedRunsAreAlone : Type 0
PinnedRunsAreAlone = (s : BeginState) (p : Program) (n : ℕ) (o : Outcome) → Pins s p → HasOutcome p (case_in s) n o → IsAlone s o
