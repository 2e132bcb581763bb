use Rattle.std.proofs.Common.{Bor, ◌∙◌, arith}
use Rattle.sieve_check.specs.declared.checked.Checked.{Checked}
use Rattle.sieve_syntax.specs.declared.tree.Script.{Script}
use Rattle.sieve_syntax.specs.View.{tree_of}
use Rattle.sieve_meaning.specs.Reading.{program_of}
use Rattle.sieve_library.specs.BorrowedShelves.{scripts_of}
use Rattle.filing_procedures.proofs.SlotLemmas.{personal_at, global_at, map_twice}
use Rattle.filing_procedures.proofs.slots.script_at.Goals as goal

pub returns-then-slot-lt-MAX_SCRIPTS : goal.returns-then-slot-lt-MAX_SCRIPTS
returns-then-slot-lt-MAX_SCRIPTS c = λ s x h at.
    map_twice (λ (b : Bor Checked). b.now.script) (λ (x : Script). program_of (tree_of x)) c.at-personal.result
    ∙ personal_at (scripts_of c.args.shelves) c.args.slot (omega arith) _ c.at-personal.ensures.script s x h at

pub returns : goal.returns
returns c = λ s x h at.
    map_twice (λ (b : Bor Checked). b.now.script) (λ (x : Script). program_of (tree_of x)) c.at.result
    ∙ global_at (scripts_of c.args.shelves) c.at-personal.ensures.location c.args.slot (omega arith) _ c.at.ensures.script s x h at
