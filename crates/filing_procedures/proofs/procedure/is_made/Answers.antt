use Rattle.std.proofs.Common.{ℕ, Option, is_some, ap, ◌∙◌}
use Rattle.sieve_library.specs.BorrowedShelves.{scripts_of}
use Rattle.sieve_library.specs.Libraries.{library_of}
use Rattle.filing_procedures.proofs.MadeLemmas.{number_there}
use Rattle.filing_procedures.proofs.procedure.is_made.Goals as goal

pub returns : goal.returns
returns c = λ e key.
    c.is_some.ensures ∙ ap (λ (o : Option ℕ). is_some o) (c.number_of.ensures e key)
    ∙ number_there (library_of (scripts_of c.args.reach.now.shelves)) e c.args.procedures.now
