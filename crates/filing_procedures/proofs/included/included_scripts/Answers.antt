use Rattle.std.proofs.Common.{List, map, ap, ◌∙◌}
use Rattle.sieve_syntax.specs.View.{tree_of}
use Rattle.sieve_meaning.specs.Reading.{program_of}
use Rattle.sieve_meaning.specs.declared.scripts.ScriptName as code
use Rattle.sieve_meaning.specs.Scripts.{script_of}
use Rattle.sieve_library.specs.BorrowedShelves.{scripts_of}
use Rattle.sieve_library.specs.Libraries.{library_of}
use Rattle.filing_procedures.specs.IncludedScripts.{with_included}
use Rattle.filing_procedures.proofs.IncludedLemmas.{gathers_there}
use Rattle.filing_procedures.proofs.included.included_scripts.Goals as goal

pub returns : goal.returns
returns c =
    let lib = library_of (scripts_of c.args.shelves) in
    let x = program_of (tree_of c.args.script.now) in
    c.in_ok-add_commands.ensures
    ∙ ap (λ (ns : List code.ScriptName). with_included lib x (map script_of ns)) c.new-names.ensures.items
    ∙ gathers_there lib x
