use Rattle.std.proofs.Common.{◌≡◌, drop, map, false}
use Rattle.sieve_syntax.specs.View.{command_of, commands_of}
use Rattle.sieve_meaning.specs.Scripts.{script_of}
use Rattle.sieve_library.specs.BorrowedShelves.{scripts_of}
use Rattle.sieve_library.specs.Libraries.{library_of}
use Rattle.filing_procedures.specs.IncludedScripts.{with_rest}
use Rattle.filing_procedures.proofs.included.+inclusion.Given as goal

abbrev pub invariant-add_commands-loop-command : goal.invariant-add_commands-loop-command
invariant-add_commands-loop-command l =
    with_rest (library_of (scripts_of l.shelves)) l.is_open
    (commands_of (map command_of (drop l.command-index l.command-items))) (map script_of l.names.items)
    ≡ with_rest (library_of (scripts_of l.shelves)) false (commands_of (map command_of l.commands.items)) (map script_of l.fn.names.items)
