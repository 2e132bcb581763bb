use Rattle.std.proofs.Common.{ap}
use Rattle.record_archive.specs.Archive.{Archive}
use Rattle.cli_console.proofs.Noted.{has_singles}
use Rattle.cli_console.specs.Finds.{found_in, missing_of}
use Rattle.cli_changes.specs.declared.refile.Moves.{Moves}
use Rattle.cli_changes.proofs.LookingLaws.{none_missing}
use Rattle.cli_changes.proofs.refile.moves_shown.Goals as goal

pub returns-clause-found : goal.returns-clause-found
returns-clause-found g c = λ accepted clean (a : Archive) s.
    let begun = c.in_ok-search.search in
    let ended = c.take_found.new.search in
    let none = none_missing c.take_found.new.moves.is_refused c.in_ok-is_all_found.is_all_found c.note_missing.new.self.is_refused
    (missing_of ended) (ap (λ (m : Moves). m.is_refused) c.note_missing.ensures) accepted
    (c.in_ok-is_all_found.ensures (missing_of ended) c.end_in.ensures.found) in
    has_singles c.args.choice.now (found_in c.args.choice.now c.args.questions.now a) begun ended a c.in_ok-search.ensures.typed
    c.in_ok-search.ensures.none (c.in_ok-search.ensures.found a (g.met.R.Repository.is_archive c.args.archive.now a s))
    (c.in_ok-take_found.ensures.ended (c.end_in.ensures.reads.falls clean) a s) none
