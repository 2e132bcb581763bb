use Rattle.std.proofs.Common.{◌∙◌, ℕ, List}
use Rattle.record_archive.specs.Archive.{Archive}
use Rattle.cli_history.proofs.reasons.are_reasons_required.Goals as goal

pub returns-clause-required : goal.returns-clause-required
returns-clause-required g c = λ clean (a : Archive) (ls : List (List ℕ)) stands.
    let replays = c.in_ok-replayed.ensures.replays clean a ls stands in
    record { events = replays.events; tell = replays.tell; required = c.requires_reasons.ensures ∙ replays.reasons }
