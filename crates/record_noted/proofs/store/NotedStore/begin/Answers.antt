use Rattle.std.proofs.Common.{[], refl}
use Rattle.record_archive.specs.Archive.{empty_archive}
use Rattle.record_noted.proofs.HistoryLemmas.{if_ok}
use Rattle.record_noted.proofs.store.NotedStore.begin.Goals as goal

pub returns-clause-told : goal.returns-clause-told
returns-clause-told g c =
    if_ok c.begin_with.result (λ s explains stands. explains empty_archive stands ([], refl, c.commands_are_told.ensures.none))
    c.begin_with.ensures.told
