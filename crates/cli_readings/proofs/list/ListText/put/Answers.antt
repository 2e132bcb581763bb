use Rattle.std.proofs.Common.{[], ◌∙◌, subst}
use Rattle.std.proofs.lemmas.List.{append-nil}
use Rattle.record_archive.specs.Archive.{empty_archive}
use Rattle.cli_readings.specs.Lists.{HasText}
use Rattle.cli_console.specs.Sinks.{Writes, more_written}
use Rattle.cli_readings.proofs.list.ListText.put.Goals as goal

pub returns-clause-text : goal.returns-clause-text
returns-clause-text g c =
    let list = c.args.self.now in
    let text = c.args.text.now in
    let has = HasText g.K.Sink.written in
    let written = c.in_ok-write.ensures.same empty_archive in
    subst (λ t. Writes has list c.write.new.self t) (append-nil text)
    (more_written has list c.push.new.self c.write.new.self text [] c.in_ok-push.ensures.text
    (subst (λ t. Writes has c.push.new.self c.write.new.self t) written.are written.added))

pub returns-clause-count : goal.returns-clause-count
returns-clause-count g c = (c.in_ok-write.ensures.same empty_archive).counted ∙ c.in_ok-push.ensures.count

pub returns-clause-listing : goal.returns-clause-listing
returns-clause-listing g c = (c.in_ok-write.ensures.same empty_archive).listing ∙ c.in_ok-push.ensures.listing
