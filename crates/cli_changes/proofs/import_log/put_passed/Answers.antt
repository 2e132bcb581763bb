use Rattle.std.proofs.lemmas.Result.{on_ok_weaker}
use Rattle.cli_changes.specs.ImportLines.{passed_words}
use Rattle.cli_changes.proofs.ReasonLaws.{behind}
use Rattle.cli_changes.proofs.import_log.put_passed.Goals as goal

pub returns : goal.returns
unfolding passed_words
returns c =
    let text = c.args.text.now in
    on_ok_weaker c.put_some-2.result (behind text _ _ c.put_between.new.text c.put_some-2.new.text
    (behind text _ _ c.put_some.new.text c.put_between.new.text
    (behind text _ _ c.words.new.self c.put_some.new.text c.in_ok-words.ensures c.in_ok-put_some.ensures)
    c.in_ok-put_between.ensures)) c.put_some-2.ensures
