use Rattle.std.proofs.Common.{◌∙◌, subst}
use Rattle.record_archive.specs.Archive.{Archive}
use Rattle.cli_console.specs.Finds.{found_in}
use Rattle.cli_readings.specs.Lists.{HasText, whole_list}
use Rattle.cli_console.specs.Sinks.{Writes}
use Rattle.cli_readings.proofs.Ended.{search_ended}
use Rattle.cli_readings.proofs.list.list_to.Goals as goal

pub returns-clause-listed : goal.returns-clause-listed
returns-clause-listed g c = λ clean (a : Archive) s.
    let is = g.met.R.Repository.is_archive c.args.archive.now a s in
    let took = c.in_ok-add_found.ensures.listed clean a s in
    let head = subst (λ t. Writes (HasText g.K.Sink.written) c.new-list.result c.put.new.self t) c.text_before.ensures c.in_ok-put.ensures.text in (
      took.0,
      took.1 ∙ c.in_ok-search.ensures.found a is,
      whole_list g.K.Sink.written a c.args.listing c.args.sink took.0 c.new-list.result c.put.new.self c.add_found.new.list c.end.new.self
          c.new-list.ensures.sink c.new-list.ensures.listing c.new-list.ensures.text c.new-list.ensures.count head
          c.in_ok-put.ensures.count c.in_ok-put.ensures.listing took.2 c.in_ok-end.ensures.text c.in_ok-end.ensures.all,
    )

pub returns-clause-ended : goal.returns-clause-ended
returns-clause-ended g c = λ clean (a : Archive) s.
    let is = g.met.R.Repository.is_archive c.args.archive.now a s in
    search_ended c.args.choice.now (found_in c.args.choice.now c.args.questions.now a) c.in_ok-search.search c.add_found.new.search a
    c.in_ok-search.ensures.typed c.in_ok-search.ensures.none (c.in_ok-search.ensures.found a is) (c.in_ok-add_found.ensures.ended clean a s)
