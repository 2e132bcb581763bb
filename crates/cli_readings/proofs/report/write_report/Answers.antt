use Rattle.std.proofs.Common.{◌∙◌, sym}
use Rattle.record_archive.specs.Archive.{Archive}
use Rattle.cli_console.specs.Finds.{found_in, missing_of}
use Rattle.cli_console.proofs.JoinedLaws.{if_well, none_missing}
use Rattle.cli_readings.proofs.Ended.{search_ended}
use Rattle.cli_readings.proofs.report.write_report.Goals as goal

pub returns : goal.returns
returns g c = if_well c.end.result (λ well. record {
  read = c.read_found.new.archive.conn;
  begun = c.in_ok-reporting.reporting;
  by_day = c.in_ok-reporting.ensures;
  whole = c.read_found.new.reader;
  reports = λ clean (a : Archive) s.
      let is = s.archive in
      let found = found_in c.args.choice.now c.args.questions.now a in
      let took = c.in_ok-read_found.ensures.taken clean a s in
      let none = none_missing (missing_of c.read_found.new.self) c.end.result c.end.ensures.found well in
      let ended = search_ended c.args.choice.now found c.in_ok-search.search c.read_found.new.self a c.in_ok-search.ensures.typed
      c.in_ok-search.ensures.none (c.in_ok-search.ensures.found a is) (c.in_ok-read_found.ensures.ended clean a s) in
      record {
        took = (took.0, took.1 ∙ c.in_ok-search.ensures.found a is, took.2);
        each_found = sym ended ∙ none;
      };
})
