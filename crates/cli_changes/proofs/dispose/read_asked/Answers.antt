use Rattle.std.proofs.Common.{◌∙◌, sym, ap, map, subst}
use Rattle.std.specs.List.Sorted.{IsPermutation}
use Rattle.record_archive.specs.Archive.{Archive}
use Rattle.record_archive.specs.Lines.{line_view}
use Rattle.cli_changes.specs.Destructions.{numbers_of}
use Rattle.cli_changes.specs.Runs.{records_of}
use Rattle.cli_changes.proofs.MeantLaws.{numbers_viewed}
use Rattle.cli_changes.proofs.dispose.read_asked.Goals as goal

pub returns-clause-told : goal.returns-clause-told
returns-clause-told g c = λ clean (a : Archive) s.
    let before = c.runs_of.ensures.reads.falls clean in
    let lines = c.in-Ok.ensures.lines before a s in
    record {
      lines = lines;
      each_once = subst (λ l. IsPermutation l (records_of c.in-Ok-runs_of.runs.items))
          (sym (numbers_viewed c.as_slice.result.now) ∙ ap (λ l. numbers_of (map line_view l)) c.as_slice.ensures.value ∙ ap numbers_of lines)
          c.in-Ok-runs_of.ensures.these;
      may_go = c.in-Ok.ensures.all before a s;
      noted = c.in-Ok-runs_of.ensures.noted clean a (c.asked_lines.ensures.reads.stands a s);
    }
