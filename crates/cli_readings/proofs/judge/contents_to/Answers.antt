use Rattle.std.proofs.Common.{◌∙◌, None, ap, length, map, refl, subst}
use Rattle.class_plan.specs.Plans.{Listing}
use Rattle.record_archive.specs.Archive.{Archive}
use Rattle.record_choice.specs.Choices.{Choice, chosen}
use Rattle.record_choice.specs.Entries.{entry_of}
use Rattle.cli_readings.specs.Checks.{all_figures, contents_text, totals_of, with_records}
use Rattle.cli_console.specs.Sinks.{Writes}
use Rattle.cli_readings.proofs.judge.contents_to.Goals as goal

pub returns-clause-told : goal.returns-clause-told
returns-clause-told g c = λ clean (a : Archive) s.
    let took = c.in_ok-read_chosen.ensures.taken clean a s in
    let day = c.args.day in
    let messages = c.read_chosen.new.reader.messages in
    let classes = c.class_count-classes.ensures.count
    ∙ ap (λ (p : Listing). length p.rows) (c.plan.ensures a (c.read_chosen.ensures.reads.stands a s)) in
    let figures = took.2.figures ∙ ap (with_records day took.0) c.none.ensures ∙ all_figures day took.0 in
    let text = c.as_bytes.ensures.value ∙ c.as_str.ensures.exact ∙ c.in_ok-text.ensures
    ∙ ap (λ n. contents_text n c.read_chosen.new.reader.figures messages) classes
    ∙ ap (λ f. contents_text (length a.plan.rows) f messages) figures in (
      took.0,
      took.1 ∙ ap (λ (d : Choice). map (entry_of a) (chosen None d a)) c.every.ensures,
      record {
        none = c.none-2.result;
        are_none = c.none-2.ensures;
        messages = messages;
        counted = took.2.messages;
        seals_are = refl;
        totals_are = c.of-totals.ensures ∙ ap (λ f. totals_of f messages) figures;
        writes = subst (λ t. Writes g.K.Sink.written c.args.sink c.write.new.self t) text c.in_ok-write.ensures;
      },
    )
