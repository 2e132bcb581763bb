use Rattle.std.proofs.Common.{rules, filter, ◌++◌, map, sym, ap, ap₂, ◌∙◌}
use Rattle.record_archive.specs.Archive.{Archive}
use Rattle.record_choice.specs.Entries.{entry_view}
use Rattle.record_choice.specs.Walks.{shows_answer}
use Rattle.cli_choice.specs.Headers.{texts_found}
use Rattle.cli_choice.specs.Questions.{is_found, is_missed}
use Rattle.cli_choice.proofs.Kept.{kept_next}
use Rattle.cli_choice.proofs.Texts.{texts_more}
use Rattle.cli_choice.proofs.search.part.Goals as goal

pub loop-entry-preserved : goal.loop-entry-preserved
loop-entry-preserved g c = record {
  reads = search rules;
  found = λ clean (a : Archive) s.
      let before = c.reading_of.ensures.reads.falls clean in
      let stands = c.loop-entry.invariant.reads.stands a s in
      kept_next (shows_answer a (is_found c.args.questions.now)) _ _ _ _ (map entry_view c.next.new.self.rest.items)
      c.in_ok-add.ensures.found (c.in_ok-reading.ensures.found clean a stands)
      ∙ ap (λ l. map entry_view c.loop-entry.parts.found.items
      ++ filter (shows_answer a (is_found c.args.questions.now)) (map entry_view l)) (sym c.in-Some.ensures.steps.0)
      ∙ c.loop-entry.invariant.found before a s;
  unread = λ clean (a : Archive) s.
      let before = c.reading_of.ensures.reads.falls clean in
      let stands = c.loop-entry.invariant.reads.stands a s in
      kept_next (shows_answer a (is_missed c.args.questions.now)) _ _ _ _ (map entry_view c.next.new.self.rest.items)
      c.in_ok-add.ensures.unread (c.in_ok-reading.ensures.unread clean a stands)
      ∙ ap (λ l. map entry_view c.loop-entry.parts.unread.items
      ++ filter (shows_answer a (is_missed c.args.questions.now)) (map entry_view l)) (sym c.in-Some.ensures.steps.0)
      ∙ c.loop-entry.invariant.unread before a s;
  headers = λ clean (a : Archive) s.
      let before = c.reading_of.ensures.reads.falls clean in
      let stands = c.loop-entry.invariant.reads.stands a s in
      c.in_ok-add.ensures.headers
      ∙ ap₂ ◌++◌ (c.loop-entry.invariant.headers before a s) (c.in_ok-reading.ensures.headers clean a stands)
      ∙ sym (texts_more a c.args.beside (map entry_view c.loop-entry.parts.found.items) _)
      ∙ ap (texts_found a c.args.beside) (sym c.in_ok-add.ensures.found);
}
