use Rattle.std.proofs.Common.{◌≡◌, ◌<◌, ◌++◌, ◌∷◌, [], ℕ, List, arith, get_or, length, map, rules, subst, sym, take}
use Rattle.record_archive.specs.Archive.{Archive}
use Rattle.record_choice.specs.Entries as plain
use Rattle.record_choice.specs.Entries.{entry_view}
use Rattle.record_choice.specs.declared.entry.RecordEntry.{RecordEntry}
use Rattle.cli_history.specs.Compared.{HasMet, IsThere}
use Rattle.cli_history.specs.declared.comparison.Comparison.{Comparison}
use Rattle.cli_history.proofs.ComparisonLemmas.{met_more}
use Rattle.cli_history.proofs.MadeLemmas.{at_all}
use Rattle.cli_history.proofs.WalkLemmas.{all_of_page, looks_on, looks_still, more_of_page, none_of_page}
use Rattle.cli_history.proofs.comparison.Comparison.compare_page.Goals as goal

pub loop-entry-init : goal.loop-entry-init
loop-entry-init g c = record {
  looks = looks_still g.S.Store c.args.noted.now;
  met = λ clean (a : Archive) (ls : List (List ℕ)) stands there (first : Comparison) (met : List plain.RecordEntry) so_far.
      none_of_page (HasMet a first c.args.self.now) entry_view met c.args.page.now so_far;
}

pub loop-entry-preserved : goal.loop-entry-preserved
loop-entry-preserved g c =
    let was = c.loop-entry.invariant in
    let page = c.args.page.now in
    let i = c.loop-entry.entry-index in
    let entry = c.entry-item.result in
    let old = c.loop-entry.self in
    let new = c.compare_record.new.self in
    let same : entry ≡ get_or page i entry = search (rules, arith) in
    let low : i < length page = omega arith in
    let looked = c.compare_record.ensures.looks in
    record {
      looks = looks_on g.S.Store c.args.noted.now c.loop-entry.noted c.compare_record.new.noted was.looks looked;
      met = λ clean (a : Archive) (ls : List (List ℕ)) stands there (first : Comparison) (met : List plain.RecordEntry) so_far.
          let before = was.met (looked.falls clean) a ls stands there first met so_far in
          let is_there = subst (λ (e : RecordEntry). IsThere a (entry_view e)) (sym same) (at_all (IsThere a) entry_view page i entry low there) in
          let kept = c.in_ok-compare_record.ensures.seals clean a ls (was.looks.lines a ls stands) is_there in
          more_of_page (HasMet a first new) entry_view met page i entry low
          (subst (λ (e : RecordEntry). HasMet a first new ((met ++ map entry_view (take i page)) ++ entry_view e ∷ [])) same
          (met_more a first old new (met ++ map entry_view (take i page)) entry before c.in_ok-compare_record.ensures.compares kept));
    }

pub returns-clause-met : goal.returns-clause-met
returns-clause-met g c = λ clean (a : Archive) (ls : List (List ℕ)) stands there (first : Comparison) (met : List plain.RecordEntry) so_far.
    all_of_page (HasMet a first c.loop-entry.self) entry_view met c.args.page.now c.loop-entry.entry-index (omega arith)
    (c.loop-entry.invariant.met clean a ls stands there first met so_far)
