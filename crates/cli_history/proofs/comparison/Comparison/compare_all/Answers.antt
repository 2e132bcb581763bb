use Rattle.std.proofs.Common.{◌++◌, ℕ, List, map, sym, subst, arith}
use Rattle.std.specs.List.{AllByRecursion}
use Rattle.record_archive.specs.Archive.{Archive}
use Rattle.record_choice.specs.Entries as plain
use Rattle.record_choice.specs.Entries.{entry_view}
use Rattle.record_choice.specs.declared.entry.RecordEntry.{RecordEntry}
use Rattle.cli_history.specs.Compared.{HasMet, IsThere}
use Rattle.cli_history.proofs.ComparisonLemmas.{met_none}
use Rattle.cli_history.proofs.MadeLemmas.{WalkedIn, entries_end, entries_some, page_there, walked_first, walked_on, walked_past, walked_to_end}
use Rattle.cli_history.proofs.WalkLemmas.{looks_on, looks_still}
use Rattle.cli_history.proofs.comparison.Comparison.compare_all.Goals as goal

pub loop-init : goal.loop-init
loop-init g c = record {
  looks = looks_still g.S.Store c.args.noted.now;
  walked = λ clean (a : Archive) (ls : List (List ℕ)) stands.
      let P = HasMet a c.args.self.now c.args.self.now in
      subst (λ from. WalkedIn P a from 0) (sym c.all-entries.ensures) (walked_first P a stands.stands.archive (met_none a c.args.self.now));
}

pub loop-preserved : goal.loop-preserved
loop-preserved g c =
    let was = c.loop.invariant in
    let read = c.next_page.ensures.looks in
    let looked = c.compare_page.ensures.looks in
    let first = c.args.self.now in
    let before = c.loop.entries.from in
    let after = c.next_page.new.self.from in
    let page = c.in-Some.page.items in
    record {
      looks = looks_on g.S.Store c.args.noted.now c.loop.noted c.compare_page.new.noted was.looks
          (looks_on g.S.Store c.loop.noted c.next_page.new.noted c.compare_page.new.noted read looked);
      walked = λ clean (a : Archive) (ls : List (List ℕ)) stands.
          let mid = looked.falls clean in
          let here = was.looks.lines a ls stands in
          let on = entries_some a before after c.in_ok-page.field-0 c.in-Some.page c.in-Some.is (c.in_ok-page.ensures.page mid a ls here) in
          let value = c.as_slice.ensures.value in
          let there = subst (λ (es : List RecordEntry). AllByRecursion (IsThere a) (map entry_view es)) (sym value)
          (page_there a stands.stands.archive before after page on) in
          walked_on (HasMet a first c.loop.self) (HasMet a first c.compare_page.new.self) a before after c.loop.counter page
          (was.walked (read.falls mid) a ls stands) on (λ (front : List plain.RecordEntry) met.
          subst (λ (es : List RecordEntry). HasMet a first c.compare_page.new.self (front ++ map entry_view es)) value
          (c.in_ok-compare_page.ensures.met clean a ls (read.lines a ls here) there first front met));
    }

pub returns-in_default-clause-met : goal.returns-in_default-clause-met
returns-in_default-clause-met g c = λ clean (a : Archive) (ls : List (List ℕ)) stands.
    let was = c.loop.invariant in
    let none =
    entries_end a c.loop.entries.from c.next_page.new.self.from c.in_ok-page.field-0 c.in_default.is
    (c.in_ok-page.ensures.page clean a ls (was.looks.lines a ls stands)) in
    walked_to_end (HasMet a c.args.self.now c.loop.self) a c.loop.entries.from c.loop.counter
    (was.walked (c.next_page.ensures.looks.falls clean) a ls stands) none

pub returns-clause-met : goal.returns-clause-met
returns-clause-met g c = λ clean (a : Archive) (ls : List (List ℕ)) stands.
    walked_past (HasMet a c.args.self.now c.loop.self) a c.loop.entries.from c.loop.counter
    (c.loop.invariant.walked clean a ls stands) (omega arith)
