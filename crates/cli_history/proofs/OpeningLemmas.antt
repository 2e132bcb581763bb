-- A store that is opened for a purpose, and what a person accepts of its history.
use Rattle.std.proofs.Common.{◌≡◌, ◌∙◌, ◌&&◌, ◌||◌, ◌==◌, not, ℕ, length, Bool, true, false, List, Option, Some, None, IfSome, is_some}
use Rattle.std.proofs.Common.{refl, ap, sym, subst}
use Rattle.sqlite.specs.Store.{Ghosts}
use Rattle.sqlite.specs.State.{HasCleanDisk}
use Rattle.sqlite.specs.Held.{state}
use Rattle.record_archive.specs.Archive.{Archive}
use Rattle.record_history.specs.Events.{Deed, Event}
use Rattle.record_history.specs.declared.events.Filing.{Filing}
use Rattle.record_ledger.specs.Notes.{TellsOf}
use Rattle.record_ledger.specs.declared.occasion.Occasion.{Occasion}
use Rattle.record_store.specs.declared.store.Store.{Store}
use Rattle.record_noted.specs.Histories.{StandsWith}
use Rattle.record_noted.specs.Openings.{Opens, OpensHistory}
use Rattle.record_noted.specs.declared.opening.Opened.{Opened}
use Rattle.record_noted.specs.declared.opening.Opened.TheVariants.{Noted, Plain}
use Rattle.record_noted.specs.declared.store.NotedStore.{NotedStore}
use Rattle.cli_history.specs.Acceptances.{Accepts, AcceptsNext, IsLineBy}
use Rattle.cli_history.specs.Authors.{IsOccasionOf}
use Rattle.cli_history.specs.Findings.{is_open_at, is_unaccepted, stage_of}
use Rattle.cli_history.specs.Made.{IsMadeBy}
use Rattle.cli_history.specs.Openings.{IsReady, IsSeen, IsSight, OpensFor, OpensNoted, StaysReady, is_refused}
use Rattle.cli_history.specs.Reasons.{changes, decides, ends, lacks_reason}
use Rattle.cli_history.specs.Replays.{AreSeals, Replays, required_after}
use Rattle.cli_history.specs.Walks.{Looks}
use Rattle.cli_history.specs.declared.author.Author.{Author}
use Rattle.cli_history.specs.declared.findings.Stage.{Stage}
use Rattle.cli_history.specs.declared.opening.Purpose.{Purpose}
use Rattle.cli_history.specs.declared.opening.Purpose.TheVariants.{Listing, Capturing, Keeping, Ending}
use Rattle.cli_history.specs.declared.replaying.Replayed.{Replayed}
use Rattle.cli_history.specs.declared.restating.Ready.{Ready}
use Rattle.cli_history.specs.declared.restating.Sight.{Sight}
use Rattle.cli_history.specs.declared.seals.Seals.{Seals}
use Rattle.cli_history.proofs.FindingLemmas.{stage_tells}
use Rattle.cli_history.proofs.WalkLemmas.{looks_on}

-- a refusal that does not come
not_so : (b : Bool) → true ≡ not b → b ≡ false
not_so false is = refl
not_so true is = absurd cc

-- what is seen of a history before a change: all was looked at, and no reason is lacking
pub is_sight : {S : Type 0} (g : Ghosts S) (purpose : Purpose) (author : Author) (old mid new : NotedStore S) (s : Sight)
    → is_some author.name ≡ true → true ≡ not (lacks_reason purpose s.replayed.requires_reasons author.reason.now) → Looks g old mid
    → (HasCleanDisk (state g mid.store.conn) → (a : Archive) → (ls : List (List ℕ)) → StandsWith g old a ls → Replays purpose s.replayed ls)
    → (is_some s.changes ≡ false → Looks g mid new)
    → (is_some s.changes ≡ false → HasCleanDisk (state g new.store.conn) → (a : Archive) → (ls : List (List ℕ)) → StandsWith g mid a ls
    → IsMadeBy s.replayed.judge.archive a) → IsSight g purpose author old new s
is_sight g purpose author old mid new s name reason looks replays none made = record {
  has_name = name;
  seen = λ same.
      let on = none same in
      record {
        looks = looks_on g old mid new looks on;
        replays = λ clean a ls stands. replays (on.falls clean) a ls stands;
        made = λ clean a ls stands. made same clean a ls (looks.lines a ls stands);
        has_reason = not_so (lacks_reason purpose s.replayed.requires_reasons author.reason.now) reason;
      };
}

-- a history that was seen, and is not refused
pub is_ready : {S : Type 0} (g : Ghosts S) (purpose : Purpose) (author : Author) (old mid : NotedStore S) (s : Sight) (ready : Ready S)
    → IsSight g purpose author old mid s → StaysReady mid s ready → is_refused purpose ready ≡ false → IsReady g purpose author old ready
is_ready {S = S} g purpose author old mid s ready sight stays goes = record {
  has_name = sight.has_name;
  goes = goes;
  seen = λ fresh.
      subst (λ (n : NotedStore S). IsSeen g purpose author old n ready.replayed) (sym (stays.noted_is fresh))
      (subst (λ (r : Replayed). IsSeen g purpose author old mid r) (sym (stays.replayed_is fresh)) (sight.seen (stays.unchanged fresh)));
}

-- what is refused, where all was restated just now and where it was not
pub refused_restated : (e r o : Bool) → r ≡ true → e ≡ (e && (r || o))
refused_restated true true o is = refl
refused_restated false true o is = refl
refused_restated e false o is = absurd cc

pub refused_else : (e r o : Bool) → r ≡ false → (e && o) ≡ (e && (r || o))
refused_else e false o is = refl
refused_else e true o is = absurd cc

-- what is opened of a store that is not to be changed
pub opens_unchanged : {S : Type 0} (g : Ghosts S) (purpose : Purpose) (author : Author) (store : Store S) (seals : Seals) (opened : Opened S)
    → Opens g store opened → changes purpose ≡ false → OpensFor g purpose author store seals opened
opens_unchanged g Listing author store seals (Noted noted) opens none = record { has_name = λ is. absurd cc; lets_end = λ is. absurd cc }
opens_unchanged g Listing author store seals (Plain same) opens none = opens
opens_unchanged g Capturing author store seals opened opens none = absurd cc
opens_unchanged g Keeping author store seals opened opens none = absurd cc
opens_unchanged g Ending author store seals opened opens none = absurd cc

neither : (e r o : Bool) → e ≡ true → (e && (r || o)) ≡ false → (r ≡ false) × (o ≡ false)
neither true false false is none = (refl, refl)
neither true false true is none = absurd cc
neither true true o is none = absurd cc
neither false r o is none = absurd cc

reason_there : (p : Purpose) (b : Bool) → ends p ≡ true → (decides p && b) ≡ false → b ≡ false
reason_there Ending b is none = none
reason_there Keeping b is none = absurd cc
reason_there Capturing b is none = absurd cc
reason_there Listing b is none = absurd cc

seals_there : (o : Option Seals) (seals : Seals) (es : List Event) → is_some o ≡ true → IfSome o (λ s. seals ≡ s) → IfSome o (λ s. AreSeals s es)
    → AreSeals seals es
seals_there (Some s) seals es is same are = subst (λ (x : Seals). AreSeals x es) (sym same) are
seals_there None seals es is same are = absurd cc

-- what is found to be unaccepted is what the stage says
told_by_stage : (stage : Stage) (es : List Event) (b : Bool) → stage ≡ stage_of es → is_open_at stage ≡ b → is_unaccepted es ≡ b
told_by_stage stage es b same is = sym (stage_tells es) ∙ ap is_open_at (sym same) ∙ is

-- A HISTORY THAT IS READY, of a store that was opened
pub opens_ready : {S : Type 0} (g : Ghosts S) (purpose : Purpose) (author : Author) (store : Store S) (opened : NotedStore S) (ready : Ready S)
    (seals : Seals) → OpensHistory g store opened → IsReady g purpose author opened ready → IfSome ready.replayed.seals (λ s. seals ≡ s)
    → OpensNoted g purpose author store seals ready.noted
opens_ready g purpose author store opened ready seals opens is same = record {
  has_name = λ changes. is.has_name;
  lets_end = λ ending clean a ls stands stores.
      let passed = neither (ends purpose) ready.is_restated (is_open_at ready.replayed.findings.stage) ending is.goes in
      let seen = is.seen passed.0 in
      let first : StandsWith g opened a ls = opens.stands (seen.looks.falls clean) a ls stands stores in
      let replays = seen.replays clean a ls first in
      record {
        stands = seen.looks.lines a ls first;
        made = record { judge = ready.replayed.judge; judged = replays.judged; made = seen.made clean a ls first };
        events = replays.events;
        tell = replays.tell;
        accepted = told_by_stage ready.replayed.findings.stage replays.events false replays.stage passed.1;
        has_reason = reason_there purpose (required_after false replays.events && (length author.reason.now == 0)) ending
            (ap (λ (b : Bool). decides purpose && (b && (length author.reason.now == 0))) (sym replays.reasons) ∙ seen.has_reason);
        seals_are = seals_there ready.replayed.seals seals replays.events (replays.kept ∙ ending) same replays.seals;
      };
}

-- what a person accepts
pub accepts : {S : Type 0} (g : Ghosts S) (author : Author) (noted : NotedStore S) (old new : Ready S) (store : Store S) (number : ℕ)
    → IsReady g Keeping author noted old → AcceptsNext g author old new number → store ≡ new.noted.store
    → HasCleanDisk (state g store.conn) → (a : Archive) (ls : List (List ℕ)) → StandsWith g noted a ls → Accepts g author store a ls number
accepts g author noted old new store number is done same clean a ls stands =
    let seen = is.seen done.was_seen in
    let notes = done.notes.noted.notes in
    let clean_then : HasCleanDisk (state g new.noted.store.conn) = subst (λ (s : Store _). HasCleanDisk (state g s.conn)) same clean in
    let replays = seen.replays (notes.was_clean clean_then) a ls stands in
    let there = seen.looks.lines a ls stands in
    record {
      made = record {
        judge = old.replayed.judge;
        judged = replays.judged;
        made = seen.made (notes.was_clean clean_then) a ls stands;
      };
      events = replays.events;
      tell = replays.tell;
      was_open = told_by_stage old.replayed.findings.stage replays.events true replays.stage done.was_open;
      number_is = done.notes.number_is ∙ there.next;
      line = done.notes.line;
      by_author = done.notes.by_author;
      noted = new.noted;
      store_is = sym same;
      stands = (notes.obeys clean_then a ls there).0;
    }

-- the line of an occasion of the author
pub told_by_author : {K : Type 0} (author : Author) (filing : Option Filing) (o : Occasion K) (number : ℕ) (deed : Deed) (line : List ℕ)
    → TellsOf o number deed line → IsOccasionOf author filing o → IsLineBy author number deed line
told_by_author author filing o number deed line tells is = record {
  event = tells.event;
  line_is = tells.line_is;
  who = tells.who ∙ is.who_is;
  deed_is = tells.deed_is;
  notes = tells.notes ∙ is.no_notes;
  reason = tells.reason ∙ is.reason_is;
  spelled = tells.spelled;
}
