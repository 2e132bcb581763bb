-- What a check counts of an archive.
use Rattle.std.specs.Prelude.{◌≡◌, ℕ, ◌+◌, ◌≤◌, ◌==◌, ◌&&◌, ◌||◌, Bool, true, false, not, if◌then◌else◌, min}
use Rattle.std.specs.Prelude.{List, [], ◌∷◌, ◌++◌, length, map, count_by, codes, Ok, Some, None}
use Rattle.std.proofs.Common.{refl, sym, ap, ◌∙◌, subst, arith, zero-add}
use Rattle.std.proofs.lemmas.List.Sums.{sum_by-cons}
use Rattle.jiff_core.specs.declared.civil.date.Date.{Date}
use Rattle.record_archive.specs.Archive.{Archive, message}
use Rattle.record_choice.specs.Choices.{chosen, every_record}
use Rattle.record_choice.specs.Entries.{RecordEntry as Entry, entry_of}
use Rattle.record_choice.specs.declared.entry.RecordEntry.{RecordEntry}
use Rattle.record_history.specs.Replay.{seal}
use Rattle.cli_console.specs.Days.{is_by}
use Rattle.cli_history.specs.Stored.{stored}
use Rattle.cli_texts.specs.Words.{number, words}
use Rattle.cli_console.specs.Counts.{counted, greatest, one_more}
use Rattle.cli_console.specs.Sinks.{Writes}
use Rattle.cli_readings.specs.declared.judge.Contents.{Contents}
use Rattle.cli_readings.specs.declared.judge.Counting.{Counting}
use Rattle.cli_readings.specs.declared.judge.Figures.{Figures}
use Rattle.cli_readings.specs.declared.judge.Messages.{Messages}
use Rattle.cli_readings.specs.declared.judge.Totals.{Totals}

-- all records of an archive, as they are listed
abbrev pub every_entry : Archive → List Entry
every_entry a = map (entry_of a) (chosen None every_record a)

-- ---- the records

abbrev pub is_record : RecordEntry → Bool
is_record e = true

abbrev pub is_live : RecordEntry → Bool
is_live e = not e.destroyed

-- a live record is kept by a hold
abbrev pub is_kept : RecordEntry → Bool
is_kept e = not e.destroyed && not (length e.holds.items == 0)

-- a live record is due by a day
abbrev pub is_live_and_due : Date → RecordEntry → Bool
is_live_and_due day e = not e.destroyed && is_by e.due day

-- how many of some records are so, up to the greatest count
abbrev pub count_where : (RecordEntry → Bool) → List RecordEntry → ℕ
count_where is_so es = min (count_by is_so es) greatest

-- the number of the last record; another where there is none
abbrev pub last_number : List RecordEntry → ℕ → ℕ
last_number [] n = n
last_number (e ∷ es) n = last_number es e.number

-- THE FIGURES OF SOME RECORDS: how many these are, how many of them are live, kept by a hold, and due by a day, and the number of
-- the last one
abbrev pub figures_of : Date → List RecordEntry → Figures
figures_of day es = record {
  records = count_where is_record es;
  live = count_where is_live es;
  held = count_where is_kept es;
  due = count_where (is_live_and_due day) es;
  last = last_number es 0;
}

-- ---- the messages

-- the message of a record is not counted: the record is destroyed, or it is the message that was counted last
abbrev pub is_passed : Messages → RecordEntry → Bool
is_passed m e = e.destroyed || not (m.count == 0) && m.last == e.message

-- the seals are those from before and, where they are noted, that of a message with these octets
abbrev pub NotesSeal : (message : ℕ) → (octets : List ℕ) → (old new : Messages) → Type 0
NotesSeal message octets old new =
    (n : ℕ) → stored new.seals n ≡ (if old.is_noted && (n == message) then Some (seal octets) else stored old.seals n)

-- the message of a record is counted with its octets
pub record CountsMessage (a : Archive) (e : RecordEntry) (old new : Messages) : Type 0 where
  pub octets : List ℕ
  pub of_it : message a e.number ≡ Ok (Some octets)
  pub count : new.count ≡ one_more old.count
  pub octets_with_it : new.octets ≡ min (old.octets + length octets) greatest
  pub last : new.last ≡ e.message
  pub is_noted : new.is_noted ≡ old.is_noted
  pub seals : NotesSeal e.message octets old new

abbrev pub CountsUnless : (is_passed : Bool) → Archive → RecordEntry → (old new : Messages) → Type 0
CountsUnless true a e old new = old ≡ new
CountsUnless false a e old new = CountsMessage a e old new

-- THE MESSAGES OF THESE RECORDS ARE COUNTED: of each live one in this order, once for those of one message that come together
abbrev pub CountsMessages : Archive → Messages → List RecordEntry → Messages → Type 0
CountsMessages a old [] new = old ≡ new
CountsMessages a old (e ∷ es) new = (next : Messages) × CountsUnless (is_passed old e) a e old next × CountsMessages a next es new

-- no message is counted yet
pub record AreNone (is_noted : Bool) (m : Messages) : Type 0 where
  pub count : m.count ≡ 0
  pub octets : m.octets ≡ 0
  pub noted : m.is_noted ≡ is_noted
  pub seals : (n : ℕ) → stored m.seals n ≡ None

-- ---- what is written

abbrev pub count_line : (name : List ℕ) → ℕ → List ℕ
count_line name count = words name ++ number count ++ 10 ∷ []

abbrev pub totals_of : Figures → Messages → Totals
totals_of f m =
    record { records = f.records; live = f.live; held = f.held; due = f.due; messages = m.count; octets = m.octets }

-- THE TOTALS of what is held, in lines
abbrev pub totals_text : Totals → List ℕ
totals_text t =
    count_line (codes "records ") t.records ++ count_line (codes "live ") t.live ++ count_line (codes "held ") t.held
    ++ count_line (codes "due today ") t.due ++ count_line (codes "messages ") t.messages ++ count_line (codes "octets ") t.octets

-- WHAT AN ARCHIVE HOLDS, in lines
abbrev pub contents_text : (classes : ℕ) → Figures → Messages → List ℕ
contents_text classes f m =
    count_line (codes "classes ") classes ++ totals_text (totals_of f m) ++ count_line (codes "next number ") (f.last + 1)

-- WHAT SO MANY VOLUMES HOLD TOGETHER, in lines
abbrev pub volumes_text : (volumes : ℕ) → Totals → List ℕ
volumes_text volumes t = count_line (codes "volumes ") volumes ++ totals_text t

-- WHAT TWO STORES HOLD TOGETHER, up to the greatest count
abbrev pub together : Totals → Totals → Totals
together x y = record {
  records = min (x.records + y.records) greatest;
  live = min (x.live + y.live) greatest;
  held = min (x.held + y.held) greatest;
  due = min (x.due + y.due) greatest;
  messages = min (x.messages + y.messages) greatest;
  octets = min (x.octets + y.octets) greatest;
}

-- what an archive with these records holds is written, and nothing else; and these are the totals, and the seals of their messages
pub record TellsContents {K : Type 0} (written : K → List ℕ → Type 0) (day : Date) (is_noted : Bool) (contents : Contents) (before : K)
    (a : Archive) (es : List RecordEntry) (after : K) : Type 0 where
  pub none : Messages
  pub are_none : AreNone is_noted none
  pub messages : Messages
  pub counted : CountsMessages a none es messages
  pub seals_are : contents.seals ≡ messages.seals
  pub totals_are : contents.totals ≡ totals_of (figures_of day es) messages
  pub writes : Writes written before after (contents_text (length a.plan.rows) (figures_of day es) messages)

-- ---- as it is counted

-- one more for each that is so
abbrev pub more_where : (RecordEntry → Bool) → List RecordEntry → ℕ → ℕ
more_where is_so [] n = n
more_where is_so (e ∷ es) n = more_where is_so es (counted (is_so e) n)

-- the figures with these records too
abbrev pub with_records : Date → List RecordEntry → Figures → Figures
with_records day es f = record {
  records = more_where is_record es f.records;
  live = more_where is_live es f.live;
  held = more_where is_kept es f.held;
  due = more_where (is_live_and_due day) es f.due;
  last = last_number es f.last;
}

abbrev pub no_figures : Figures
no_figures = record { records = 0; live = 0; held = 0; due = 0; last = 0 }

-- EACH OF THESE RECORDS IS COUNTED, in this order, and no other; the day stays
pub record Counts (old : Counting) (a : Archive) (es : List RecordEntry) (new : Counting) : Type 0 where
  pub day : new.day ≡ old.day
  pub figures : new.figures ≡ with_records old.day es old.figures
  pub messages : CountsMessages a old.messages es new.messages

-- ---- its laws

where_joined : (is_so : RecordEntry → Bool) (es fs : List RecordEntry) (n : ℕ)
    → more_where is_so fs (more_where is_so es n) ≡ more_where is_so (es ++ fs) n
where_joined is_so [] fs n = refl
where_joined is_so (e ∷ es) fs n = where_joined is_so es fs (counted (is_so e) n)

last_joined : (es fs : List RecordEntry) (n : ℕ) → last_number fs (last_number es n) ≡ last_number (es ++ fs) n
last_joined [] fs n = refl
last_joined (e ∷ es) fs n = last_joined es fs e.number

figures_joined : (day : Date) (es fs : List RecordEntry) (f : Figures)
    → with_records day fs (with_records day es f) ≡ with_records day (es ++ fs) f
figures_joined day es fs f =
    let a = where_joined is_record es fs f.records in
    let b = where_joined is_live es fs f.live in
    let c = where_joined is_kept es fs f.held in
    let d = where_joined (is_live_and_due day) es fs f.due in
    let e = last_joined es fs f.last in cc

pub none_counted : (x : Counting) (a : Archive) → Counts x a [] x
none_counted x a = record { day = refl; figures = refl; messages = refl }

messages_joined : (a : Archive) (x y z : Messages) (es fs : List RecordEntry) → CountsMessages a x es y → CountsMessages a y fs z
    → CountsMessages a x (es ++ fs) z
messages_joined a x y z [] fs one other = subst (λ m. CountsMessages a m fs z) (sym one) other
messages_joined a x y z (e ∷ es) fs one other = (one.0, one.1, messages_joined a one.0 y z es fs one.2 other)

pub more_counted : (x y z : Counting) (a : Archive) (es fs : List RecordEntry) → Counts x a es y → Counts y a fs z → Counts x a (es ++ fs) z
more_counted x y z a es fs one other = record {
  day = other.day ∙ one.day;
  figures = other.figures ∙ ap (λ d. with_records d fs y.figures) one.day ∙ ap (with_records x.day fs) one.figures
      ∙ figures_joined x.day es fs x.figures;
  messages = messages_joined a x.messages y.messages z.messages es fs one.messages other.messages;
}

where_counted : (is_so : RecordEntry → Bool) (es : List RecordEntry) (n : ℕ) → n ≤ greatest
    → more_where is_so es n ≡ min (n + count_by is_so es) greatest
where_counted is_so [] n fits = omega arith
where_counted is_so (e ∷ es) n fits =
    go (is_so e) (where_counted is_so es) ∙ ap (λ k. min (n + k) greatest) (sym (sum_by-cons (λ x. if is_so x then 1 else 0) e es))
  where
    go : (b : Bool) → ((m : ℕ) → m ≤ greatest → more_where is_so es m ≡ min (m + count_by is_so es) greatest)
        → more_where is_so es (counted b n) ≡ min (n + ((if b then 1 else 0) + count_by is_so es)) greatest
    go true rest = rest (one_more n) (omega arith) ∙ omega arith
    go false rest = rest n fits ∙ omega arith

all_counted : (is_so : RecordEntry → Bool) (es : List RecordEntry) → more_where is_so es 0 ≡ count_where is_so es
all_counted is_so es = where_counted is_so es 0 (omega arith) ∙ ap (λ n. min n greatest) (zero-add (count_by is_so es))

pub all_figures : (day : Date) (es : List RecordEntry) → with_records day es no_figures ≡ figures_of day es
all_figures day es =
    let records = all_counted is_record es in
    let live = all_counted is_live es in
    let held = all_counted is_kept es in
    let due = all_counted (is_live_and_due day) es in cc
