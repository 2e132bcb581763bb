-- A history that is printed, a row at a time, a page at a time, and behind those of other stores.
use Rattle.std.proofs.Common.{◌≡◌, ◌+◌, ◌<◌, ◌≤◌, ◌==◌, ◌&&◌, not, ◌++◌, ◌∷◌, ◌∙◌, [], ℕ, List, Bool, true, false, Option, Some, None}
use Rattle.std.proofs.Common.{map, take, get_or, length, refl, ap, ap₂, sym, subst, Result, Ok, Err}
use Rattle.std.specs.Prelude.{OnOk}
use Rattle.std.proofs.lemmas.List.{append_assoc, append-nil}
use Rattle.std.specs.Borrow.{Bor}
use Rattle.choice_words.specs.declared.numbers.TypedNumbers.{TypedNumbers}
use Rattle.command_lines.specs.declared.archives.histories.HistoryAsked.{HistoryAsked}
use Rattle.record_tables.specs.Events.{Event as Row}
use Rattle.record_reads.specs.Events.{event_of}
use Rattle.record_reads.specs.declared.events.EventRow.{EventRow}
use Rattle.record_history.specs.Events.{Deed, Event}
use Rattle.cli_texts.specs.HistoryLines.{history_text, line_in}
use Rattle.cli_console.specs.Counts.{one_more}
use Rattle.cli_console.specs.Sequences.{AreTexts, counted_joined, first_after, is_none, more_for, one_text, only, texts_joined}
use Rattle.cli_console.specs.Sinks.{Writes, more_written, nothing_written}
use Rattle.cli_history.specs.Printed.{AddsHistory, AddsRows, Begins, Ends, IsEventText, IsOfTheSame, PrintsRow, PrintsRows, Seen, end_of, head_in}
use Rattle.cli_history.specs.Printed.{IsNew, LeavesUnmet, MeetsAll, WritesHistory, deeds_in, head_of, head_unless, is_printed}
use Rattle.cli_history.specs.Printed.{no_places, printed, there_last, there_next}
use Rattle.cli_history.specs.Lawful.{Watches}
use Rattle.cli_history.specs.Missing.{unmet}
use Rattle.cli_history.specs.Tellings.{TellEach, TellsRow}
use Rattle.cli_history.specs.declared.printing.HistoryText.{HistoryText}
use Rattle.cli_history.specs.declared.printing.PrintedHistory.{PrintedHistory}
use Rattle.cli_history.proofs.MissingLemmas.{all_met, unmet_joined}
use Rattle.cli_history.proofs.WalkLemmas.{all_of_page, more_of_page}

-- what follows from two facts of what ends well
pub on_ok_both : {T E P Q R : Type 0} (r : Result T E) → OnOk r P → OnOk r Q → (P → Q → R) → OnOk r R
on_ok_both (Ok x) p q to = to p q
on_ok_both (Err e) p q to = tt

-- ---- rows one behind the other

pub tell_joined : (rows more : List Row) (told others : List (Option Event)) → TellEach rows told → TellEach more others
    → TellEach (rows ++ more) (told ++ others)
tell_joined [] more [] others tell behind = behind
tell_joined (r ∷ rows) more (o ∷ told) others tell behind = (tell.0, tell_joined rows more told others tell.1 behind)
tell_joined [] more (o ∷ told) others tell behind = absurd tell
tell_joined (r ∷ rows) more [] others tell behind = absurd tell

there_joined : (words : List TypedNumbers) (t : Bool) (told others : List (Option Event))
    → there_last words (there_last words t told) others ≡ there_last words t (told ++ others)
there_joined words t [] others = refl
there_joined words t (o ∷ told) others = there_joined words (there_next words t o) told others

printed_joined : (asked : HistoryAsked) (j t : Bool) (rows more : List Row) (told others : List (Option Event)) → TellEach rows told
    → printed asked j t rows told ++ printed asked j (there_last asked.numbers.items t told) more others
    ≡ printed asked j t (rows ++ more) (told ++ others)
printed_joined asked j t [] more [] others tell = refl
printed_joined asked j t (r ∷ rows) more (o ∷ told) others tell =
    let this : List Seen = only (is_printed asked j t o) (r, o) in
    let next = there_next asked.numbers.items t o in
    append_assoc this (printed asked j next rows told) (printed asked j (there_last asked.numbers.items next told) more others)
    ∙ ap (λ rest. this ++ rest) (printed_joined asked j next rows more told others tell.1)
printed_joined asked j t [] more (o ∷ told) others tell = absurd tell
printed_joined asked j t (r ∷ rows) more [] others tell = absurd tell

printed_one : (asked : HistoryAsked) (j t : Bool) (r : Row) (o : Option Event)
    → only (is_printed asked j t o) (r, o) ≡ printed asked j t (r ∷ []) (o ∷ [])
printed_one asked j t r o = sym (append-nil (only (is_printed asked j t o) (r, o)))

deeds_joined : (one other : List Seen) → deeds_in (one ++ other) ≡ deeds_in one ++ deeds_in other
deeds_joined [] other = refl
deeds_joined ((r, None) ∷ one) other = deeds_joined one other
deeds_joined ((r, Some e) ∷ one) other = ap (λ (ds : List Deed). e.deed ∷ ds) (deeds_joined one other)

-- where no number is left, each is met
pub each_met : (asked : HistoryAsked) (rows : List Row) (left : List TypedNumbers) → LeavesUnmet asked asked.is_json rows left → left ≡ []
    → MeetsAll asked rows
each_met asked rows left leaves none = record {
  told = leaves.told;
  tell = leaves.tell;
  met = all_met asked.numbers.items (deeds_in (printed asked asked.is_json false rows leaves.told)) (sym leaves.are ∙ none);
}

pub same_still : (p : PrintedHistory) → IsOfTheSame p p
same_still p = record { asked = refl; volume = refl }

same_on : (p q r : PrintedHistory) → IsOfTheSame p q → IsOfTheSame q r → IsOfTheSame p r
same_on p q r one other = record { asked = other.asked ∙ one.asked; volume = other.volume ∙ one.volume }

-- the line of a row that tells no event is printed as a line
pub unread_text : (volume : Option ℕ) (all j is_first : Bool) (r : Row) (text : List ℕ) → (all && not j) ≡ true
    → text ≡ history_text (line_in volume no_places r.line) → IsEventText volume j is_first (r, None) text
unread_text volume true false is_first r text asked is = is
unread_text volume true true is_first r text asked is = absurd cc
unread_text volume false j is_first r text asked is = absurd cc

module _ {K : Type 0} (written : K → List ℕ → Type 0) where
  -- ---- what is added to a text

  pub none_added : (volume : Option ℕ) (x : HistoryText K) → AddsRows written volume x [] x
  none_added volume x = record {
    text = [];
    are = refl;
    added = nothing_written written x.sink;
    counted = refl;
    json = refl;
    begun = refl;
  }

  pub one_added : (volume : Option ℕ) (x y : HistoryText K) (seen : Seen) (text : List ℕ)
      → IsEventText volume x.is_json (x.count == 0) seen text → Writes written x.sink y.sink text
      → y ≡ record x { sink = y.sink; count = one_more x.count } → AddsRows written volume x (seen ∷ []) y
  one_added volume x y seen text is writes rest = record {
    text = text;
    are = one_text (IsEventText volume x.is_json) (x.count == 0) seen text is;
    added = writes;
    counted = ap (λ (h : HistoryText K). h.count) rest;
    json = ap (λ (h : HistoryText K). h.is_json) rest;
    begun = ap (λ (h : HistoryText K). h.is_begun) rest;
  }

  pub more_added : (volume : Option ℕ) (x y z : HistoryText K) (these others : List Seen) → AddsRows written volume x these y
      → AddsRows written volume y others z → AddsRows written volume x (these ++ others) z
  more_added volume x y z these others one other = record {
    text = one.text ++ other.text;
    are = texts_joined (IsEventText volume x.is_json) (x.count == 0) these others one.text other.text one.are
        (subst (λ j. AreTexts (IsEventText volume j) (first_after (x.count == 0) these) others other.text) one.json
        (subst (λ b. AreTexts (IsEventText volume y.is_json) b others other.text)
        (ap (λ n. n == 0) one.counted ∙ is_none these x.count) other.are));
    added = more_written written x.sink y.sink z.sink one.text other.text one.added other.added;
    counted = other.counted ∙ ap (more_for others) one.counted ∙ counted_joined these others x.count;
    json = other.json ∙ one.json;
    begun = other.begun ∙ one.begun;
  }

  -- a row whose event is not asked for
  pub row_passed : (p q : PrintedHistory) (x : HistoryText K) (r : Row) (o : Option Event)
      → is_printed p.asked.now x.is_json p.is_there o ≡ false → q.is_there ≡ there_next p.asked.now.numbers.items p.is_there o
      → IsOfTheSame p q → q.watch ≡ p.watch → q.missing.rest.items ≡ p.missing.rest.items → PrintsRow written p x r o q x
  row_passed p q x r o passed there same watch left = record {
    added = subst (λ b. AddsRows written p.volume x (only b (r, o)) x) (sym passed) (none_added p.volume x);
    there = there;
    same = same;
    watch = watch;
    met = left ∙ ap (λ b. unmet p.missing.rest.items (deeds_in (only b (r, o)))) (sym passed);
  }

  -- one whose event is
  pub row_printed : (p q : PrintedHistory) (x y : HistoryText K) (r : Row) (o : Option Event) (text : List ℕ)
      → is_printed p.asked.now x.is_json p.is_there o ≡ true → IsEventText p.volume x.is_json (x.count == 0) (r, o) text
      → Writes written x.sink y.sink text → y ≡ record x { sink = y.sink; count = one_more x.count }
      → q.is_there ≡ there_next p.asked.now.numbers.items p.is_there o → IsOfTheSame p q → q.watch ≡ p.watch
      → q.missing.rest.items ≡ unmet p.missing.rest.items (deeds_in ((r, o) ∷ [])) → PrintsRow written p x r o q y
  row_printed p q x y r o text asked is writes rest there same watch left = record {
    added = subst (λ b. AddsRows written p.volume x (only b (r, o)) y) (sym asked)
        (one_added p.volume x y (r, o) text is writes rest);
    there = there;
    same = same;
    watch = watch;
    met = left ∙ ap (λ b. unmet p.missing.rest.items (deeds_in (only b (r, o)))) (sym asked);
  }

  -- ---- rows that are printed

  pub none_printed : (p : PrintedHistory) (x : HistoryText K) → PrintsRows written p x [] p x
  none_printed p x = record {
    told = [];
    tell = tt;
    added = none_added p.volume x;
    there = refl;
    same = same_still p;
    watched = λ before so_far. subst (Watches p.watch) (sym (append-nil before)) so_far;
    met = refl;
  }

  -- one row that was judged before it was printed
  pub one_printed : (p q : PrintedHistory) (x y : HistoryText K) (r : Row) (o : Option Event) → TellsRow r o
      → AddsRows written p.volume x (only (is_printed p.asked.now x.is_json p.is_there o) (r, o)) y
      → q.is_there ≡ there_next p.asked.now.numbers.items p.is_there o → IsOfTheSame p q
      → ((before : List Row) → Watches p.watch before → Watches q.watch (before ++ r ∷ []))
      → q.missing.rest.items ≡ unmet p.missing.rest.items (deeds_in (only (is_printed p.asked.now x.is_json p.is_there o) (r, o)))
      → PrintsRows written p x (r ∷ []) q y
  one_printed p q x y r o tells added there same watched met = record {
    told = o ∷ [];
    tell = (tells, tt);
    added = subst (λ seen. AddsRows written p.volume x seen y) (printed_one p.asked.now x.is_json p.is_there r o) added;
    there = there;
    same = same;
    watched = watched;
    met = met ∙ ap (λ seen. unmet p.missing.rest.items (deeds_in seen)) (printed_one p.asked.now x.is_json p.is_there r o);
  }

  pub more_printed : (p q r : PrintedHistory) (x y z : HistoryText K) (rows more : List Row) → PrintsRows written p x rows q y
      → PrintsRows written q y more r z → PrintsRows written p x (rows ++ more) r z
  more_printed p q r x y z rows more one other =
      let words = p.asked.now.numbers.items in
      let t = there_last words p.is_there one.told in
      let left = p.missing.rest.items in
      let here = printed p.asked.now x.is_json p.is_there rows one.told in
      let there = printed p.asked.now x.is_json t more other.told in
      let those : printed q.asked.now y.is_json q.is_there more other.told ≡ there =
      ap (λ (a : Bor HistoryAsked). printed a.now y.is_json q.is_there more other.told) one.same.asked
      ∙ ap (λ j. printed p.asked.now j q.is_there more other.told) one.added.json
      ∙ ap (λ b. printed p.asked.now x.is_json b more other.told) one.there in
      let behind : AddsRows written p.volume y (printed p.asked.now x.is_json t more other.told) z =
      subst (λ v. AddsRows written v y (printed p.asked.now x.is_json t more other.told) z) one.same.volume
      (subst (λ b. AddsRows written q.volume y (printed p.asked.now x.is_json b more other.told) z) one.there
      (subst (λ j. AddsRows written q.volume y (printed p.asked.now j q.is_there more other.told) z) one.added.json
      (subst (λ (a : Bor HistoryAsked). AddsRows written q.volume y (printed a.now y.is_json q.is_there more other.told) z) one.same.asked
      other.added))) in
      record {
        told = one.told ++ other.told;
        tell = tell_joined rows more one.told other.told one.tell other.tell;
        added = subst (λ seen. AddsRows written p.volume x seen z)
            (printed_joined p.asked.now x.is_json p.is_there rows more one.told other.told one.tell)
            (more_added p.volume x y z (printed p.asked.now x.is_json p.is_there rows one.told)
            (printed p.asked.now x.is_json t more other.told) one.added behind);
        there = other.there ∙ ap (λ (a : Bor HistoryAsked). there_last a.now.numbers.items q.is_there other.told) one.same.asked
            ∙ ap (λ b. there_last words b other.told) one.there ∙ there_joined words p.is_there one.told other.told;
        same = same_on p q r one.same other.same;
        watched = λ before so_far.
            subst (Watches r.watch) (append_assoc before rows more) (other.watched (before ++ rows) (one.watched before so_far));
        met = other.met ∙ ap (λ seen. unmet q.missing.rest.items (deeds_in seen)) those ∙ ap (λ ws. unmet ws (deeds_in there)) one.met
            ∙ unmet_joined left (deeds_in here) (deeds_in there) ∙ ap (unmet left) (sym (deeds_joined here there))
            ∙ ap (λ seen. unmet left (deeds_in seen)) (printed_joined p.asked.now x.is_json p.is_there rows more one.told other.told one.tell);
      }

  -- the rows of a page: none, one more, and all
  pub page_none : (p : PrintedHistory) (x : HistoryText K) (page : List EventRow)
      → PrintsRows written p x (map event_of (take 0 page)) p x
  page_none p x page = none_printed p x

  pub page_more : (p q r : PrintedHistory) (x y z : HistoryText K) (page : List EventRow) (i : ℕ) (d : EventRow) → i < length page
      → PrintsRows written p x (map event_of (take i page)) q y → PrintsRows written q y (event_of (get_or page i d) ∷ []) r z
      → PrintsRows written p x (map event_of (take (i + 1) page)) r z
  page_more p q r x y z page i d low one other =
      more_of_page (λ rows. PrintsRows written p x rows r z) event_of [] page i d low
      (more_printed p q r x y z (map event_of (take i page)) (event_of (get_or page i d) ∷ []) one other)

  pub page_all : (p q : PrintedHistory) (x y : HistoryText K) (page : List EventRow) (i : ℕ) → length page ≤ i
      → PrintsRows written p x (map event_of (take i page)) q y → PrintsRows written p x (map event_of page) q y
  page_all p q x y page i all so_far = all_of_page (λ rows. PrintsRows written p x rows q y) event_of [] page i all so_far

  -- ---- a whole history

  pub history_added : (volume : Option ℕ) (asked : HistoryAsked) (p q : PrintedHistory) (x y z : HistoryText K) (rows : List Row)
      → Begins written x y → p.asked.now ≡ asked → p.volume ≡ volume → p.is_there ≡ false → PrintsRows written p y rows q z
      → AddsHistory written volume asked x rows z
  history_added volume asked p q x y z rows begins own number there prints =
      let added : AddsRows written volume y (printed asked x.is_json false rows prints.told) z =
      subst (λ v. AddsRows written v y (printed asked x.is_json false rows prints.told) z) number
      (subst (λ b. AddsRows written p.volume y (printed asked x.is_json b rows prints.told) z) there
      (subst (λ j. AddsRows written p.volume y (printed asked j p.is_there rows prints.told) z) begins.json
      (subst (λ a. AddsRows written p.volume y (printed a y.is_json p.is_there rows prints.told) z) own prints.added))) in
      record {
        told = prints.told;
        tell = prints.tell;
        text = added.text;
        are = subst (λ n. AreTexts (IsEventText volume x.is_json) (n == 0) (printed asked x.is_json false rows prints.told) added.text)
            begins.counted
            (subst (λ j. AreTexts (IsEventText volume j) (y.count == 0) (printed asked x.is_json false rows prints.told) added.text)
            begins.json added.are);
        added = more_written written x.sink y.sink z.sink (head_in x) added.text begins.added added.added;
        counted = added.counted ∙ ap (more_for (printed asked x.is_json false rows prints.told)) begins.counted;
        json = added.json ∙ begins.json;
        begun = added.begun ∙ begins.begun;
      }

  pub history_met : (asked : HistoryAsked) (p q : PrintedHistory) (x y z : HistoryText K) (rows : List Row) → Begins written x y
      → p.asked.now ≡ asked → p.is_there ≡ false → p.missing.rest.items ≡ asked.numbers.items → PrintsRows written p y rows q z
      → LeavesUnmet asked x.is_json rows q.missing.rest.items
  history_met asked p q x y z rows begins own there typed prints =
      let those : printed p.asked.now y.is_json p.is_there rows prints.told ≡ printed asked x.is_json false rows prints.told =
      ap (λ a. printed a y.is_json p.is_there rows prints.told) own ∙ ap (λ j. printed asked j p.is_there rows prints.told) begins.json
      ∙ ap (λ b. printed asked x.is_json b rows prints.told) there in
      record {
        told = prints.told;
        tell = prints.tell;
        are = prints.met ∙ ap (λ seen. unmet p.missing.rest.items (deeds_in seen)) those
            ∙ ap (λ ws. unmet ws (deeds_in (printed asked x.is_json false rows prints.told))) typed;
      }

  pub all_ended : (x y : HistoryText K) (after : K) → Begins written x y → Writes written y.sink after (end_of y.is_json)
      → Ends written x after
  all_ended x y after begins ends =
      more_written written x.sink y.sink after (head_in x) (end_of x.is_json) begins.added
      (subst (λ j. Writes written y.sink after (end_of j)) begins.json ends)

  -- the history of one store between one head and one end
  pub history_written : (volume : Option ℕ) (asked : HistoryAsked) (before : K) (x y : HistoryText K) (after : K) (rows : List Row)
      → IsNew asked.is_json before x → AddsHistory written volume asked x rows y → Ends written y after
      → WritesHistory written volume asked before rows after
  history_written volume asked before x y after rows new adds ends =
      let heads : head_in x ≡ head_of asked.is_json = ap (λ b. head_unless b x.is_json) new.begun ∙ ap head_of new.json in
      let tails : head_in y ++ end_of y.is_json ≡ end_of asked.is_json =
      ap (λ b. head_unless b y.is_json ++ end_of y.is_json) adds.begun ∙ ap end_of (adds.json ∙ new.json) in
      let all : Writes written before after ((head_in x ++ adds.text) ++ (head_in y ++ end_of y.is_json)) =
      subst (λ (k : K). Writes written k after ((head_in x ++ adds.text) ++ (head_in y ++ end_of y.is_json))) new.sink_is
      (more_written written x.sink y.sink after (head_in x ++ adds.text) (head_in y ++ end_of y.is_json) adds.added ends) in
      record {
        told = adds.told;
        tell = adds.tell;
        text = adds.text;
        are = subst (λ j. AreTexts (IsEventText volume j) true (printed asked j false rows adds.told) adds.text) new.json
            (subst (λ b. AreTexts (IsEventText volume x.is_json) b (printed asked x.is_json false rows adds.told) adds.text)
            (ap (λ n. n == 0) new.count) adds.are);
        writes = subst (Writes written before after)
            (ap₂ (λ (h : List ℕ) (e : List ℕ). (h ++ adds.text) ++ e) heads tails) all;
      }
