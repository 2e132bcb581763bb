-- What the rows of a history tell, a row at a time and a page at a time.
use Rattle.std.proofs.Common.{◌≡◌, ◌+◌, ◌<◌, ◌≤◌, ◌^◌, ◌++◌, ◌∷◌, ◌∙◌, [], ℕ, List, Option, Some, None, true, false, option_map, map, take}
use Rattle.std.proofs.Common.{get_or, length, refl, ap, sym}
use Rattle.record_tables.specs.Events.{Event as Row}
use Rattle.record_reads.specs.Events.{event_of}
use Rattle.record_reads.specs.declared.events.EventRow.{EventRow}
use Rattle.record_history.specs.Events.{Deed, Event}
use Rattle.record_history.specs.Lines.{line_of}
use Rattle.record_history.specs.Readable.{IsReadable}
use Rattle.record_history.specs.Reading.{Fails}
use Rattle.record_history.specs.declared.faults.LineFault.{LineFault}
use Rattle.record_history.specs.declared.faults.LineFault.TheVariants.{NotALine, NoMemory}
use Rattle.cli_console.specs.declared.failure.Failure.{Failure}
use Rattle.record_history.specs.Titles.{Title, last_title, title_given}
use Rattle.cli_history.specs.Seals.{known, later, sealed_by}
use Rattle.cli_history.specs.Tellings.{AreTold, TakesRow, TellEach, TellsRow, is_told_as_bad, seal_told, sealed_among, title_told, titled_among}
use Rattle.cli_history.specs.Titles.{Path, title_of}
use Rattle.cli_history.specs.declared.seals.Seals.{Seals}
use Rattle.cli_history.proofs.ReplayLemmas.{later_none, later_thrice}
use Rattle.cli_history.proofs.WalkLemmas.{all_of_page, more_of_page, none_of_page}

pub tell_more : (rows : List Row) (told : List (Option Event)) (r : Row) (o : Option Event) → TellEach rows told → TellsRow r o
    → TellEach (rows ++ r ∷ []) (told ++ o ∷ [])
tell_more [] [] r o tell is = (is, tt)
tell_more (q ∷ rows) (p ∷ told) r o tell is = (tell.0, tell_more rows told r o tell.1 is)
tell_more [] (p ∷ told) r o tell is = absurd tell
tell_more (q ∷ rows) [] r o tell is = absurd tell

pub sealed_more : (rows : List Row) (told : List (Option Event)) (r : Row) (o : Option Event) → TellEach rows told → (message : ℕ)
    → sealed_among (rows ++ r ∷ []) (told ++ o ∷ []) message ≡ later (seal_told r o message) (sealed_among rows told message)
sealed_more [] [] r o tell message = later_none (seal_told r o message)
sealed_more (q ∷ rows) (p ∷ told) r o tell message =
    ap (λ x. later x (seal_told q p message)) (sealed_more rows told r o tell.1 message)
    ∙ later_thrice (seal_told r o message) (sealed_among rows told message) (seal_told q p message)
sealed_more [] (p ∷ told) r o tell message = absurd tell
sealed_more (q ∷ rows) [] r o tell message = absurd tell

last_none : (t : Option Title) → t ≡ last_title None t
last_none None = refl
last_none (Some x) = refl

last_thrice : (a b c : Option Title) → last_title a (last_title b c) ≡ last_title (last_title a b) c
last_thrice a b None = refl
last_thrice a b (Some x) = refl

titled_more : (path : List ℕ) (told : List (Option Event)) (o : Option Event)
    → titled_among path (told ++ o ∷ []) ≡ last_title (titled_among path told) (title_told path o)
titled_more path [] o = last_none (title_told path o)
titled_more path (p ∷ told) o =
    ap (last_title (title_told path p)) (titled_more path told o)
    ∙ last_thrice (title_told path p) (titled_among path told) (title_told path o)

-- an event with its number, as it is read
abbrev pub read_as : ℕ → Event → Option (ℕ × Event)
read_as n e = Some (n, e)

number_read : (m n : ℕ) (f e : Event) → read_as m f ≡ read_as n e → m ≡ n
number_read m n f e same = ap (λ (o : Option (ℕ × Event)). first_of m o) same
  where
    first_of : ℕ → Option (ℕ × Event) → ℕ
    first_of k None = k
    first_of k (Some x) = x.0

some_none : (m : ℕ) (f : Event) → read_as m f ≡ None → ⊥
some_none m f same = absurd cc

pub none_told : (s : Seals) → ((message : ℕ) → known s message ≡ None) → ((path : Path) → title_of s.titles path ≡ None) → AreTold s []
none_told s seals titles = record { told = []; tell = tt; seals = seals; titles = titles }

-- ---- what a line tells

-- it is read as the line of an event under the row's number
pub read_here : (row : EventRow) (n : ℕ) (e : Event) → row.line.items ≡ line_of n e → IsReadable e → n ≡ row.number
    → TellsRow (event_of row) (Some e)
read_here row n e is readable same = (is ∙ ap (λ k. line_of k e) same, readable)

-- it is read as that of an event under another number
pub read_elsewhere : (row : EventRow) (n : ℕ) (e : Event) → ((m : ℕ) (f : Event) → m < 2 ^ 64 → IsReadable f → row.line.items ≡ line_of m f
    → read_as m f ≡ read_as n e) → (n ≡ row.number → ⊥) → row.number < 2 ^ 64 → TellsRow (event_of row) None
read_elsewhere row n e only other low = λ f readable is. other (sym (number_read row.number n f e (only row.number f low readable is)))

-- it is not read
pub not_read : (row : EventRow) → ((m : ℕ) (f : Event) → m < 2 ^ 64 → IsReadable f → row.line.items ≡ line_of m f → read_as m f ≡ None)
    → row.number < 2 ^ 64 → TellsRow (event_of row) None
not_read row only low = λ f readable is. some_none row.number f (only row.number f low readable is)

-- the same, where the failure is bad data: memory did not run out
pub not_read_or_no_memory : (row : EventRow) (fault : LineFault) (failure : Failure) → ((m : ℕ) (f : Event) → m < 2 ^ 64 → IsReadable f
    → row.line.items ≡ line_of m f → Fails fault (read_as m f)) → (Some fault ≡ Some NoMemory → is_told_as_bad failure ≡ false)
    → row.number < 2 ^ 64 → is_told_as_bad failure ≡ true → TellsRow (event_of row) None
not_read_or_no_memory row NotALine failure only memory low bad = not_read row only low
not_read_or_no_memory row NoMemory failure only memory low bad = absurd (let e = sym (memory refl) ∙ bad in cc)

-- the row tells a deed, which is taken
pub takes_some : (r : Row) (old new : Seals) (deed : Deed) (o : Option Event) → TellsRow r o → Some deed ≡ option_map (λ (e : Event). e.deed) o
    → ((n : ℕ) → known new n ≡ later (sealed_by r.number deed n) (known old n))
    → ((p : Path) → title_of new.titles p ≡ last_title (title_of old.titles p) (title_given p.items deed)) → TakesRow r old new
takes_some r old new deed None tells same seals titles = absurd cc
takes_some r old new deed (Some e) tells same seals titles =
    let own : deed ≡ e.deed = cc in
    record {
      told = Some e;
      tells = tells;
      seals = λ n. seals n ∙ ap (λ (d : Deed). later (sealed_by r.number d n) (known old n)) own;
      titles = λ p. titles p ∙ ap (λ (d : Deed). last_title (title_of old.titles p) (title_given p.items d)) own;
    }

-- it tells none
pub takes_none : (r : Row) (s : Seals) (o : Option Event) → TellsRow r o → None ≡ option_map (λ (e : Event). e.deed) o → TakesRow r s s
takes_none r s None tells same = record { told = None; tells = tells; seals = λ n. refl; titles = λ p. refl }
takes_none r s (Some e) tells same = absurd cc

-- ONE ROW MORE
pub told_more : (r : Row) (old new : Seals) (rows : List Row) → AreTold old rows → TakesRow r old new → AreTold new (rows ++ r ∷ [])
told_more r old new rows so_far takes = record {
  told = so_far.told ++ takes.told ∷ [];
  tell = tell_more rows so_far.told r takes.told so_far.tell takes.tells;
  seals = λ message.
      takes.seals message ∙ ap (later (seal_told r takes.told message)) (so_far.seals message)
      ∙ sym (sealed_more rows so_far.told r takes.told so_far.tell message);
  titles = λ path.
      takes.titles path ∙ ap (λ t. last_title t (title_told path.items takes.told)) (so_far.titles path)
      ∙ sym (titled_more path.items so_far.told takes.told);
}

-- ---- the rows of a page

pub told_none : (s : Seals) (rows : List Row) (page : List EventRow) → AreTold s rows → AreTold s (rows ++ map event_of (take 0 page))
told_none s rows page so_far = none_of_page (AreTold s) event_of rows page so_far

pub told_page : (old new : Seals) (rows : List Row) (page : List EventRow) (i : ℕ) (d : EventRow) → i < length page
    → AreTold old (rows ++ map event_of (take i page)) → TakesRow (event_of (get_or page i d)) old new
    → AreTold new (rows ++ map event_of (take (i + 1) page))
told_page old new rows page i d low so_far takes =
    more_of_page (AreTold new) event_of rows page i d low
    (told_more (event_of (get_or page i d)) old new (rows ++ map event_of (take i page)) so_far takes)

pub told_whole : (s : Seals) (rows : List Row) (page : List EventRow) (i : ℕ) → length page ≤ i → AreTold s (rows ++ map event_of (take i page))
    → AreTold s (rows ++ map event_of page)
told_whole s rows page i all so_far = all_of_page (AreTold s) event_of rows page i all so_far

pub ruleset page_laws = (told_none, told_page, told_whole)
