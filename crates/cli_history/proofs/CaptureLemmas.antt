-- What the rows of a history tell was captured for an officer, a row at a time and a page at a time.
use Rattle.std.proofs.Common.{◌≡◌, ◌+◌, ◌<◌, ◌≤◌, ◌++◌, ◌∷◌, ◌∙◌, [], ℕ, List, Option, Some, None, option_map, map, take, get_or, length}
use Rattle.std.proofs.Common.{refl, ap, sym}
use Rattle.record_tables.specs.Events.{Event as Row}
use Rattle.record_reads.specs.Events.{event_of}
use Rattle.record_reads.specs.declared.events.EventRow.{EventRow}
use Rattle.record_history.specs.Events.{Deed, Event}
use Rattle.record_known.specs.Known.{Key, captured_for, later, record_of}
use Rattle.record_known.specs.declared.known.Known.{Known}
use Rattle.cli_history.specs.Captures.{AreCaptured, TakesCapture, captured_among, captured_told}
use Rattle.cli_history.specs.Tellings.{TellsRow}
use Rattle.cli_history.proofs.TellingLemmas.{tell_more}
use Rattle.cli_history.proofs.WalkLemmas.{all_of_page, more_of_page, none_of_page}

later_none : {X : Type 0} (a : Option X) → a ≡ later a None
later_none (Some x) = refl
later_none None = refl

later_thrice : {X : Type 0} (a b c : Option X) → later (later a b) c ≡ later a (later b c)
later_thrice (Some x) b c = refl
later_thrice None b c = refl

captured_more : (officer : List ℕ) (told : List (Option Event)) (o : Option Event) (k : Key)
    → captured_among officer (told ++ o ∷ []) k ≡ later (captured_told officer o k) (captured_among officer told k)
captured_more officer [] o k = later_none (captured_told officer o k)
captured_more officer (p ∷ told) o k =
    ap (λ x. later x (captured_told officer p k)) (captured_more officer told o k)
    ∙ later_thrice (captured_told officer o k) (captured_among officer told k) (captured_told officer p k)

pub none_captured : (officer : List ℕ) (known : Known) → ((k : Key) → record_of known k ≡ None) → AreCaptured officer known []
none_captured officer known none = record { told = []; tell = tt; records = none }

-- the row tells a deed, which is taken
pub captures_some : (officer : List ℕ) (r : Row) (old new : Known) (deed : Deed) (o : Option Event) → TellsRow r o
    → Some deed ≡ option_map (λ (e : Event). e.deed) o
    → ((k : Key) → record_of new k ≡ later (captured_for officer deed k) (record_of old k)) → TakesCapture officer r old new
captures_some officer r old new deed None tells same records = absurd cc
captures_some officer r old new deed (Some e) tells same records =
    let own : deed ≡ e.deed = cc in
    record {
      told = Some e;
      tells = tells;
      records = λ k. records k ∙ ap (λ (d : Deed). later (captured_for officer d k) (record_of old k)) own;
    }

-- it tells none
pub captures_none : (officer : List ℕ) (r : Row) (known : Known) (o : Option Event) → TellsRow r o → None ≡ option_map (λ (e : Event). e.deed) o
    → TakesCapture officer r known known
captures_none officer r known None tells same = record { told = None; tells = tells; records = λ k. refl }
captures_none officer r known (Some e) tells same = absurd cc

-- ONE ROW MORE
captured_row : (officer : List ℕ) (r : Row) (old new : Known) (rows : List Row) → AreCaptured officer old rows → TakesCapture officer r old new
    → AreCaptured officer new (rows ++ r ∷ [])
captured_row officer r old new rows so_far takes = record {
  told = so_far.told ++ takes.told ∷ [];
  tell = tell_more rows so_far.told r takes.told so_far.tell takes.tells;
  records = λ k.
      takes.records k ∙ ap (later (captured_told officer takes.told k)) (so_far.records k) ∙ sym (captured_more officer so_far.told takes.told k);
}

-- ---- the rows of a page

pub captured_start : (officer : List ℕ) (known : Known) (rows : List Row) (page : List EventRow) → AreCaptured officer known rows
    → AreCaptured officer known (rows ++ map event_of (take 0 page))
captured_start officer known rows page so_far = none_of_page (AreCaptured officer known) event_of rows page so_far

pub captured_page : (officer : List ℕ) (old new : Known) (rows : List Row) (page : List EventRow) (i : ℕ) (d : EventRow) → i < length page
    → AreCaptured officer old (rows ++ map event_of (take i page)) → TakesCapture officer (event_of (get_or page i d)) old new
    → AreCaptured officer new (rows ++ map event_of (take (i + 1) page))
captured_page officer old new rows page i d low so_far takes =
    more_of_page (AreCaptured officer new) event_of rows page i d low
    (captured_row officer (event_of (get_or page i d)) old new (rows ++ map event_of (take i page)) so_far takes)

pub captured_whole : (officer : List ℕ) (known : Known) (rows : List Row) (page : List EventRow) (i : ℕ) → length page ≤ i
    → AreCaptured officer known (rows ++ map event_of (take i page)) → AreCaptured officer known (rows ++ map event_of page)
captured_whole officer known rows page i all so_far = all_of_page (AreCaptured officer known) event_of rows page i all so_far

pub ruleset page_laws = (captured_start, captured_page, captured_whole)
