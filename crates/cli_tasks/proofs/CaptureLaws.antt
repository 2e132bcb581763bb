-- Messages that are captured, by what the calls for it say.
use Rattle.std.specs.Prelude.{IfOk, MatchResult, OnOk}
use Rattle.std.specs.declared.prelude.LibcRuntime.{LibcRuntime}
use Rattle.std.proofs.Common.{◌≡◌, Bool, true, List, ℕ, Option, Result, Ok, Err, is_ok, subst, sym}
use Rattle.sqlite.specs.Store.{Ghosts}
use Rattle.sqlite.specs.Held.{Held}
use Rattle.desk_commands.specs.Limits.{greatest_message}
use Rattle.desk_commands.specs.Payloads.{IsOf}
use Rattle.desk_commands.specs.declared.payload.Payload.{Payload}
use Rattle.record_history.specs.declared.events.Filing.{Filing}
use Rattle.record_ledger.specs.Ledgers.{keeper_of, store_of}
use Rattle.record_ledger.specs.declared.ledger.Ledger.{Ledger}
use Rattle.record_store.specs.declared.store.Store.{Store}
use Rattle.cli_console.specs.declared.failure.Failure.{Failure}
use Rattle.cli_history.specs.Authors.{IsOccasionOf}
use Rattle.cli_history.specs.Openings.{OpensFor}
use Rattle.cli_history.specs.declared.author.Author.{Author}
use Rattle.cli_history.specs.declared.opening.Purpose.TheVariants.{Capturing}
use Rattle.cli_history.specs.declared.seals.Seals.{Seals}
use Rattle.cli_changes.specs.Deliveries.{IsDeliveredAt}
use Rattle.cli_changes.specs.declared.deliver.Delivered.{Delivered}
use Rattle.cli_changes.specs.declared.moments.Timing.{Timing}
use Rattle.cli_changes.specs.declared.rules.FilingRules.{FilingRules}
use Rattle.cli_tasks.specs.Days.{volumes_before}
use Rattle.cli_tasks.specs.Deliveries.{Delivers, IsTimedBy}
use Rattle.cli_tasks.specs.Places.{path_at}
use Rattle.cli_tasks.specs.Works.{IsDone}

-- what is so of each success is so where it is asked for
pub where_asked : {X Y : Type 0} (A P : Type 0) (Q : Y → Type 0) (r : Result X Y) → MatchResult r (λ x. P) Q → OnOk r (A → P)
where_asked A P Q (Ok x) m = λ asked. m
where_asked A P Q (Err y) m = tt

-- what follows from something that is tested is so where a call succeeds exactly by that test
pub ends_well_by : {X F : Type 0} {P : Type 0} (r : Result X F) (b : Bool) → is_ok r ≡ b → (b ≡ true → P) → OnOk r P
ends_well_by (Ok x) b is p = p (sym is)
ends_well_by (Err failure) b is p = tt

-- what was told of an archive that was lent, where it is taken
pub told_in : {S X F G : Type 0} (WasThere : Store S → Type 0) (Made : Store S → X → Held S → Type 0) (done : Result (Result X F) G)
    (told : Result X F) → done ≡ Ok told → IsDone WasThere (λ before after. IfOk done (λ t. IfOk t (λ x. Made before x after)))
    → IfOk told (λ x. IsDone WasThere (λ before after. Made before x after))
told_in WasThere Made done (Ok x) is d = record {
  before = d.before;
  after = d.after;
  was_there = d.was_there;
  made = subst (λ r. IfOk r (λ t. IfOk t (λ y. Made d.before y d.after))) is d.made;
}
told_in WasThere Made done (Err failure) is d = tt

-- a message was delivered in a ledger that was opened for it
pub delivered_by : {S T : Type 0} (h : Ghosts T) (IsAt : (path : List ℕ) → Store T → Type 0) (g : Ghosts S) (folder : List ℕ) (last : ℕ)
    (author : Author) (rules : FilingRules) (known timing : Timing) (message : Payload) (before : Store S) (seals : Seals)
    (filing : Option Filing) (old new : Ledger S LibcRuntime) (r : Result Delivered Failure) (after : Held S)
    → IsTimedBy h IsAt folder last before.next known timing → OpensFor g Capturing author before seals old.kept
    → IsOccasionOf author filing old.occasion → after ≡ (store_of new.kept).conn
    → IfOk r (λ d. (octets : List ℕ) → IsOf greatest_message message octets
    → IsDeliveredAt (keeper_of g) timing rules old octets d.outcome new)
    → IfOk r (λ d. Delivers h IsAt g folder last author rules known message before d after)
delivered_by h IsAt g folder last author rules known timing message before seals filing old new (Ok d) after timed opens occasion left done = record {
  timing = timing;
  timed = timed;
  delivered = record {
    seals = seals;
    filing = filing;
    old = old;
    new = new;
    opens = opens;
    occasion = occasion;
    made = done;
    left = left;
  };
}
delivered_by h IsAt g folder last author rules known timing message before seals filing old new (Err failure) after timed opens occasion left done =
    tt

-- a message was delivered at the path that is meant, timed by the volumes that are meant
pub delivered_at : {X S : Type 0} (g : Ghosts S) (IsAt : X → (path : List ℕ) → Store S → Type 0) (kept earlier : X)
    (path store folder : List ℕ) (volume : Option ℕ) (last : ℕ) (author : Author) (rules : FilingRules) (known : Timing) (message : Payload)
    (d : Delivered) → earlier ≡ kept → folder ≡ store → last ≡ volumes_before volume → path ≡ path_at store volume
    → IsDone (IsAt kept path) (λ before after. Delivers g (IsAt earlier) g folder last author rules known message before d after)
    → IsDone (IsAt kept (path_at store volume)) (λ before after.
    Delivers g (IsAt kept) g store (volumes_before volume) author rules known message before d after)
delivered_at g IsAt kept earlier path store folder volume last author rules known message d at is before there done =
    subst (λ (p : List ℕ). IsDone (IsAt kept p) (λ x y.
    Delivers g (IsAt kept) g store (volumes_before volume) author rules known message x d y)) there
    (subst (λ (n : ℕ). IsDone (IsAt kept path) (λ x y. Delivers g (IsAt kept) g store n author rules known message x d y)) before
    (subst (λ (f : List ℕ). IsDone (IsAt kept path) (λ x y. Delivers g (IsAt kept) g f last author rules known message x d y)) is
    (subst (λ a. IsDone (IsAt kept path) (λ x y. Delivers g (IsAt a) g folder last author rules known message x d y)) at done)))
