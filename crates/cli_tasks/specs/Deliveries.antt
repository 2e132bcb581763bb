-- What a delivery captures, where it ends well.
use Rattle.std.specs.Prelude.{◌≡◌, ℕ, Bool, true, false, List, Option, None}
use Rattle.std.specs.declared.prelude.LibcRuntime.{LibcRuntime}
use Rattle.sqlite.specs.Store.{Ghosts}
use Rattle.sqlite.specs.Held.{Held}
use Rattle.command_lines.specs.declared.archives.Filing.{Filing}
use Rattle.desk_commands.specs.Limits.{greatest_message}
use Rattle.desk_commands.specs.Payloads.{IsOf}
use Rattle.desk_commands.specs.declared.payload.Payload.{Payload}
use Rattle.record_history.specs.declared.events.Filing as noted
use Rattle.record_ledger.specs.Ledgers.{keeper_of, store_of}
use Rattle.record_ledger.specs.declared.ledger.Ledger.{Ledger}
use Rattle.record_store.specs.declared.store.Store.{Store}
use Rattle.cli_history.specs.Authors.{IsOccasionOf}
use Rattle.cli_history.specs.Openings.{OpensFor}
use Rattle.cli_history.specs.declared.author.Author.{Author}
use Rattle.cli_history.specs.declared.opening.Purpose.TheVariants.{Capturing}
use Rattle.cli_history.specs.declared.seals.Seals.{Seals}
use Rattle.cli_changes.specs.Deliveries.{IsDeliveredAt, is_captured, no_mail_in}
use Rattle.cli_changes.specs.Endings.{captures}
use Rattle.cli_changes.specs.declared.deliver.Delivered.{Delivered}
use Rattle.cli_changes.specs.declared.moments.Timing.{Timing}
use Rattle.cli_changes.specs.declared.rules.FilingRules.{FilingRules}
use Rattle.cli_tasks.specs.Days.{LooksBack, looks_back, volumes_before}
use Rattle.cli_tasks.specs.Places.{path_at}
use Rattle.cli_tasks.specs.Works.{IsDone}

-- AN AUTHOR CAPTURES MAIL in a store: its ledger is opened for that, this is made of it, and the connection of its store is what is left
pub record CapturesBy {S : Type 0} (g : Ghosts S) (author : Author) (before : Store S) (Made : (old new : Ledger S LibcRuntime) → Type 0)
    (after : Held S) : Type 0 where
  pub seals : Seals
  pub filing : Option noted.Filing
  pub old : Ledger S LibcRuntime
  pub new : Ledger S LibcRuntime
  pub opens : OpensFor g Capturing author before seals old.kept
  pub occasion : IsOccasionOf author filing old.occasion
  pub made : Made old new
  pub left : after ≡ (store_of new.kept).conn

module _ {T : Type 0} (h : Ghosts T) (IsAt : (path : List ℕ) → Store T → Type 0) where
  -- WHEN MAIL IS CAPTURED in a store with this next number: where that has no record, and no day is known, the clock is judged by the last day
  -- of the newest of the first volumes of a folder, up to this one, that has a record
  pub record IsTimedBy (folder : List ℕ) (last next : ℕ) (known timing : Timing) : Type 0 where
    pub back : looks_back next known ≡ true → LooksBack h IsAt folder last known timing
    pub same : looks_back next known ≡ false → timing ≡ known

  -- A MESSAGE IS DELIVERED to a store by an author and these rules, at a moment that is judged so, and this became of it
  pub record Delivers {S : Type 0} (g : Ghosts S) (folder : List ℕ) (last : ℕ) (author : Author) (rules : FilingRules) (known : Timing)
      (message : Payload) (before : Store S) (d : Delivered) (after : Held S) : Type 0 where
    pub timing : Timing
    pub timed : IsTimedBy folder last before.next known timing
    pub delivered : CapturesBy g author before (λ old new. (octets : List ℕ) → IsOf greatest_message message octets
        → IsDeliveredAt (keeper_of g) timing rules old octets d.outcome new) after

module _ {S : Type 0} (g : Ghosts S) (IsAt : (path : List ℕ) → Store S → Type 0) where
  -- A MESSAGE IS CAPTURED at a path, in no class where its rules discard it: in the store there, or in a volume of the archive there, by an
  -- author who is meant, at the moment and by the rules that are asked for. It looks like a message, unless it is captured as it is.
  pub record DeliversTo (store : List ℕ) (IsMeant : Author → Type 0) (asked : Filing) (is_as_is : Bool) : Type 0 where
    pub volume : Option ℕ
    pub author : Author
    pub is_meant : IsMeant author
    pub of_volume : author.volume ≡ volume
    pub rules : FilingRules
    pub on_fault : captures rules.on_fault ≡ asked.unfiled_on_fault
    pub known : Timing
    pub moment : known.asked ≡ asked.moment
    pub message : Payload
    pub is_mail : is_as_is ≡ false → no_mail_in message ≡ None
    pub became : Delivered
    pub captured : is_captured became.outcome ≡ true
    pub delivered : IsDone (IsAt (path_at store volume)) (λ before after.
        Delivers g IsAt g store (volumes_before volume) author rules known message before became after)
