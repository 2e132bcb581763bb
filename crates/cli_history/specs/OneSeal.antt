-- The seal of one message, which is found in a history without reading each of its events.
use Rattle.std.specs.Prelude.{◌≡◌, ℕ, ◌++◌, ◌==◌, ◌||◌, Bool, nat_eq, List, Option, Some, None, codes, decimal, string_bytes}
use Rattle.std.specs.Borrow.{Bor}
use Rattle.std.specs.List.{after_first, starts_with}
use Rattle.sqlite.specs.Store.{Ghosts}
use Rattle.record_tables.specs.Events.{Event as Row}
use Rattle.record_history.specs.Events.{Event, Seal}
use Rattle.record_noted.specs.Histories.{rows_of}
use Rattle.record_store.specs.declared.store.Store.{Store}
use Rattle.cli_history.specs.Seals.{known, later}
use Rattle.cli_history.specs.Tellings.{TellEach, TellsRow, seal_told, sealed_among}
use Rattle.cli_history.specs.Walks.{KeepsLinesIn}
use Rattle.cli_history.specs.declared.seals.Beginnings.{Beginnings}
use Rattle.cli_history.specs.declared.seals.Seals.{Seals}

-- THE DEEDS BEGIN SO that tell the seal of the message with a number
pub record AreBeginnings (message : ℕ) (b : Beginnings) : Type 0 where
  pub captured : string_bytes b.captured ≡ codes "captured " ++ decimal message ++ codes " "
  pub found : string_bytes b.found ≡ codes "found message " ++ decimal message ++ codes " "

-- what follows the first blank of a text
abbrev pub behind_blank : List ℕ → List ℕ
behind_blank text = after_first (λ o. o == 32) text

-- the deed of a line begins so, which stands behind three words
abbrev pub begins_for : Beginnings → (line : List ℕ) → Bool
begins_for b line =
    let deed = behind_blank (behind_blank (behind_blank line)) in
    starts_with nat_eq deed (string_bytes b.captured) || starts_with nat_eq deed (string_bytes b.found)

-- what is read of a history is enough for a message: all events, or those whose deeds begin as the ones that tell its seal
abbrev pub IsEnoughFor : (message : ℕ) → Option (Bor Beginnings) → Type 0
IsEnoughFor message None = Unit {0}
IsEnoughFor message (Some b) = AreBeginnings message b.now

-- a row tells no seal of a message, whatever event it tells
abbrev pub TellsNoSeal : (message : ℕ) → Row → Type 0
TellsNoSeal message r = (told : Option Event) → TellsRow r told → seal_told r told message ≡ None

-- the seal of a message after a row is the one that the row tells, whatever event that is, or else the one from before
abbrev pub TakesSeal : (message : ℕ) → Row → (old new : Seals) → Type 0
TakesSeal message r old new = (told : Option Event) → TellsRow r told → known new message ≡ later (seal_told r told message) (known old message)

-- THE SEAL OF A MESSAGE IS THAT OF A HISTORY: of the events that its rows tell the last one counts that tells a seal of the message
abbrev pub IsSealIn : (message : ℕ) → Seals → List Row → Type 0
IsSealIn message s rows = (told : List (Option Event)) → TellEach rows told → known s message ≡ sealed_among rows told message

-- THE HISTORY OF A STORE TELLS THIS SEAL of a message last, or none
abbrev pub TellsLast : {S : Type 0} → Ghosts S → Store S → (message : ℕ) → Option (Seal × ℕ) → Type 0
TellsLast g store message last = (ls : List (List ℕ)) → KeepsLinesIn g store ls → (told : List (Option Event)) → TellEach (rows_of ls) told
    → last ≡ sealed_among (rows_of ls) told message
