-- Which messages the rows of a history tell were captured for an officer.
use Rattle.std.specs.Prelude.{◌≡◌, ℕ, List, [], ◌∷◌, Option, Some, None}
use Rattle.record_tables.specs.Events.{Event as Row}
use Rattle.record_history.specs.Events.{Event}
use Rattle.record_known.specs.Known.{Key, captured_for, later, record_of}
use Rattle.record_known.specs.declared.known.Known.{Known}
use Rattle.cli_history.specs.Tellings.{TellEach, TellsRow}

-- the first record of a message with this seal, where an event captured it for the officer
abbrev pub captured_told : (officer : List ℕ) → Option Event → Key → Option ℕ
captured_told officer None k = None
captured_told officer (Some e) k = captured_for officer e.deed k

-- THE FIRST RECORD of a message with a seal as these events tell it: the last one that captured it for the officer counts
abbrev pub captured_among : (officer : List ℕ) → List (Option Event) → Key → Option ℕ
captured_among officer [] k = None
captured_among officer (o ∷ told) k = later (captured_among officer told k) (captured_told officer o k)

-- THE MESSAGES that are known are those that the rows tell were captured for the officer, and no others
pub record AreCaptured (officer : List ℕ) (known : Known) (rows : List Row) : Type 0 where
  pub told : List (Option Event)
  pub tell : TellEach rows told
  pub records : (k : Key) → record_of known k ≡ captured_among officer told k

-- the messages after a row are those from before, and the one that it tells was captured
pub record TakesCapture (officer : List ℕ) (r : Row) (old new : Known) : Type 0 where
  pub told : Option Event
  pub tells : TellsRow r told
  pub records : (k : Key) → record_of new k ≡ later (captured_told officer told k) (record_of old k)
