-- What is done in the transaction of a change, beside the change.
use Rattle.sqlite.specs.Effect.{Database, IsDatabase}
use Rattle.record_tables.specs.Rows.{Tables, Stores, AreKeyed}
use Rattle.record_tables.specs.Changes.{RestBeside, Turns}

-- What a companion makes of a database that a change has made of an older one. Where the older one had what the companion
-- needs, and the change has left the tables of other names alone, the archive's tables rest, and this is brought about
-- between the older database and the last.
pub record Accompanies (Needs : Database → Type 0) (Brings : Database → Database → Type 0) (mid new : Database) : Type 0 where
  pub stored : (old : Database) (t : Tables) → Needs old → RestBeside old mid → Stores mid t → Stores new t
  pub sound : (old : Database) (t : Tables) → Needs old → RestBeside old mid → Stores mid t → IsDatabase mid → IsDatabase new
  pub brought : (old : Database) (t : Tables) → Needs old → RestBeside old mid → Stores mid t → Brings old new

-- a change is made, and its companion after it
abbrev pub MakesBoth : (Makes : Database → Database → Type 0) → (Needs : Database → Type 0) →
    (Brings : Database → Database → Type 0) → (old new : Database) → Type 0
MakesBoth Makes Needs Brings old new = (mid : Database) × Makes old mid × Accompanies Needs Brings mid new

-- where there is what the companion needs, the archive's tables are changed, and what the companion brings is brought about
pub record TurnsBoth (old new : Database) (Allows : Tables → Type 0) (change : Tables → Tables) (Needs : Database → Type 0)
    (Brings : Database → Database → Type 0) : Type 0 where
  pub turns : Needs old → Turns old new Allows change
  pub brought : Needs old → (t : Tables) → Stores old t → AreKeyed t → Allows t → Brings old new
