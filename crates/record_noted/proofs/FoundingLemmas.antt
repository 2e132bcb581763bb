-- A history begins with events.
use Rattle.std.proofs.Common.{[], List}
use Rattle.sqlite.specs.Effect.{Database}
use Rattle.record_tables.specs.Companions.{Accompanies}
use Rattle.record_tables.specs.Events.{Event, StoresEvents}
use Rattle.record_noted.specs.Rows.{AreInOrder, Awaits, NotesEvents}
use Rattle.record_noted.proofs.RowLemmas.{rest_itself}

-- the table of events is created, and these are added to it
pub founded : (mid now new : Database) (all : List Event) → Accompanies (λ db. Unit {0}) (λ was db. StoresEvents db []) mid now
    → Accompanies (Awaits all) (NotesEvents all) now new → Accompanies (λ db. AreInOrder all) (λ was db. StoresEvents db all) mid new
founded mid now new all begun added = record {
  stored = λ old t order rest s.
      added.stored now t ([], begun.brought old t tt rest s, order) (rest_itself now) (begun.stored old t tt rest s);
  sound = λ old t order rest s sound.
      added.sound now t ([], begun.brought old t tt rest s, order) (rest_itself now) (begun.stored old t tt rest s)
      (begun.sound old t tt rest s sound);
  brought = λ old t order rest s.
      let has = begun.brought old t tt rest s in
      added.brought now t ([], has, order) (rest_itself now) (begun.stored old t tt rest s) [] has order;
}
