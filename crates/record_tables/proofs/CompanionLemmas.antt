-- A change and its companion in one transaction.
use Rattle.std.proofs.Common.{refl}
use Rattle.sqlite.specs.Effect.{Database}
use Rattle.record_tables.specs.Rows.{Tables}
use Rattle.record_tables.specs.Changes.{Always, TurnsAlone}
use Rattle.record_tables.specs.Companions.{Accompanies, MakesBoth, TurnsBoth}

pub turns_both : (old new : Database) (Allows : Tables → Type 0) (change : Tables → Tables) (Needs : Database → Type 0)
    (Brings : Database → Database → Type 0) → MakesBoth (λ a b. TurnsAlone a b Allows change) Needs Brings old new
    → TurnsBoth old new Allows change Needs Brings
turns_both old new Allows change Needs Brings h =
    let mid = h.0 in
    let turns = h.1.turns in
    let rests = h.1.beside in
    let last = h.2 in
    record {
      turns = λ has. record {
        stored = λ t s keyed allowed.
            let made = turns.stored t s keyed allowed in
            (last.stored old (change t) has (rests t s keyed allowed) made.0, made.1);
        sound = λ is t s keyed allowed.
            let made = turns.stored t s keyed allowed in
            last.sound old (change t) has (rests t s keyed allowed) made.0 (turns.sound is t s keyed allowed);
      };
      brought = λ has t s keyed allowed.
          let made = turns.stored t s keyed allowed in
          last.brought old (change t) has (rests t s keyed allowed) made.0;
    }

-- nothing is done beside the change
pub none_accompanies : (db : Database) → Accompanies (λ d. Unit {0}) (λ a b. Unit {0}) db db
none_accompanies db = record {
  stored = λ old t has rest s. s;
  sound = λ old t has rest s is. is;
  brought = λ old t has rest s. tt;
}

-- nothing is changed
pub none_turns : (db : Database) → TurnsAlone db db Always (λ t. t)
none_turns db = record {
  turns = record { stored = λ t s keyed allowed. (s, keyed); sound = λ is t s keyed allowed. is };
  beside = λ t s keyed allowed table apart was. record { stands = was; rows = refl };
}
