-- What an intake does with a message, by what its room is afterwards.
use Rattle.std.proofs.Common.{◌≡◌, ◌∙◌, ℕ, List, [], ◌∷◌, ◌++◌, Option, Some, None, Result, Ok, Err, IfErr, IsErrAnd, refl, sym, ap, subst, inl, inr}
use Rattle.std.proofs.Common.{OnOk, true, true≢false}
use Rattle.std.specs.Prelude.{is_ok, is_some, IfOk}
use Rattle.std.specs.Option.{unwrap_or}
use Rattle.std.specs.Prelude.{String}
use Rattle.std.specs.declared.alloc.Global.{Global}
use Rattle.std.specs.declared.io.ErrorKind.TheVariants.{OutOfMemory}
use Rattle.cli_console.specs.declared.failure.Failure.{Failure}
use Rattle.cli_console.specs.declared.failure.Failure.TheVariants.{NoMemory}
use Rattle.mail_intake.specs.Calls.{Call, answer_of, capture, list, move, read, remember, settle, tell}
use Rattle.mail_intake.specs.Fates.{AreThoseOf, whole_course}
use Rattle.mail_intake.specs.Folders.{OnlyMakes}
use Rattle.mail_intake.specs.Intakes.{IsIntake}
use Rattle.mail_intake.specs.Telling.{Memory}
use Rattle.mail_intake.specs.declared.intake.Taking.{Taking}
use Rattle.mail_intake.specs.declared.mailroom.Refusal.{Refusal}
use Rattle.mail_intake.specs.declared.mailroom.Taken.{Taken}
use Rattle.record_archive.specs.Archive.{Archive}
use Rattle.record_archive.specs.Calls.{Keeper}
use Rattle.cli_changes.specs.Deliveries.{IsLeft}
use Rattle.cli_changes.specs.Endings.{IsOfMaildir}
use Rattle.cli_changes.specs.IntakeCalls.{CameBy, Captures, ComesBy, Does, Made, TakesAll, names_in}
use Rattle.cli_changes.specs.Intakes.{GoesOnAfter, IsBegun, IsHandedOver, IsQuiet, round_of}
use Rattle.cli_changes.specs.Rounds.{IsEndAfter}
use Rattle.cli_changes.specs.declared.intake_room.Room.{Room}
use Rattle.cli_changes.specs.declared.rounds.Rounds.{Rounds}

-- a message is handed over to a desk, whatever else the room does then
pub handed_over_to : {A : Type 0} (keeper : Keeper A Archive) (before mid after : Room A) (octets : List ℕ)
    (answer : Result Taken (Refusal Failure)) → after.desk ≡ mid.desk → IsHandedOver keeper before octets answer mid
    → IsHandedOver keeper before octets answer after
handed_over_to keeper before mid after octets answer same (inl h) =
    inl (h.0, h.1, h.2, h.3, subst (IsLeft keeper answer h.1.desk) (sym same) h.4)
handed_over_to keeper before mid after octets answer same (inr h) = inr (h.0, h.1, same ∙ h.2)

-- want of memory is a failure of the Maildir too
pub want_of_memory : {T : Type 0} (r : Result T Failure) → IsErrAnd r (λ f. f ≡ NoMemory) → IfErr r IsOfMaildir
want_of_memory (Err f) is = (OutOfMemory, is)
want_of_memory (Ok t) is = tt

-- an intake began as its first round did
pub begun_is : (before : Option ℕ) (moment : ℕ) → IsBegun before (unwrap_or before moment)
begun_is None moment = tt
begun_is (Some begun) moment = refl

pub goes_on_after : {A : Type 0} (rounds : Rounds) (room : Room A) (begun : ℕ) (next : Option (String Global)) → IsBegun rounds.begun begun
    → GoesOnAfter rounds (round_of room begun next)
goes_on_after rounds room begun None h = tt
goes_on_after rounds room begun (Some next) h = (begun, refl, h, refl)

module _ {A : Type 0} (keeper : Keeper A Archive) where
  -- one call more
  comes_then : (calls : List Call) (c : Call) (first room after : Room A) → ComesBy keeper first calls room → Does keeper c room after
      → ComesBy keeper first (calls ++ c ∷ []) after
  comes_then [] c first room after h does = (after, subst (λ (r : Room A). Does keeper c r after) h does, refl)
  comes_then (d ∷ calls) c first room after h does = (h.0, h.1, comes_then calls c h.0 room after h.2 does)

  pub made_then : (done : List Call) (c : Call) (room after : Room A) → Made keeper room done → Does keeper c room after
      → Made keeper after (done ++ c ∷ [])
  made_then [] c room after h does = absurd h
  made_then (list names ∷ calls) c room after h does = (h.0, h.1, comes_then calls c h.0 room after h.2 does)
  made_then (read name found ∷ calls) c room after h does = h
  made_then (capture name octets answer ∷ calls) c room after h does = h
  made_then (move name is_moved ∷ calls) c room after h does = h
  made_then (tell name why ∷ calls) c room after h does = h
  made_then (remember name why ∷ calls) c room after h does = h
  made_then (settle is_settled ∷ calls) c room after h does = h

  pub makes_one : (room after : Room A) (c : Call) → Does keeper c room after → OnlyMakes (Made keeper) (λ _ _. ⊥) room after (c ∷ [])
  makes_one room after c does = record { made = λ done h. made_then done c room after h does; kept = λ f h. h }

  pub quiet_one : (room after : Room A) (c : Call) → IsQuiet room after → (IsQuiet room after → Does keeper c room after)
      → OnlyMakes (Made keeper) (λ _ _. ⊥) room after (c ∷ [])
  quiet_one room after c quiet does = makes_one room after c (does quiet)

  pub captures_one : (room after : Room A) (name octets : List ℕ) (answer : Result Taken (Refusal Failure))
      → Captures keeper room name octets answer after
      → OnlyMakes (Made keeper) (λ _ _. ⊥) room after (capture name octets (answer_of answer) ∷ [])
  captures_one room after name octets answer h = makes_one room after (capture name octets (answer_of answer)) (answer, refl, h)

  -- the messages of a round, by what the intake of them ensures
  pub taken_all : (memory : Memory) (day : ℕ) (before mid after : Room A) (taking : Taking Failure)
      → IsIntake (Made keeper) (λ _ _. ⊥) memory day before mid taking → after.desk ≡ mid.desk → after.next ≡ mid.next
      → (after.next ≡ None → IsEndAfter after.before taking (Ok tt)) → TakesAll keeper before after
  taken_all memory day before mid after taking h desk next closed =
      let names = names_in before in
      let came : CameBy keeper names (whole_course memory day h.names h.fates h.ending h.is_settled) mid =
      h.calls (list names ∷ []) (before, refl, refl) in
      let same : h.names ≡ names = came.2.1.0 ∙ came.1 in
      record {
        memory = memory;
        day = day;
        fates = h.fates;
        ending = h.ending;
        is_settled = h.is_settled;
        taking = taking;
        mid = mid;
        order = subst (λ (ns : List (List ℕ)). AreThoseOf ns h.fates h.ending) same h.order;
        calls = subst (λ (ns : List (List ℕ)). CameBy keeper names (whole_course memory day ns h.fates h.ending h.is_settled) mid) same came;
        ended = h.ended;
        counts = h.counts;
        closed = closed;
        desk = desk;
        next = next;
      }

pub quietly : {A : Type 0} (before after : Room A) → after.job ≡ before.job → after.desk ≡ before.desk → after.timing ≡ before.timing
    → after.place ≡ before.place → after.next ≡ before.next → IsQuiet before after
quietly before after job desk timing place next = record {
  job = job;
  desk = desk;
  timing = timing;
  place = record { place = place; next = next };
}

-- what holds of how a thing ended holds of its success, where it is one
pub where_done : {F : Type 0} (Holds : Result (Unit {0}) F → Type 0) (r : Result (Unit {0}) F) → Holds r → OnOk r (Holds (Ok tt))
where_done Holds (Ok done) h = h
where_done Holds (Err f) h = tt

-- what holds of a success holds where there is one
pub when_done : {F P : Type 0} (r : Result (Unit {0}) F) → is_ok r ≡ true → OnOk r P → P
when_done (Ok done) is h = h
when_done (Err f) is h = absurd (true≢false (sym is))

-- what holds of a result holds together
pub both_ok : {X Y : Type 0} (r : Result X Y) (P Q : X → Type 0) → IfOk r P → IfOk r Q → IfOk r (λ x. P x × Q x)
both_ok (Ok x) P Q p q = (p, q)
both_ok (Err e) P Q p q = tt

-- a volume that is full leaves messages
pub not_closed : {X : Type 0} {P : Type 0} (next : Option X) → is_some next ≡ true → next ≡ None → P
not_closed next some none = absurd (true≢false (sym some ∙ ap is_some none))
