-- Calls of a desk, and the states that the desk represents before and after them. A desk is clean while the disk under
-- it returns what was written to it.
use Rattle.std.specs.Prelude.{◌≡◌, ◌≤◌, ◌⊎◌, ℕ, pos, true, false, List}
use Rattle.jiff.specs.Words.{epoch_day}
use Rattle.jiff_core.specs.declared.civil.date.Date.{Date}
use Rattle.record_archive.specs.Archive.{Archive}
use Rattle.record_archive.specs.Calls.{Keeper}
use Rattle.desk_commands.specs.Answers.{Answer}
use Rattle.desk_commands.specs.ArchiveAnswers.{is_of_archive}
use Rattle.desk_commands.specs.Limits.{last_day}
use Rattle.desk_commands.specs.Payloads.{IsOf}
use Rattle.desk_commands.specs.Standing.{Standing, Command, Step, is_refusal}
use Rattle.desk_commands.specs.declared.payload.Payload.{Payload}

-- The desk represents one of these states.
pub record Leads {D : Type 0} (keeper : Keeper D Standing) (desk : D) (States : Standing → Type 0) : Type 0 where
  pub to : Standing
  pub is_one : States to
  pub there : keeper.stands desk to

-- What a crash has left keeps the archive of one of these states.
pub record KeepsOne {I : Type 0} (keeps : I → Archive → Type 0) (image : I) (States : Standing → Type 0) : Type 0 where
  pub to : Standing
  pub is_one : States to
  pub kept : keeps image to.office.archive

-- A command has this answer.
pub record Calls {D : Type 0} (keeper : Keeper D Standing) (old : D) (c : Command) (a : Answer) (new : D) : Type 0 where
  -- Where the desk is clean afterwards, it was clean before.
  pub was_clean : keeper.clean new → keeper.clean old
  -- Each state that it represented leads by the command to one that it represents. This holds on any disk; only an
  -- answer of the archive needs that the desk is clean afterwards.
  pub leads : (is_of_archive c a ≡ true → keeper.clean new) → (s : Standing) → keeper.stands old s → Leads keeper new (Step s c a)
  -- On any disk, a refusal by the archive changes nothing.
  pub unchanged : is_of_archive c a ≡ true → is_refusal a ≡ true → (s : Standing) → keeper.stands old s → keeper.stands new s
  -- What a crash may leave after it is what a crash might have left before, or it keeps the archive of a state to which
  -- the command leads, whatever it answers there.
  pub crash : keeper.clean new → (s : Standing) → keeper.stands old s → (image : keeper.remains) → keeper.may_leave new image →
      keeper.may_leave old image ⊎ ((answer : Answer) × KeepsOne keeper.keeps image (Step s c answer))
  -- Where the archive has carried it out, whatever a crash leaves keeps the archive of a state to which it leads by
  -- this answer.
  pub kept : is_of_archive c a ≡ true → is_refusal a ≡ false → keeper.clean new → (s : Standing) → keeper.stands old s →
      (image : keeper.remains) → keeper.may_leave new image → KeepsOne keeper.keeps image (Step s c a)

-- The same for a command with a payload, for all octets that the payload may be of.
abbrev pub CallsWith : {D : Type 0} → Keeper D Standing → (old : D) → (limit : ℕ) → Payload → (List ℕ → Command) →
    Answer → (new : D) → Type 0
CallsWith keeper old limit payload command a new =
    (octets : List ℕ) → IsOf limit payload octets → Calls keeper old (command octets) a new

-- The same for a command with two payloads.
abbrev pub CallsWithTwo : {D : Type 0} → Keeper D Standing → (old : D) → (limits : ℕ × ℕ) → (first second : Payload) →
    (List ℕ → List ℕ → Command) → Answer → (new : D) → Type 0
CallsWithTwo keeper old limits first second command a new =
    (x y : List ℕ) → IsOf limits.0 first x → IsOf limits.1 second y → Calls keeper old (command x y) a new

-- The same for a command with a day of 1970 to 9999, which the command has in days since 1970-01-01.
abbrev pub CallsOn : {D : Type 0} → Keeper D Standing → (old : D) → Date → (ℕ → Command) → Answer → (new : D) → Type 0
CallsOn keeper old day command a new =
    (n : ℕ) → epoch_day day ≡ pos n → n ≤ last_day → Calls keeper old (command n) a new
