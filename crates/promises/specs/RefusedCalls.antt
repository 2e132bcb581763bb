-- Commands and calls of a registry that are refused.
use Rattle.std.specs.Prelude.{◌≡◌, ◌<◌, ◌⊎◌, ℕ, Option}
use Rattle.record_archive.specs.Calls.{Keeper}
use Rattle.desk_commands.specs.Answers.{refused}
use Rattle.desk_commands.specs.Calls.{Calls}
use Rattle.desk_commands.specs.Standing.{Command, Standing, turn, with_turns}

-- a TURN made some of the steps that it was to make, and then no more
pub record MakesSomeSteps (s : Standing) (c : Command) (new : Standing) : Type 0 where
  pub ticket : ℕ
  pub count : ℕ
  pub made : ℕ
  pub command : c ≡ turn ticket count
  pub fewer : made < count
  pub leaves : new ≡ with_turns s ticket made

-- nothing changed, but that a TURN keeps the steps that it made
abbrev pub KeepsSteps : Standing → Command → Standing → Type 0
KeepsSteps s c new = (new ≡ s) ⊎ MakesSomeSteps s c new

-- A registry that represents a state refuses a command with this number. Nothing is known of the disk under it.
pub record RefusedCall {D : Type 0} (keeper : Keeper D Standing) : Type 0 where
  pub state : Standing
  pub old : D
  pub command : Command
  pub number : ℕ
  pub offset : Option ℕ
  pub new : D
  pub at_begin : keeper.stands old state
  pub call : Calls keeper old command (refused number offset) new

-- a registry represents this state, but for the steps that a TURN made
pub record IsLeftBy {D : Type 0} (keeper : Keeper D Standing) (state : Standing) (c : Command) (new : D) : Type 0 where
  pub to : Standing
  pub there : keeper.stands new to
  pub steps : KeepsSteps state c to
