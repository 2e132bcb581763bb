-- Sessions: commands, one after the other.
use Rattle.std.specs.Prelude.{◌≡◌, List, [], ◌∷◌}
use Rattle.record_archive.specs.Archive.{Archive}
use Rattle.desk_commands.specs.Answers.{Answer}
use Rattle.desk_commands.specs.Standing.{Command, Standing, Step, opening}

-- commands with their answers, one after the other, and the state that they leave
abbrev pub Steps : Standing → List Command → List Answer → Standing → Type 0
Steps s [] [] new = new ≡ s
Steps s (c ∷ commands) (a ∷ answers) new = (mid : Standing) × Step s c a mid × Steps mid commands answers new
Steps s [] (a ∷ answers) new = ⊥
Steps s (c ∷ commands) [] new = ⊥

-- a session from a state: its commands with their answers, and the state that it leaves
pub record SessionFrom (s : Standing) : Type 0 where
  pub commands : List Command
  pub answers : List Answer
  pub new : Standing
  pub run : Steps s commands answers new

-- a session that begins with an archive comes to this state
pub record IsReachedState (s : Standing) : Type 0 where
  pub archive : Archive
  pub commands : List Command
  pub answers : List Answer
  pub run : Steps (opening archive) commands answers s
