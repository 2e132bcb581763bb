-- Sessions of lines, what is struck of them, and what is left.
use Rattle.std.specs.Prelude.{◌≡◌, ◌++◌, ℕ, List, [], ◌∷◌, Bool, false, if◌then◌else◌}
use Rattle.record_archive.specs.Calls.{Keeper}
use Rattle.desk_commands.specs.Answers.{Answer}
use Rattle.desk_commands.specs.Standing.{Command, Standing}
use Rattle.session_protocol.specs.Laws.{SureCalls}
use Rattle.session_protocol.specs.Session as session
use Rattle.session_protocol.specs.Session.{Item, Call, UnknownCommand, WrongWord, answers_octets, ending_octets, session_in}
use Rattle.promises.specs.Alike.{AllAlike}
use Rattle.promises.specs.Runs.{SessionFrom}
use Rattle.promises.specs.Serial.{is_struck, forget}

-- a line that is no command is never struck
abbrev pub is_struck_item : Item → Answer → Bool
is_struck_item (Call c) a = is_struck c a
is_struck_item UnknownCommand a = false
is_struck_item WrongWord a = false

abbrev pub kept_items : List Item → List Answer → List Item
kept_items (i ∷ items) (a ∷ answers) = if is_struck_item i a then kept_items items answers
    else i ∷ kept_items items answers
kept_items [] answers = []
kept_items (i ∷ items) [] = []

abbrev pub kept_replies : List Item → List Answer → List Answer
kept_replies (i ∷ items) (a ∷ answers) = if is_struck_item i a then kept_replies items answers
    else a ∷ kept_replies items answers
kept_replies [] answers = []
kept_replies (i ∷ items) [] = []

-- the commands among items
abbrev pub commands_in : List Item → List Command
commands_in [] = []
commands_in (Call c ∷ items) = c ∷ commands_in items
commands_in (UnknownCommand ∷ items) = commands_in items
commands_in (WrongWord ∷ items) = commands_in items

-- and the answers to them
abbrev pub answers_in : List Item → List Answer → List Answer
answers_in (Call c ∷ items) (a ∷ answers) = a ∷ answers_in items answers
answers_in (UnknownCommand ∷ items) (a ∷ answers) = answers_in items answers
answers_in (WrongWord ∷ items) (a ∷ answers) = answers_in items answers
answers_in [] answers = []
answers_in (i ∷ items) [] = []

-- the session of the commands among items, with their answers, whose state the registry represents at its end
pub record IsSession {D : Type 0} (keeper : Keeper D Standing) (state : Standing) (items : List Item)
    (answers : List Answer) (new : D) : Type 0 where
  pub of_commands : SessionFrom state
  pub commands : of_commands.commands ≡ commands_in items
  pub answered : of_commands.answers ≡ answers_in items answers
  pub at_end : keeper.stands new of_commands.new

-- These definitions are over registries, by what is known of each (`Keeper`).
module _ {D : Type 0} (keeper : Keeper D Standing) where
  -- A registry that represents a state gives answers to lines. After each that comes from the archive it is clean, and
  -- nothing is supposed of the disk besides.
  pub record LineSession : Type 0 where
    pub state : Standing
    pub old : D
    pub items : List Item
    pub answers : List Answer
    pub new : D
    pub at_begin : keeper.stands old state
    pub run : session.Run (SureCalls keeper) old items answers new

  -- The same for a registry that serves the session of an input. `before` is what was written before the session, and
  -- `written` what is written after it.
  pub record ServedSession : Type 0 where
    pub state : Standing
    pub old : D
    pub input : List ℕ
    pub before : List ℕ
    pub written : List ℕ
    pub new : D
    pub at_begin : keeper.stands old state
    pub served : session.IsServed (SureCalls keeper) (session_in input) old before written new

-- the lines of two sessions are equal after striking
abbrev pub EqualLinesLeft : {D : Type 0} {keeper : Keeper D Standing} → (x y : LineSession keeper) → Type 0
EqualLinesLeft x y = kept_items x.items x.answers ≡ kept_items y.items y.answers

-- what is left of the answers to the lines of two sessions after striking says the same
abbrev pub ReplyAlike : {D : Type 0} {keeper : Keeper D Standing} → (x y : LineSession keeper) → Type 0
ReplyAlike x y = AllAlike (kept_replies x.items x.answers) (kept_replies y.items y.answers)

-- two registries represent states that differ only in the turns of captures in flight
pub record LeaveTheSame {D : Type 0} (keeper : Keeper D Standing) (one other : D) : Type 0 where
  pub first : Standing
  pub second : Standing
  pub first_stands : keeper.stands one first
  pub second_stands : keeper.stands other second
  pub same : forget first ≡ forget second

-- Two sessions have given answers to the lines that were read, and have written them, and how they ended. Where the
-- sessions are equal after striking, what is left of the answers is alike, and they leave the same.
pub record AreServedAlike {D : Type 0} {keeper : Keeper D Standing} (x y : ServedSession keeper) : Type 0 where
  pub answers : List Answer
  pub replies : List Answer
  pub first_run : session.Run (SureCalls keeper) x.old (session_in x.input).items answers x.new
  pub second_run : session.Run (SureCalls keeper) y.old (session_in y.input).items replies y.new
  pub first : x.written ≡ x.before ++ answers_octets answers ++ ending_octets (session_in x.input).ending
  pub second : y.written ≡ y.before ++ answers_octets replies ++ ending_octets (session_in y.input).ending
  pub equal : kept_items (session_in x.input).items answers ≡ kept_items (session_in y.input).items replies
      → AllAlike (kept_replies (session_in x.input).items answers) (kept_replies (session_in y.input).items replies)
      × LeaveTheSame keeper x.new y.new
