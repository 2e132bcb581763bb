-- What is done at desks, in terms of the states that the desks represent.
use Rattle.std.specs.Prelude.{◌≡◌, Bool, true, false, if◌then◌else◌, List, [], ◌∷◌}
use Rattle.record_archive.specs.Calls.{Keeper}
use Rattle.desk_commands.specs.Answers.{Answer}
use Rattle.desk_commands.specs.ArchiveAnswers.{is_of_archive}
use Rattle.desk_commands.specs.Calls.{Calls, Leads}
use Rattle.desk_commands.specs.Standing.{Command, Standing, Step}
use Rattle.session_protocol.specs.Session.{Item, Call, UnknownCommand, WrongWord, Run}

-- A relation between two desks holds between their states. Where the new desk is clean, the old one was, and each state
-- that the old desk represents leads to one that the new desk represents.
abbrev pub Refines : {D : Type 0} → Keeper D Standing → (between_desks : D → D → Type 0) →
    (between_states : Standing → Standing → Type 0) → Type 0
Refines {D} keeper between_desks between_states = (old new : D) → between_desks old new → keeper.clean new
    → keeper.clean old × ((s : Standing) → keeper.stands old s → Leads keeper new (between_states s))

-- whether the answer to an item comes from the archive; that to a line that is no command does not
abbrev pub is_item_of_archive : Item → Answer → Bool
is_item_of_archive (Call c) a = is_of_archive c a
is_item_of_archive UnknownCommand a = false
is_item_of_archive WrongWord a = false

-- whether an answer to some item does
abbrev pub some_of_archive : List Item → List Answer → Bool
some_of_archive (i ∷ items) (a ∷ answers) = if is_item_of_archive i a then true else some_of_archive items answers
some_of_archive [] answers = false
some_of_archive (i ∷ items) [] = false

-- A call whose answer, where it comes from the archive, is given by a desk that is clean afterwards.
abbrev pub SureCalls : {D : Type 0} → Keeper D Standing → (old : D) → Command → Answer → (new : D) → Type 0
SureCalls keeper old c a new = Calls keeper old c a new × (is_of_archive c a ≡ true → keeper.clean new)

-- The calls of a run are such calls where the last desk is clean, or no answer comes from the archive.
abbrev pub RunsAreSure : {D : Type 0} → Keeper D Standing → Type 0
RunsAreSure {D} keeper = (items : List Item) (answers : List Answer) (old new : D)
    → Run (Calls keeper) old items answers new → (some_of_archive items answers ≡ true → keeper.clean new)
    → Run (SureCalls keeper) old items answers new

-- A run of such calls leads from each state that a desk represents to one that the last desk represents.
abbrev pub RunsLead : {D : Type 0} → Keeper D Standing → Type 0
RunsLead {D} keeper = (items : List Item) (answers : List Answer) (old new : D)
    → Run (SureCalls keeper) old items answers new → (s : Standing) → keeper.stands old s
    → Leads keeper new (λ to. Run Step s items answers to)
