-- What a crash leaves of what a session has done.
use Rattle.std.specs.Prelude.{◌≡◌, ◌⊎◌, ◌&&◌, ℕ, Bool, false, not, List, [], ◌∷◌, take, drop}
use Rattle.record_archive.specs.Archive.{Archive}
use Rattle.record_archive.specs.Calls.{Keeper}
use Rattle.desk_commands.specs.Answers.{Answer}
use Rattle.desk_commands.specs.Calls.{Calls}
use Rattle.desk_commands.specs.Standing.{Standing, Step, is_refusal}
use Rattle.session_protocol.specs.Laws.{is_item_of_archive}
use Rattle.session_protocol.specs.Session.{Item, ItemStep, Run}

-- whether this answer to an item says that the archive has carried it out
abbrev pub is_carried_out : Item → Answer → Bool
is_carried_out i a = is_item_of_archive i a && not (is_refusal a)

-- by these answers, the archive has carried out none of these items
abbrev pub AreUndone : List Item → List Answer → Type 0
AreUndone (i ∷ items) (a ∷ answers) = (is_carried_out i a ≡ false) × AreUndone items answers
AreUndone [] answers = Unit {0}
AreUndone (i ∷ items) [] = Unit {0}

-- this is a state after the first of these items, whatever its answer
abbrev pub IsAfterFirst : Standing → List Item → Standing → Type 0
IsAfterFirst s [] new = ⊥
IsAfterFirst s (i ∷ items) new = (answer : Answer) × ItemStep Step s i answer new

-- The first of the items were done, with the answers that were given to them; by the answers, the archive has carried out
-- none of those that follow. What a crash has left keeps the archive after the items that were done, or after one more:
-- a crash, or a fault of the disk, may have cut that one short, so its answer need not be the one that was given.
pub record IsLeftOf {I : Type 0} (keeps : I → Archive → Type 0) (image : I) (s : Standing) (items : List Item)
    (answers : List Answer) : Type 0 where
  pub count : ℕ
  pub done : Standing
  pub run : Run Step s (take count items) (take count answers) done
  pub undone : AreUndone (drop count items) (drop count answers)
  pub to : Standing
  pub one_more : (to ≡ done) ⊎ IsAfterFirst done (drop count items) to
  pub kept : keeps image to.office.archive

-- Whatever a crash may leave after a run was left by one before it, and then the archive has carried out nothing; or it
-- keeps the archive after the first of the items.
abbrev pub RunsLeave : {D : Type 0} → Keeper D Standing → Type 0
RunsLeave {D} keeper = (items : List Item) (answers : List Answer) (old new : D)
    → Run (Calls keeper) old items answers new → keeper.clean new → (s : Standing) → keeper.stands old s
    → (image : keeper.remains) → keeper.may_leave new image
    → (keeper.may_leave old image × AreUndone items answers) ⊎ IsLeftOf keeper.keeps image s items answers
