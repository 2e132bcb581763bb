-- Rows of answers, and whether they come from the archive.
use Rattle.std.proofs.Common.{◌≡◌, [], true, false, None, refl}
use Rattle.desk_commands.specs.Answers.{done, running, captured, listed, refused}
use Rattle.desk_commands.specs.ArchiveAnswers.{is_of_archive}
use Rattle.desk_commands.specs.Office.{add_class, deactivate, set_plan, due, hold}
use Rattle.desk_commands.specs.Standing.{plain, begin, turn, finish}

turns_made : is_of_archive (turn 1 5) (running 5) ≡ false
turns_made = refl

-- sixty-four captures are in flight
begin_refused : is_of_archive (begin [] 0 []) (refused 90 None) ≡ false
begin_refused = refl

no_program_set : is_of_archive (plain (deactivate [])) done ≡ false
no_program_set = refl

-- the capture has not ended
finish_too_early : is_of_archive (finish 1) (refused 92 None) ≡ false
finish_too_early = refl

capture_made : is_of_archive (finish 1) (captured None []) ≡ true
capture_made = refl

-- the numbers of records are used up
capture_refused : is_of_archive (finish 1) (refused 87 None) ≡ true
capture_refused = refl

-- no record has the number
hold_refused : is_of_archive (plain (hold [] 1)) (refused 80 None) ≡ true
hold_refused = refl

class_added : is_of_archive (plain (add_class [])) done ≡ true
class_added = refl

due_listed : is_of_archive (plain (due 0)) (listed []) ≡ true
due_listed = refl

-- the database refuses
due_refused : is_of_archive (plain (due 0)) (refused 89 None) ≡ false
due_refused = refl

no_memory_for_a_plan : is_of_archive (plain (set_plan [])) (refused 99 None) ≡ false
no_memory_for_a_plan = refl
