-- Which answers come from the archive that is kept on a disk.
use Rattle.std.specs.Prelude.{ℕ, Bool, true, false, not, ◌||◌, ◌==◌, if◌then◌else◌}
use Rattle.desk_commands.specs.Answers.{Answer, refused}
use Rattle.desk_commands.specs.Office.{PlainCommand, add_class, set_plan, set_script, set_global, activate, deactivate, set_image, file, try_image, hold, release, due, destroy}
use Rattle.desk_commands.specs.Standing.{Command, plain, begin, turn, finish}

-- Whether the archive carries a command out. All others touch no disk: a dry run asks only the plan which classes are
-- open, and the plan is in memory.
abbrev pub is_for_archive : PlainCommand → Bool
is_for_archive (add_class path) = true
is_for_archive (set_plan text) = true
is_for_archive (set_script officer name text) = false
is_for_archive (set_global name text) = false
is_for_archive (activate officer name) = false
is_for_archive (deactivate officer) = false
is_for_archive (set_image officer octets) = false
is_for_archive (file script message) = false
is_for_archive (try_image octets message) = false
is_for_archive (hold name r) = true
is_for_archive (release name r) = true
is_for_archive (due day) = true
is_for_archive (destroy r day) = true

-- a number of a refusal that no rule of the archive gives: no capture in flight has the ticket (91), the capture has
-- not ended (92), the database refuses (89), or there is no memory (99)
abbrev pub is_number_outside : ℕ → Bool
is_number_outside n = (n == 91) || (n == 92) || (n == 89) || (n == 99)

-- a refusal by such a number
abbrev pub is_refused_outside : Answer → Bool
is_refused_outside (refused n at) = is_number_outside n
is_refused_outside _ = false

-- Whether an answer comes from the archive, so that it is right where the disk under the archive returns what was
-- written to it. A beginning (BEGIN) and turns (TURN) touch no disk, and a finish (FINISH) files into the archive.
abbrev pub is_of_archive : Command → Answer → Bool
is_of_archive (plain c) a = if is_for_archive c then not (is_refused_outside a) else false
is_of_archive (begin officer moment message) a = false
is_of_archive (turn t k) a = false
is_of_archive (finish t) a = not (is_refused_outside a)
