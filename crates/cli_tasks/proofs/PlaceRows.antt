-- Where messages are captured, where drafts are, and which failures are of standard output, on worked rows.
use Rattle.std.proofs.Common.{◌≡◌, [], ◌∷◌, map, codes, Some, None, true, false, refl}
use Rattle.std.specs.Fmt.{digits}
use Rattle.cli_console.specs.declared.failure.Failure.TheVariants.{Closed, NoMemory, Reported, Told}
use Rattle.cli_console.specs.declared.failure.Status.TheVariants.{NotWritten, TryAgain}
use Rattle.tool_texts.specs.declared.shown.Shown.{Shown}
use Rattle.cli_tasks.specs.Copies.{draft_at}
use Rattle.cli_tasks.specs.Places.{is_of_output, path_at}

paths_are : map (path_at (codes "kept")) (None ∷ Some 1 ∷ Some 312 ∷ []) ≡ codes "kept" ∷ codes "kept/0001.db" ∷ codes "kept/0312.db" ∷ []
unfolding digits
paths_are = refl

draft_is : draft_at (codes "kept.db") ≡ codes "kept.db.mailfile-new"
draft_is = refl

outputs_are : (text : Shown) → map is_of_output (Told NotWritten text ∷ Told TryAgain text ∷ Reported NotWritten ∷ Closed ∷ NoMemory ∷ [])
    ≡ true ∷ false ∷ false ∷ false ∷ false ∷ []
outputs_are text = refl
