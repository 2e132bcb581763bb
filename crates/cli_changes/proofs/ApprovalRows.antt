-- The words of a file of approved numbers, on worked rows.
use Rattle.std.proofs.Common.{◌≡◌, ◌∷◌, [], codes, refl}
use Rattle.cli_changes.specs.Approvals.{file_words}

-- what stands behind a # in a line is passed over
words_are : file_words (codes "# by Ann\n3/17 2/5-9 # bills\n\n4") ≡ codes "3/17" ∷ codes "2/5-9" ∷ codes "4" ∷ []
words_are = refl
