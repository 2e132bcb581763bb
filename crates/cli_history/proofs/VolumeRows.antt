-- The notes of first events of volumes on worked rows.
use Rattle.std.proofs.Common.{◌≡◌, codes, Some, None, refl}
use Rattle.cli_history.specs.Volumes.{front_of, mark_named, notes_naming}

-- a mark has 64 digits
shortened : front_of (codes "0f3a0f3a0f3a0f3a0f3a0f3a0f3a0f3a0f3a0f3a0f3a0f3a0f3a0f3a12345678")
    ≡ codes "0f3a0f3a0f3a0f3a0f3a0f3a0f3a0f3a0f3a0f3a0f3a0f3a0f3a0f3a"
shortened = refl

whole : front_of (codes "0f3a") ≡ codes "0f3a"
whole = refl

naming : notes_naming (codes "0f3a") ≡ codes "after=0f3a"
naming = refl

named : mark_named (codes "after=0f3a") ≡ Some (codes "0f3a")
named = refl

of_an_altered_message : mark_named (codes "message=altered") ≡ None
of_an_altered_message = refl

too_short : mark_named (codes "after") ≡ None
too_short = refl
