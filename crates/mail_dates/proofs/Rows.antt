-- The definitions on worked rows.
use Rattle.std.proofs.Common.{◌≡◌, ℕ, List, [], ◌∷◌, map, codes, Some, None, refl}
use Rattle.mail_dates.specs.Comments.{uncommented, without_comments}
use Rattle.mail_dates.specs.Dating.{behind_semicolon}

uncommented_are : map without_comments (
    codes "1 (a (b) \\) c) Jan" ∷ codes "1 (a" ∷ codes "1) \\(a)" ∷ codes "" ∷ [])
    ≡ Some (codes "1   Jan") ∷ None ∷ Some (codes "1) \\ ") ∷ Some [] ∷ []
unfolding uncommented
uncommented_are = refl

behind_are : map behind_semicolon (codes "a; b; c" ∷ codes "a;" ∷ codes "a" ∷ []) ≡ Some (codes " c") ∷ Some [] ∷ None ∷ []
unfolding behind_semicolon
behind_are = refl
