-- Where the deed of a line begins, on worked rows.
use Rattle.std.proofs.Common.{◌≡◌, [], codes, refl}
use Rattle.cli_history.specs.OneSeal.{behind_blank}

one_word : behind_blank (codes "held") ≡ []
one_word = refl

two_words : behind_blank (codes "held audit 4") ≡ codes "audit 4"
two_words = refl

deed : behind_blank (behind_blank (behind_blank (codes "17 2031-01-01T09:30:00Z ann captured 4 on 2031-01-01")))
    ≡ codes "captured 4 on 2031-01-01"
deed = refl
