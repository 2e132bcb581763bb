-- Seconds of days.
use Rattle.std.proofs.Common.{◌≡◌, ℕ, List, Option, Some, None, sym, subst, arith, refl, pos}
use Rattle.std.specs.Prelude.{IfSome}
use Rattle.std.proofs.lemmas.Option.{IfSome_then}
use Rattle.jiff.specs.Types.{Date}
use Rattle.jiff.specs.Words.{epoch_day}
use Rattle.jiff.proofs.SpanFacts.{signed_arith}
use Rattle.jiff.proofs.OnLiterals.{jiff_on_literals}
use Rattle.session_words.specs.Words.{greatest_number, number_up_to}
use Rattle.command_lines.specs.Captures.{IsFirstSecond, IsSecond, IsSecondBy}
use Rattle.command_lines.specs.Days.{day_typed, named}

-- the first day of 1970 has the number 0
pub epoch_day-zero : (d : Date) → d.year ≡ pos 1970 → pos d.month ≡ pos 1 → pos d.day ≡ pos 1 → epoch_day d ≡ pos 0
unfolding jiff_on_literals
epoch_day-zero d y m e =
    let month : d.month ≡ 1 = omega (arith, signed_arith) in
    let day : d.day ≡ 1 = omega (arith, signed_arith) in
    rw (y, month, day) refl

-- a word that is a day and no number
pub second_of_day : (word octets : List ℕ) (day : Date) (r : Option ℕ) → octets ≡ word → number_up_to greatest_number octets ≡ None
    → day_typed word ≡ Some (named day) → IfSome r (IsFirstSecond day) → IfSome r (IsSecond word)
second_of_day word octets day r same none e h =
    IfSome_then r h (λ s f. subst (λ w. IsSecondBy (number_up_to greatest_number w) word s) same
    (subst (λ o. IsSecondBy o word s) (sym none) (day, e, f)))
