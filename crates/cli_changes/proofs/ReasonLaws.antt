-- What is told of a reason, and of a time.
use Rattle.std.proofs.Common.{◌≡◌, ◌++◌, [], List, ℕ, true, refl, sym, ap, subst, inr, ◌∙◌, append_assoc, append-nil}
use Rattle.std.specs.Prelude.{codes, Option}
use Rattle.jiff_core.specs.declared.civil.date.Date.{Date}
use Rattle.record_choice.specs.declared.reasons.Reason.{Reason}
use Rattle.cli_texts.specs.Words.{words}
use Rattle.cli_changes.specs.ReasonLines.{not_due_words, reason_words}
use Rattle.cli_changes.specs.Times.{IsLogged, time_words}

-- of one reason it is told what is told of another that it is
pub said_of : (Holds : List ℕ → Type 0) (why is : Reason) → why ≡ is → Holds (reason_words is) → Holds (reason_words why)
said_of Holds why is same told = subst (λ (r : Reason). Holds (reason_words r)) (sym same) told

-- the same of a due date
pub due_said_of : (Holds : List ℕ → Type 0) (due is : Option Date) → due ≡ is → Holds (not_due_words is) → Holds (not_due_words due)
due_said_of Holds due is same told = subst (λ (d : Option Date). Holds (not_due_words d)) (sym same) told

-- words that are added behind others
pub behind : (text one other mid end : List ℕ) → mid ≡ text ++ one → end ≡ mid ++ other → end ≡ text ++ (one ++ other)
behind text one other mid end first second = second ∙ ap (λ (t : List ℕ). t ++ other) first ∙ append_assoc text one other

-- a time of day with a blank begins a line of a log
pub logged_at : (moment : ℕ) (text mid end : List ℕ) → mid ≡ text ++ time_words moment → end ≡ mid ++ words (codes " ")
    → IsLogged true [] text end
logged_at moment text mid end first second =
    let start = time_words moment ++ words (codes " ") in
    (start, inr (moment, refl), behind text (time_words moment) (words (codes " ")) mid end first second ∙ sym (append-nil (text ++ start)))
