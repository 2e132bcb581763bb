-- The text of a field as it is shown.
use Rattle.std.proofs.Common.{◌≡◌, ◌∙◌, ℕ, List, [], Option, Some, None, subst, string_bytes}
use Rattle.std.specs.Prelude.{MatchOption}
use Rattle.mail_display.specs.declared.showing.DisplayText.{DisplayText}
use Rattle.mail_display.specs.Fields.{IsShownOf}
use Rattle.cli_texts.specs.Headers.{text_of}

-- a text is that of what is shown, or empty
abbrev IsTextOf : List ℕ → Option DisplayText → Type 0
IsTextOf s shown = MatchOption shown (s ≡ []) (λ d. s ≡ string_bytes d.text)

pub shown_text : (body : Option (List ℕ)) (shown : Option DisplayText) (s : List ℕ) → IsShownOf body shown
    → MatchOption shown (s ≡ []) (λ d. s ≡ string_bytes d.text) → s ≡ text_of body
shown_text None shown s e h = let P : Option DisplayText → Type 0 = IsTextOf s in let is : P None = subst P e h in is
shown_text (Some body) None s e h = absurd e
shown_text (Some body) (Some d) s e h = h ∙ e.0
