-- The first field of a name, and what is shown of its body.
use Rattle.std.specs.Prelude.{◌≡◌, ℕ, List, Option, Some, None, option_map, MatchOption, string_bytes}
use Rattle.std.specs.List.{find}
use Rattle.mail_display.specs.declared.showing.DisplayText.{DisplayText}
use Rattle.mail_display.specs.Display.{display_text, display_unread}
use Rattle.mail_display.specs.Groups.{is_called}

-- the body of the first of these fields that has the name
abbrev pub body_called : List ℕ → List (List ℕ × List ℕ) → Option (List ℕ)
body_called name fields = option_map (λ f. f.1) (find (λ f. is_called f.0 name) fields)

-- what is shown of a body, if there is one
abbrev pub IsShownOf : Option (List ℕ) → Option DisplayText → Type 0
IsShownOf None shown = shown ≡ None
IsShownOf (Some body) shown = MatchOption shown ⊥
    (λ d. (string_bytes d.text ≡ display_text body) × (d.unread ≡ display_unread body))
