-- The lines of cases. A case is all that is kept by the hold of one name.
use Rattle.std.specs.Prelude.{◌≡◌, ℕ, Bool, if◌then◌else◌, List, [], ◌∷◌, ◌++◌, Option, Some, None, codes}
use Rattle.cli_texts.specs.declared.cases.CaseBeginning.{CaseBeginning}
use Rattle.cli_texts.specs.declared.cases.ListedCase.{ListedCase}
use Rattle.cli_texts.specs.Lines.{reason_words}
use Rattle.cli_texts.specs.Moments.{IsMomentText}
use Rattle.cli_texts.specs.Words.{words, number, name, free_words}

-- its name, and how many records it keeps
unfoldable pub case_words : ListedCase → List ℕ
case_words c = words (codes "hold ") ++ name c.name.now ++ words (codes " records ") ++ number c.records

abbrev pub began_word : (is_found : Bool) → List ℕ
began_word is_found = words (if is_found then codes " found " else codes " since ")

-- how it began, with the text of that moment: when, by whom, and the reason where there is one
unfoldable pub beginning_words : CaseBeginning → (moment : List ℕ) → List ℕ
beginning_words b moment = began_word b.is_found ++ words moment ++ words (codes " by ") ++ free_words b.who.now ++ reason_words b.reason.now

abbrev pub IsLineFrom : (front : List ℕ) → Option CaseBeginning → (line : List ℕ) → Type 0
IsLineFrom front None line = line ≡ front ++ 10 ∷ []
IsLineFrom front (Some b) line = (moment : List ℕ) × IsMomentText b.moment moment × (line ≡ front ++ beginning_words b moment ++ 10 ∷ [])

-- THE LINE OF A CASE. One of which no history tells ends with its records.
abbrev pub IsCaseLine : ListedCase → (line : List ℕ) → Type 0
IsCaseLine c line = IsLineFrom (case_words c) c.beginning line
