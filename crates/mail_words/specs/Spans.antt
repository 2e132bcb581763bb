-- A text and what is shown of it, defined by the spans of its words (RFC 2047, sections 2, 5 and 6.2). A text is cut at
-- exactly the words that stand in it, and each word and gap of the cut is shown in one way.
use Rattle.std.specs.Prelude.{◌≡◌, ◌⊎◌, ℕ, Bool, true, List, [], ◌∷◌, ◌++◌, Option, Some, None, ◌↔◌}
use Rattle.std.specs.List.{list_all}
use Rattle.mail_words.specs.Unfolding.{is_blank}
use Rattle.mail_words.specs.Words.{Word, spelling, IsWord, precedes, can_follow}
use Rattle.mail_words.specs.Value.{Cut, display_of_text}
use Rattle.mail_words.specs.Meaning.{Means, IsGood}

-- a word may stand after these octets (RFC 2047, section 5): there are none and one may stand at the start, or the last
-- of them is a blank or "("
abbrev pub may_stand_after : Bool → List ℕ → Bool
may_stand_after start [] = start
may_stand_after start (b ∷ bs) = may_stand_after (precedes b) bs

-- a word stands in a text, between the text before it and the text after it
pub record StandsIn (start : Bool) (text before : List ℕ) (w : Word) (after : List ℕ) : Type 0 where
  pub joined : text ≡ before ++ (spelling w ++ after)
  pub word : IsWord w
  pub begins : may_stand_after start before ≡ true
  pub ends : can_follow after ≡ true

-- gaps and words, written one after another, and then the last text
abbrev pub concatenation : List (List ℕ × Word) → List ℕ → List ℕ
concatenation [] last = last
concatenation (part ∷ parts) last = part.0 ++ (spelling part.1 ++ concatenation parts last)

-- a cut is that of a text: it is the text, each of its words stands there, and each word that stands there is one of
-- its words
pub record IsCutOf (text : List ℕ) (cut : Cut) : Type 0 where
  pub whole : text ≡ concatenation cut.0 cut.1
  pub words : (front : List (List ℕ × Word)) (part : List ℕ × Word) (back : List (List ℕ × Word)) →
      cut.0 ≡ front ++ part ∷ back → StandsIn true text (concatenation front part.0) part.1 (concatenation back cut.1)
  pub all : (before : List ℕ) (w : Word) (after : List ℕ) → StandsIn true text before w after →
      (front : List (List ℕ × Word)) × (gap : List ℕ) × (back : List (List ℕ × Word)) ×
      (cut.0 ≡ front ++ (gap, w) ∷ back) × (before ≡ concatenation front gap)

-- what is shown of a word (RFC 2047, section 6.2): of a good one the text that it means, of another one its spelling
abbrev pub IsWordShown : Word → List ℕ → Type 0
IsWordShown w octets = Means w octets ⊎ ((IsGood w → ⊥) × (octets ≡ spelling w))

-- there is a word before, and it is good
abbrev pub IsAfterGood : Option Word → Type 0
IsAfterGood None = ⊥
IsAfterGood (Some w) = IsGood w

-- a gap is dropped (RFC 2047, section 6.2): it is blanks alone and stands between two good words
abbrev pub IsDropped : Option Word → List ℕ → Word → Type 0
IsDropped before gap w = IsAfterGood before × (list_all is_blank gap ≡ true) × IsGood w

-- what is shown of a gap: nothing where it is dropped, and otherwise all of it
abbrev pub IsGapShown : Option Word → List ℕ → Word → List ℕ → Type 0
IsGapShown before gap w octets = (IsDropped before gap w × (octets ≡ [])) ⊎
    ((IsDropped before gap w → ⊥) × (octets ≡ gap))

-- what is shown of the gaps and words after a word, and of the last text
abbrev pub IsShownAfter : Option Word → List (List ℕ × Word) → List ℕ → List ℕ → Type 0
IsShownAfter before [] last value = value ≡ last
IsShownAfter before (part ∷ parts) last value = (gap : List ℕ) × (word : List ℕ) × (rest : List ℕ) ×
    IsGapShown before part.0 part.1 gap × IsWordShown part.1 word × IsShownAfter (Some part.1) parts last rest ×
    (value ≡ gap ++ (word ++ rest))

-- what is shown of a text: its words and gaps, and the text after them
abbrev pub IsShown : List ℕ → List ℕ → Type 0
IsShown text value = (cut : Cut) × IsCutOf text cut × IsShownAfter None cut.0 cut.1 value

-- what is computed is what is shown of a text, and nothing else is
abbrev pub DisplayLaw : Type 0
DisplayLaw = (text value : List ℕ) → (value ≡ display_of_text text) ↔ IsShown text value

-- two words that stand in a text never overlap: the second begins at or after the end of the first
abbrev pub StandApart : List ℕ → Type 0
StandApart text = (before : List ℕ) (w : Word) (after : List ℕ) (b : ℕ) (more : List ℕ) (u : Word) (rest : List ℕ) →
    StandsIn true text before w after → StandsIn true text (before ++ b ∷ more) u rest → (gap : List ℕ) ×
    (b ∷ more ≡ spelling w ++ gap)
