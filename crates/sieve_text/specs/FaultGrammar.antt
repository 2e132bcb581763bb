-- What is found where a script has no token by the grammar, for each refusal (RFC 5228, sections 2.2 to 2.4 and 8.1).
use Rattle.std.specs.Prelude.{◌≡◌, ℕ, ◌+◌, ◌<◌, ◌≤◌, ◌⊎◌, true, false, List, [], ◌∷◌, ◌++◌, length, ◌==◌}
use Rattle.std.specs.List.{list_all}
use Rattle.std.specs.Char.{is_ascii_digit}
use Rattle.std.specs.Str.{IsUtf8}
use Rattle.sieve_syntax.specs.declared.token.Mark.{Mark}
use Rattle.sieve_syntax.specs.declared.token.Token.{Token}
use Rattle.sieve_text.specs.declared.fault.ScanRefusal.{ScanRefusal}
use Rattle.sieve_text.specs.declared.fault.ScanRefusal.TheVariants.{NotUtf8, NoToken, StringNotClosed, CommentNotClosed, NumberTooLarge, ScriptTooLong, StringTooLong}
use Rattle.sieve_text.specs.Octets.{is_blank, is_white, is_start, not_lf, begins, begins_with}
use Rattle.sieve_text.specs.TokenGrammar.{IsNumber, QuotedText, IsQuoted, IsLineEnd, Lines, IsTextColon, IsHashComment, IsMultiLine, octet_of, closes, Gap, IsFront}

-- an octet that begins no token, no white space and no comment; "/" begins a comment only before "*"
pub record IsNoBeginning (b : ℕ) (following : List ℕ) : Type 0 where
  pub white : is_white b ≡ false
  pub hash : (b == 35) ≡ false
  pub name : is_start b ≡ false
  pub digit : is_ascii_digit b ≡ false
  pub colon : (b == 58) ≡ false
  pub quote : (b == 34) ≡ false
  pub mark : (mark : Mark) → b ≡ octet_of mark → ⊥
  pub comment : b ≡ 47 → begins_with 42 following ≡ false

-- what cannot follow "text:" and blanks: an octet that is no blank, no "#" and no line end
pub record IsNoOpening (bs : List ℕ) : Type 0 where
  pub some : 0 < length bs
  pub blank : begins is_blank bs ≡ false
  pub hash : begins_with 35 bs ≡ false
  pub line_end : (end following : List ℕ) → bs ≡ end ++ following → IsLineEnd end → ⊥

-- 11: no token begins here; the number is how many octets come before the one that cannot be there
pub data NoTokenAt : ℕ → List ℕ → Type 0 where
  no_beginning : (b : ℕ) (following : List ℕ) → IsNoBeginning b following → NoTokenAt 0 (b ∷ following)
  no_tag : (following : List ℕ) → begins is_start following ≡ false → NoTokenAt 0 (58 ∷ following)
  no_opening : (word blanks following : List ℕ) → IsTextColon word → list_all is_blank blanks ≡ true →
      IsNoOpening following → NoTokenAt (length word + length blanks) (word ++ (blanks ++ following))

-- 12: a string that is open at the script's end: a quoted one, whose last octet may be a backslash; one that ends on
-- the line of "text:"; or one after lines of which none is a single dot
pub data OpenString : List ℕ → Type 0 where
  open_quoted : (body text : List ℕ) → QuotedText body text → OpenString (34 ∷ body)
  open_escape : (body text : List ℕ) → QuotedText body text → OpenString (34 ∷ (body ++ 92 ∷ []))
  open_opening : (word blanks comment : List ℕ) → IsTextColon word → list_all is_blank blanks ≡ true →
      IsHashComment comment → OpenString (word ++ (blanks ++ comment))
  open_lines : (word blanks comment end body text last : List ℕ) → IsTextColon word → list_all is_blank blanks ≡ true →
      IsHashComment comment → IsLineEnd end → Lines body text → list_all not_lf last ≡ true → (last ≡ 46 ∷ [] → ⊥) →
      OpenString (word ++ (blanks ++ (comment ++ (end ++ (body ++ last)))))

-- 14: the longest number that fits is above 2^63 - 1
pub record IsLargeNumber (bs : List ℕ) : Type 0 where
  pub value : ℕ
  pub octets : List ℕ
  pub following : List ℕ
  pub cut : bs ≡ octets ++ following
  pub number : IsNumber value octets
  pub longest : (other : ℕ) (more rest : List ℕ) → bs ≡ more ++ rest → IsNumber other more → length more ≤ length octets
  pub large : 9223372036854775807 < value

-- 16: a string whose value has more than 65,535 octets
pub record IsLongString (bs : List ℕ) : Type 0 where
  pub value : List ℕ
  pub octets : List ℕ
  pub following : List ℕ
  pub cut : bs ≡ octets ++ following
  pub string : IsQuoted value octets ⊎ IsMultiLine value octets following
  pub long : 65535 < length value

-- a refusal of what begins here; the number is how many octets come before its place
abbrev pub IsFaultHere : ScanRefusal → ℕ → List ℕ → Type 0
IsFaultHere NotUtf8 before bs = ⊥
IsFaultHere NoToken before bs = NoTokenAt before bs
IsFaultHere StringNotClosed before bs = (before ≡ 0) × OpenString bs
IsFaultHere CommentNotClosed before bs = (before ≡ 0) ×
    ((body : List ℕ) × (bs ≡ 47 ∷ 42 ∷ body) × (closes body ≡ false))
IsFaultHere NumberTooLarge before bs = (before ≡ 0) × IsLargeNumber bs
IsFaultHere ScriptTooLong before bs = ⊥
IsFaultHere StringTooLong before bs = (before ≡ 0) × IsLongString bs

-- the first faulty place, after the first tokens and a gap
pub record IsFaultAt (script : List ℕ) (refusal : ScanRefusal) (place : ℕ) : Type 0 where
  pub tokens : List Token
  pub end : ℕ
  pub rest : List ℕ
  pub front : IsFront 0 script tokens end rest
  pub gap : List ℕ
  pub faulty : List ℕ
  pub cut : rest ≡ gap ++ faulty
  pub gap_is : Gap gap faulty
  pub before : ℕ
  pub fault : IsFaultHere refusal before faulty
  pub place_is : place ≡ (end + length gap) + before

-- octet 0, or a CR without LF
abbrev pub IsStray : ℕ → List ℕ → Type 0
IsStray b following = (b ≡ 0) ⊎ ((b ≡ 13) × (begins_with 10 following ≡ false))

-- octets before others, none of them stray
pub data IsClean : List ℕ → List ℕ → Type 0 where
  clean_end : (following : List ℕ) → IsClean [] following
  clean_octet : (b : ℕ) (bs following : List ℕ) → (IsStray b (bs ++ following) → ⊥) → IsClean bs following →
      IsClean (b ∷ bs) following

-- the first stray octet of a script
pub record IsStrayAt (script : List ℕ) (place : ℕ) : Type 0 where
  pub front : List ℕ
  pub octet : ℕ
  pub following : List ℕ
  pub cut : script ≡ front ++ octet ∷ following
  pub clean : IsClean front (octet ∷ following)
  pub stray : IsStray octet following
  pub place_is : place ≡ length front

-- the check before any token: at most 262,144 octets, UTF-8, and none of them stray
abbrev pub IsText : List ℕ → Type 0
IsText script = (length script ≤ 262144) × IsUtf8 script × IsClean script []

-- the refusal of a script, and its offset: the first of these that holds
abbrev pub IsRefusedAt : List ℕ → ScanRefusal → ℕ → Type 0
IsRefusedAt script ScriptTooLong place = (262144 < length script) × (place ≡ 0)
IsRefusedAt script NotUtf8 place = (length script ≤ 262144) × ¬ (IsUtf8 script) × (place ≡ 0)
IsRefusedAt script NoToken place = ((length script ≤ 262144) × IsUtf8 script × IsStrayAt script place) ⊎
    (IsText script × IsFaultAt script NoToken place)
IsRefusedAt script StringNotClosed place = IsText script × IsFaultAt script StringNotClosed place
IsRefusedAt script CommentNotClosed place = IsText script × IsFaultAt script CommentNotClosed place
IsRefusedAt script NumberTooLarge place = IsText script × IsFaultAt script NumberTooLarge place
IsRefusedAt script StringTooLong place = IsText script × IsFaultAt script StringTooLong place
