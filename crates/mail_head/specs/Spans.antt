-- A message and its fields, defined by the spans that it is cut into: lines, those of the header, logical lines, and
-- the parts of a field (RFC 5322, sections 2.1, 2.2 and 2.2.3, read leniently). No order of reading is given.
use Rattle.std.specs.Prelude.{◌≡◌, ◌⊎◌, ℕ, ◌<◌, Bool, true, List, [], ◌∷◌, ◌++◌, length, nat_lt, not, ◌==◌, ◌↔◌}
use Rattle.std.specs.List.{list_all, concat}
use Rattle.mail_head.specs.Lines.{is_blank, without_end, begins_blank}
use Rattle.mail_head.specs.Fields.{is_name_octet, fields_of}

abbrev pub not_lf : ℕ → Bool
not_lf b = not (b == 10)

-- The lines of a text (RFC 5322, section 2.1), which joined are the text: each has one LF, at its end. The last one may
-- have none, and is then not empty.
pub data LinesOf : List ℕ → List (List ℕ) → Type 0 where
  no_lines : LinesOf [] []
  last_line : (b : ℕ) (bs : List ℕ) → list_all not_lf (b ∷ bs) ≡ true → LinesOf (b ∷ bs) ((b ∷ bs) ∷ [])
  whole_line : (octets rest : List ℕ) (lines : List (List ℕ)) → list_all not_lf octets ≡ true → LinesOf rest lines →
      LinesOf (octets ++ 10 ∷ rest) ((octets ++ 10 ∷ []) ∷ lines)

-- A line has octets before its end.
abbrev pub has_octets : List ℕ → Bool
has_octets line = nat_lt 0 (length (without_end line))

-- There is no line, or the first one has no octets.
abbrev pub begins_empty : List (List ℕ) → Bool
begins_empty [] = true
begins_empty (line ∷ lines) = not (has_octets line)

-- The lines of the header (RFC 5322, section 2.1): all before the first one without octets, or all.
pub record IsHeader (lines header : List (List ℕ)) : Type 0 where
  pub rest : List (List ℕ)
  pub cut : lines ≡ header ++ rest
  pub some : list_all has_octets header ≡ true
  pub ends : begins_empty rest ≡ true

-- There is no line, or the first one begins with no blank.
abbrev pub begins_anew : List (List ℕ) → Bool
begins_anew [] = true
begins_anew (line ∷ lines) = not (begins_blank line)

-- Logical lines (RFC 5322, section 2.2.3): each is a line joined with all lines directly after it that begin with a
-- blank.
pub data LogicalOf : List (List ℕ) → List (List ℕ) → Type 0 where
  no_logical : LogicalOf [] []
  logical : (line : List ℕ) (folded rest more : List (List ℕ)) → list_all begins_blank folded ≡ true →
      begins_anew rest ≡ true → LogicalOf rest more → LogicalOf (line ∷ (folded ++ rest)) ((line ++ concat folded) ∷ more)

-- The last of the octets is c.
abbrev pub EndsIn : ℕ → List ℕ → Type 0
EndsIn c bs = (front : List ℕ) × (bs ≡ front ++ c ∷ [])

-- The line end after a body: an LF and one CR directly before it, or nothing where there is no LF.
abbrev pub IsEnd : List ℕ → List ℕ → Type 0
IsEnd body end = ((end ≡ []) × (EndsIn 10 body → ⊥)) ⊎ (((end ≡ 10 ∷ []) × (EndsIn 13 body → ⊥)) ⊎ (end ≡ 13 ∷ 10 ∷ []))

-- A logical line is a field (RFC 5322, section 2.2): a name of one octet or more, blanks, a colon, the body, and a line
-- end.
pub record IsField (line name body : List ℕ) : Type 0 where
  pub blanks : List ℕ
  pub end : List ℕ
  pub joined : line ≡ name ++ (blanks ++ 58 ∷ (body ++ end))
  pub some : 0 < length name
  pub octets : list_all is_name_octet name ≡ true
  pub blank : list_all is_blank blanks ≡ true
  pub ends : IsEnd body end

-- The fields among logical lines; a line that is no field is passed over.
pub data FieldsAmong : List (List ℕ) → List (List ℕ × List ℕ) → Type 0 where
  no_fields : FieldsAmong [] []
  field : (line name body : List ℕ) (lines : List (List ℕ)) (fields : List (List ℕ × List ℕ)) →
      IsField line name body → FieldsAmong lines fields → FieldsAmong (line ∷ lines) ((name, body) ∷ fields)
  passed : (line : List ℕ) (lines : List (List ℕ)) (fields : List (List ℕ × List ℕ)) →
      ((name body : List ℕ) → IsField line name body → ⊥) → FieldsAmong lines fields → FieldsAmong (line ∷ lines) fields

-- The fields of a message (RFC 5322, section 2.2).
abbrev pub AreFields : List ℕ → List (List ℕ × List ℕ) → Type 0
AreFields message fields = (lines : List (List ℕ)) × (header : List (List ℕ)) × (joined : List (List ℕ)) ×
    LinesOf message lines × IsHeader lines header × LogicalOf header joined × FieldsAmong joined fields

-- A message has exactly one list of fields, and that is the one computed.
abbrev pub FieldsLaw : Type 0
FieldsLaw = (message : List ℕ) (fields : List (List ℕ × List ℕ)) → (fields ≡ fields_of message) ↔
    AreFields message fields
