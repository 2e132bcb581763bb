-- What a piece adds to a header.
use Rattle.std.proofs.Common.{◌≡◌, ◌≢◌, ℕ, suc, ◌+◌, ◌-◌, ◌<◌, true, false, List, [], ◌∷◌, ◌++◌, length, refl, sym, ap}
use Rattle.std.proofs.Common.{◌∙◌, arith, ◌⊎◌, inl, inr, append_assoc}
use Rattle.std.proofs.lemmas.List.{append-nil, length-append, get_or_at, get_or-append-add}
use Rattle.std.specs.Prelude.{nat_lt}
use Rattle.std.specs.List.{concat, filter_map}
use Rattle.mail_head.specs.Lines.{header_of, logical_lines}
use Rattle.mail_head.specs.Fields.{field_of, fields_of}
use Rattle.mail_head.specs.Pieces.{header_octets, at_line_start}
use Rattle.mail_head.proofs.PieceLemmas.{NoEnd, NoEnd-get, header_of-open, header_of-lf, header_of-crlf, concat-append}
use Rattle.mail_head.proofs.PieceLemmas.{Rest, unended, lf, crlf, Cut, cut}

-- whole lines at the front stay
Cut-octets : (bs : List ℕ) (c : Cut bs) (q : List ℕ) → header_octets (c.lead ++ q) ≡ c.lead ++ header_octets q
Cut-octets bs c q = ap concat (c.lines q) ∙ concat-append (header_of c.lead) (header_of q) ∙ ap (λ x. x ++ header_octets q) c.octets

-- a rest that begins with an empty line
abbrev Ended : List ℕ → Type 0
Ended rest = ((q : List ℕ) → header_of (rest ++ q) ≡ []) × (0 < length rest)

by_state : (rest : List ℕ) → Rest rest → NoEnd rest ⊎ Ended rest
by_state rest (unended h) = inl h
by_state rest (lf r e) = inr (λ q. ap (λ x. header_of (x ++ q)) e ∙ header_of-lf (r ++ q), rw e (grind arith))
by_state rest (crlf r e) = inr (λ q. ap (λ x. header_of (x ++ q)) e ∙ header_of-crlf (r ++ q), rw e (grind arith))

Ended-octets : (bs : List ℕ) (c : Cut bs) → Ended c.rest → (q : List ℕ) → header_octets (bs ++ q) ≡ c.lead
Ended-octets bs c h q = ap (λ x. header_octets (x ++ q)) c.joined ∙ ap header_octets (append_assoc c.lead c.rest q)
    ∙ Cut-octets bs c (c.rest ++ q) ∙ ap (λ x. c.lead ++ concat x) (h.0 q) ∙ append-nil c.lead

Open-octets : (bs : List ℕ) (c : Cut bs) → NoEnd c.rest → header_octets bs ≡ bs
Open-octets bs c h = ap header_octets c.joined ∙ Cut-octets bs c c.rest ∙ ap (λ x. c.lead ++ x) (header_of-open c.rest h) ∙ sym c.joined

-- the header ends within the text, or it is all of it
pub record IsEnded (bs : List ℕ) : Type 0 where
  pub shorter : length (header_octets bs) < length bs
  pub stays : (q : List ℕ) → header_octets (bs ++ q) ≡ header_octets bs
  pub fields : header_of (header_octets bs) ≡ header_of bs

whole_or_ended : (bs : List ℕ) (c : Cut bs) → NoEnd c.rest ⊎ Ended c.rest → (header_octets bs ≡ bs) ⊎ IsEnded bs
whole_or_ended bs c (inl h) = inl (Open-octets bs c h)
whole_or_ended bs c (inr h) =
    let octets : header_octets bs ≡ c.lead = ap header_octets (sym (append-nil bs)) ∙ Ended-octets bs c h [] in
    let lines : header_of bs ≡ header_of c.lead = ap header_of c.joined ∙ c.lines c.rest
    ∙ ap (λ x. header_of c.lead ++ x) (ap header_of (sym (append-nil c.rest)) ∙ h.0 [])
    ∙ append-nil (header_of c.lead) in
    inr (record {
      shorter = rw octets (omega (arith, ap length c.joined, length-append c.lead c.rest, h.1));
      stays = λ q. Ended-octets bs c h q ∙ sym octets;
      fields = ap header_of octets ∙ sym lines;
    })

pub header_whole_or_ended : (bs : List ℕ) → (header_octets bs ≡ bs) ⊎ IsEnded bs
header_whole_or_ended bs = let c = cut (length bs) bs (omega arith) in whole_or_ended bs c (by_state c.rest c.state)

-- after a header that has ended nothing more is kept
pub header_octets_ended : (bs q : List ℕ) → length (header_octets bs) ≢ length bs → header_octets (bs ++ q) ≡ header_octets bs
header_octets_ended bs q h = at (header_whole_or_ended bs)
  where
    at : (header_octets bs ≡ bs) ⊎ IsEnded bs → header_octets (bs ++ q) ≡ header_octets bs
    at (inl e) = absurd (h (ap length e))
    at (inr e) = e.stays q

pub header_octets_whole : (bs : List ℕ) → length (header_octets bs) ≡ length bs → header_octets bs ≡ bs
header_octets_whole bs h = at (header_whole_or_ended bs)
  where
    at : (header_octets bs ≡ bs) ⊎ IsEnded bs → header_octets bs ≡ bs
    at (inl e) = e
    at (inr e) = absurd (omega (arith, e.shorter, h))

-- the kept octets have the fields of the message
pub fields_of-kept : (bs : List ℕ) → fields_of (header_octets bs) ≡ fields_of bs
unfolding fields_of
fields_of-kept bs = at (header_whole_or_ended bs)
  where
    at : (header_octets bs ≡ bs) ⊎ IsEnded bs → filter_map field_of (logical_lines (header_of (header_octets bs)))
        ≡ filter_map field_of (logical_lines (header_of bs))
    at (inl e) = ap (λ x. filter_map field_of (logical_lines (header_of x))) e
    at (inr e) = ap (λ x. filter_map field_of (logical_lines x)) e.fields

-- the text does not end in an LF
pub last_unended : (lead : List ℕ) (b : ℕ) (t : List ℕ) → NoEnd (b ∷ t) → at_line_start (lead ++ b ∷ t) ≡ false
last_unended lead b t h =
    let long : length (lead ++ b ∷ t) ≡ suc (length lead + length t) = omega (arith, length-append lead (b ∷ t)) in
    let some : nat_lt 0 (length (lead ++ b ∷ t)) ≡ true = rw long (grind arith) in
    let last : length (lead ++ b ∷ t) - 1 ≡ length lead + length t = omega arith in
    rw (some, last, get_or-append-add lead (b ∷ t) (length t) 0) (NoEnd-get (b ∷ t) (length t) h)

line_start_of : (lead : List ℕ) → (lead ≡ []) ⊎ ((front : List ℕ) × (lead ≡ front ++ 10 ∷ [])) → at_line_start lead ≡ true
line_start_of lead (inl e) = rw e refl
line_start_of lead (inr (front, e)) =
    let long : length (front ++ 10 ∷ []) ≡ length front + 1 = length-append front (10 ∷ []) in
    let some : nat_lt 0 (length (front ++ 10 ∷ [])) ≡ true = grind arith in
    let last : length (front ++ 10 ∷ []) - 1 ≡ length front = omega arith in
    rw (e, some, last, get_or_at front 10 [] 0 (length front) refl) refl

-- octets that all belong to the header
abbrev pub IsOpen : List ℕ → Type 0
IsOpen kept = (lead : List ℕ) × (rest : List ℕ) × (kept ≡ lead ++ rest)
    × ((q : List ℕ) → header_octets (lead ++ q) ≡ lead ++ header_octets q) × (at_line_start lead ≡ true) × NoEnd rest

pub open_of : (kept : List ℕ) → header_octets kept ≡ kept → IsOpen kept
open_of kept e =
    let c = cut (length kept) kept (omega arith) in
    at c (by_state c.rest c.state)
  where
    at : (c : Cut kept) → NoEnd c.rest ⊎ Ended c.rest → IsOpen kept
    at c (inl h) = (c.lead, c.rest, c.joined, Cut-octets kept c, line_start_of c.lead c.line_start, h)
    at c (inr h) =
        let octets : header_octets kept ≡ c.lead = ap header_octets (sym (append-nil kept)) ∙ Ended-octets kept c h [] in
        absurd (omega (arith, ap length octets, ap length e, ap length c.joined, length-append c.lead c.rest, h.1))

-- a piece after a line's start
pub part_at_line_start : (kept piece : List ℕ) → at_line_start kept ≡ true → header_octets kept ≡ kept
    → header_octets (kept ++ piece) ≡ kept ++ header_octets piece
part_at_line_start kept piece start e = at (open_of kept e)
  where
    at : IsOpen kept → header_octets (kept ++ piece) ≡ kept ++ header_octets piece
    at (lead, [], joined, law, begins, h) =
        let same : kept ≡ lead = joined ∙ append-nil lead in
        ap (λ x. header_octets (x ++ piece)) same ∙ law piece ∙ ap (λ x. x ++ header_octets piece) (sym same)
    at (lead, b ∷ t, joined, law, begins, h) =
        let no : at_line_start kept ≡ false = ap at_line_start joined ∙ last_unended lead b t h in
        absurd (cc (start, no))
