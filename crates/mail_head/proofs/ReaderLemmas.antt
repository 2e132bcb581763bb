-- What a reader keeps, and the room that its fields need.
use Rattle.std.proofs.Common.{◌≡◌, ◌≢◌, ℕ, suc, ◌+◌, ◌-◌, ◌<◌, ◌≤◌, Bool, true, false, cond, eqb, List, [], ◌∷◌, ◌++◌}
use Rattle.std.proofs.Common.{length, take, drop, refl, sym, ap, ◌∙◌, arith, Option, Some, None}
use Rattle.std.proofs.lemmas.List.{append-nil, length-append, take-append-drop}
use Rattle.std.proofs.lemmas.List.Sums.{sum_by-cons, sum_by-append}
use Rattle.std.specs.Prelude.{nat_lt, count_by, ◌==◌}
use Rattle.std.specs.List.{filter_map, cons_option}
use Rattle.mail_head.specs.Lines.{into_first, raw_lines, without_end, begins_blank, header_lines, header_of, logical_from, logical_lines}
use Rattle.mail_head.specs.Fields.{field_of, fields_of}
use Rattle.mail_head.specs.Pieces.{Reader, OwnedHeader, header_octets, reader_of}
use Rattle.mail_head.specs.Parts.{IsPart, IsNextPart, with_part, gain}
use Rattle.mail_head.specs.declared.parts.HeaderPart.{HeaderPart}
use Rattle.mail_head.specs.declared.parts.HeaderPart.TheVariants.{Front, LessCr}
use Rattle.mail_head.proofs.FeedLemmas.{header_octets_ended, header_octets_whole, fields_of-kept}

length-filter_map : {X Y : Type 0} (f : X → Option Y) (xs : List X) → length (filter_map f xs) ≤ length xs
length-filter_map f [] = omega arith
length-filter_map f (x ∷ xs) = at (f x) (length-filter_map f xs)
  where
    at : (o : Option _) → length (filter_map f xs) ≤ length xs → length (cons_option o (filter_map f xs)) ≤ suc (length xs)
    at None h = omega arith
    at (Some y) h = omega arith

length-logical_from : (begun : List ℕ) (lines : List (List ℕ)) → length (logical_from begun lines) ≤ length lines + 1
unfolding logical_from
length-logical_from begun [] = omega arith
length-logical_from begun (line ∷ lines) = at (begins_blank line) (length-logical_from (begun ++ line) lines) (length-logical_from line lines)
  where
    at : (t : Bool) → length (logical_from (begun ++ line) lines) ≤ length lines + 1
        → length (logical_from line lines) ≤ length lines + 1
        → length (cond t (logical_from (begun ++ line) lines) (begun ∷ logical_from line lines)) ≤ suc (length lines) +
        1
    at true h k = omega arith
    at false h k = omega arith

length-logical_lines : (lines : List (List ℕ)) → length (logical_lines lines) ≤ length lines
unfolding logical_lines
length-logical_lines [] = omega arith
length-logical_lines (line ∷ lines) = omega (arith, length-logical_from line lines)

length-header_lines : (lines : List (List ℕ)) → length (header_lines lines) ≤ length lines
unfolding header_lines
length-header_lines [] = omega arith
length-header_lines (line ∷ lines) = at (nat_lt 0 (length (without_end line))) (length-header_lines lines)
  where
    at : (t : Bool) → length (header_lines lines) ≤ length lines → length (cond t (line ∷ header_lines lines) []) ≤ suc (length lines)
    at true h = omega arith
    at false h = omega arith

count-cons : (b : ℕ) (bs : List ℕ) → count_by (λ x. x == 10) (b ∷ bs) ≡ cond (eqb b 10) 1 0 + count_by (λ x. x == 10) bs
count-cons b bs = sum_by-cons (λ x. cond (eqb x 10) 1 0) b bs

-- a text has at most one line more than line ends
length-raw_lines : (bs : List ℕ) → length (raw_lines bs) ≤ count_by (λ b. b == 10) bs + 1
unfolding raw_lines
length-raw_lines [] = omega arith
length-raw_lines (b ∷ bs) = rw (count-cons b bs) (at (eqb b 10) (length-raw_lines bs))
  where
    open_line : (lines : List (List ℕ)) (n : ℕ) → length lines ≤ n + 1 → length (into_first b lines) ≤ n + 1
    open_line [] n h = omega arith
    open_line (line ∷ lines) n h = h

    at : (t : Bool) → length (raw_lines bs) ≤ count_by (λ x. x == 10) bs + 1
        → length (cond t ((b ∷ []) ∷ raw_lines bs) (into_first b (raw_lines bs))) ≤ cond t 1 0 + count_by (λ x.
        x == 10) bs + 1
    at true h = omega arith
    at false h = omega (arith, open_line (raw_lines bs) (count_by (λ x. x == 10) bs) h)

fields_none : length (fields_of []) ≤ 0
unfolding fields_of logical_lines header_lines raw_lines
fields_none = omega arith

length-fields_of : (bs : List ℕ) → length (fields_of bs) ≤ count_by (λ b. b == 10) bs + 1
unfolding fields_of
length-fields_of bs = omega (
  arith,
  length-filter_map field_of (logical_lines (header_of bs)),
  length-logical_lines (header_of bs),
  length-header_lines (raw_lines bs),
  length-raw_lines bs,
)

pub fields_room : (bs : List ℕ) (n room : ℕ) → count_by (λ b. b == 10) bs ≤ n → (0 < length bs → n < room) → length (fields_of bs) ≤ room
fields_room [] n room e h = omega (arith, fields_none)
fields_room (b ∷ bs) n room e h = omega (arith, length-fields_of (b ∷ bs), h (omega arith))

pub owned_is : (a : OwnedHeader) (fields : List (List ℕ × List ℕ)) (size : ℕ) (octets : List ℕ) → a.fields ≡ fields
    → a.size ≡ size → a.octets ≡ octets → a ≡ record { fields = fields; size = size; octets = octets }
owned_is a fields size octets ef es eo = rw (← ef, ← es, ← eo) refl

pub reader_is : (r : Reader) (kept : List ℕ) (size : ℕ) (refuses : Bool) → r.kept ≡ kept → r.size ≡ size
    → r.refuses ≡ refuses → r ≡ record { kept = kept; size = size; refuses = refuses }
reader_is r kept size refuses ek es er = rw (← ek, ← es, ← er) refl

-- the header that a reader keeps
pub finished : (a : OwnedHeader) (r : Reader) (kept : List ℕ) (message : List ℕ) → r ≡ reader_of message
    → a.fields ≡ fields_of r.kept → a.size ≡ r.size → a.octets ≡ r.kept
    → a ≡ record { fields = fields_of message; size = length message; octets = header_octets message }
finished a r kept message e ef es eo =
    owned_is a (fields_of message) (length message) (header_octets message) (ef ∙ ap (λ x. fields_of x.kept) e
    ∙ fields_of-kept message) (es ∙ ap (λ x. x.size) e) (eo ∙ ap (λ x. x.kept) e)

-- what a piece adds to a header that goes on, and to one that has ended
kept_whole : (r : Reader) (message : List ℕ) → r ≡ reader_of message → length r.kept ≡ r.size → r.kept ≡ message
kept_whole r message e long = ap (λ x. x.kept) e ∙ header_octets_whole message (ap length (sym (ap (λ x. x.kept) e)) ∙ long ∙ ap (λ x. x.size) e)

joined : (r : Reader) (message piece next : List ℕ) → r ≡ reader_of message → length r.kept ≡ r.size
    → (header_octets r.kept ≡ r.kept → header_octets (r.kept ++ piece) ≡ next) → next ≡ header_octets (message ++ piece)
joined r message piece next e long h =
    let all : r.kept ≡ message = kept_whole r message e long in
    let whole : header_octets message ≡ message = sym (ap (λ x. x.kept) e) ∙ all in
    sym (h (ap header_octets all ∙ whole ∙ sym all)) ∙ ap (λ x. header_octets (x ++ piece)) all

pub part_open : (r : Reader) (piece : List ℕ) (part : HeaderPart) → length r.kept ≡ r.size → IsPart r.kept piece part → IsNextPart r piece part
part_open r piece (Front n) long h = record { of_piece = h.0; next = λ message e. joined r message piece (r.kept ++ take n piece) e long h.1 }
part_open r piece LessCr long h = record { of_piece = tt; next = λ message e. joined r message piece (take (length r.kept - 1) r.kept) e long h.1 }

pub part_ended : (r : Reader) (piece : List ℕ) → length r.kept ≢ r.size → IsNextPart r piece (Front 0)
part_ended r piece long = record {
  of_piece = omega arith;
  next = λ message e.
      let other : length (header_octets message) ≢ length message = λ same. long (ap (λ x. length x.kept) e ∙ same ∙ sym (ap (λ x. x.size) e)) in
      append-nil r.kept ∙ ap (λ x. x.kept) e ∙ sym (header_octets_ended message piece other);
}

-- one more piece
pub fed : (r s : Reader) (message piece : List ℕ) (part : HeaderPart) → r ≡ reader_of message → IsNextPart r piece part
    → s ≡ record r { kept = with_part r.kept piece part; size = r.size + length piece }
    → s ≡ reader_of (message ++ piece)
fed r s message piece part e h es =
    reader_is s (header_octets (message ++ piece)) (length (message ++ piece)) false (ap (λ x. x.kept) es
    ∙ h.next message e) (ap (λ x. x.size) es
    ∙ omega (arith, ap (λ x. x.size) e, length-append message piece)) (ap (λ x. x.refuses) es
    ∙ ap (λ x. x.refuses) e)

-- the line ends of the header are those it had and those of the octets that it gained
count-append : (xs ys : List ℕ) → count_by (λ b. b == 10) (xs ++ ys) ≡ count_by (λ b. b == 10) xs + count_by (λ b. b == 10) ys
count-append xs ys = sum_by-append (λ x. cond (eqb x 10) 1 0) xs ys

pub count-part : (kept piece : List ℕ) (part : HeaderPart)
    → count_by (λ b. b == 10) (with_part kept piece part) ≤ count_by (λ b. b == 10) kept + count_by (λ b.
    b == 10) (gain piece part)
count-part kept piece (Front n) = omega (arith, count-append kept (take n piece))
count-part kept piece LessCr = omega (
  arith,
  count-append (take (length kept - 1) kept) (drop (length kept - 1) kept),
  ap (count_by (λ b. b == 10)) (take-append-drop (length kept - 1) kept),
)
