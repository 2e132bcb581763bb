-- The three cases of a piece after octets that all belong to the header.
use Rattle.std.proofs.Common.{◌≡◌, ℕ, ◌+◌, ◌-◌, ◌<◌, ◌≤◌, Bool, true, false, eqb, List, [], ◌∷◌, ◌++◌, length, take}
use Rattle.std.proofs.Common.{drop, refl, sym, ap, ◌∙◌, arith, get_or, ◌⊎◌, inl, inr, append_assoc, eqb-true, ltb-true}
use Rattle.std.proofs.Math.Seq.{take-add}
use Rattle.std.proofs.lemmas.List.{append-nil, length-append, take_all, take_at, drop_at, get_or_at, same_from_push}
use Rattle.std.proofs.lemmas.List.{drop-drop, length-drop, take_more}
use Rattle.std.specs.Prelude.{nat_lt, ◌&&◌}
use Rattle.std.specs.List.{concat}
use Rattle.mail_head.specs.Lines.{header_of, line_len}
use Rattle.mail_head.specs.Fields.{begins_with}
use Rattle.mail_head.specs.Pieces.{header_octets, at_line_start, ends_in_lone_cr}
use Rattle.mail_head.proofs.PieceLemmas.{NoEnd, NoEnd-append, Whole, first_line, line_len_whole, line_len_open, HasText}
use Rattle.mail_head.proofs.PieceLemmas.{HasText-long, HasText-one, header_of-line, header_of-open, header_of-crlf}
use Rattle.mail_head.proofs.FeedLemmas.{IsOpen, open_of, last_unended}

-- the first octets of a header
pub record Taken (text rest : List ℕ) (len : ℕ) : Type 0 where
  pub within : len ≤ length text
  pub following : rest ≡ drop len text
  pub octets : header_octets text ≡ take len text ++ header_octets rest

pub Taken-none : (text : List ℕ) → Taken text text 0
Taken-none text = record { within = omega arith; following = refl; octets = refl }

pub Taken-more : (text rest line after : List ℕ) (len n : ℕ) → Taken text rest len
    → header_of rest ≡ take (line_len rest) rest ∷ header_of (drop (line_len rest) rest) → n ≡ line_len rest
    → n ≤ length rest → after ≡ drop n rest → length line ≡ n → Taken text after (len + length line)
Taken-more text rest line after len n h lines en within ea long =
    let octets : header_octets rest ≡ take n rest ++ header_octets after = ap concat lines ∙ rw (← en, ← ea) refl in
    record {
      within = rw long (omega (arith, h.within, ap length h.following, length-drop len text, within));
      following = rw long (ea ∙ ap (drop n) h.following ∙ drop-drop n len text);
      octets = rw (long, take-add len n text) (h.octets
          ∙ ap (λ x. take len text ++ x) (octets ∙ ap (λ x. take n x ++ header_octets after) h.following)
          ∙ sym (append_assoc (take len text) (take n (drop len text)) (header_octets after)));
    }

pub Taken-done : (text rest : List ℕ) (len : ℕ) → Taken text rest len → header_of rest ≡ [] → header_octets text ≡ take len text
Taken-done text rest len h e = h.octets ∙ ap (λ x. take len text ++ concat x) e ∙ append-nil (take len text)

-- the line that the piece continues has text
part_text : (lead : List ℕ) (b : ℕ) (t u r : List ℕ) → at_line_start lead ≡ true
    → (ends_in_lone_cr (lead ++ b ∷ t) && begins_with 10 (u ++ 10 ∷ r)) ≡ false → HasText (b ∷ t ++ u)
part_text lead b [] [] r start h = at (eqb b 13) refl
  where
    lone : eqb b 13 ≡ true → ends_in_lone_cr (lead ++ b ∷ []) ≡ true
    lone e =
        let long : length (lead ++ b ∷ []) ≡ length lead + 1 = length-append lead (b ∷ []) in
        let some : nat_lt 0 (length (lead ++ b ∷ [])) ≡ true = rw long (grind arith) in
        let last : length (lead ++ b ∷ []) - 1 ≡ length lead = omega arith in
        rw (some, last, get_or_at lead b [] 0 (length lead) refl, take_at lead (b ∷ []) (length lead) refl, e) start

    at : (x : Bool) → eqb b 13 ≡ x → HasText (b ∷ [])
    at true e = let yes : (ends_in_lone_cr (lead ++ b ∷ []) && true) ≡ true = ap (λ x. x && true) (lone e) in absurd (cc (yes, h))
    at false e = HasText-one b e
part_text lead b [] (c ∷ u) r start h = HasText-long b c u
part_text lead b (c ∷ t) u r start h = HasText-long b c (t ++ u)

-- a piece within a line that has begun
pub part_inside : (kept piece : List ℕ) (n m : ℕ) → at_line_start kept ≡ false
    → (ends_in_lone_cr kept && begins_with 10 piece) ≡ false → n ≡ line_len piece
    → header_octets (drop n piece) ≡ take m (drop n piece) → header_octets kept ≡ kept
    → header_octets (kept ++ piece) ≡ kept ++ take (n + m) piece
part_inside kept piece n m inside plain en rest e = at_open (open_of kept e)
  where
    at_piece : (lead : List ℕ) (b : ℕ) (t : List ℕ) → kept ≡ lead ++ b ∷ t
        → ((q : List ℕ) → header_octets (lead ++ q) ≡ lead ++ header_octets q) → at_line_start lead ≡ true
        → NoEnd (b ∷ t) → NoEnd piece ⊎ Whole piece → header_octets (kept ++ piece) ≡ kept ++ take (n + m) piece
    at_piece lead b t joined law start h (inl k) =
        let long : length piece ≤ n + m = omega (arith, line_len_open piece k) in
        let whole : kept ++ piece ≡ lead ++ (b ∷ t ++ piece) = ap (λ x. x ++ piece) joined ∙ append_assoc lead (b ∷ t) piece in
        ap header_octets whole ∙ law (b ∷ t ++ piece)
        ∙ ap (λ x. lead ++ x) (header_of-open (b ∷ t ++ piece) (NoEnd-append (b ∷ t) piece h k)) ∙ sym whole
        ∙ ap (λ x. kept ++ x) (sym (take_all (n + m) piece long))
    at_piece lead b t joined law start h (inr (u, r, ep, k)) =
        let plain_2 : (ends_in_lone_cr (lead ++ b ∷ t) && begins_with 10 (u ++ 10 ∷ r)) ≡ false = rw (joined, ep) at plain in
        let text : HasText (b ∷ t ++ u) = part_text lead b t u r start plain_2 in
        let count : n ≡ length u + 1 = en ∙ ap line_len ep ∙ line_len_whole u r k in
        let split : piece ≡ (u ++ 10 ∷ []) ++ r = ep ∙ sym (append_assoc u (10 ∷ []) r) in
        let front_long : length (u ++ 10 ∷ []) ≡ n = length-append u (10 ∷ []) ∙ sym count in
        let front : take n piece ≡ u ++ 10 ∷ [] = ap (take n) split ∙ take_at (u ++ 10 ∷ []) r n front_long in
        let back : drop n piece ≡ r = ap (drop n) split ∙ drop_at (u ++ 10 ∷ []) r n front_long in
        let more : take (n + m) piece ≡ (u ++ 10 ∷ []) ++ header_octets r = take-add n m piece
        ∙ ap (λ x. x ++ take m (drop n piece)) front
        ∙ ap (λ x. (u ++ 10 ∷ []) ++ x) (sym rest ∙ ap header_octets back) in
        let whole : kept ++ piece ≡ lead ++ ((b ∷ t ++ u) ++ 10 ∷ r) = ap (λ x. x ++ piece) joined
        ∙ append_assoc lead (b ∷ t) piece ∙ ap (λ x. lead ++ (b ∷ t ++ x)) ep
        ∙ ap (λ x. lead ++ x) (sym (append_assoc (b ∷ t) u (10 ∷ r))) in
        let line : header_octets ((b ∷ t ++ u) ++ 10 ∷ r) ≡ ((b ∷ t ++ u) ++ 10 ∷ [])
        ++ header_octets r = ap concat (header_of-line (b ∷ t ++ u) r (NoEnd-append (b ∷ t) u h k) text) in
        let regroup : ((b ∷ t ++ u) ++ 10 ∷ []) ++ header_octets r ≡ b ∷ t ++ ((u ++ 10 ∷ []) ++ header_octets r) =
        ap (λ x. x ++ header_octets r) (append_assoc (b ∷ t) u (10 ∷ []))
        ∙ append_assoc (b ∷ t) (u ++ 10 ∷ []) (header_octets r) in
        ap header_octets whole ∙ law ((b ∷ t ++ u) ++ 10 ∷ r) ∙ ap (λ x. lead ++ x) (line ∙ regroup)
        ∙ sym (append_assoc lead (b ∷ t) ((u ++ 10 ∷ []) ++ header_octets r))
        ∙ ap (λ x. x ++ ((u ++ 10 ∷ []) ++ header_octets r)) (sym joined) ∙ ap (λ x. kept ++ x) (sym more)

    at_open : IsOpen kept → header_octets (kept ++ piece) ≡ kept ++ take (n + m) piece
    at_open (lead, [], joined, law, start, h) =
        let yes : at_line_start kept ≡ true = ap at_line_start (joined ∙ append-nil lead) ∙ start in
        absurd (cc (yes, inside))
    at_open (lead, b ∷ t, joined, law, start, h) = at_piece lead b t joined law start h (first_line piece)

-- all but the last octet, and the last one
pub last_split : (bs : List ℕ) → 0 < length bs → bs ≡ take (length bs - 1) bs ++ get_or bs (length bs - 1) 0 ∷ []
last_split bs h =
    let more : take (length bs - 1 + 1) bs ≡ take (length bs - 1) bs ++ get_or bs (length bs - 1) 0 ∷ [] =
    take_more bs (length bs - 1) 0 (omega arith) in
    sym (take_all (length bs - 1 + 1) bs (omega arith)) ∙ more

-- no line end before the last octet either
unended_front : (c : ℕ) (t : List ℕ) → NoEnd (c ∷ t) → (i : List ℕ) × (x : ℕ) × (c ∷ t ≡ i ++ x ∷ []) × NoEnd i
unended_front c [] h = ([], c, refl, tt)
unended_front c (d ∷ t) h =
    let more = unended_front d t h.1 in
    (c ∷ more.0, more.1, ap (λ x. c ∷ x) more.2, (h.0, more.3))

-- an LF after one CR
pub part_less : (front r : List ℕ) → at_line_start front ≡ true → header_octets (front ++ 13 ∷ []) ≡ front ++ 13 ∷ []
    → header_octets ((front ++ 13 ∷ []) ++ 10 ∷ r) ≡ front
part_less front r start e = at (open_of (front ++ 13 ∷ []) e)
  where
    at : IsOpen (front ++ 13 ∷ []) → header_octets ((front ++ 13 ∷ []) ++ 10 ∷ r) ≡ front
    at (lead, [], joined, law, begins, h) =
        let no : at_line_start lead ≡ false = ap at_line_start (sym (joined ∙ append-nil lead)) ∙ last_unended front 13 [] (refl, tt) in
        absurd (cc (no, begins))
    at (lead, b ∷ [], joined, law, begins, h) =
        let same = same_from_push front lead 13 b joined in
        ap header_octets (append_assoc front (13 ∷ []) (10 ∷ r)) ∙ ap (λ x. header_octets (x ++ 13 ∷ 10 ∷ r)) same.0
        ∙ law (13 ∷ 10 ∷ r) ∙ ap (λ x. lead ++ concat x) (header_of-crlf r) ∙ append-nil lead ∙ sym same.0
    at (lead, b ∷ c ∷ t, joined, law, begins, h) =
        let split = unended_front c t h.1 in
        let whole : front ++ 13 ∷ [] ≡ (lead ++ b ∷ split.0) ++ split.1 ∷ [] = joined ∙ ap (λ x. lead ++ b ∷ x) split.2
        ∙ sym (append_assoc lead (b ∷ split.0) (split.1 ∷ [])) in
        let same = same_from_push front (lead ++ b ∷ split.0) 13 split.1 whole in
        let no : at_line_start front ≡ false = ap at_line_start same.0 ∙ last_unended lead b split.0 (h.0, split.3) in
        absurd (cc (no, start))

front_of_lone : (a b c : Bool) → ((a && b) && c) ≡ true → (a ≡ true) × (b ≡ true) × (c ≡ true)
front_of_lone true true true h = (refl, refl, refl)
front_of_lone true true false h = absurd cc
front_of_lone true false c h = absurd cc
front_of_lone false b c h = absurd cc

begins_lf : (piece : List ℕ) → begins_with 10 piece ≡ true → (r : List ℕ) × (piece ≡ 10 ∷ r)
begins_lf [] h = absurd cc
begins_lf (b ∷ r) h = (r, ap (λ x. x ∷ r) (eqb-true b 10 h))

-- what follows from the CR and the LF of an empty line
pub part_lone : (kept piece : List ℕ) → ends_in_lone_cr kept ≡ true → begins_with 10 piece ≡ true
    → (kept ≡ take (length kept - 1) kept ++ 13 ∷ [])
    × (header_octets kept ≡ kept → header_octets (kept ++ piece) ≡ take (length kept - 1) kept)
part_lone kept piece lone begins =
    let parts = front_of_lone (nat_lt 0 (length kept)) (eqb (get_or kept (length kept - 1) 0) 13)
    (at_line_start (take (length kept - 1) kept)) lone in
    let some : 0 < length kept = omega (arith, ltb-true 0 (length kept) parts.0) in
    let split : kept ≡ take (length kept - 1) kept ++ 13 ∷ [] = last_split kept some
    ∙ ap (λ x. take (length kept - 1) kept ++ x ∷ []) (eqb-true (get_or kept (length kept - 1) 0) 13 parts.1) in
    let rest = begins_lf piece begins in (
      split,
      λ e. ap header_octets (ap (λ x. x ++ piece) split
          ∙ ap (λ x. (take (length kept - 1) kept ++ 13 ∷ []) ++ x) rest.1)
          ∙ part_less (take (length kept - 1) kept) rest.0 parts.2 (ap header_octets (sym split) ∙ e ∙ split),
    )
