-- The computed fields of a message are those of the spans that it is cut into.
use Rattle.std.proofs.Common.{◌≡◌, ℕ, suc, ◌+◌, ◌-◌, ◌<◌, Bool, true, false, cond, eqb, List, [], ◌∷◌, ◌++◌, length, take, drop, refl, sym, ap, ◌∙◌}
use Rattle.std.proofs.Common.{subst, arith, inl, inr, ◌⊎◌, Option, Some, None, append_assoc, eqb-true, eq-eqb, lt-ltb, ltb-true}
use Rattle.std.proofs.Math.Seq.{take-append_seam, drop-append_seam}
use Rattle.std.proofs.lemmas.List.{append-nil, length-append, take-append-drop}
use Rattle.std.proofs.lemmas.List.Folds.{concat-append, length-prefix_len}
use Rattle.std.proofs.lemmas.Bool.{cases_Bool, and_parts, and_from, not-true, true≢false}
use Rattle.std.specs.Prelude.{nat_lt, slice_index, not, ◌&&◌, ◌==◌}
use Rattle.std.specs.List.{list_all, concat, prefix_len, filter_map, cons_option}
use Rattle.mail_head.specs.Lines.{is_blank, into_first, raw_lines, without_last, without_end, header_lines, begins_blank, logical_from, logical_lines}
use Rattle.mail_head.specs.Fields.{is_name_octet, begins_with, field_of, fields_of}
use Rattle.mail_head.specs.Spans.{not_lf, LinesOf, no_lines, last_line, whole_line, has_octets, begins_empty, IsHeader, begins_anew, LogicalOf}
use Rattle.mail_head.specs.Spans.{no_logical, logical, EndsIn, IsEnd, IsField, FieldsAmong, no_fields, field, passed, AreFields, FieldsLaw}

-- lines

into : (b : ℕ) {bs : List ℕ} {lines : List (List ℕ)} → not_lf b ≡ true → LinesOf bs lines → LinesOf (b ∷ bs) (into_first b lines)
into b h no_lines = last_line b [] (and_from (not_lf b) true h refl)
into b h (last_line c cs all) = last_line b (c ∷ cs) (and_from (not_lf b) (list_all not_lf (c ∷ cs)) h all)
into b h (whole_line octets rest lines all more) = whole_line (b ∷ octets) rest lines (and_from (not_lf b) (list_all not_lf octets) h all) more

lines_from : (text : List ℕ) → LinesOf text (raw_lines text)
unfolding raw_lines
lines_from [] = no_lines
lines_from (b ∷ bs) = by (eqb b 10) refl (lines_from bs)
  where
    by : (t : Bool) → eqb b 10 ≡ t → LinesOf bs (raw_lines bs) → LinesOf (b ∷ bs) (cond t ((b ∷ []) ∷ raw_lines bs) (into_first b (raw_lines bs)))
    by true e h = let P : ℕ → Type 0 = λ x. LinesOf (x ∷ bs) ((x ∷ []) ∷ raw_lines bs) in
        subst P (sym (eqb-true b 10 e)) (whole_line [] bs (raw_lines bs) refl h)
    by false e h = into b (ap not e) h

line_last : (b : ℕ) (bs : List ℕ) → list_all not_lf (b ∷ bs) ≡ true → raw_lines (b ∷ bs) ≡ (b ∷ bs) ∷ []
unfolding raw_lines
line_last b [] h = ap (λ t. cond t ((b ∷ []) ∷ []) ((b ∷ []) ∷ [])) (not-true (eqb b 10) (and_parts (not_lf b) true h).0)
line_last b (c ∷ cs) h =
    let parts = and_parts (not_lf b) (list_all not_lf (c ∷ cs)) h in
    ap (λ t. cond t ((b ∷ []) ∷ raw_lines (c ∷ cs)) (into_first b (raw_lines (c ∷ cs)))) (not-true (eqb b 10) parts.0)
    ∙ ap (into_first b) (line_last c cs parts.1)

line_whole : (octets rest : List ℕ) → list_all not_lf octets ≡ true → raw_lines (octets ++ 10 ∷ rest) ≡ (octets ++ 10 ∷ []) ∷ raw_lines rest
unfolding raw_lines
line_whole [] rest h = refl
line_whole (b ∷ octets) rest h =
    let parts = and_parts (not_lf b) (list_all not_lf octets) h in
    ap (λ t. cond t ((b ∷ []) ∷ raw_lines (octets ++ 10 ∷ rest)) (into_first b (raw_lines (octets ++ 10 ∷ rest))))
    (not-true (eqb b 10) parts.0) ∙ ap (into_first b) (line_whole octets rest parts.1)

no_raw_lines : raw_lines [] ≡ []
unfolding raw_lines
no_raw_lines = refl

lines_to : {text : List ℕ} {lines : List (List ℕ)} → LinesOf text lines → raw_lines text ≡ lines
lines_to no_lines = no_raw_lines
lines_to (last_line b bs h) = line_last b bs h
lines_to (whole_line octets rest lines h more) = line_whole octets rest h ∙ ap (λ x. (octets ++ 10 ∷ []) ∷ x) (lines_to more)

-- the header

header_from : (lines : List (List ℕ)) → IsHeader lines (header_lines lines)
unfolding header_lines
header_from [] = record { rest = []; cut = refl; some = refl; ends = refl }
header_from (line ∷ lines) = by (has_octets line) refl (header_from lines)
  where
    by : (t : Bool) → has_octets line ≡ t → IsHeader lines (header_lines lines) → IsHeader (line ∷ lines) (cond t (line ∷ header_lines lines) [])
    by true e h = record {
      rest = h.rest;
      cut = ap (λ x. line ∷ x) h.cut;
      some =
          and_from (has_octets line) (list_all has_octets (header_lines lines)) e h.some;
      ends = h.ends;
    }
    by false e h = record { rest = line ∷ lines; cut = refl; some = refl; ends = ap not e }

header_is : (header rest : List (List ℕ)) → list_all has_octets header ≡ true → begins_empty rest ≡ true → header_lines (header ++ rest) ≡ header
unfolding header_lines
header_is [] [] some ends = refl
header_is [] (line ∷ lines) some ends = ap (λ t. cond t (line ∷ header_lines lines) []) (not-true (has_octets line) ends)
header_is (line ∷ header) rest some ends =
    let parts = and_parts (has_octets line) (list_all has_octets header) some in
    ap (λ t. cond t (line ∷ header_lines (header ++ rest)) []) parts.0 ∙ ap (λ x. line ∷ x) (header_is header rest parts.1 ends)

header_to : (lines header : List (List ℕ)) → IsHeader lines header → header_lines lines ≡ header
header_to lines header h = ap header_lines h.cut ∙ header_is header h.rest h.some h.ends

-- logical lines

all_more : (folded : List (List ℕ)) (line : List ℕ) → list_all begins_blank folded ≡ true → begins_blank line ≡ true
    → list_all begins_blank (folded ++ line ∷ []) ≡ true
all_more [] line h e = and_from (begins_blank line) true e refl
all_more (f ∷ folded) line h e =
    let parts = and_parts (begins_blank f) (list_all begins_blank folded) h in
    and_from (begins_blank f) (list_all begins_blank (folded ++ line ∷ [])) parts.0 (all_more folded line parts.1 e)

abbrev Begun : List ℕ → List (List ℕ) → List (List ℕ) → Type 0
Begun line folded lines = LogicalOf (line ∷ (folded ++ lines)) (logical_from (line ++ concat folded) lines)

one_more : (line : List ℕ) (folded : List (List ℕ)) (next : List ℕ) (lines : List (List ℕ))
    → Begun line (folded ++ next ∷ []) lines
    → LogicalOf (line ∷ (folded ++ next ∷ lines)) (logical_from ((line ++ concat folded) ++ next) lines)
one_more line folded next lines h =
    let joined : concat (folded ++ next ∷ []) ≡ concat folded ++ next = concat-append folded (next ∷ [])
    ∙ ap (λ x. concat folded ++ x) (append-nil next) in
    let begun : line ++ concat (folded ++ next ∷ []) ≡ (line ++ concat folded) ++ next = ap (λ x. line ++ x) joined
    ∙ sym (append_assoc line (concat folded) next) in
    let P : List (List ℕ) → Type 0 = λ x. LogicalOf (line ∷ x) (logical_from (line ++ concat (folded ++ next ∷ [])) lines) in
    let Q : List ℕ → Type 0 = λ x. LogicalOf (line ∷ (folded ++ next ∷ lines)) (logical_from x lines) in
    subst Q begun (subst P (append_assoc folded (next ∷ []) lines) h)

joined_from : (lines : List (List ℕ)) (line : List ℕ) (folded : List (List ℕ)) → list_all begins_blank folded ≡ true → Begun line folded lines
unfolding logical_from
joined_from [] line folded h = logical line folded [] [] h refl no_logical
joined_from (next ∷ lines) line folded h = by (begins_blank next) refl (λ more k. joined_from lines line more k) (joined_from lines next [] refl)
  where
    by : (t : Bool) → begins_blank next ≡ t → ((more : List (List ℕ)) → list_all begins_blank more ≡ true
        → Begun line more lines) → Begun next [] lines
        → LogicalOf (line ∷ (folded ++ next ∷ lines)) (cond t (logical_from ((line ++ concat folded)
        ++ next) lines) ((line ++ concat folded) ∷ logical_from next lines))
    by true e more anew = one_more line folded next lines (more (folded ++ next ∷ []) (all_more folded next h e))
    by false e more anew =
        let P : List ℕ → Type 0 = λ x. LogicalOf (next ∷ lines) (logical_from x lines) in
        logical line folded (next ∷ lines) (logical_from next lines) h (ap not e) (subst P (append-nil next) anew)

logical_all : (lines : List (List ℕ)) → LogicalOf lines (logical_lines lines)
unfolding logical_lines
logical_all [] = no_logical
logical_all (line ∷ lines) = let P : List ℕ → Type 0 = λ x. LogicalOf (line ∷ lines) (logical_from x lines) in
    subst P (append-nil line) (joined_from lines line [] refl)

joined_to : (folded : List (List ℕ)) (begun : List ℕ) (rest : List (List ℕ)) → list_all begins_blank folded ≡ true
    → begins_anew rest ≡ true → logical_from begun (folded ++ rest) ≡ (begun ++ concat folded) ∷ logical_lines rest
unfolding logical_from logical_lines
joined_to [] begun [] h anew = ap (λ x. x ∷ []) (sym (append-nil begun))
joined_to [] begun (line ∷ lines) h anew =
    ap (λ t. cond t (logical_from (begun ++ line) lines) (begun ∷ logical_from line lines))
    (not-true (begins_blank line) anew) ∙ ap (λ x. x ∷ logical_from line lines) (sym (append-nil begun))
joined_to (f ∷ folded) begun rest h anew =
    let parts = and_parts (begins_blank f) (list_all begins_blank folded) h in
    ap (λ t. cond t (logical_from (begun ++ f) (folded ++ rest)) (begun ∷ logical_from f (folded ++ rest))) parts.0
    ∙ joined_to folded (begun ++ f) rest parts.1 anew
    ∙ ap (λ x. x ∷ logical_lines rest) (append_assoc begun f (concat folded))

no_logical_lines : logical_lines [] ≡ []
unfolding logical_lines
no_logical_lines = refl

some_logical_lines : (line : List ℕ) (lines : List (List ℕ)) → logical_lines (line ∷ lines) ≡ logical_from line lines
unfolding logical_lines
some_logical_lines line lines = refl

logical_to : {lines more : List (List ℕ)} → LogicalOf lines more → logical_lines lines ≡ more
logical_to no_logical = no_logical_lines
logical_to (logical line folded rest more h anew k) = some_logical_lines line (folded ++ rest)
    ∙ joined_to folded line rest h anew ∙ ap (λ x. (line ++ concat folded) ∷ x) (logical_to k)

-- line ends

abbrev test : ℕ → List ℕ → Bool
test c bs = nat_lt 0 (length bs) && (slice_index bs (length bs - 1) == c)

last_at : (front : List ℕ) (b : ℕ) → slice_index (front ++ b ∷ []) (length front) ≡ b
last_at [] b = refl
last_at (x ∷ front) b = last_at front b

pub less_one : (front : List ℕ) (b : ℕ) → length (front ++ b ∷ []) - 1 ≡ length front
less_one front b = omega (arith, length-append front (b ∷ []))

test_at : (front : List ℕ) (b c : ℕ) → test c (front ++ b ∷ []) ≡ eqb b c
test_at front b c =
    let some : nat_lt 0 (length (front ++ b ∷ [])) ≡ true = lt-ltb 0 (length (front ++ b ∷ [])) (omega (arith, length-append front (b ∷ []))) in
    ap (λ t. t && (slice_index (front ++ b ∷ []) (length (front ++ b ∷ []) - 1) == c)) some
    ∙ ap (λ k. slice_index (front ++ b ∷ []) k == c) (less_one front b) ∙ ap (λ x. x == c) (last_at front b)

cut_last : (front : List ℕ) (b : ℕ) → take (length (front ++ b ∷ []) - 1) (front ++ b ∷ []) ≡ front
cut_last front b = ap (λ k. take k (front ++ b ∷ [])) (less_one front b) ∙ take-append_seam front (b ∷ [])

-- the last octet is cut off where it is c
without_it : (front : List ℕ) (c : ℕ) → without_last c (front ++ c ∷ []) ≡ front
without_it front c =
    ap (λ t. cond t (take (length (front ++ c ∷ []) - 1) (front ++ c ∷ [])) (front ++ c ∷ [])) (test_at front c c
    ∙ eq-eqb c c refl) ∙ cut_last front c

pub without_lf : (front : List ℕ) → without_end (front ++ 10 ∷ []) ≡ without_last 13 front
without_lf front =
    ap (λ t. cond t (without_last 13 (without_last 10 (front ++ 10 ∷ []))) (front ++ 10 ∷ [])) (test_at front 10 10)
    ∙ ap (without_last 13) (without_it front 10)

last_cons : (x : ℕ) (bs : List ℕ) → (bs ≡ []) ⊎ ((front : List ℕ) × (b : ℕ) × (bs ≡ front ++ b ∷ [])) → (front : List ℕ)
    × (b : ℕ) × (x ∷ bs ≡ front ++ b ∷ [])
last_cons x bs (inl e) = ([], x, ap (λ y. x ∷ y) e)
last_cons x bs (inr (front, b, e)) = (x ∷ front, b, ap (λ y. x ∷ y) e)

last_of : (bs : List ℕ) → (bs ≡ []) ⊎ ((front : List ℕ) × (b : ℕ) × (bs ≡ front ++ b ∷ []))
last_of [] = inl refl
last_of (x ∷ bs) = inr (last_cons x bs (last_of bs))

not_in : (c : ℕ) (bs : List ℕ) → test c bs ≡ false → EndsIn c bs → ⊥
not_in c bs e (front, f) = true≢false (sym (eq-eqb c c refl) ∙ sym (test_at front c c) ∙ ap (test c) (sym f) ∙ e)

ends_or : (c : ℕ) (bs : List ℕ) → EndsIn c bs ⊎ (test c bs ≡ false)
ends_or c bs = by (last_of bs)
  where
    at : (front : List ℕ) (b : ℕ) (t : Bool) → eqb b c ≡ t → bs ≡ front ++ b ∷ [] → EndsIn c bs ⊎ (test c bs ≡ false)
    at front b true e f = inl (front, f ∙ ap (λ x. front ++ x ∷ []) (eqb-true b c e))
    at front b false e f = inr (ap (test c) f ∙ test_at front b c ∙ e)

    by : (bs ≡ []) ⊎ ((front : List ℕ) × (b : ℕ) × (bs ≡ front ++ b ∷ [])) → EndsIn c bs ⊎ (test c bs ≡ false)
    by (inl e) = inr (ap (test c) e)
    by (inr (front, b, f)) = at front b (eqb b c) refl f

test_no : (c : ℕ) (bs : List ℕ) → (EndsIn c bs → ⊥) → test c bs ≡ false
test_no c bs no_end = elim (ends_or c bs) [
  | inl ends ↦ absurd (no_end ends)
  | inr e ↦ e
]

end_to : (body end : List ℕ) → IsEnd body end → without_end (body ++ end) ≡ body
end_to body end (inl (e, no_end)) = ap (λ x. without_end (body ++ x)) e ∙ ap without_end (append-nil body)
    ∙ ap (λ t. cond t (without_last 13 (without_last 10 body)) body) (test_no 10 body no_end)
end_to body end (inr (inl (e, no_end))) = ap (λ x. without_end (body ++ x)) e ∙ without_lf body
    ∙ ap (λ t. cond t (take (length body - 1) body) body) (test_no 13 body no_end)
end_to body end (inr (inr e)) = ap (λ x. without_end (body ++ x)) e
    ∙ ap without_end (sym (append_assoc body (13 ∷ []) (10 ∷ []))) ∙ without_lf (body ++ 13 ∷ []) ∙ without_it body 13

abbrev Ended : List ℕ → Type 0
Ended text = (body : List ℕ) × (end : List ℕ) × (text ≡ body ++ end) × IsEnd body end

end_of : (text : List ℕ) → Ended text
end_of text = elim (ends_or 10 text) [
  | inl lf ↦ after_lf lf.0 lf.1 (ends_or 13 lf.0)
  | inr e ↦ (text, [], sym (append-nil text), inl (refl, not_in 10 text e))
]
  where
    after_lf : (front : List ℕ) → text ≡ front ++ 10 ∷ [] → EndsIn 13 front ⊎ (test 13 front ≡ false) → Ended text
    after_lf front e (inl (body, f)) = (body, 13 ∷ 10 ∷ [], e ∙ ap (λ x. x ++ 10 ∷ []) f ∙ append_assoc body (13 ∷ []) (10 ∷ []), inr (inr refl))
    after_lf front e (inr f) = (front, 10 ∷ [], e, inr (inl (refl, not_in 13 front f)))

-- fields

run_stops : (p : ℕ → Bool) (xs : List ℕ) (y : ℕ) (ys : List ℕ) → list_all p xs ≡ true → p y ≡ false → prefix_len p (xs ++ y ∷ ys) ≡ length xs
run_stops p [] y ys h k = rw k refl
run_stops p (x ∷ xs) y ys h k =
    let parts = and_parts (p x) (list_all p xs) h in
    rw (parts.0, run_stops p xs y ys parts.1 k) (omega arith)

run_passes : (p : ℕ → Bool) (bs : List ℕ) → list_all p (take (prefix_len p bs) bs) ≡ true
run_passes p [] = refl
run_passes p (b ∷ bs) = at (p b) refl (run_passes p bs)
  where
    at : (t : Bool) → p b ≡ t → list_all p (take (prefix_len p bs) bs) ≡ true → list_all p (take (cond t (1 + prefix_len p bs) 0) (b ∷ bs)) ≡ true
    at true e h = let one : 1 + prefix_len p bs ≡ suc (prefix_len p bs) = omega arith in rw (one, e) h
    at false e h = refl

-- a blank and a colon are no octets of a name
blank_is_no_name : (b : ℕ) → is_blank b ≡ true → is_name_octet b ≡ false
blank_is_no_name b h = elim (cases_Bool (eqb b 32)) [
  | inl e ↦ ap is_name_octet (eqb-true b 32 e)
  | inr space ↦ elim (cases_Bool (eqb b 9)) [
    | inl e ↦ ap is_name_octet (eqb-true b 9 e)
    | inr tab ↦ absurd (true≢false (sym h ∙ rw (space, tab) refl))
  ]
]

name_run : (name blanks tail : List ℕ) → list_all is_name_octet name ≡ true → list_all is_blank blanks ≡ true
    → prefix_len is_name_octet (name ++ (blanks ++ 58 ∷ tail)) ≡ length name
name_run name [] tail h k = run_stops is_name_octet name 58 tail h refl
name_run name (b ∷ blanks) tail h k = run_stops is_name_octet name b (blanks
    ++ 58 ∷ tail) h (blank_is_no_name b (and_parts (is_blank b) (list_all is_blank blanks) k).0)

field_written : (name blanks tail : List ℕ) → 0 < length name → list_all is_name_octet name ≡ true
    → list_all is_blank blanks ≡ true → field_of (name ++ (blanks ++ 58 ∷ tail)) ≡ Some (name, without_end tail)
unfolding field_of
field_written name blanks tail some h k =
    let named : nat_lt 0 (length name) ≡ true = lt-ltb 0 (length name) some in
    rw (
      name_run name blanks tail h k,
      take-append_seam name (blanks ++ 58 ∷ tail),
      drop-append_seam name (blanks ++ 58 ∷ tail),
      run_stops is_blank blanks 58 tail k refl,
      drop-append_seam blanks (58 ∷ tail),
      named,
    ) refl

field_to : (line name body : List ℕ) → IsField line name body → field_of line ≡ Some (name, body)
field_to line name body h = ap field_of h.joined ∙ field_written name h.blanks (body ++ h.end) h.some h.octets h.blank
    ∙ ap (λ x. Some (name, x)) (end_to body h.end h.ends)

chosen_pair : {X Y : Type 0} (t : Bool) (x : X) (y : Y) (p : X × Y) → cond t (Some (x, y)) None ≡ Some p → (t ≡ true) × (x ≡ p.0) × (y ≡ p.1)
chosen_pair true x y p h = (refl, cc, cc)
chosen_pair false x y p h = absurd cc

colon_first : (bs : List ℕ) → begins_with 58 bs ≡ true → bs ≡ 58 ∷ drop 1 bs
colon_first [] h = absurd cc
colon_first (b ∷ bs) h = ap (λ x. x ∷ bs) (eqb-true b 58 h)

field_is : (line name body tail : List ℕ) → name ≡ take (prefix_len is_name_octet line) line
    → nat_lt 0 (prefix_len is_name_octet line) ≡ true
    → drop (prefix_len is_blank (drop (prefix_len is_name_octet line) line)) (drop (prefix_len is_name_octet line) line)
    ≡ 58 ∷ tail → without_end tail ≡ body → IsField line name body
field_is line name body tail en some er eb =
    let n = prefix_len is_name_octet line in
    let after = drop n line in
    let k = prefix_len is_blank after in
    let ended = end_of tail in
    let same : ended.0 ≡ body = sym (end_to ended.0 ended.1 ended.3) ∙ ap without_end (sym ended.2) ∙ eb in
    let P : List ℕ → Type 0 = λ x. IsEnd x ended.1 in
    let Q : List ℕ → Type 0 = λ x. list_all is_name_octet x ≡ true in
    let following : after ≡ take k after ++ 58 ∷ tail = sym (take-append-drop k after) ∙ ap (λ x. take k after ++ x) er in
    let long : length name ≡ n = ap length en ∙ length-prefix_len is_name_octet line in
    record {
      blanks = take k after;
      end = ended.1;
      joined = sym (take-append-drop n line) ∙ ap (λ x. x ++ after) (sym en)
          ∙ ap (λ x. name ++ x) (following ∙ ap (λ x. take k after ++ 58 ∷ x) (ended.2 ∙ ap (λ x. x ++ ended.1) same));
      some = omega (arith, long, ltb-true 0 n some);
      octets = subst Q (sym en) (run_passes is_name_octet line);
      blank = run_passes is_blank after;
      ends = subst P same ended.3;
    }

field_from : (line name body : List ℕ) → field_of line ≡ Some (name, body) → IsField line name body
unfolding field_of
field_from line name body h =
    let n = prefix_len is_name_octet line in
    let after = drop n line in
    let rest = drop (prefix_len is_blank after) after in
    let parts = chosen_pair (nat_lt 0 n && begins_with 58 rest) (take n line) (without_end (drop 1 rest)) (name, body) h in
    let tests = and_parts (nat_lt 0 n) (begins_with 58 rest) parts.0 in
    field_is line name body (drop 1 rest) (sym parts.1) tests.0 (colon_first rest tests.1) parts.2

fields_from : (lines : List (List ℕ)) → FieldsAmong lines (filter_map field_of lines)
fields_from [] = no_fields
fields_from (line ∷ lines) = by (field_of line) refl (fields_from lines)
  where
    by : (o : Option (List ℕ × List ℕ)) → field_of line ≡ o → FieldsAmong lines (filter_map field_of lines)
        → FieldsAmong (line ∷ lines) (cons_option o (filter_map field_of lines))
    by (Some (name, body)) e h = field line name body lines (filter_map field_of lines) (field_from line name body e) h
    by None e h = passed line lines (filter_map field_of lines) (λ name body k. none_some (name, body) (sym e ∙ field_to line name body k)) h
      where
        none_some : (f : List ℕ × List ℕ) → None ≡ Some f → ⊥
        none_some f c = absurd cc

not_field : (line : List ℕ) (o : Option (List ℕ × List ℕ)) → field_of line ≡ o → ((name body : List ℕ) → IsField line name body → ⊥) → o ≡ None
not_field line None e h = refl
not_field line (Some (name, body)) e h = absurd (h name body (field_from line name body e))

fields_to : {lines : List (List ℕ)} {fields : List (List ℕ × List ℕ)} → FieldsAmong lines fields → filter_map field_of lines ≡ fields
fields_to no_fields = refl
fields_to (field line name body lines fields h more) =
    ap (λ o. cons_option o (filter_map field_of lines)) (field_to line name body h)
    ∙ ap (λ x. (name, body) ∷ x) (fields_to more)
fields_to (passed line lines fields h more) =
    ap (λ o. cons_option o (filter_map field_of lines)) (not_field line (field_of line) refl h) ∙ fields_to more

-- a message

computed_are_fields : (message : List ℕ) → AreFields message (fields_of message)
unfolding fields_of
computed_are_fields message = (
  raw_lines message,
  header_lines (raw_lines message),
  logical_lines (header_lines (raw_lines message)),
  lines_from message,
  header_from (raw_lines message),
  logical_all (header_lines (raw_lines message)),
  fields_from (logical_lines (header_lines (raw_lines message))),
)

are_computed : (message : List ℕ) (fields : List (List ℕ × List ℕ)) → AreFields message fields → fields ≡ fields_of message
unfolding fields_of
are_computed message fields (lines, header, joined, of_lines, is_header, of_logical, among) =
    let header_same : header_lines (raw_lines message) ≡ header = ap header_lines (lines_to of_lines) ∙ header_to lines header is_header in
    let joined_same : logical_lines (header_lines (raw_lines message)) ≡ joined = ap logical_lines header_same ∙ logical_to of_logical in
    sym (ap (filter_map field_of) joined_same ∙ fields_to among)

pub fields_law : FieldsLaw
fields_law message fields = (
  λ e. let P : List (List ℕ × List ℕ) → Type 0 = λ x. AreFields message x in
      subst P (sym e) (computed_are_fields message),
  are_computed message fields,
)
