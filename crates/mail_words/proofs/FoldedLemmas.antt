-- A folded text, read octet by octet from its front or its end.
use Rattle.std.proofs.Common.{◌≡◌, ℕ, suc, ◌+◌, ◌-◌, ◌<◌, Bool, true, false, cond, eqb, List, [], ◌∷◌, ◌++◌, length}
use Rattle.std.proofs.Common.{take, drop, refl, sym, ap, get_or, append_assoc, ◌∙◌, arith, eqb-true}
use Rattle.std.proofs.lemmas.List.{append-nil, length-append, take_more, take_at, drop_at, take_all, take-append-le}
use Rattle.std.proofs.lemmas.List.{reverse-append, nil_from_length, append_cancel_right, get_or-append_right}
use Rattle.std.proofs.lemmas.List.Folds.{list_all-append}
use Rattle.std.proofs.Math.Bool.{and-false, or-true}
use Rattle.std.proofs.lemmas.Bool.{and_parts}
use Rattle.std.specs.Prelude.{nat_lt, ◌&&◌, ◌||◌}
use Rattle.std.specs.List.{list_all, prefix_len, suffix_len, take_while}
use Rattle.mail_words.specs.Unfolding.{is_blank, without_cr, begins_with, begins_line_end, ends_in, without_line_ends}
use Rattle.mail_words.specs.Unfolding.{IsFirstOctet, without_first_blanks, without_last_blanks}
use Rattle.mail_words.specs.Words.{is_charset_octet, is_text_octet, is_part_octet, IsPartOctet}
use Rattle.mail_words.specs.declared.words.WordPart.{WordPart}
use Rattle.mail_words.specs.declared.words.WordPart.TheVariants.{Charset, Text}
use Rattle.mail_words.proofs.UnfoldingLemmas.{before_lf, without_cr-cons}

-- the last octet is c
abbrev pub last_is : ℕ → List ℕ → Bool
last_is c [] = false
last_is c (b ∷ []) = eqb b c
last_is c (b ∷ d ∷ ds) = last_is c (d ∷ ds)

push_append : (t : Bool) (b : ℕ) (xs ys : List ℕ) → cond t (xs ++ ys) (b ∷ (xs ++ ys)) ≡ cond t xs (b ∷ xs) ++ ys
push_append true b xs ys = refl
push_append false b xs ys = refl

-- two texts that make no line end where they are joined
pub unfolded-append : (xs ys : List ℕ) → (last_is 13 xs && begins_with 10 ys) ≡ false
    → without_line_ends (xs ++ ys) ≡ without_line_ends xs ++ without_line_ends ys
unfolding without_line_ends
unfolded-append [] ys h = refl
unfolded-append (b ∷ []) [] h = sym (append-nil (without_line_ends (b ∷ [])))
unfolded-append (b ∷ []) (y ∷ ys) h = rw (h, and-false (eqb b 13)) (before_lf (eqb b 10 || false) b (without_line_ends (y ∷ ys)))
unfolded-append (b ∷ c ∷ cs) ys h =
    ap (λ x. cond (eqb b 10 || (eqb b 13 && eqb c 10)) x (b ∷ x)) (unfolded-append (c ∷ cs) ys h)
    ∙ push_append (eqb b 10 || (eqb b 13 && eqb c 10)) b (without_line_ends (c ∷ cs)) (without_line_ends ys)

pub last-snoc : (c : ℕ) (xs : List ℕ) (b : ℕ) → last_is c (xs ++ b ∷ []) ≡ eqb b c
last-snoc c [] b = refl
last-snoc c (x ∷ []) b = refl
last-snoc c (x ∷ y ∷ ys) b = last-snoc c (y ∷ ys) b

pub unfolded-before : (xs ys : List ℕ) → begins_with 10 ys ≡ false → without_line_ends (xs ++ ys) ≡ without_line_ends xs ++ without_line_ends ys
unfolded-before xs ys h = unfolded-append xs ys (ap (λ t. last_is 13 xs && t) h ∙ and-false (last_is 13 xs))

pub unfolded-snoc : (xs : List ℕ) (b : ℕ) → eqb b 10 ≡ false → without_line_ends (xs ++ b ∷ []) ≡ without_line_ends xs ++ b ∷ []
unfolding without_line_ends
unfolded-snoc xs b h = unfolded-before xs (b ∷ []) h ∙ rw (h, and-false (eqb b 13)) refl

-- an LF at the end, with one CR before it
begins-without : (c : ℕ) (cs : List ℕ) → begins_with 10 (without_cr (c ∷ cs)) ≡ eqb c 10
begins-without c [] = at (eqb c 13) refl
  where
    at : (t : Bool) → eqb c 13 ≡ t → begins_with 10 (cond t [] (c ∷ [])) ≡ eqb c 10
    at true e = rw (eqb-true c 13 e) refl
    at false e = refl
begins-without c (d ∷ ds) = ap (begins_with 10) (without_cr-cons c d ds)

pub unfolded-end : (xs : List ℕ) → without_line_ends (xs ++ 10 ∷ []) ≡ without_line_ends (without_cr xs)
unfolding without_line_ends
unfolded-end [] = refl
unfolded-end (b ∷ []) = at (eqb b 13)
  where
    at : (t : Bool) → cond (eqb b 10 || (t && true)) [] (b ∷ []) ≡ without_line_ends (cond t [] (b ∷ []))
    at true = rw (or-true (eqb b 10)) refl
    at false = rw (and-false (eqb b 13)) refl
unfolded-end (b ∷ c ∷ cs) = ap (λ x. cond (eqb b 10 || (eqb b 13 && eqb c 10)) x (b ∷ x)) (unfolded-end (c ∷ cs))
    ∙ ap (λ t. cond (eqb b 10 || (eqb b 13 && t)) (without_line_ends (without_cr (c ∷ cs))) (b
    ∷ without_line_ends (without_cr (c ∷ cs)))) (sym (begins-without c cs))
    ∙ ap without_line_ends (sym (without_cr-cons b c cs))

-- the first octet
pub record Skipped (text rest : List ℕ) : Type 0 where
  pub front : List ℕ
  pub joined : text ≡ front ++ rest
  pub same : without_line_ends text ≡ without_line_ends rest

pub Skipped-none : (text : List ℕ) → Skipped text text
Skipped-none text = record { front = []; joined = refl; same = refl }

pub Skipped-one : (text rest following : List ℕ) → Skipped text rest → begins_line_end rest ≡ true → following ≡ drop 1 rest → Skipped text following
unfolding without_line_ends
Skipped-one text [] following s h e = absurd cc
Skipped-one text (b ∷ bs) following s h e = record {
  front = s.front ++ b ∷ [];
  joined = s.joined ∙ sym (append_assoc s.front (b ∷ []) bs) ∙ ap (λ x. (s.front ++ b ∷ []) ++ x) (sym e);
  same = s.same ∙ ap (λ t. cond t (without_line_ends bs) (b ∷ without_line_ends bs)) h ∙ ap without_line_ends (sym e);
}

pub Skipped-to : (text rest following : List ℕ) (octet : ℕ) → Skipped text rest → begins_line_end rest ≡ false
    → rest ≡ octet ∷ following → IsFirstOctet text octet following
unfolding without_line_ends
Skipped-to text [] following octet s h e = absurd cc
Skipped-to text (b ∷ bs) following octet s h e = (
  s.front,
  s.joined ∙ ap (λ x. s.front ++ x) e,
  s.same ∙ ap (λ t. cond t (without_line_ends bs) (b ∷ without_line_ends bs)) h ∙ (let same : b ∷ bs ≡ octet ∷ following = e in cc),
)

pub Skipped-all : (text rest : List ℕ) → Skipped text rest → length rest ≡ 0 → without_line_ends text ≡ []
unfolding without_line_ends
Skipped-all text rest s e = s.same ∙ ap without_line_ends (nil_from_length rest e)

pub unfolded-nil : (text rest : List ℕ) → without_line_ends text ≡ without_line_ends rest → length rest ≡ 0 → without_line_ends text ≡ []
unfolding without_line_ends
unfolded-nil text rest h e = h ∙ ap without_line_ends (nil_from_length rest e)

-- the last octet
ends_in-snoc : (c : ℕ) (xs : List ℕ) → ends_in c xs ≡ true → xs ≡ take (length xs - 1) xs ++ c ∷ []
ends_in-snoc c [] h = absurd cc
ends_in-snoc c (x ∷ xs) h =
    let n : suc (length xs) - 1 ≡ length xs = omega arith in
    let parts = and_parts (nat_lt 0 (suc (length xs))) (eqb (get_or (x ∷ xs) (suc (length xs) - 1) 0) c) h in
    let last : get_or (x ∷ xs) (length xs) 0 ≡ c = ap (λ k. get_or (x ∷ xs) k 0) (sym n)
    ∙ eqb-true (get_or (x ∷ xs) (suc (length xs) - 1) 0) c parts.1 in
    let all : take (length xs + 1) (x ∷ xs) ≡ x ∷ xs = take_all (length xs + 1) (x ∷ xs) (omega arith) in
    sym all ∙ take_more (x ∷ xs) (length xs) 0 (omega arith) ∙ ap (λ k. take (length xs) (x ∷ xs) ++ k ∷ []) last
    ∙ ap (λ k. take k (x ∷ xs) ++ c ∷ []) (sym n)

pub unfolded-line : (text line rest : List ℕ) → ends_in 10 text ≡ true → line ≡ take (length text - 1) text
    → rest ≡ without_cr line → without_line_ends text ≡ without_line_ends rest
unfolded-line text line rest h el er = ap without_line_ends (ends_in-snoc 10 text h ∙ ap (λ x. x ++ 10 ∷ []) (sym el))
    ∙ unfolded-end line ∙ ap without_line_ends (sym er)

-- the last octet, where it is no LF
ends_in-last : (c : ℕ) (xs : List ℕ) (b : ℕ) → ends_in c (xs ++ b ∷ []) ≡ eqb b c
ends_in-last c xs b =
    let some : nat_lt 0 (length (xs ++ b ∷ [])) ≡ true = rw (length-append xs (b ∷ [])) (grind arith) in
    let n : length (xs ++ b ∷ []) - 1 ≡ length xs = omega (arith, length-append xs (b ∷ [])) in
    let none : length xs - length xs ≡ 0 = omega arith in
    let last : get_or (xs ++ b ∷ []) (length xs) 0 ≡ b =
    get_or-append_right xs (b ∷ []) (length xs) (length xs) 0 refl (omega arith)
    ∙ ap (λ k. get_or (b ∷ []) k 0) none in
    rw (some, n, last) refl

pub unfolded-last : (text rest before : List ℕ) (b : ℕ) → without_line_ends text ≡ without_line_ends rest
    → ends_in 10 rest ≡ false → rest ≡ before ++ b ∷ [] → without_line_ends text ≡ without_line_ends before ++ b ∷ []
unfolded-last text rest before b same h e = same ∙ ap without_line_ends e
    ∙ unfolded-snoc before b (sym (ends_in-last 10 before b) ∙ ap (ends_in 10) (sym e) ∙ h)

-- blanks at the front
pub first_blanks-more : (rest following : List ℕ) (octet : ℕ) → rest ≡ octet ∷ following → is_blank octet ≡ true
    → without_first_blanks rest ≡ without_first_blanks following
first_blanks-more rest following octet e h = let one : 1 + prefix_len is_blank following
    ≡ suc (prefix_len is_blank following) = omega arith in ap without_first_blanks e ∙ rw (h, one) refl

pub first_blanks-stop : (rest following : List ℕ) (octet : ℕ) → rest ≡ octet ∷ following → is_blank octet ≡ false → without_first_blanks rest ≡ rest
first_blanks-stop rest following octet e h = ap without_first_blanks e ∙ rw h (sym e)

pub first_blanks-none : (rest : List ℕ) → rest ≡ [] → without_first_blanks rest ≡ rest
first_blanks-none [] e = refl
first_blanks-none (b ∷ bs) e = absurd cc

pub all_blank-more : (rest following : List ℕ) (octet : ℕ) → rest ≡ octet ∷ following → is_blank octet ≡ true
    → list_all is_blank rest ≡ list_all is_blank following
all_blank-more rest following octet e h = ap (list_all is_blank) e ∙ rw h refl

pub all_blank-stop : (rest following : List ℕ) (octet : ℕ) → rest ≡ octet ∷ following → is_blank octet ≡ false → list_all is_blank rest ≡ false
all_blank-stop rest following octet e h = ap (list_all is_blank) e ∙ rw h refl

-- blanks at the end
pub last_blanks-none : (rest : List ℕ) → rest ≡ [] → without_last_blanks rest ≡ rest
last_blanks-none [] e = refl
last_blanks-none (b ∷ bs) e = absurd cc

suffix_len-last : (before : List ℕ) (octet : ℕ)
    → suffix_len is_blank (before ++ octet ∷ []) ≡ cond (is_blank octet) (1 + suffix_len is_blank before) 0
suffix_len-last before octet = ap (prefix_len is_blank) (reverse-append before (octet ∷ []))

pub last_blanks-more : (rest before : List ℕ) (octet : ℕ) → rest ≡ before ++ octet ∷ [] → is_blank octet ≡ true
    → without_last_blanks rest ≡ without_last_blanks before
last_blanks-more rest before octet e h =
    let s : suffix_len is_blank (before ++ octet ∷ []) ≡ 1 + suffix_len is_blank before = suffix_len-last before octet ∙ rw h refl in
    let n : length (before ++ octet ∷ []) - (1 + suffix_len is_blank before)
    ≡ length before - suffix_len is_blank before = omega (arith, length-append before (octet ∷ [])) in
    ap without_last_blanks e ∙ ap (λ k. take (length (before ++ octet ∷ []) - k) (before ++ octet ∷ [])) s
    ∙ ap (λ k. take k (before ++ octet ∷ [])) n
    ∙ take-append-le (length before - suffix_len is_blank before) before (octet ∷ []) (omega arith)

pub last_blanks-stop : (rest before : List ℕ) (octet : ℕ) → rest ≡ before ++ octet ∷ [] → is_blank octet ≡ false → without_last_blanks rest ≡ rest
last_blanks-stop rest before octet e h =
    let s : suffix_len is_blank (before ++ octet ∷ []) ≡ 0 = suffix_len-last before octet ∙ rw h refl in
    ap without_last_blanks e ∙ ap (λ k. take (length (before ++ octet ∷ []) - k) (before ++ octet ∷ [])) s
    ∙ take_all (length (before ++ octet ∷ []) - 0) (before ++ octet ∷ []) (omega arith) ∙ sym e

-- the octets of a part
part_not_cr : (part : WordPart) (b : ℕ) → is_part_octet part b ≡ true → eqb b 13 ≡ false
part_not_cr part b h = at (eqb b 13) refl part h
  where
    at : (t : Bool) → eqb b 13 ≡ t → (p : WordPart) → is_part_octet p b ≡ true → eqb b 13 ≡ false
    at false e p k = e
    at true e Charset k = let here : is_charset_octet 13 ≡ true = ap is_charset_octet (sym (eqb-true b 13 e)) ∙ k in absurd cc
    at true e Text k = let here : is_text_octet 13 ≡ true = ap is_text_octet (sym (eqb-true b 13 e)) ∙ k in absurd cc

pub record InPart (part : WordPart) (text rest : List ℕ) : Type 0 where
  pub front : List ℕ
  pub joined : text ≡ front ++ rest
  pub apart : last_is 13 front ≡ false
  pub all : list_all (is_part_octet part) (without_line_ends front) ≡ true

pub InPart-none : (part : WordPart) (text : List ℕ) → InPart part text text
unfolding without_line_ends
InPart-none part text = record { front = []; joined = refl; apart = refl; all = refl }

in_part-split : (part : WordPart) (text rest : List ℕ) (s : InPart part text rest)
    → without_line_ends text ≡ without_line_ends s.front ++ without_line_ends rest
in_part-split part text rest s = ap without_line_ends s.joined ∙ unfolded-append s.front rest (rw s.apart refl)

pub InPart-more : (part : WordPart) (text rest following : List ℕ) → InPart part text rest
    → IsPartOctet part rest following → InPart part text following
InPart-more part text rest following s (b, passes, (ends, e, f)) =
    let p : ℕ → Bool = is_part_octet part in
    let front : List ℕ = (s.front ++ ends) ++ b ∷ [] in
    let joined : text ≡ front ++ following = s.joined ∙ ap (λ x. s.front ++ x) e
    ∙ sym (append_assoc s.front ends (b ∷ following)) ∙ sym (append_assoc (s.front ++ ends) (b ∷ []) following) in
    let apart : last_is 13 front ≡ false = last-snoc 13 (s.front ++ ends) b ∙ part_not_cr part b passes in
    let whole : without_line_ends text ≡ without_line_ends front ++ without_line_ends following =
    ap without_line_ends joined ∙ unfolded-append front following (rw apart refl) in
    let same : without_line_ends text ≡ (without_line_ends s.front ++ b ∷ []) ++ without_line_ends following =
    in_part-split part text rest s ∙ ap (λ x. without_line_ends s.front ++ x) f
    ∙ sym (append_assoc (without_line_ends s.front) (b ∷ []) (without_line_ends following)) in
    let here : without_line_ends front ≡ without_line_ends s.front
    ++ b ∷ [] = append_cancel_right (without_line_ends front) (without_line_ends s.front
    ++ b ∷ []) (without_line_ends following) (sym whole ∙ same) in
    record {
      front = front;
      joined = joined;
      apart = apart;
      all = ap (list_all p) here ∙ list_all-append p (without_line_ends s.front) (b ∷ []) ∙ rw (s.all, passes) refl;
    }

pub InPart-front : (part : WordPart) (text rest front : List ℕ) → InPart part text rest
    → front ≡ take (length text - length rest) text
    → (without_line_ends text ≡ without_line_ends front ++ without_line_ends rest)
    × (list_all (is_part_octet part) (without_line_ends front) ≡ true)
InPart-front part text rest front s e =
    let n : length s.front ≡ length text - length rest = omega (arith, ap length s.joined, length-append s.front rest) in
    let same : front ≡ s.front = e ∙ ap (take (length text - length rest)) s.joined ∙ take_at s.front rest (length text - length rest) n in (
      in_part-split part text rest s ∙ ap (λ x. without_line_ends x ++ without_line_ends rest) (sym same),
      ap (λ x. list_all (is_part_octet part) (without_line_ends x)) same ∙ s.all,
    )

pub part-shorter : (part : WordPart) (text following : List ℕ) → IsPartOctet part text following
    → length (without_line_ends following) < length (without_line_ends text)
part-shorter part text following (b, passes, (ends, e, f)) = omega (arith, ap length f)

-- a run of a part's octets before one that is none
take_run : (p : ℕ → Bool) (front rest : List ℕ) → list_all p front ≡ true → take_while p rest ≡ [] → take_while p (front ++ rest) ≡ front
take_run p [] rest a e = e
take_run p (x ∷ xs) rest a e =
    let parts = and_parts (p x) (list_all p xs) a in
    let one : 1 + prefix_len p (xs ++ rest) ≡ suc (prefix_len p (xs ++ rest)) = omega arith in
    rw (parts.0, one) (ap (λ ys. x ∷ ys) (take_run p xs rest parts.1 e))

pub run_front : (p : ℕ → Bool) (whole front rest : List ℕ) → whole ≡ front ++ rest → list_all p front ≡ true
    → take_while p rest ≡ [] → front ≡ take_while p whole
run_front p whole front rest h a e = sym (ap (take_while p) h ∙ take_run p front rest a e)

pub run_after : (p : ℕ → Bool) (whole front rest : List ℕ) → whole ≡ front ++ rest → list_all p front ≡ true
    → take_while p rest ≡ [] → rest ≡ drop (length (take_while p whole)) whole
run_after p whole front rest h a e = sym (ap (λ ys. drop (length ys) whole) (sym (run_front p whole front rest h a e))
    ∙ ap (drop (length front)) h ∙ drop_at front rest (length front) refl)
