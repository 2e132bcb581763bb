-- A faulty place by the grammar is refused there.
use Rattle.std.proofs.Common.{◌≡◌, ℕ, suc, ◌+◌, ◌<◌, ◌⊎◌, Bool, true, false, List, [], ◌∷◌, ◌++◌, length, take, drop, nat_lt, Option, Some, None, Ok}
use Rattle.std.proofs.Common.{Err, refl, sym, ap, ◌∙◌, arith, inl, inr, length-append, append_assoc}
use Rattle.std.specs.Prelude.{if◌then◌else◌, ◌==◌, ◌&&◌, ◌||◌, codes}
use Rattle.std.specs.List.{prefix_len, list_all}
use Rattle.std.specs.Char.{is_ascii_digit, to_ascii_lowercase}
use Rattle.std.proofs.lemmas.Bool.{false≢true, true≢false, both_ways, cases_Bool, cases_lt, eqb-true, not-true, ne_eqb, lt-ltb, le-ltb, and_parts}
use Rattle.std.proofs.lemmas.List.{append-nil, length-map, take-append-drop}
use Rattle.sieve_syntax.specs.declared.token.Mark.{Mark}
use Rattle.sieve_syntax.specs.declared.token.Mark.TheVariants.{Semicolon, OpenBrace, CloseBrace, OpenParen, CloseParen}
use Rattle.sieve_syntax.specs.declared.token.Mark.TheVariants.{OpenBracket, CloseBracket, Comma}
use Rattle.sieve_syntax.specs.declared.token.TokenKind.{TokenKind}
use Rattle.sieve_syntax.specs.declared.token.TokenKind.TheVariants as kinds
use Rattle.sieve_text.specs.declared.fault.ScanRefusal.{ScanRefusal}
use Rattle.sieve_text.specs.declared.fault.ScanRefusal.TheVariants.{NotUtf8, NoToken, StringNotClosed, CommentNotClosed}
use Rattle.sieve_text.specs.declared.fault.ScanRefusal.TheVariants.{NumberTooLarge, ScriptTooLong, StringTooLong}
use Rattle.sieve_text.specs.Octets.{is_blank, is_white, is_start, not_lf, begins, begins_with, line_end_len}
use Rattle.sieve_text.specs.Gaps.{bracketed_len, opens_bracketed, comment_len, gap_len}
use Rattle.sieve_text.specs.Strings.{quoted_len, begins_as, begins_text, opening_end_at, is_last_line, lines_len}
use Rattle.sieve_text.specs.Tokens.{mark_of, string_kind, quoted_at, lines_at, multi_line_at, tag_at, kind_at, either_place, text_len}
use Rattle.sieve_text.specs.TokenGrammar.{IsNumber, QuotedText, quoted_end, quoted_plain, quoted_pair, IsLineEnd, Lines, no_lines, line, IsTextColon}
use Rattle.sieve_text.specs.TokenGrammar.{IsHashComment, IsQuoted, IsMultiLine, octet_of, Lexeme, closes}
use Rattle.sieve_text.specs.FaultGrammar.{IsNoBeginning, IsNoOpening, NoTokenAt, no_beginning, no_tag, no_opening, OpenString, open_quoted}
use Rattle.sieve_text.specs.FaultGrammar.{open_escape, open_opening, open_lines, IsLargeNumber, IsLongString, IsFaultHere}
use Rattle.sieve_text.proofs.GapFound.{exactly, closes_after, closes_rest}
use Rattle.sieve_text.proofs.GapGrammar.{before}
use Rattle.sieve_text.proofs.GapLemmas.{gap_none}
use Rattle.sieve_text.proofs.GrammarParts.{mark_octet}
use Rattle.sieve_text.proofs.KindGrammar.{line_rest, line_alone, no_last, dot_line, suc_eqb, line_end_taken}
use Rattle.sieve_text.proofs.Longest.{t_starts, opening_whole, after_opening, after_line}
use Rattle.sieve_text.proofs.KindFound.{number_found, quoted_found, multi_line_found, text_kind, unbound, blanks_read}
use Rattle.sieve_text.proofs.KindFound.{opening_read, quote_kind, tag_kind}

-- the refusal, and its place
abbrev pub IsRefused : List ℕ → ScanRefusal → ℕ → Type 0
IsRefused bs refusal before = (kind_at bs ≡ Err refusal) × (either_place 0 (text_len bs) refusal ≡ before)

-- NO GAP BEGINS HERE

no_comment_here : (bs : List ℕ) → begins_with 35 bs ≡ false → opens_bracketed bs ≡ false → comment_len bs ≡ 0
unfolding comment_len
no_comment_here bs h o = rw (h, o) refl

pub no_gap : (b : ℕ) (bs : List ℕ) → is_white b ≡ false → (b == 35) ≡ false → opens_bracketed (b ∷ bs) ≡ false → gap_len 0 (b ∷ bs) ≡ 0
no_gap b bs w h o = gap_none (b ∷ bs) w (no_comment_here (b ∷ bs) h o)

-- an octet of a class that has no white space, no "#" and no "/"
pub record IsPlainFirst (p : ℕ → Bool) : Type 0 where
  pub space : p 32 ≡ false
  pub tab : p 9 ≡ false
  pub feed : p 10 ≡ false
  pub return : p 13 ≡ false
  pub hash : p 35 ≡ false
  pub slash : p 47 ≡ false

unlike : (p : ℕ → Bool) (b n : ℕ) → p b ≡ true → p n ≡ false → (b == n) ≡ false
unlike p b n h e = elim (cases_Bool (b == n)) [
  | inl s ↦ absurd (both_ways (p n) e (sym (ap p (eqb-true b n s)) ∙ h))
  | inr s ↦ s
]

pub plain_gap : (p : ℕ → Bool) → IsPlainFirst p → (b : ℕ) (bs : List ℕ) → p b ≡ true → gap_len 0 (b ∷ bs) ≡ 0
plain_gap p c b bs h =
    let white : is_white b ≡ false = rw (unlike p b 32 h c.space, unlike p b 9 h c.tab, unlike p b 10 h c.feed, unlike p b 13 h c.return) refl in
    let slash : opens_bracketed (b ∷ bs) ≡ false = rw (unlike p b 47 h c.slash) refl in
    no_gap b bs white (unlike p b 35 h c.hash) slash

pub start_first : IsPlainFirst is_start
start_first = record { space = refl; tab = refl; feed = refl; return = refl; hash = refl; slash = refl }

pub digit_first : IsPlainFirst is_ascii_digit
digit_first = record { space = refl; tab = refl; feed = refl; return = refl; hash = refl; slash = refl }

pub octet_first : (n : ℕ) → IsPlainFirst (λ b. b == n) → (bs : List ℕ) → (n == n) ≡ true → gap_len 0 (n ∷ bs) ≡ 0
octet_first n c bs h = plain_gap (λ b. b == n) c n bs h

pub quote_gap : (bs : List ℕ) → gap_len 0 (34 ∷ bs) ≡ 0
quote_gap bs = no_gap 34 bs refl refl refl

pub colon_gap : (bs : List ℕ) → gap_len 0 (58 ∷ bs) ≡ 0
colon_gap bs = no_gap 58 bs refl refl refl

pub mark_gap : (m : Mark) (bs : List ℕ) → gap_len 0 (octet_of m ∷ bs) ≡ 0
mark_gap Semicolon bs = no_gap 59 bs refl refl refl
mark_gap OpenBrace bs = no_gap 123 bs refl refl refl
mark_gap CloseBrace bs = no_gap 125 bs refl refl refl
mark_gap OpenParen bs = no_gap 40 bs refl refl refl
mark_gap CloseParen bs = no_gap 41 bs refl refl refl
mark_gap OpenBracket bs = no_gap 91 bs refl refl refl
mark_gap CloseBracket bs = no_gap 93 bs refl refl refl
mark_gap Comma bs = no_gap 44 bs refl refl refl

pub name_gap : (name following : List ℕ) → begins is_start name ≡ true → gap_len 0 (name ++ following) ≡ 0
name_gap [] following h = absurd (false≢true h)
name_gap (b ∷ bs) following h = plain_gap is_start start_first b (bs ++ following) h

pub digits_gap : (ds following : List ℕ) → 0 < length ds → list_all is_ascii_digit ds ≡ true → gap_len 0 (ds ++ following) ≡ 0
digits_gap [] following some all = absurd (omega arith)
digits_gap (d ∷ ds) following some all = plain_gap is_ascii_digit digit_first d (ds
    ++ following) (and_parts (is_ascii_digit d) (list_all is_ascii_digit ds) all).0

pub text_gap : (word following : List ℕ) → begins_text (word ++ following) ≡ true → gap_len 0 (word ++ following) ≡ 0
text_gap word following t = first (word ++ following) t
  where
    first : (bs : List ℕ) → begins_text bs ≡ true → gap_len 0 bs ≡ 0
    first [] t = absurd (false≢true t)
    first (b ∷ bs) t =
        plain_gap is_start start_first b bs
        (t_starts b (eqb-true (to_ascii_lowercase b) 116
        (and_parts (to_ascii_lowercase b == 116) (begins_as (codes "ext:") bs) t).0))

-- NO TOKEN

none_of : (b : ℕ) → ((m : Mark) → b ≡ octet_of m → ⊥) → mark_of b ≡ None
none_of b none = go (mark_of b) refl
  where
    go : (o : Option Mark) → mark_of b ≡ o → mark_of b ≡ None
    go None e = e
    go (Some m) e = absurd (none m (mark_octet b m e))

text_false : (b : ℕ) (bs : List ℕ) → is_start b ≡ false → begins_text (b ∷ bs) ≡ false
text_false b bs s = elim (cases_Bool (begins_text (b ∷ bs))) [
  | inl e ↦ absurd
      (both_ways (is_start b) s
      (t_starts b (eqb-true (to_ascii_lowercase b) 116
      (and_parts (to_ascii_lowercase b == 116) (begins_as (codes "ext:") bs) e).0)))
  | inr e ↦ e
]

slash_false : (b : ℕ) (bs : List ℕ) → (b ≡ 47 → begins_with 42 bs ≡ false) → opens_bracketed (b ∷ bs) ≡ false
slash_false b bs h = elim (cases_Bool (b == 47)) [
  | inl e ↦ rw (e, h (eqb-true b 47 e)) refl
  | inr e ↦ rw e refl
]

nothing_kind : (b : ℕ) (bs : List ℕ) → begins_text (b ∷ bs) ≡ false → is_start b ≡ false → is_ascii_digit b ≡ false
    → (b == 58) ≡ false → (b == 34) ≡ false → opens_bracketed (b ∷ bs) ≡ false → mark_of b ≡ None
    → kind_at (b ∷ bs) ≡ Err NoToken
unfolding kind_at
nothing_kind b bs t s d c q o m = rw (t, s, d, c, q, o, m) refl

nothing_found : (b : ℕ) (bs : List ℕ) → IsNoBeginning b bs → IsRefused (b ∷ bs) NoToken 0
nothing_found b bs h =
    let t = text_false b bs h.name in
    (nothing_kind b bs t h.name h.digit h.colon h.quote (slash_false b bs h.comment) (none_of b h.mark), rw t refl)

tag_refused : (bs : List ℕ) → begins is_start bs ≡ false → tag_at bs ≡ Err NoToken
unfolding tag_at
tag_refused bs h = rw h refl

-- the line of "text:"
no_line_end : (bs : List ℕ) → ((end following : List ℕ) → bs ≡ end ++ following → IsLineEnd end → ⊥) → line_end_len bs ≡ 0
no_line_end bs none = elim (cases_lt 0 (line_end_len bs)) [
  | inl h ↦ absurd (none (take (line_end_len bs) bs) (drop (line_end_len bs) bs) (sym (take-append-drop (line_end_len bs) bs)) (line_end_taken bs h))
  | inr h ↦ omega arith
]

opening_refused : (bs : List ℕ) → IsNoOpening bs → opening_end_at bs ≡ Err NoToken
opening_refused bs h =
    let some = h.some in
    let n = no_line_end bs h.line_end in
    rw (ne_eqb (length bs) 0 (λ e. omega arith), h.hash, n) refl

multi_line_refused : (blanks from : List ℕ) (refusal : ScanRefusal) → list_all is_blank blanks ≡ true
    → begins is_blank from ≡ false → opening_end_at from ≡ Err refusal → multi_line_at (blanks ++ from) ≡ Err refusal
unfolding multi_line_at
multi_line_refused blanks from refusal all stops e =
    let p = blanks_read blanks from all stops in
    let whole : List ℕ = blanks ++ from in
    unbound (opening_end_at (drop (prefix_len is_blank whole) whole)) (λ n.
    lines_at (5 + (prefix_len is_blank whole + n)) (drop (prefix_len is_blank whole + n) whole)) refusal
    (ap opening_end_at p.1 ∙ e)

text_place : (word blanks from : List ℕ) → IsTextColon word → list_all is_blank blanks ≡ true
    → begins is_blank from ≡ false → text_len (word ++ (blanks ++ from)) ≡ length word + length blanks
text_place word blanks from w all stops =
    let k = text_kind word (blanks ++ from) w in
    let p = blanks_read blanks from all stops in
    let five : length word ≡ 5 = sym (length-map word to_ascii_lowercase) ∙ ap length w in
    let e = ap (λ (cs : List ℕ). prefix_len is_blank cs) k.2 in
    rw k.1 (omega arith)

no_token_found : (before : ℕ) (bs : List ℕ) → NoTokenAt before bs → IsRefused bs NoToken before
no_token_found _ _ (no_beginning b following h) = nothing_found b following h
no_token_found _ _ (no_tag following h) = (tag_kind following ∙ tag_refused following h, refl)
no_token_found _ _ (no_opening word blanks following w all h) = (
  (text_kind word (blanks ++ following) w).0
      ∙ multi_line_refused blanks following NoToken all h.blank (opening_refused following h),
  text_place word blanks following w all h.blank,
)

-- OPEN STRINGS

quoted_on : (body text : List ℕ) → QuotedText body text → (quoted_len false body ≡ length body)
    × (quoted_len false (body ++ 92 ∷ []) ≡ suc (length body))
unfolding quoted_len
quoted_on _ _ quoted_end = (refl, refl)
quoted_on _ _ (quoted_plain b bs says n34 n92 q) =
    let r = quoted_on bs says q in
    rw (ne_eqb b 34 n34, ne_eqb b 92 n92) (ap suc r.0, ap suc r.1)
quoted_on _ _ (quoted_pair b bs says q) = let r = quoted_on bs says q in (ap (λ n. suc (suc n)) r.0, ap (λ n. suc (suc n)) r.1)

quoted_refused : (bs : List ℕ) → quoted_len false bs ≡ length bs → quoted_at bs ≡ Err StringNotClosed
unfolding quoted_at
quoted_refused bs e = rw (le-ltb (quoted_len false bs) (length bs) (omega arith)) refl

opening_open : (comment : List ℕ) → IsHashComment comment → (opening_end_at comment ≡ Err StringNotClosed) × (begins is_blank comment ≡ false)
opening_open comment (inl e) = rw e (refl, refl)
opening_open [] (inr h) = (refl, refl)
opening_open (b ∷ bs) (inr h) =
    let n = ap (λ (cs : List ℕ). prefix_len not_lf cs) (append-nil (b ∷ bs)) in
    let m = exactly not_lf (b ∷ bs) [] h.1 refl in
    let is : b ≡ 35 = eqb-true b 35 h.0 in
    (hash_open (b ∷ bs) h.0 (omega arith) (omega arith), rw is refl)
  where
    hash_open : (bs : List ℕ) → begins_with 35 bs ≡ true → prefix_len not_lf bs ≡ length bs → 0 < length bs → opening_end_at bs ≡ Err StringNotClosed
    hash_open bs h e some = rw (ne_eqb (length bs) 0 (λ z. omega arith), h, le-ltb (prefix_len not_lf bs) (length bs) (omega arith)) refl

lines_refused : (before : ℕ) (bs : List ℕ) → lines_len true bs ≡ length bs → lines_at before bs ≡ Err StringNotClosed
unfolding lines_at
lines_refused before bs e = rw (le-ltb (lines_len true bs) (length bs) (omega arith)) refl

-- octets without LF that are no single dot do not end a multi-line string
last_false : (last : List ℕ) → list_all not_lf last ≡ true → (last ≡ 46 ∷ [] → ⊥) → is_last_line last ≡ false
last_false [] all no_dot = refl
last_false (b ∷ []) all no_dot = elim (cases_Bool (b == 46)) [
  | inl e ↦ absurd (no_dot (ap (λ c. c ∷ []) (eqb-true b 46 e)))
  | inr e ↦ rw e refl
]
last_false (b ∷ c ∷ bs) all no_dot =
    let p = and_parts (not_lf b) (list_all not_lf (c ∷ bs)) all in
    let q = and_parts (not_lf c) (list_all not_lf bs) p.1 in
    rw (suc_eqb (length bs), not-true (c == 10) q.0) (no_end (b == 46) (c == 13) bs q.1)
  where
    no_end : (dot return : Bool) (bs : List ℕ) → list_all not_lf bs ≡ true
        → (dot && (false || nat_lt 0 (if return && begins_with 10 bs then 2 else 0))) ≡ false
    no_end false return bs all = refl
    no_end true false bs all = refl
    no_end true true [] all = refl
    no_end true true (d ∷ bs) all = rw (not-true (d == 10) (and_parts (not_lf d) (list_all not_lf bs) all).0) refl

lines_on : (body text : List ℕ) → Lines body text → (last : List ℕ) → list_all not_lf last ≡ true → (last ≡ 46 ∷ [] → ⊥)
    → lines_len true (body ++ last) ≡ length body + length last
lines_on _ _ no_lines last all no_dot =
    let m = exactly not_lf last [] all refl in
    let n = ap (λ (cs : List ℕ). prefix_len not_lf cs) (append-nil last) in
    let a = line_alone last (omega arith) in
    let s = no_last last (last_false last all no_dot) in
    omega arith
lines_on _ _ (line content bs says whole dot r) last all no_dot =
    let rest : List ℕ = bs ++ last in
    let a : (content ++ 10 ∷ bs) ++ last ≡ content ++ 10 ∷ rest = append_assoc content (10 ∷ bs) last in
    let n : prefix_len not_lf (content ++ 10 ∷ rest) ≡ length content = exactly not_lf content (10 ∷ rest) whole refl in
    let l = length-append content (10 ∷ rest) in
    let s = no_last (content ++ 10 ∷ rest) (dot_line content rest whole ∙ dot) in
    let t = line_rest (content ++ 10 ∷ rest) (omega arith) in
    let d : drop (suc (prefix_len not_lf (content ++ 10 ∷ rest))) (content ++ 10 ∷ rest) ≡ rest =
    ap (λ m. drop (suc m) (content ++ 10 ∷ rest)) n ∙ after_line content rest in
    let u = ap (λ cs. lines_len true cs) d in
    let r1 = lines_on bs says r last all no_dot in
    let l1 = length-append content (10 ∷ bs) in
    rw a (omega arith)

open_found : (bs : List ℕ) → OpenString bs → kind_at bs ≡ Err StringNotClosed
open_found _ (open_quoted body text q) = quote_kind body ∙ quoted_refused body (quoted_on body text q).0
open_found _ (open_escape body text q) =
    let l = length-append body (92 ∷ []) in
    let n = (quoted_on body text q).1 in
    quote_kind (body ++ 92 ∷ []) ∙ quoted_refused (body ++ 92 ∷ []) (omega arith)
open_found _ (open_opening word blanks comment w all c) =
    let o = opening_open comment c in
    (text_kind word (blanks ++ comment) w).0 ∙ multi_line_refused blanks comment StringNotClosed all o.1 o.0
open_found _ (open_lines word blanks comment end body text last w all c en ls clean no_dot) =
    let rest : List ℕ = body ++ last in
    let from : List ℕ = comment ++ (end ++ rest) in
    let o = opening_whole comment end rest c en in
    let n = lines_on body text ls last clean no_dot in
    let l = length-append body last in
    (text_kind word (blanks ++ from) w).0
    ∙ opening_read blanks from (length comment + length end) all o.1 o.0
    ∙ ap (λ (cs : List ℕ). lines_at (5 + (length blanks + (length comment + length end))) cs) (after_opening comment end rest)
    ∙ lines_refused (5 + (length blanks + (length comment + length end))) rest (omega arith)

-- OPEN COMMENTS

comment_kind : (body : List ℕ) → kind_at (47 ∷ 42 ∷ body) ≡ Err CommentNotClosed
unfolding kind_at
comment_kind body = refl

bracketed_on : (after_star : Bool) (bs : List ℕ) → closes (before after_star bs) ≡ false → bracketed_len after_star bs ≡ length bs
unfolding bracketed_len
bracketed_on after_star [] h = refl
bracketed_on true (b ∷ bs) h = elim (cases_Bool (b == 47)) [
  | inl e ↦ absurd (true≢false (rw e at h))
  | inr e ↦ rw e (ap suc (bracketed_on (b == 42) bs (closes_after b bs (closes_rest 42 (b ∷ bs) h))))
]
bracketed_on false (b ∷ bs) h = ap suc (bracketed_on (b == 42) bs (closes_after b bs h))

none_closed : (body : List ℕ) → closes body ≡ false → comment_len (47 ∷ 42 ∷ body) ≡ 0
unfolding comment_len
none_closed body h = let n = bracketed_on false body h in rw (le-ltb (bracketed_len false body) (length body) (omega arith)) refl

open_comment_gap : (body : List ℕ) → closes body ≡ false → gap_len 0 (47 ∷ 42 ∷ body) ≡ 0
open_comment_gap body h = gap_none (47 ∷ 42 ∷ body) refl (none_closed body h)

-- ANY FAULT

too_long : (value : List ℕ) (n : ℕ) → 65535 < length value → string_kind value n ≡ Err StringTooLong
too_long value n h = rw (lt-ltb 65535 (length value) h) refl

long_found : (bs : List ℕ) → IsLongString bs → kind_at bs ≡ Err StringTooLong
long_found bs h = go h.string
  where
    go : IsQuoted h.value h.octets ⊎ IsMultiLine h.value h.octets h.following → kind_at bs ≡ Err StringTooLong
    go (inl q) =
        ap kind_at (h.cut ∙ ap (λ (cs : List ℕ). cs ++ h.following) q.cut) ∙ quoted_found q.body q.text h.following q.spells
        ∙ ap (λ (v : List ℕ). string_kind v (length (34 ∷ (q.body ++ 34 ∷ [])))) (sym q.says)
        ∙ too_long h.value (length (34 ∷ (q.body ++ 34 ∷ []))) h.long
    go (inr m) = ap kind_at h.cut ∙ multi_line_found h.octets h.value h.following m ∙ too_long h.value (length h.octets) h.long

large_found : (bs : List ℕ) → IsLargeNumber bs → kind_at bs ≡ Err NumberTooLarge
large_found bs h =
    ap kind_at h.cut ∙ number_found h.octets h.following h.value h.number (λ other more rest same number.
    h.longest other more rest (h.cut ∙ same) number)
    ∙ ap (λ (t : Bool). if t then Err NumberTooLarge else Ok (kinds.Number h.value, length h.octets)) (lt-ltb 9223372036854775807 h.value h.large)

pub fault_found : (refusal : ScanRefusal) (before : ℕ) (bs : List ℕ) → IsFaultHere refusal before bs → IsRefused bs refusal before
fault_found NotUtf8 before bs h = absurd h
fault_found NoToken before bs h = no_token_found before bs h
fault_found StringNotClosed before bs h = (open_found bs h.1, sym h.0)
fault_found CommentNotClosed before bs h = (ap kind_at h.1.1 ∙ comment_kind h.1.0, sym h.0)
fault_found NumberTooLarge before bs h = (large_found bs h.1, sym h.0)
fault_found ScriptTooLong before bs h = absurd h
fault_found StringTooLong before bs h = (long_found bs h.1, sym h.0)

-- NO GAP BEFORE A TOKEN OR A FAULT

string_gap : (value octets following : List ℕ) → IsQuoted value octets ⊎ IsMultiLine value octets following → gap_len 0 (octets ++ following) ≡ 0
string_gap value octets following (inl q) = rw q.cut (quote_gap ((q.body ++ 34 ∷ []) ++ following))
string_gap value octets following (inr m) =
    let from : List ℕ = m.blanks ++ (m.comment ++ (m.end ++ (m.body ++ 46 ∷ m.last))) in
    let e : octets ++ following ≡ m.word ++ (from ++ following) = ap (λ (cs : List ℕ). cs ++ following) m.cut ∙ append_assoc m.word from following in
    rw e (text_gap m.word (from ++ following) (text_kind m.word (from ++ following) m.word_is).1)

number_gap : (octets following : List ℕ) (value : ℕ) → IsNumber value octets → gap_len 0 (octets ++ following) ≡ 0
number_gap octets following value h = rw (h.cut, append_assoc) (digits_gap h.digits (h.quantifier ++ following) h.some h.all)

pub lexeme_gap : (kind : TokenKind) (octets following : List ℕ) → Lexeme kind octets following → gap_len 0 (octets ++ following) ≡ 0
lexeme_gap (kinds.Identifier xs) octets following h = rw h.0 (name_gap xs following h.1.0)
lexeme_gap (kinds.Tag xs) octets following h = rw h.0 (colon_gap (xs ++ following))
lexeme_gap (kinds.Number n) octets following h = number_gap octets following n h
lexeme_gap (kinds.StringValue value) octets following h = string_gap value octets following h
lexeme_gap (kinds.Mark m) octets following h = rw h (mark_gap m following)

open_gap : (bs : List ℕ) → OpenString bs → gap_len 0 bs ≡ 0
open_gap _ (open_quoted body text q) = quote_gap body
open_gap _ (open_escape body text q) = quote_gap (body ++ 92 ∷ [])
open_gap _ (open_opening word blanks comment w all c) = text_gap word (blanks ++ comment) (text_kind word (blanks ++ comment) w).1
open_gap _ (open_lines word blanks comment end body text last w all c en ls clean no_dot) = let from : List ℕ = blanks
    ++ (comment ++ (end ++ (body ++ last))) in text_gap word from (text_kind word from w).1

no_token_gap : (before : ℕ) (bs : List ℕ) → NoTokenAt before bs → gap_len 0 bs ≡ 0
no_token_gap _ _ (no_beginning b following h) = no_gap b following h.white h.hash (slash_false b following h.comment)
no_token_gap _ _ (no_tag following h) = colon_gap following
no_token_gap _ _ (no_opening word blanks following w all h) = text_gap word (blanks ++ following) (text_kind word (blanks ++ following) w).1

pub fault_gap : (refusal : ScanRefusal) (before : ℕ) (bs : List ℕ) → IsFaultHere refusal before bs → gap_len 0 bs ≡ 0
fault_gap NotUtf8 before bs h = absurd h
fault_gap NoToken before bs h = no_token_gap before bs h
fault_gap StringNotClosed before bs h = open_gap bs h.1
fault_gap CommentNotClosed before bs h = rw h.1.1 (open_comment_gap h.1.0 h.1.2)
fault_gap NumberTooLarge before bs h = rw h.1.cut (number_gap h.1.octets h.1.following h.1.value h.1.number)
fault_gap ScriptTooLong before bs h = absurd h
fault_gap StringTooLong before bs h = rw h.1.cut (string_gap h.1.value h.1.octets h.1.following h.1.string)

-- A FAULT HAS AN OCTET

text_some : (bs : List ℕ) → begins_text bs ≡ true → 0 < length bs
text_some [] t = absurd (false≢true t)
text_some (b ∷ bs) t = omega arith

string_some : (value octets following : List ℕ) → IsQuoted value octets ⊎ IsMultiLine value octets following → 0 < length (octets ++ following)
string_some value octets following (inl q) = rw q.cut (omega arith)
string_some value octets following (inr m) =
    let from : List ℕ = m.blanks ++ (m.comment ++ (m.end ++ (m.body ++ 46 ∷ m.last))) in
    let e : octets ++ following ≡ m.word ++ (from ++ following) = ap (λ (cs : List ℕ). cs ++ following) m.cut ∙ append_assoc m.word from following in
    rw e (text_some (m.word ++ (from ++ following)) (text_kind m.word (from ++ following) m.word_is).1)

open_some : (bs : List ℕ) → OpenString bs → 0 < length bs
open_some _ (open_quoted body text q) = omega arith
open_some _ (open_escape body text q) = omega arith
open_some _ (open_opening word blanks comment w all c) = text_some (word ++ (blanks ++ comment)) (text_kind word (blanks ++ comment) w).1
open_some _ (open_lines word blanks comment end body text last w all c en ls clean no_dot) = let from : List ℕ = blanks
    ++ (comment ++ (end ++ (body ++ last))) in text_some (word ++ from) (text_kind word from w).1

no_token_some : (before : ℕ) (bs : List ℕ) → NoTokenAt before bs → 0 < length bs
no_token_some _ _ (no_beginning b following h) = omega arith
no_token_some _ _ (no_tag following h) = omega arith
no_token_some _ _ (no_opening word blanks following w all h) = text_some (word ++ (blanks ++ following)) (text_kind word (blanks ++ following) w).1

comment_some : (bs body : List ℕ) → bs ≡ 47 ∷ 42 ∷ body → 0 < length bs
comment_some bs body e = let n = ap length e in omega arith

large_some : (bs : List ℕ) → IsLargeNumber bs → 0 < length bs
large_some bs h =
    let n = h.number in
    let a = ap length h.cut in
    let b = length-append h.octets h.following in
    let c = ap length n.cut in
    let d = length-append n.digits n.quantifier in
    let s = n.some in
    omega arith

pub fault_some : (refusal : ScanRefusal) (before : ℕ) (bs : List ℕ) → IsFaultHere refusal before bs → 0 < length bs
fault_some NotUtf8 before bs h = absurd h
fault_some NoToken before bs h = no_token_some before bs h
fault_some StringNotClosed before bs h = open_some bs h.1
fault_some CommentNotClosed before bs h = comment_some bs h.1.0 h.1.1
fault_some NumberTooLarge before bs h = large_some bs h.1
fault_some ScriptTooLong before bs h = absurd h
fault_some StringTooLong before bs h = rw h.1.cut (string_some h.1.value h.1.octets h.1.following h.1.string)
