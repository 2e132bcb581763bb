-- Octets as they are shown, chunk by chunk, and bare names.
use Rattle.std.proofs.Common.{◌≡◌, ◌∙◌, ℕ, zero, suc, ◌+◌, ◌<◌, ◌≤◌, Bool, true, false, not, List, [], ◌∷◌}
use Rattle.std.proofs.Common.{◌++◌, length, take, drop, refl, sym, ap, append_assoc, append-nil, length-append, arith, inl, inr, true≢false}
use Rattle.std.specs.Prelude.{nat_lt, nat_le, ◌&&◌, ◌||◌, ◌==◌, flat_map}
use Rattle.std.specs.Char.Escape.{backslash}
use Rattle.std.specs.List.{list_all}
use Rattle.std.specs.Str.{chars, IsAscii}
use Rattle.std.specs.Str.Lossy.{utf8_valid_len, utf8_invalid_len, after_first_chunk}
use Rattle.std.proofs.str.Lossy.{length-after_first_chunk}
use Rattle.std.proofs.lemmas.Bool.{and_parts, cases_lt, eq-eqb, ne_eqb, lt-ltb, le-ltb, le-leb, leb-true, not-true, cond-true}
use Rattle.std.proofs.lemmas.List.{take_at, drop_at}
use Rattle.std.proofs.lemmas.Str.{utf8_valid_len_le, utf8_valid_len-IsUtf8, IsUtf8-from_ascii, chars-IsAscii, chars-nil}
use Rattle.unicode_width.specs.Width.{char_width}
use Rattle.tool_texts.specs.Quoting.{is_hidden, is_attached, is_plain, octet_text, shown_of, shown_after, front_text, stray_octets}
use Rattle.tool_texts.specs.Quoting.{escaped_within, escaped_text, is_bare_octet, is_bare, quoted_text, named_text}
use Rattle.tool_texts.proofs.Visible.{printable}

nil_from_length : (xs : List ℕ) → length xs ≡ 0 → xs ≡ []
nil_from_length [] none = refl
nil_from_length (x ∷ xs) none = absurd (omega (arith, none))

-- ---- any bound of the times

within_whole : (k : ℕ) (bs : List ℕ) → utf8_valid_len bs ≡ length bs → escaped_within k bs ≡ shown_after false (chars bs)
within_whole zero bs whole = refl
within_whole (suc k) bs whole = rw (eq-eqb _ _ whole)

within_faulty : (k : ℕ) (bs : List ℕ) → ¬ (utf8_valid_len bs ≡ length bs)
    → escaped_within (suc k) bs ≡ front_text bs ++ (flat_map octet_text (stray_octets bs) ++ escaped_within k (after_first_chunk bs))
within_faulty k bs faulty = rw (ne_eqb _ _ faulty)

within_any : (k j : ℕ) (bs : List ℕ) → length bs ≤ k → length bs ≤ j → escaped_within k bs ≡ escaped_within j bs
within_any zero j bs p q = let within = utf8_valid_len_le bs in sym (within_whole j bs (omega arith))
within_any (suc k) zero bs p q = let within = utf8_valid_len_le bs in within_whole (suc k) bs (omega arith)
within_any (suc k) (suc j) bs p q =
    let within = utf8_valid_len_le bs in
    elim (cases_lt (utf8_valid_len bs) (length bs)) [
      | inl short ↦
          let faulty : ¬ (utf8_valid_len bs ≡ length bs) = omega arith in
          let less = length-after_first_chunk bs faulty in
          within_faulty k bs faulty
          ∙ ap (λ (t : List ℕ). front_text bs ++ (flat_map octet_text (stray_octets bs) ++ t))
          (within_any k j (after_first_chunk bs) (omega arith) (omega arith))
          ∙ sym (within_faulty j bs faulty)
      | inr whole ↦ within_whole (suc k) bs (omega arith) ∙ sym (within_whole (suc j) bs (omega arith))
    ]

text_of_none : escaped_text [] ≡ []
unfolding escaped_text
text_of_none = ap (shown_after false) chars-nil

pub text_of_empty : (bs : List ℕ) → length bs ≡ 0 → escaped_text bs ≡ []
text_of_empty bs none = ap escaped_text (nil_from_length bs none) ∙ text_of_none

text_of_whole : (bs : List ℕ) → utf8_valid_len bs ≡ length bs → escaped_text bs ≡ shown_after false (chars bs)
unfolding escaped_text
text_of_whole bs whole = within_whole (length bs) bs whole

text_of_faulty : (bs : List ℕ) → ¬ (utf8_valid_len bs ≡ length bs)
    → escaped_text bs ≡ front_text bs ++ (flat_map octet_text (stray_octets bs) ++ escaped_text (after_first_chunk bs))
unfolding escaped_text
text_of_faulty bs faulty =
    let less = length-after_first_chunk bs faulty in
    within_any (length bs) (suc (length bs)) bs (omega arith) (omega arith)
    ∙ within_faulty (length bs) bs faulty
    ∙ ap (λ (t : List ℕ). front_text bs ++ (flat_map octet_text (stray_octets bs) ++ t))
    (within_any (length bs) (length (after_first_chunk bs)) (after_first_chunk bs) (omega arith) (omega arith))

-- ---- a chunk

some_stray : (bs valid invalid rest : List ℕ) → bs ≡ valid ++ (invalid ++ rest) → length valid ≡ utf8_valid_len bs
    → length invalid ≡ utf8_invalid_len (drop (utf8_valid_len bs) bs) → 0 < length invalid
    → escaped_text bs ≡ shown_after false (chars valid) ++ (flat_map octet_text invalid ++ escaped_text rest)
some_stray bs valid invalid rest parts valid_len invalid_len some =
    let n = utf8_valid_len bs in
    let m = utf8_invalid_len (drop n bs) in
    let total = ap length parts ∙ length-append valid (invalid ++ rest) in
    let faulty : ¬ (n ≡ length bs) = omega (arith, length-append invalid rest) in
    let front : take n bs ≡ valid = ap (take n) parts ∙ take_at valid _ n valid_len in
    let tail : drop n bs ≡ invalid ++ rest = ap (drop n) parts ∙ drop_at valid _ n valid_len in
    let stray : stray_octets bs ≡ invalid = ap (take m) tail ∙ take_at invalid rest m invalid_len in
    let both_len : length (valid ++ invalid) ≡ n + m = omega (arith, length-append valid invalid) in
    let back : after_first_chunk bs ≡ rest =
    ap (drop (n + m)) (parts ∙ sym (append_assoc valid invalid rest)) ∙ drop_at _ rest _ both_len in
    text_of_faulty bs faulty
    ∙ (λ i. shown_after false (chars (front i)) ++ (flat_map octet_text (stray i) ++ escaped_text (back i)))

none_stray : (bs valid invalid rest : List ℕ) → bs ≡ valid ++ (invalid ++ rest) → length valid ≡ utf8_valid_len bs
    → length invalid ≡ 0 → length rest ≡ 0
    → escaped_text bs ≡ shown_after false (chars valid) ++ (flat_map octet_text invalid ++ escaped_text rest)
none_stray bs valid invalid rest parts valid_len no_invalid no_rest =
    let nothing : invalid ≡ [] = nil_from_length invalid no_invalid in
    let no_more : rest ≡ [] = nil_from_length rest no_rest in
    let same : bs ≡ valid = parts ∙ (λ i. valid ++ (nothing i ++ no_more i)) ∙ append-nil valid in
    let long : length bs ≡ length valid = ap length same in
    let tail : flat_map octet_text invalid ++ escaped_text rest ≡ [] =
    (λ i. flat_map octet_text (nothing i) ++ escaped_text (no_more i)) ∙ text_of_none in
    text_of_whole bs (omega arith)
    ∙ ap (λ (t : List ℕ). shown_after false (chars t)) same
    ∙ sym (append-nil (shown_after false (chars valid)))
    ∙ ap (λ (t : List ℕ). shown_after false (chars valid) ++ t) (sym tail)

-- the characters of a chunk, its octets that are no UTF-8, and the rest
pub chunk_text : (bs valid invalid rest : List ℕ) → bs ≡ valid ++ (invalid ++ rest) → length valid ≡ utf8_valid_len bs
    → length invalid ≡ utf8_invalid_len (drop (utf8_valid_len bs) bs) → (length invalid ≡ 0 → length rest ≡ 0)
    → escaped_text bs ≡ shown_after false (chars valid) ++ (flat_map octet_text invalid ++ escaped_text rest)
chunk_text bs valid invalid rest parts valid_len invalid_len last =
    elim (cases_lt 0 (length invalid)) [
      | inl some ↦ some_stray bs valid invalid rest parts valid_len invalid_len some
      | inr none ↦
          let no_invalid : length invalid ≡ 0 = omega arith in
          none_stray bs valid invalid rest parts valid_len no_invalid (last no_invalid)
    ]

-- ---- bare names

record IsBareOctet (o : ℕ) : Type 0 where
  from : 33 ≤ o
  to : o < 127
  no_quote : (o == 34) ≡ false
  no_backslash : (o == backslash) ≡ false

bare_octet : (o : ℕ) → is_bare_octet o ≡ true → IsBareOctet o
bare_octet o h =
    let outer = and_parts ((nat_le 33 o && nat_le o 126) && not (o == 34)) (not (o == backslash)) h in
    let inner = and_parts (nat_le 33 o && nat_le o 126) (not (o == 34)) outer.0 in
    let range = and_parts (nat_le 33 o) (nat_le o 126) inner.0 in
    let low : 33 ≤ o = leb-true 33 o range.0 in
    let high : o ≤ 126 = leb-true o 126 range.1 in
    record {
      from = low;
      to = omega arith;
      no_quote = not-true (o == 34) inner.1;
      no_backslash = not-true (o == backslash) outer.1;
    }

nil_ascii : IsAscii []
nil_ascii zero = omega arith
nil_ascii (suc i) = omega arith

at_ascii : (o : ℕ) (os : List ℕ) → o < 128 → IsAscii os → IsAscii (o ∷ os)
at_ascii o os lt more zero = lt
at_ascii o os lt more (suc i) = more i

are_ascii : (os : List ℕ) → list_all is_bare_octet os ≡ true → IsAscii os
are_ascii [] h = nil_ascii
are_ascii (o ∷ os) h =
    let parts = and_parts (is_bare_octet o) (list_all is_bare_octet os) h in
    let bare = bare_octet o parts.0 in
    at_ascii o os (omega (arith, bare.to)) (are_ascii os parts.1)

has_column : (o : ℕ) → 33 ≤ o → o < 127 → is_attached o ≡ false
unfolding is_attached char_width
has_column o low high =
    let below : nat_lt o 127 ≡ true = lt-ltb o 127 high in
    let above : nat_le 32 o ≡ true = le-leb 32 o (omega arith) in
    rw (below, above) refl

visible : (b h : Bool) → b ≡ false → (b || not h) ≡ true → h ≡ false
visible true h e k = absurd (true≢false e)
visible false h e k = not-true h k

bare_shown : (a : Bool) (o : ℕ) → IsBareOctet o → shown_of a o ≡ o ∷ []
unfolding shown_of
bare_shown a o bare =
    let low : 33 ≤ o = bare.from in
    let no_control : nat_lt o 32 ≡ false = le-ltb o 32 (omega arith) in
    let seen : is_hidden o ≡ false = visible (nat_lt o 32) (is_hidden o) no_control (printable o bare.to) in
    rw (seen, has_column o bare.from bare.to, bare.no_quote, bare.no_backslash) refl

bare_all : (a : Bool) (os : List ℕ) → list_all is_bare_octet os ≡ true → shown_after a os ≡ os
bare_all a [] h = refl
bare_all a (o ∷ os) h =
    let parts = and_parts (is_bare_octet o) (list_all is_bare_octet os) h in
    ap (λ (t : List ℕ). t ++ shown_after (is_plain a o) os) (bare_shown a o (bare_octet o parts.0))
    ∙ ap (λ (t : List ℕ). o ∷ t) (bare_all (is_plain a o) os parts.1)

-- a bare name is shown as it is
bare_text : (name : List ℕ) → is_bare name ≡ true → escaped_text name ≡ name
bare_text name h =
    let all = (and_parts (nat_lt 0 (length name)) (list_all is_bare_octet name) h).1 in
    let ascii = are_ascii name all in
    text_of_whole name (utf8_valid_len-IsUtf8 name (IsUtf8-from_ascii name ascii))
    ∙ ap (shown_after false) (chars-IsAscii name ascii)
    ∙ bare_all false name all

pub named_bare : (name : List ℕ) → is_bare name ≡ true → escaped_text name ≡ named_text name
named_bare name h = bare_text name h ∙ sym (cond-true (is_bare name) name (quoted_text name) h)
