-- A text with more characters.
use Rattle.std.proofs.Common.{◌≡◌, ℕ, ◌<◌, ◌+◌, Bool, false, not, List, length, drop, get_or, add-one}
use Rattle.std.proofs.Common.{drop-cons, [], ◌∷◌, ◌++◌, refl, sym, ap, ◌∙◌, append_assoc, append-nil}
use Rattle.std.specs.Prelude.{flat_map}
use Rattle.std.specs.Char.{encode_utf8}
use Rattle.std.specs.Str.{encode_utf8_all}
use Rattle.std.proofs.lemmas.Str.{encodes-append}
use Rattle.tool_texts.specs.Quoting.{shown_of, shown_after, is_plain, visible_of, visible_after, needs_number}

-- the first of the characters that are still to come
pub pushed_next : (t0 t1 all rest0 rest1 : List ℕ) (c : ℕ) → t1 ≡ t0 ++ encode_utf8 c → rest0 ≡ c ∷ rest1
    → t0 ++ encode_utf8_all rest0 ≡ all → t1 ++ encode_utf8_all rest1 ≡ all
pushed_next t0 t1 all rest0 rest1 c push step before =
    ap (λ (t : List ℕ). t ++ encode_utf8_all rest1) push
    ∙ append_assoc t0 (encode_utf8 c) (encode_utf8_all rest1)
    ∙ ap (λ (r : List ℕ). t0 ++ encode_utf8_all r) (sym step)
    ∙ before

-- the same with more characters at once
pub pushed_more : (t0 t1 all rest0 more rest1 : List ℕ) → t1 ≡ t0 ++ encode_utf8_all more → rest0 ≡ more ++ rest1
    → t0 ++ encode_utf8_all rest0 ≡ all → t1 ++ encode_utf8_all rest1 ≡ all
pushed_more t0 t1 all rest0 more rest1 push step before =
    ap (λ (t : List ℕ). t ++ encode_utf8_all rest1) push
    ∙ append_assoc t0 (encode_utf8_all more) (encode_utf8_all rest1)
    ∙ ap (λ (r : List ℕ). t0 ++ r) (sym (encodes-append more rest1))
    ∙ ap (λ (r : List ℕ). t0 ++ encode_utf8_all r) (sym step)
    ∙ before

-- the same in two pieces, with what comes after them
pub pushed_chunk : (t0 t1 t2 all rest0 first second rest1 : List ℕ) → t1 ≡ t0 ++ encode_utf8_all first
    → t2 ≡ t1 ++ encode_utf8_all second → rest0 ≡ first ++ (second ++ rest1)
    → t0 ++ encode_utf8_all rest0 ≡ all → t2 ++ encode_utf8_all rest1 ≡ all
pushed_chunk t0 t1 t2 all rest0 first second rest1 one two step before =
    pushed_more t1 t2 all (second ++ rest1) second rest1 two refl
    (pushed_more t0 t1 all rest0 first (second ++ rest1) one step before)

drop_more : (xs : List ℕ) (k : ℕ) → k < length xs → drop k xs ≡ get_or xs k 0 ∷ drop (k + 1) xs
drop_more xs k lt = rw (add-one, drop-cons xs k 0)

-- the texts of a list, one at a time
pub texts_next : (f : ℕ → List ℕ) (xs : List ℕ) (k : ℕ) → k < length xs
    → flat_map f (drop k xs) ≡ f (get_or xs k 0) ++ flat_map f (drop (k + 1) xs)
texts_next f xs k lt = ap (flat_map f) (drop_more xs k lt)

-- none is to come any more
pub pushed_all : (t all rest : List ℕ) → rest ≡ [] → t ++ encode_utf8_all rest ≡ all → t ≡ all
pushed_all t all rest none before = sym (append-nil t) ∙ ap (λ (r : List ℕ). t ++ encode_utf8_all r) (sym none) ∙ before

pub pushed_one : (t0 t1 : List ℕ) (c : ℕ) → t1 ≡ t0 ++ encode_utf8 c → t1 ≡ t0 ++ encode_utf8_all (c ∷ [])
pushed_one t0 t1 c push = push ∙ ap (λ (t : List ℕ). t0 ++ t) (sym (append-nil (encode_utf8 c)))

pub push_two : (t0 t1 t2 : List ℕ) (c d : ℕ) → t1 ≡ t0 ++ encode_utf8 c → t2 ≡ t1 ++ encode_utf8 d
    → t2 ≡ t0 ++ encode_utf8_all (c ∷ d ∷ [])
push_two t0 t1 t2 c d one two =
    pushed_one t1 t2 d two ∙ ap (λ (t : List ℕ). t ++ encode_utf8_all (d ∷ [])) one
    ∙ append_assoc t0 (encode_utf8 c) (encode_utf8_all (d ∷ []))

-- a text between two characters
pub pushed_between : (t1 t2 t3 text : List ℕ) (c d : ℕ) → t1 ≡ encode_utf8 c → t2 ≡ t1 ++ encode_utf8_all text
    → t3 ≡ t2 ++ encode_utf8 d → t3 ≡ encode_utf8_all (c ∷ (text ++ d ∷ []))
pushed_between t1 t2 t3 text c d first middle last =
    pushed_one t2 t3 d last
    ∙ ap (λ (t : List ℕ). t ++ encode_utf8_all (d ∷ [])) (middle ∙ ap (λ (t : List ℕ). t ++ encode_utf8_all text) first)
    ∙ append_assoc (encode_utf8 c) (encode_utf8_all text) (encode_utf8_all (d ∷ []))
    ∙ ap (λ (t : List ℕ). encode_utf8 c ++ t) (sym (encodes-append text (d ∷ [])))

-- whether the last one of characters is plain
abbrev pub plain_after : (after_plain : Bool) → List ℕ → Bool
plain_after after_plain [] = after_plain
plain_after after_plain (c ∷ cs) = plain_after (is_plain after_plain c) cs

pub plain_more : (a : Bool) (cs : List ℕ) (c : ℕ) → is_plain (plain_after a cs) c ≡ plain_after a (cs ++ c ∷ [])
plain_more a [] c = refl
plain_more a (d ∷ ds) c = plain_more (is_plain a d) ds c

after_more : (a : Bool) (cs : List ℕ) (c : ℕ) → shown_after a cs ++ shown_of (plain_after a cs) c ≡ shown_after a (cs ++ c ∷ [])
after_more a [] c = sym (append-nil (shown_of a c))
after_more a (d ∷ ds) c =
    append_assoc (shown_of a d) (shown_after (is_plain a d) ds) (shown_of (plain_after (is_plain a d) ds) c)
    ∙ ap (λ (t : List ℕ). shown_of a d ++ t) (after_more (is_plain a d) ds c)

-- one character more
pub shown_more : (t0 t1 t2 : List ℕ) (cs : List ℕ) (a : Bool) (c : ℕ) → a ≡ plain_after false cs
    → t1 ≡ t0 ++ encode_utf8_all (shown_after false cs) → t2 ≡ t1 ++ encode_utf8_all (shown_of a c)
    → t2 ≡ t0 ++ encode_utf8_all (shown_after false (cs ++ c ∷ []))
shown_more t0 t1 t2 cs a c plain before push =
    push
    ∙ ap (λ (t : List ℕ). t ++ encode_utf8_all (shown_of a c)) before
    ∙ append_assoc t0 (encode_utf8_all (shown_after false cs)) (encode_utf8_all (shown_of a c))
    ∙ ap (λ (t : List ℕ). t0 ++ t) (sym (encodes-append (shown_after false cs) (shown_of a c)))
    ∙ ap (λ (p : Bool). t0 ++ encode_utf8_all (shown_after false cs ++ shown_of p c)) plain
    ∙ ap (λ (t : List ℕ). t0 ++ encode_utf8_all t) (after_more false cs c)

-- whether a character without a column may follow these
abbrev pub visible_last : (after_plain : Bool) → List ℕ → Bool
visible_last after_plain [] = after_plain
visible_last after_plain (c ∷ cs) = visible_last (not (needs_number after_plain c)) cs

pub visible_last_more : (a : Bool) (cs : List ℕ) (c : ℕ) → not (needs_number (visible_last a cs) c) ≡ visible_last a (cs ++ c ∷ [])
visible_last_more a [] c = refl
visible_last_more a (d ∷ ds) c = visible_last_more (not (needs_number a d)) ds c

visible_after_more : (a : Bool) (cs : List ℕ) (c : ℕ) → visible_after a cs ++ visible_of (visible_last a cs) c ≡ visible_after a (cs ++ c ∷ [])
visible_after_more a [] c = sym (append-nil (visible_of a c))
visible_after_more a (d ∷ ds) c =
    append_assoc (visible_of a d) (visible_after (not (needs_number a d)) ds) (visible_of (visible_last (not (needs_number a d)) ds) c)
    ∙ ap (λ (t : List ℕ). visible_of a d ++ t) (visible_after_more (not (needs_number a d)) ds c)

-- one character more of a text in no quotation marks
pub visible_more : (t0 t1 t2 : List ℕ) (cs : List ℕ) (a : Bool) (c : ℕ) → a ≡ visible_last false cs
    → t1 ≡ t0 ++ encode_utf8_all (visible_after false cs) → t2 ≡ t1 ++ encode_utf8_all (visible_of a c)
    → t2 ≡ t0 ++ encode_utf8_all (visible_after false (cs ++ c ∷ []))
visible_more t0 t1 t2 cs a c plain before push =
    push
    ∙ ap (λ (t : List ℕ). t ++ encode_utf8_all (visible_of a c)) before
    ∙ append_assoc t0 (encode_utf8_all (visible_after false cs)) (encode_utf8_all (visible_of a c))
    ∙ ap (λ (t : List ℕ). t0 ++ t) (sym (encodes-append (visible_after false cs) (visible_of a c)))
    ∙ ap (λ (p : Bool). t0 ++ encode_utf8_all (visible_after false cs ++ visible_of p c)) plain
    ∙ ap (λ (t : List ℕ). t0 ++ encode_utf8_all t) (visible_after_more false cs c)
