-- B text, decoded sixteen groups of four at a time.
use Rattle.std.proofs.Common.{◌≡◌, ℕ, zero, suc, ◌+◌, ◌*◌, ◌/◌, ◌<◌, ◌≤◌, Bool, true, false, cond, List, [], ◌∷◌, ◌++◌, length, take, drop, refl, sym}
use Rattle.std.proofs.Common.{ap, subst, ◌∙◌, arith, inl, inr, ◌⊎◌, Option, Some, None, append_assoc}
use Rattle.std.proofs.lemmas.Bool.{cases_lt}
use Rattle.std.proofs.lemmas.List.{append-nil, length-append, length-take, length-drop, length-replicate, take_at}
use Rattle.std.proofs.lemmas.List.{drop_at, take_all, drop_all, take-append-drop}
use Rattle.std.specs.Prelude.{option_map, replicate}
use Rattle.base64.specs.GeneralPurpose.{IsBytes, encode_of}
use Rattle.base64.specs.Engines.{standard}
use Rattle.base64.specs.Rfc4648.{padding_len, encode_symbols}
use Rattle.base64.proofs.EngineFacts.{encode_of-append, encode_of-nil}
use Rattle.base64.proofs.RoundTrip.{length-encode_symbols}
use Rattle.mail_words.specs.declared.charset.Charset.{Charset}
use Rattle.mail_words.specs.Charsets.{in_utf8, ArePut}
use Rattle.mail_words.specs.Decoding.{b_octets}
use Rattle.mail_words.specs.Unfolding.{is_nil, without_line_ends}
use Rattle.mail_words.proofs.CharsetLemmas.{written-nil, written-append, ArePut-some, ArePut-none, option_map-nil}
use Rattle.mail_words.proofs.EncodedLemmas.{b_law, bytes_nil, bytes_cons, bytes_append, bytes_take}

bytes_drop : (n : ℕ) (xs : List ℕ) → IsBytes xs → IsBytes (drop n xs)
bytes_drop zero xs h = h
bytes_drop (suc n) [] h = bytes_nil
bytes_drop (suc n) (x ∷ xs) h = bytes_drop n xs (λ i. h (suc i))

bytes_cond : (t : Bool) (b : ℕ) (xs : List ℕ) → b < 256 → IsBytes xs → IsBytes (cond t xs (b ∷ xs))
bytes_cond true b xs l h = h
bytes_cond false b xs l h = bytes_cons b xs l h

-- unfolding leaves octets
pub bytes_unfolded : (xs : List ℕ) → IsBytes xs → IsBytes (without_line_ends xs)
unfolding without_line_ends
bytes_unfolded [] h = bytes_nil
bytes_unfolded (b ∷ bs) h = bytes_cond _ b (without_line_ends bs) (h 0) (bytes_unfolded bs (λ i. h (suc i)))

pub length-encoded : (octets : List ℕ) → length (encode_of standard octets) ≡ 4 * ((length octets + 2) / 3)
length-encoded octets =
    let pads : List ℕ = replicate (padding_len (length octets)) standard.padding.value in
    let whole : length (encode_of standard octets)
    ≡ length (encode_symbols standard.encode_table octets) + length pads =
    length-append (encode_symbols standard.encode_table octets) pads in
    omega (arith, whole, length-encode_symbols standard.encode_table octets, length-replicate (padding_len (length octets)) standard.padding.value)

-- the first 64 symbols of an encoding encode the first 48 octets
pub record Split (octets : List ℕ) : Type 0 where
  pub front : take 64 (encode_of standard octets) ≡ encode_of standard (take 48 octets)
  pub back : drop 64 (encode_of standard octets) ≡ encode_of standard (drop 48 octets)

split : (octets : List ℕ) → Split octets
split octets = at (cases_lt 48 (length octets))
  where
    at : ((48 < length octets) ⊎ (length octets ≤ 48)) → Split octets
    at (inr short) =
        let long : length (encode_of standard octets) ≤ 64 = omega (arith, length-encoded octets) in
        record {
          front = take_all 64 (encode_of standard octets) long ∙ ap (encode_of standard) (sym (take_all 48 octets short));
          back = drop_all 64 (encode_of standard octets) long ∙ sym (encode_of-nil standard)
              ∙ ap (encode_of standard) (sym (drop_all 48 octets short));
        }
    at (inl long) =
        let first : length (take 48 octets) ≡ 48 = omega (arith, length-take 48 octets) in
        let whole : encode_of standard octets ≡ encode_of standard (take 48 octets)
        ++ encode_of standard (drop 48 octets) = ap (encode_of standard) (sym (take-append-drop 48 octets))
        ∙ encode_of-append standard (take 48 octets) (drop 48 octets) (omega (arith, first)) in
        let size : length (encode_of standard (take 48 octets)) ≡ 64 = omega (arith, length-encoded (take 48 octets), first) in
        record {
          front = ap (take 64) whole ∙ take_at (encode_of standard (take 48 octets)) (encode_of standard (drop 48 octets)) 64 size;
          back = ap (drop 64) whole ∙ drop_at (encode_of standard (take 48 octets)) (encode_of standard (drop 48 octets)) 64 size;
        }

-- what is known of a text that is an encoding
pub record Encoded (text octets : List ℕ) : Type 0 where
  pub bytes : IsBytes octets
  pub front : b_octets (take 64 text) ≡ Some (take 48 octets)
  pub back : b_octets (drop 64 text) ≡ Some (drop 48 octets)
  pub rest : drop 64 text ≡ encode_of standard (drop 48 octets)

encoded : (text octets : List ℕ) → IsBytes text → b_octets text ≡ Some octets → Encoded text octets
encoded text octets bytes h =
    let law = (b_law text octets bytes).0 h in
    let front : take 64 text ≡ encode_of standard (take 48 octets) = ap (take 64) law.1 ∙ (split octets).front in
    let back : drop 64 text ≡ encode_of standard (drop 48 octets) = ap (drop 64) law.1 ∙ (split octets).back in
    record {
      bytes = law.0;
      front = (b_law (take 64 text) (take 48 octets) (bytes_take 64 text bytes)).1 (bytes_take 48 octets law.0, front);
      back = (b_law (drop 64 text) (drop 48 octets) (bytes_drop 64 text bytes)).1 (bytes_drop 48 octets law.0, back);
      rest = back;
    }

no_some : (x : List ℕ) → None ≡ Some x → ⊥
no_some x e = absurd cc

-- symbols that decode, to 48 octets or with nothing after them
pub chunk-good : (text a : List ℕ) → IsBytes text → b_octets (take 64 text) ≡ Some a
    → ((length a ≡ 48) ⊎ (drop 64 text ≡ [])) → b_octets text ≡ option_map (λ more. a ++ more) (b_octets (drop 64 text))
chunk-good text a bytes h whole = at (b_octets text) refl (b_octets (drop 64 text)) refl
  where
    at : (o : Option (List ℕ)) → b_octets text ≡ o → (p : Option (List ℕ)) → b_octets (drop 64 text) ≡ p → o ≡ option_map (λ more. a ++ more) p
    at (Some octets) e p f =
        let known = encoded text octets bytes e in
        let first : a ≡ take 48 octets = let both : Some a ≡ Some (take 48 octets) = sym h ∙ known.front in cc in
        ap Some (sym (take-append-drop 48 octets) ∙ ap (λ x. x ++ drop 48 octets) (sym first))
        ∙ ap (option_map (λ more. a ++ more)) (sym known.back ∙ f)
    at None e None f = refl
    at None e (Some b) f =
        let first = (b_law (take 64 text) a (bytes_take 64 text bytes)).0 h in
        let second = (b_law (drop 64 text) b (bytes_drop 64 text bytes)).0 f in
        let joined : text ≡ encode_of standard a ++ encode_of standard b = sym (take-append-drop 64 text)
        ∙ ap (λ x. x ++ drop 64 text) first.1 ∙ ap (λ x. encode_of standard a ++ x) second.1 in
        let alone : drop 64 text ≡ [] → text ≡ take 64 text = λ last. sym (take-append-drop 64 text)
        ∙ ap (λ x. take 64 text ++ x) last ∙ append-nil (take 64 text) in
        absurd (elim whole [
          | inl full ↦
              no_some (a ++ b) (sym e ∙ (b_law text (a ++ b) bytes).1 (
                bytes_append a b first.0 second.0,
                joined
                    ∙ sym (encode_of-append standard a b (omega (arith, full))),
              ))
          | inr last ↦ no_some a (sym e ∙ ap b_octets (alone last) ∙ h)
        ])

pub chunk-bad : (text : List ℕ) → IsBytes text → b_octets (take 64 text) ≡ None → b_octets text ≡ None
chunk-bad text bytes h = at (b_octets text) refl
  where
    at : (o : Option (List ℕ)) → b_octets text ≡ o → o ≡ None
    at None e = refl
    at (Some octets) e = absurd (let no : Some (take 48 octets) ≡ None = sym (encoded text octets bytes e).front ∙ h in cc)

-- padding before more symbols
pub chunk-short : (text a : List ℕ) → IsBytes text → b_octets (take 64 text) ≡ Some a → length a < 48 → (drop 64 text ≡ [] → ⊥) → b_octets text ≡ None
chunk-short text a bytes h short more = at (b_octets text) refl
  where
    at : (o : Option (List ℕ)) → b_octets text ≡ o → o ≡ None
    at None e = refl
    at (Some octets) e =
        let known = encoded text octets bytes e in
        let first : a ≡ take 48 octets = let both : Some a ≡ Some (take 48 octets) = sym h ∙ known.front in cc in
        let few : length octets ≤ 48 = omega (arith, short, ap length first, length-take 48 octets) in
        absurd (more (known.rest ∙ ap (encode_of standard) (drop_all 48 octets few) ∙ encode_of-nil standard))

-- the octets so far, and those of the rest
pub record Decoding (charset : Charset) (text rest old out : List ℕ) : Type 0 where
  pub bytes : IsBytes rest
  pub octets : List ℕ
  pub put : out ≡ old ++ in_utf8 charset octets
  pub same : option_map (λ more. octets ++ more) (b_octets rest) ≡ b_octets text

pub Decoding-none : (charset : Charset) (text old : List ℕ) → IsBytes text → Decoding charset text text old old
Decoding-none charset text old bytes = record { bytes = bytes; octets = []; put = written-nil charset old; same = option_map-nil (b_octets text) }

map_append : (xs ys : List ℕ) (o : Option (List ℕ))
    → option_map (λ more. xs ++ more) (option_map (λ more. ys ++ more) o) ≡ option_map (λ more. (xs ++ ys) ++ more) o
map_append xs ys None = refl
map_append xs ys (Some x) = ap Some (sym (append_assoc xs ys x))

pub Decoding-more : (charset : Charset) (text rest following old out new a : List ℕ)
    → Decoding charset text rest old out → b_octets (take 64 rest) ≡ Some a → ((length a ≡ 48) ⊎ (following ≡ []))
    → following ≡ drop 64 rest → new ≡ out ++ in_utf8 charset a → Decoding charset text following old new
Decoding-more charset text rest following old out new a d h whole eb en =
    let next : (length a ≡ 48) ⊎ (drop 64 rest ≡ []) = elim whole [ inl full ↦ inl full | inr last ↦ inr (sym eb ∙ last) ] in
    let step = chunk-good rest a d.bytes h next in
    record {
      bytes = subst IsBytes (sym eb) (bytes_drop 64 rest d.bytes);
      octets = d.octets ++ a;
      put = en ∙ ap (λ x. x ++ in_utf8 charset a) d.put
          ∙ append_assoc old (in_utf8 charset d.octets) (in_utf8 charset a)
          ∙ ap (λ x. old ++ x) (sym (written-append charset d.octets a));
      same = ap (λ x. option_map (λ more. (d.octets ++ a) ++ more) (b_octets x)) eb
          ∙ sym (map_append d.octets a (b_octets (drop 64 rest)))
          ∙ ap (option_map (λ more. d.octets ++ more)) (sym step) ∙ d.same;
    }

no_rest : (octets : List ℕ) (o : Option (List ℕ)) → o ≡ None → option_map (λ more. octets ++ more) o ≡ None
no_rest octets o e = ap (option_map (λ more. octets ++ more)) e

pub Decoding-bad : (charset : Charset) (text rest old out : List ℕ) → Decoding charset text rest old out
    → b_octets (take 64 rest) ≡ None → ArePut false charset old (b_octets text) out
Decoding-bad charset text rest old out d h =
    ArePut-none charset old (b_octets text) out (in_utf8 charset d.octets) (sym d.same
    ∙ no_rest d.octets (b_octets rest) (chunk-bad rest d.bytes h)) d.put

pub Decoding-short : (charset : Charset) (text rest following old out a : List ℕ) → Decoding charset text rest old out
    → b_octets (take 64 rest) ≡ Some a → length a < 48 → (following ≡ [] → ⊥) → following ≡ drop 64 rest
    → ArePut false charset old (b_octets text) out
Decoding-short charset text rest following old out a d h short more eb =
    ArePut-none charset old (b_octets text) out (in_utf8 charset d.octets) (sym d.same
    ∙ no_rest d.octets (b_octets rest) (chunk-short rest a d.bytes h short (λ none. more (eb ∙ none)))) d.put

b_octets-nil : b_octets [] ≡ Some []
b_octets-nil = (b_law [] [] bytes_nil).1 (bytes_nil, sym (encode_of-nil standard))

pub Decoding-all : (charset : Charset) (text rest old out : List ℕ) → Decoding charset text rest old out → rest ≡ []
    → ArePut true charset old (b_octets text) out
Decoding-all charset text rest old out d e = ArePut-some charset old (b_octets text) out d.octets (sym d.same
    ∙ ap (option_map (λ more. d.octets ++ more)) (ap b_octets e ∙ b_octets-nil) ∙ ap Some (append-nil d.octets)) d.put

-- the symbols that are read, and the octets that they encode
pub read_part : (text symbols rest : List ℕ) (count : ℕ) → text ≡ take count symbols ++ rest → count ≤ 64
    → length symbols ≡ 64 → 64 ≤ count → (take count symbols ≡ take 64 text) × (rest ≡ drop 64 text)
read_part text symbols rest count e h long full =
    let size : length (take count symbols) ≡ 64 = omega (arith, length-take count symbols, h, long, full) in
    (sym (ap (take 64) e ∙ take_at (take count symbols) rest 64 size), sym (ap (drop 64) e ∙ drop_at (take count symbols) rest 64 size))

pub read_all : (text symbols rest : List ℕ) (count : ℕ) → text ≡ take count symbols ++ rest → rest ≡ [] → count ≤ 64
    → (take count symbols ≡ take 64 text) × (rest ≡ drop 64 text)
read_all text symbols rest count e none h =
    let whole : text ≡ take count symbols = e ∙ ap (λ x. take count symbols ++ x) none ∙ append-nil (take count symbols) in
    let short : length text ≤ 64 = omega (arith, ap length whole, length-take count symbols, h) in
    (sym whole ∙ sym (take_all 64 text short), none ∙ sym (drop_all 64 text short))

-- what the first symbols decode to, once they are read into an array
pub symbols_read : (symbols rest : List ℕ) (count : ℕ) (o : Option (List ℕ)) → take count symbols ≡ take 64 rest
    → b_octets (take count symbols) ≡ o → b_octets (take 64 rest) ≡ o
symbols_read symbols rest count o e h = ap b_octets (sym e) ∙ h

pub some_left : (rest following : List ℕ) → is_nil rest ≡ false → following ≡ drop 64 rest → length following < length rest
some_left [] following h e = absurd cc
some_left (x ∷ xs) following h e = omega (arith, ap length e, length-drop 64 (x ∷ xs))

pub not_nil : (xs : List ℕ) → is_nil xs ≡ false → xs ≡ [] → ⊥
not_nil [] h e = absurd cc
not_nil (x ∷ xs) h e = absurd cc
