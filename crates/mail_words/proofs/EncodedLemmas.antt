-- B text decodes to the octets that it encodes, and other text does not decode.
use Rattle.std.proofs.Common.{◌≡◌, ℕ, zero, suc, ◌+◌, ◌-◌, ◌*◌, ◌/◌, ◌%◌, ◌<◌, ◌≤◌, Bool, true, List, [], ◌∷◌, ◌++◌, length, take, drop, slice_index}
use Rattle.std.proofs.Common.{refl, ap, subst, arith, inl, inr, ◌⊎◌, Option, Some, None, Result, Ok, Err, ◌↔◌}
use Rattle.std.proofs.lemmas.List.{length-drop, get_or-drop}
use Rattle.std.specs.Result.{result_ok}
use Rattle.base64.specs.declared.decode.DecodeError.{DecodeError}
use Rattle.base64.specs.declared.engine.DecodePaddingMode.{DecodePaddingMode}
use Rattle.base64.specs.declared.engine.general_purpose.GeneralPurpose.{GeneralPurpose}
use Rattle.base64.specs.Decode.{or_else, symbol_error, group_error, group_bytes, groups_error, groups_bytes}
use Rattle.base64.specs.Decode.{groups_before_last, decode_group, no_leftover, leftover_bytes, scan_last, lone_error}
use Rattle.base64.specs.Decode.{suffix_error, suffix_bytes, decode_error, decode_outcome, decoded_bytes, IsDecodeTable}
use Rattle.base64.specs.GeneralPurpose.{IsBytes, IsStrict, decode_of, encode_of}
use Rattle.base64.specs.Engines.{standard}
use Rattle.base64.specs.Tables.{is_inverse}
use Rattle.base64.proofs.Tables.{are_tables_inverse, IsDecodeTable_from}
use Rattle.base64.proofs.Canonical.{IsScanned-scan}
use Rattle.base64.proofs.EngineFacts.{decode_of_iff}
use Rattle.mail_words.specs.Meaning.{IsBText}

pub bytes_nil : IsBytes []
bytes_nil i = omega arith

pub bytes_cons : (x : ℕ) (xs : List ℕ) → x < 256 → IsBytes xs → IsBytes (x ∷ xs)
bytes_cons x xs l h zero = l
bytes_cons x xs l h (suc i) = h i

pub bytes_append : (xs ys : List ℕ) → IsBytes xs → IsBytes ys → IsBytes (xs ++ ys)
bytes_append [] ys h k = k
bytes_append (x ∷ xs) ys h k = bytes_cons x (xs ++ ys) (h 0) (bytes_append xs ys (λ i. h (suc i)) k)

pub bytes_take : (n : ℕ) (xs : List ℕ) → IsBytes xs → IsBytes (take n xs)
bytes_take zero xs h = bytes_nil
bytes_take (suc n) [] h = bytes_nil
bytes_take (suc n) (x ∷ xs) h = bytes_cons x (take n xs) (h 0) (bytes_take n xs (λ i. h (suc i)))

-- a group of four values below 64 gives octets
group_is_bytes : (a b c d : ℕ) → a < 64 → b < 64 → c < 64 → d < 64 → IsBytes (decode_group a b c d)
group_is_bytes a b c d la lb lc ld =
    bytes_cons (a * 4 + b / 16) ((b % 16 * 16 + c / 4) ∷ (c % 4 * 64 + d)
    ∷ []) (omega arith) (bytes_cons (b % 16 * 16 + c / 4) ((c % 4 * 64 + d)
    ∷ []) (omega arith) (bytes_cons (c % 4 * 64 + d) [] (omega arith) bytes_nil))

both_none : (x y : Option DecodeError) → or_else x y ≡ None → (x ≡ None) × (y ≡ None)
both_none None y h = (refl, h)
both_none (Some e) y h = absurd cc

symbol_is_small : (dec s : List ℕ) (i : ℕ) → IsDecodeTable dec → slice_index s i < 256 → symbol_error dec s i ≡ None
    → slice_index dec (slice_index s i) < 64
symbol_is_small dec s i table byte none = elim (table (slice_index s i) byte) [
  | inl bad ↦ cc (rw bad at none)
  | inr good ↦ good
]

groups_are_bytes : (dec s : List ℕ) (q : ℕ) → IsDecodeTable dec → IsBytes s → groups_error dec s q ≡ None → IsBytes (groups_bytes dec s q)
unfolding groups_error groups_bytes
groups_are_bytes dec s zero table bytes none = bytes_nil
groups_are_bytes dec s (suc q) table bytes none =
    let i : ℕ = 4 * q in
    let parts = both_none (groups_error dec s q) (group_error dec s i) none in
    let first = both_none (symbol_error dec s i)
    (or_else (symbol_error dec s (i + 1)) (or_else (symbol_error dec s (i + 2)) (symbol_error dec s (i + 3))))
    parts.1 in
    let second = both_none (symbol_error dec s (i + 1)) (or_else (symbol_error dec s (i + 2)) (symbol_error dec s (i + 3))) first.1 in
    let third = both_none (symbol_error dec s (i + 2)) (symbol_error dec s (i + 3)) second.1 in
    let group : IsBytes (group_bytes dec s i) =
    group_is_bytes (slice_index dec (slice_index s i)) (slice_index dec (slice_index s (i + 1)))
    (slice_index dec (slice_index s (i + 2))) (slice_index dec (slice_index s (i + 3)))
    (symbol_is_small dec s i table (bytes i) first.0) (symbol_is_small dec s (i + 1) table (bytes (i + 1)) second.0)
    (symbol_is_small dec s (i + 2) table (bytes (i + 2)) third.0)
    (symbol_is_small dec s (i + 3) table (bytes (i + 3)) third.1) in
    bytes_append (groups_bytes dec s q) (group_bytes dec s i) (groups_are_bytes dec s q table bytes parts.0) group

small_zeros : (k : ℕ) → slice_index (0 ∷ 0 ∷ 0 ∷ 0 ∷ []) k < 64
small_zeros zero = omega arith
small_zeros (suc zero) = omega arith
small_zeros (suc (suc zero)) = omega arith
small_zeros (suc (suc (suc zero))) = omega arith
small_zeros (suc (suc (suc (suc k)))) = omega arith

result_cases : {A B : Type 0} (r : Result A B) → ((x : A) × (r ≡ Ok x)) ⊎ ((e : B) × (r ≡ Err e))
result_cases (Ok x) = inl (x, refl)
result_cases (Err e) = inr (e, refl)

-- the octets of the last group
last_is_bytes : (enc dec s : List ℕ) (pad at : ℕ) → is_inverse enc dec ≡ true → IsBytes s → length s ≤ at + 4 → IsBytes (suffix_bytes dec pad at s)
last_is_bytes enc dec s pad at inverse bytes short = elim (result_cases (scan_last dec pad at s)) [
  | inl ok ↦
      let rest : List ℕ = drop at s in
      let long : length rest ≡ length s - at = length-drop at s in
      let rest_bytes : (k : ℕ) → slice_index rest k < 256 = λ k. rw (get_or-drop at s k 0) (bytes (at + k)) in
      let held = IsScanned-scan enc dec rest pad at rest no_leftover ok.0 0 inverse rest_bytes (omega arith)
      (omega arith) refl (
        (refl, refl, λ j l. absurd (omega arith), λ j low l. absurd (omega arith)),
        (omega arith, omega arith, omega arith, small_zeros),
      ) ok.1 in
      let small = held.1.3 in
      let octets : IsBytes (leftover_bytes ok.0) =
      bytes_take (ok.0.morsels_count * 6 / 8)
      (decode_group (slice_index ok.0.morsels 0) (slice_index ok.0.morsels 1) (slice_index ok.0.morsels 2)
      (slice_index ok.0.morsels 3)) (group_is_bytes (slice_index ok.0.morsels 0) (slice_index ok.0.morsels 1)
      (slice_index ok.0.morsels 2) (slice_index ok.0.morsels 3) (small 0) (small 1) (small 2) (small 3)) in
      rw ok.1 octets
  | inr err ↦ rw err.1 bytes_nil
]

decoded_is_bytes : (enc dec s : List ℕ) (pad : ℕ) (allow : Bool) (mode : DecodePaddingMode) → is_inverse enc dec ≡ true
    → IsBytes s → decode_error dec pad allow mode s ≡ None → IsBytes (decoded_bytes dec pad s)
decoded_is_bytes enc dec s pad allow mode inverse bytes none =
    let q : ℕ = groups_before_last (length s) in
    let first = both_none (lone_error dec pad s) (or_else (groups_error dec s q) (suffix_error dec pad allow mode (4 * q) s)) none in
    let second = both_none (groups_error dec s q) (suffix_error dec pad allow mode (4 * q) s) first.1 in
    bytes_append (groups_bytes dec s q) (suffix_bytes dec pad (4 * q) s)
    (groups_are_bytes dec s q (IsDecodeTable_from enc dec inverse) bytes second.0)
    (last_is_bytes enc dec s pad (4 * q) inverse bytes (omega arith))

good_outcome : (error : Option DecodeError) (bytes b : List ℕ) → decode_outcome error bytes ≡ Ok b → (error ≡ None) × (bytes ≡ b)
good_outcome None bytes b h = (refl, cc)
good_outcome (Some e) bytes b h = absurd cc

decode_is_bytes : (e : GeneralPurpose) (s b : List ℕ) → IsBytes s → decode_of e s ≡ Ok b → IsBytes b
decode_is_bytes e s b bytes h =
    let good = good_outcome (decode_error e.decode_table e.padding.value e.config.decode_allow_trailing_bits
    e.config.decode_padding_mode s) (decoded_bytes e.decode_table e.padding.value s) b h in
    subst IsBytes good.1 (decoded_is_bytes e.encode_table e.decode_table s e.padding.value
    e.config.decode_allow_trailing_bits e.config.decode_padding_mode
    (are_tables_inverse e.encode_table e.decode_table e.padding.value e.tables) bytes good.0)

ok_from : (r : Result (List ℕ) DecodeError) (b : List ℕ) → result_ok r ≡ Some b → r ≡ Ok b
ok_from (Ok x) b h = cc
ok_from (Err e) b h = absurd cc

encoded_law : (e : GeneralPurpose) (text b : List ℕ) → IsStrict e → IsBytes text
    → (result_ok (decode_of e text) ≡ Some b) ↔ (IsBytes b × (text ≡ encode_of e b))
encoded_law e text b strict bytes = (
  λ h.
      let decoded = ok_from (decode_of e text) b h in
      let octets = decode_is_bytes e text b bytes decoded in
      (octets, (decode_of_iff e text b strict bytes octets).0 decoded),
  λ h. ap result_ok ((decode_of_iff e text b strict bytes h.0).1 h.1),
)

strict_standard : IsStrict standard
strict_standard = (refl, refl)

pub b_law : (text octets : List ℕ) → IsBytes text → (result_ok (decode_of standard text) ≡ Some octets) ↔ IsBText text octets
b_law text octets bytes = encoded_law standard text octets strict_standard bytes
