-- Fields with their values, one after another in a row of octets.
use Rattle.std.proofs.Common.{◌≡◌, ℕ, zero, suc, ◌+◌, ◌-◌, ◌*◌, ◌<◌, ◌≤◌, true, List, [], ◌∷◌, ◌++◌, length, take, drop}
use Rattle.std.proofs.Common.{map, refl, sym, ap, ◌∙◌, arith, eqb-true, eq-eqb, append_assoc}
use Rattle.std.proofs.lemmas.List.{append-nil, length-append, length-drop, drop-append-le, take-append-le, drop_at, take_at, take_all}
use Rattle.std.proofs.lemmas.Bool.{and_parts, leb-true, le-leb}
use Rattle.std.specs.Prelude.{slice_range, slice_index_or, nat_le, ◌&&◌}
use Rattle.mail_head.specs.declared.reading.FoundField.{FoundField}
use Rattle.mail_head.specs.Fields.{fields_of}
use Rattle.mail_head.specs.FirstField.{IsFirstField}
use Rattle.mail_head.specs.Pieces.{Reader, reader_of}
use Rattle.mail_head.proofs.FeedLemmas.{fields_of-kept}
use Rattle.mail_words.specs.Value.{value_of_body}
use Rattle.sieve_meaning.specs.Case.{Field}
use Rattle.mail_case.specs.declared.fields.FieldEnds.{FieldEnds}
use Rattle.mail_case.specs.Message.{field_in}
use Rattle.mail_case.specs.Fields.{nth_field, fields_from, ascend, start_from}

-- ends that ascend, one by one
record Ascends (start : ℕ) (e : FieldEnds) (es : List FieldEnds) (last : ℕ) : Type 0 where
  name : start ≤ e.name
  value : e.name ≤ e.value
  more : ascend e.value es last ≡ true

ascends : (start : ℕ) (e : FieldEnds) (es : List FieldEnds) (last : ℕ) → ascend start (e ∷ es) last ≡ true → Ascends start e es last
ascends start e es last h =
    let first = and_parts (nat_le start e.name) (nat_le e.name e.value && ascend e.value es last) h in
    let second = and_parts (nat_le e.name e.value) (ascend e.value es last) first.1 in
    record { name = leb-true start e.name first.0; value = leb-true e.name e.value second.0; more = second.1 }

ascend_from : (start : ℕ) (e : FieldEnds) (es : List FieldEnds) (last : ℕ) → start ≤ e.name → e.name ≤ e.value
    → ascend e.value es last ≡ true → ascend start (e ∷ es) last ≡ true
ascend_from start e es last h k m = rw (le-leb start e.name h, le-leb e.name e.value k, m) refl

ascend-le : (start : ℕ) (es : List FieldEnds) (last : ℕ) → ascend start es last ≡ true → start ≤ last
ascend-le start [] last h = omega (arith, eqb-true start last h)
ascend-le start (e ∷ es) last h = let a = ascends start e es last h in omega (arith, a.name, a.value, ascend-le e.value es last a.more)

ascend-last : (start : ℕ) (es : List FieldEnds) (last : ℕ) (e : FieldEnds) → ascend start es last ≡ true → last ≤ e.name
    → e.name ≤ e.value → ascend start (es ++ e ∷ []) e.value ≡ true
ascend-last start [] last e h k m = ascend_from start e [] e.value (omega (arith, eqb-true start last h)) m (eq-eqb e.value e.value refl)
ascend-last start (x ∷ es) last e h k m =
    let a = ascends start x es last h in
    ascend_from start x (es ++ e ∷ []) e.value a.name a.value (ascend-last x.value es last e a.more k m)

-- octets added at the end do not change what is before them
range-append : (xs ys : List ℕ) (a b : ℕ) → a ≤ b → b ≤ length xs → slice_range (xs ++ ys) a b ≡ slice_range xs a b
range-append xs ys a b h k =
    let within : a ≤ length xs = omega arith in
    let room : b - a ≤ length (drop a xs) = omega (arith, length-drop a xs) in
    ap (take (b - a)) (drop-append-le a xs ys within) ∙ take-append-le (b - a) (drop a xs) ys room

fields-append : (xs ys : List ℕ) (start : ℕ) (es : List FieldEnds) → ascend start es (length xs) ≡ true
    → fields_from (xs ++ ys) start es ≡ fields_from xs start es
fields-append xs ys start [] h = refl
fields-append xs ys start (e ∷ es) h =
    let a = ascends start e es (length xs) h in
    let end = ascend-le e.value es (length xs) a.more in
    rw (
      range-append xs ys start e.name a.name (omega (arith, a.value, end)),
      range-append xs ys e.name e.value a.value end,
      fields-append xs ys e.value es a.more,
    ) refl

fields-last : (xs : List ℕ) (start : ℕ) (es : List FieldEnds) (last : ℕ) (e : FieldEnds) → ascend start es last ≡ true
    → fields_from xs start (es ++ e ∷ []) ≡ fields_from xs start es
    ++ record { name = slice_range xs last e.name; value = slice_range xs e.name e.value } ∷ []
fields-last xs start [] last e h =
    ap (λ n. record { name = slice_range xs n e.name; value = slice_range xs e.name e.value }
    ∷ []) (eqb-true start last h)
fields-last xs start (x ∷ es) last e h =
    ap (λ fs. record { name = slice_range xs start x.name; value = slice_range xs x.name x.value }
    ∷ fs) (fields-last xs x.value es last e (ascends start x es last h).more)

-- a name and a value at the end
range-name : (xs name value : List ℕ) → slice_range (xs ++ (name ++ value)) (length xs) (length xs + length name) ≡ name
range-name xs name value =
    let long : length xs + length name - length xs ≡ length name = omega arith in
    rw (drop_at xs (name ++ value) (length xs) refl, long) (take_at name value (length name) refl)

range-value : (xs name value : List ℕ) (last : ℕ) → last ≡ length (xs ++ (name ++ value))
    → slice_range (xs ++ (name ++ value)) (length xs + length name) last ≡ value
range-value xs name value last e =
    let all : length (xs ++ (name ++ value)) ≡ length xs + (length name + length value) =
    length-append xs (name ++ value) ∙ ap (λ n. length xs + n) (length-append name value) in
    let long : last - (length xs + length name) ≡ length value = omega arith in
    let parts : xs ++ (name ++ value) ≡ (xs ++ name) ++ value = sym (append_assoc xs name value) in
    let front : length (xs ++ name) ≡ length xs + length name = length-append xs name in
    rw (long, parts, drop_at (xs ++ name) value (length xs + length name) front) (take_all (length value) value (omega arith))

-- the fields before `rest` are read
pub record Reading (text rest octets : List ℕ) (ends : List FieldEnds) : Type 0 where
  pub laid : ascend 0 ends (length octets) ≡ true
  pub value : fields_from octets 0 ends ++ map field_in (fields_of rest) ≡ map field_in (fields_of text)
  pub short : length octets + 4 * length rest ≤ 4 * length text

pub Reading-none : (text octets : List ℕ) (ends : List FieldEnds) → octets ≡ [] → ends ≡ [] → Reading text text octets ends
Reading-none text octets ends e f = rw (e, f) (record { laid = refl; value = refl; short = omega arith })

pub Reading-room : (text rest octets : List ℕ) (ends : List FieldEnds) (found : FoundField)
    → Reading text rest octets ends → IsFirstField rest found
    → (length octets + length found.field.0) + 4 * length found.field.1 ≤ 4 * length text
Reading-room text rest octets ends found h f = omega (arith, h.short, f.between, f.from_within)

-- one more field
pub Reading-more : (text rest octets new after : List ℕ) (ends : List FieldEnds) (e : FieldEnds) (found : FoundField)
    → Reading text rest octets ends → IsFirstField rest found → after ≡ found.after.now → new ≡ octets
    ++ (found.field.0 ++ value_of_body found.field.1) → e.name ≡ length octets + length found.field.0
    → e.value ≡ length new → length new ≤ (length octets + length found.field.0) + 4 * length found.field.1
    → Reading text after new (ends ++ e ∷ [])
Reading-more text rest octets new after ends e found h f ea en name value short =
    let all : octets ++ (found.field.0 ++ value_of_body found.field.1) ≡ new = sym en in
    let long : length new ≡ length octets + (length found.field.0 + length (value_of_body found.field.1)) = ap length en
    ∙ length-append octets (found.field.0 ++ value_of_body found.field.1)
    ∙ ap (λ n. length octets + n) (length-append found.field.0 (value_of_body found.field.1)) in
    let before : fields_from new 0 ends ≡ fields_from octets 0 ends = ap (λ xs. fields_from xs 0 ends) en
    ∙ fields-append octets (found.field.0 ++ value_of_body found.field.1) 0 ends h.laid in
    let name_is : slice_range new (length octets) e.name ≡ found.field.0 =
    ap (λ xs. slice_range xs (length octets) e.name) en
    ∙ ap (slice_range (octets ++ (found.field.0 ++ value_of_body found.field.1)) (length octets)) name
    ∙ range-name octets found.field.0 (value_of_body found.field.1) in
    let value_is : slice_range new e.name e.value ≡ value_of_body found.field.1 =
    ap (λ xs. slice_range xs e.name e.value) en
    ∙ ap (λ n. slice_range (octets ++ (found.field.0 ++ value_of_body found.field.1)) n e.value) name
    ∙ range-value octets found.field.0 (value_of_body found.field.1) e.value (value ∙ ap length en) in
    let last : fields_from new 0 (ends ++ e ∷ []) ≡ fields_from octets 0 ends ++ field_in found.field ∷ [] =
    fields-last new 0 ends (length octets) e h.laid ∙ rw (before, name_is, value_is) refl in
    record {
      laid = rw (← value) (ascend-last 0 ends (length octets) e h.laid (omega (arith, name)) (omega (arith, name, value, long)));
      value = ap (λ fs. fs ++ map field_in (fields_of after)) last
          ∙ append_assoc (fields_from octets 0 ends) (field_in found.field ∷ []) (map field_in (fields_of after))
          ∙ ap (λ fs. fields_from octets 0 ends ++ map field_in fs) (ap (λ xs. found.field ∷ fields_of xs) ea
          ∙ sym (f.first ∙ f.field)) ∙ h.value;
      short = omega (arith, h.short, f.between, f.from_within, ap length ea, short);
    }

pub Reading-done : (text rest octets : List ℕ) (ends : List FieldEnds) → Reading text rest octets ends
    → fields_of rest ≡ [] → fields_from octets 0 ends ≡ map field_in (fields_of text)
Reading-done text rest octets ends h none = sym (append-nil (fields_from octets 0 ends))
    ∙ ap (λ fs. fields_from octets 0 ends ++ map field_in fs) (sym none) ∙ h.value

-- the number of fields
pub length-fields : (octets : List ℕ) (start : ℕ) (es : List FieldEnds) → length (fields_from octets start es) ≡ length es
length-fields octets start [] = refl
length-fields octets start (e ∷ es) = ap suc (length-fields octets e.value es)

-- the field at a place
record IsPlaced (octets : List ℕ) (start : ℕ) (es : List FieldEnds) (last place : ℕ) (e : FieldEnds) : Type 0 where
  name : start_from start es place ≤ e.name
  value : e.name ≤ e.value
  within : e.value ≤ last
  field : nth_field (fields_from octets start es) place
      ≡ record {
        name = slice_range octets (start_from start es place) e.name;
        value =
            slice_range octets e.name e.value;
      }

placed : (octets : List ℕ) (start : ℕ) (es : List FieldEnds) (last place : ℕ) (e : FieldEnds)
    → ascend start es last ≡ true → place < length es → e ≡ slice_index_or es place e
    → IsPlaced octets start es last place e
placed octets start [] last place e h k is = absurd (omega arith)
placed octets start (x ∷ es) last zero e h k is =
    let a = ascends start x es last h in
    rw is (record { name = a.name; value = a.value; within = ascend-le x.value es last a.more; field = refl })
placed octets start (x ∷ es) last (suc place) e h k is =
    let more = placed octets x.value es last place e (ascends start x es last h).more (omega arith) is in
    record { name = more.name; value = more.value; within = more.within; field = more.field }

pub record HasField (fields : List Field) (octets : List ℕ) (es : List FieldEnds) (place : ℕ) (e : FieldEnds) : Type 0 where
  pub name : start_from 0 es place ≤ e.name
  pub value : e.name ≤ e.value
  pub within : e.value ≤ length octets
  pub name_is : slice_range octets (start_from 0 es place) e.name ≡ (nth_field fields place).name
  pub value_is : slice_range octets e.name e.value ≡ (nth_field fields place).value

pub has_field : (fields : List Field) (octets : List ℕ) (es : List FieldEnds) (place : ℕ) (e : FieldEnds)
    → fields_from octets 0 es ≡ fields → ascend 0 es (length octets) ≡ true → place < length fields
    → e ≡ slice_index_or es place e → HasField fields octets es place e
has_field fields octets es place e view h k is =
    let room : place < length es = omega (arith, ap length view, length-fields octets 0 es) in
    let p = placed octets 0 es (length octets) place e h room is in
    record {
      name = p.name;
      value = p.value;
      within = p.within;
      name_is = sym (ap (λ fs. (nth_field fs place).name) (sym view) ∙ ap (λ f. f.name) p.field);
      value_is = sym (ap (λ fs. (nth_field fs place).value) (sym view) ∙ ap (λ f. f.value) p.field);
    }

pub start_from-zero : (es : List FieldEnds) → 0 ≡ start_from 0 es 0
start_from-zero [] = refl
start_from-zero (e ∷ es) = refl

start_from-next : (start : ℕ) (es : List FieldEnds) (place : ℕ) (d : FieldEnds) → suc place < length es
    → (slice_index_or es place d).value ≡ start_from start es (suc place)
start_from-next start [] place d h = absurd (omega arith)
start_from-next start (x ∷ []) place d h = absurd (omega arith)
start_from-next start (x ∷ y ∷ es) zero d h = refl
start_from-next start (x ∷ y ∷ es) (suc place) d h = start_from-next x.value (y ∷ es) place d (omega arith)

pub start_from-before : (es : List FieldEnds) (place : ℕ) (d : FieldEnds) → (place ≡ 0 → ⊥) → place < length es
    → (slice_index_or es (place - 1) d).value ≡ start_from 0 es place
start_from-before es zero d some h = absurd (some refl)
start_from-before es (suc place) d some h = let e : suc place - 1 ≡ place = omega arith in rw e (start_from-next 0 es place d h)

-- the fields of what a buffer was fed
pub fields_fed_is : (fields : List Field) (octets : List ℕ) (reader : Reader) (message : List ℕ)
    → fields ≡ map field_in (fields_of octets) → octets ≡ reader.kept → reader ≡ reader_of message
    → fields ≡ map field_in (fields_of message)
fields_fed_is fields octets reader message e kept is = e
    ∙ ap (λ xs. map field_in (fields_of xs)) (kept ∙ ap (λ r. r.kept) is) ∙ ap (map field_in) (fields_of-kept message)
