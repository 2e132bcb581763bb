-- Values of JSON: more items of an array, and values that have no float.
use Rattle.std.proofs.Common.{◌≡◌, ◌∙◌, ◌+◌, ◌-◌, ◌≤◌, suc, arith, append_assoc, ap, refl, ℕ, Bool, true, false, ◌||◌}
use Rattle.std.proofs.Common.{true≢false, List, [], ◌∷◌, ◌++◌, map, Option, Some, None}
use Rattle.std.specs.Prelude.{⊤}
use Rattle.std.proofs.lemmas.List.{map-append}
use Rattle.std.proofs.Common.{Ordering, Less, Equal, Greater}
use Rattle.std.specs.List.{range_with_len}
use Rattle.std.specs.Ordering.{match_ordering}
use Rattle.jiff_core.specs.declared.civil.date.Date.{Date}
use Rattle.serde_json.specs.Data.{Data, number, unsigned, Members, no_members, member, put}
use Rattle.serde_json.specs.View.{items_of, view}
use Rattle.serde_json.specs.Written.{has_float, items_have_float, members_have_float}
use Rattle.serde_json.specs.declared.value.Value.{Value}
use Rattle.cli_texts.specs.declared.cases.CaseBeginning.{CaseBeginning}
use Rattle.cli_texts.specs.declared.cases.ListedCase.{ListedCase}
use Rattle.cli_texts.specs.declared.events.Field.{Field}
use Rattle.cli_texts.specs.declared.events.Field.TheVariants as field
use Rattle.cli_texts.specs.declared.events.ListedEvent.{ListedEvent}
use Rattle.cli_texts.specs.declared.events.Named.{Named}
use Rattle.cli_texts.specs.declared.headers.ListedHeaders.{ListedHeaders}
use Rattle.cli_texts.specs.declared.headers.ListedHeaders.TheVariants as listed
use Rattle.cli_texts.specs.declared.records.Row.{Row}
use Rattle.cli_texts.specs.declared.titles.ListedTitle.{ListedTitle}
use Rattle.cli_texts.specs.Json.{Member, with_members, shown_value, due_value, record_members, volume_members, header_members, record_value}
use Rattle.cli_texts.specs.Json.{title_members, title_value}
use Rattle.cli_texts.specs.Json.{beginning_members, IsBeginningValue, case_members, IsCaseValue}
use Rattle.cli_texts.specs.EventValues.{field_value, field_member, event_members, event_value}

-- the first of the values that are still to come
pub pushed_value : (xs ys : List Value) (v : Value) (d : Data) (rest all : List Data) → ys ≡ xs ++ v ∷ [] → view v ≡ d
    → map view xs ++ d ∷ rest ≡ all → map view ys ++ rest ≡ all
pushed_value xs ys v d rest all push is before =
    ap (λ (zs : List Value). map view zs ++ rest) push
    ∙ (ap (λ (ds : List Data). ds ++ rest) (map-append view xs (v ∷ []))
    ∙ (append_assoc (map view xs) (view v ∷ []) rest
    ∙ (ap (λ (e : Data). map view xs ++ e ∷ rest) is ∙ before)))

-- the first of the numbers that are still to come
pub number_next : (a last : ℕ) → a ≤ last → range_with_len a (suc last - a) ≡ a ∷ range_with_len (a + 1) (suc last - (a + 1))
number_next a last le =
    let more : suc last - a ≡ suc (suc last - (a + 1)) = omega (arith, le) in
    ap (range_with_len a) more

-- none is to come any more
pub numbers_end : (a last : ℕ) → suc last ≤ a → range_with_len a (suc last - a) ≡ []
numbers_end a last le =
    let none : suc last - a ≡ 0 = omega (arith, le) in
    ap (range_with_len a) none

-- members with two lists of more of them
pub with_more : (first more : List Member) (ms : Members) → with_members (first ++ more) ms ≡ with_members more (with_members first ms)
with_more [] more ms = refl
with_more (m ∷ first) more ms = with_more first more (put m.0 m.1 ms)

-- ---- no float

neither : (a b : Bool) → a ≡ false → b ≡ false → (a || b) ≡ false
neither a b e f = rw (e, f) refl

not_left : (a b : Bool) → (a || b) ≡ false → a ≡ false
not_left false b h = refl
not_left true b h = h

not_right : (a b : Bool) → (a || b) ≡ false → b ≡ false
not_right false b h = h
not_right true b h = absurd (true≢false h)

chosen_plain : (o : Ordering) (a b c : Members) → members_have_float a ≡ false → members_have_float b ≡ false → members_have_float c ≡ false
    → members_have_float (match_ordering o a b c) ≡ false
chosen_plain Less a b c x y z = x
chosen_plain Equal a b c x y z = y
chosen_plain Greater a b c x y z = z

put_plain : (k : List ℕ) (d : Data) (ms : Members) → has_float d ≡ false → members_have_float ms ≡ false → members_have_float (put k d ms) ≡ false
put_plain k d no_members p h = neither (has_float d) false p refl
put_plain k d (member l e ms) p h =
    let first = not_left (has_float e) (members_have_float ms) h in
    let rest = not_right (has_float e) (members_have_float ms) h in
    chosen_plain _ (member k d (member l e ms)) (member l d ms) (member l e (put k d ms))
    (neither (has_float d) (members_have_float (member l e ms)) p h)
    (neither (has_float d) (members_have_float ms) p rest)
    (neither (has_float e) (members_have_float (put k d ms)) first (put_plain k d ms p rest))

abbrev ArePlain : List Member → Type 0
ArePlain [] = ⊤
ArePlain (m ∷ more) = (has_float m.1 ≡ false) × ArePlain more

with_plain : (xs : List Member) (ms : Members) → ArePlain xs → members_have_float ms ≡ false → members_have_float (with_members xs ms) ≡ false
with_plain [] ms are h = h
with_plain (x ∷ xs) ms are h = with_plain xs (put x.0 x.1 ms) are.1 (put_plain x.0 x.1 ms are.0 h)

texts_plain : (texts : List (List ℕ)) → items_have_float (items_of (map shown_value texts)) ≡ false
texts_plain [] = refl
texts_plain (t ∷ ts) = texts_plain ts

numbers_plain : (ns : List ℕ) → items_have_float (items_of (map (λ n. number (unsigned n)) ns)) ≡ false
numbers_plain [] = refl
numbers_plain (n ∷ ns) = numbers_plain ns

due_plain : (due : Option Date) → has_float (due_value due) ≡ false
due_plain None = refl
due_plain (Some date) = refl

header_members_plain : (headers : ListedHeaders) → ArePlain (header_members headers)
header_members_plain listed.Unasked = tt
header_members_plain listed.Destroyed = (refl, (refl, (refl, tt)))
header_members_plain (listed.Texts headers) = (refl, (refl, (refl, tt)))

volume_members_plain : (volume : Option ℕ) (more : List Member) → ArePlain more → ArePlain (volume_members volume ++ more)
volume_members_plain None more are = are
volume_members_plain (Some v) more are = (refl, are)

volume_plain : (volume : Option ℕ) → ArePlain (volume_members volume)
volume_plain None = tt
volume_plain (Some v) = (refl, tt)

pub record_plain : (r : Row) (headers : ListedHeaders) → has_float (record_value r headers) ≡ false
record_plain r headers =
    let holds = texts_plain (map (λ h. h.items) r.holds.now) in
    let rest = volume_members_plain r.volume (header_members headers) (header_members_plain headers) in
    with_plain (record_members r ++ (volume_members r.volume ++ header_members headers)) no_members
    (refl, (refl, (refl, (due_plain r.due, (holds, (refl, rest)))))) refl

pub title_plain : (t : ListedTitle) → has_float (title_value t) ≡ false
title_plain t = with_plain (title_members t) no_members (refl, (refl, (refl, tt))) refl

beginning_plain : (beginning : Option CaseBeginning) (began : Data) → IsBeginningValue beginning began → has_float began ≡ false
beginning_plain None began is = ap has_float is
beginning_plain (Some b) began is =
    ap has_float is.2
    ∙ with_plain (beginning_members b is.0 ++ volume_members b.volume) no_members
    (refl, (refl, (refl, (refl, (refl, volume_plain b.volume))))) refl

pub case_plain : (c : ListedCase) (value : Data) → IsCaseValue c value → has_float value ≡ false
case_plain c value is =
    ap has_float is.2 ∙ with_plain (case_members c is.0) no_members (refl, (refl, (beginning_plain c.beginning is.0 is.1, tt))) refl

field_plain : (value : Field) → has_float (field_value value) ≡ false
field_plain (field.Number n) = refl
field_plain (field.Numbers first last) = numbers_plain (range_with_len first (suc last - first))
field_plain (field.Text text) = refl
field_plain (field.Octets octets) = refl
field_plain (field.Words words) = refl
field_plain (field.Texts texts) = texts_plain (map (λ t. t.now) texts.items)
field_plain (field.Truth is_so) = refl

fields_plain : (fields : List Named) → ArePlain (map field_member fields)
fields_plain [] = tt
fields_plain (f ∷ fs) = (field_plain f.value, fields_plain fs)

event_members_plain : (e : ListedEvent) (moment : List ℕ)
    → ArePlain (event_members e moment ++ (volume_members e.volume ++ map field_member e.fields.now))
event_members_plain e moment =
    let rest = volume_members_plain e.volume (map field_member e.fields.now) (fields_plain e.fields.now) in
    (refl, (refl, (refl, (refl, (refl, (refl, (refl, (refl, rest))))))))

pub event_plain : (e : ListedEvent) (moment : List ℕ) → has_float (event_value e moment) ≡ false
event_plain e moment =
    with_plain (event_members e moment ++ (volume_members e.volume ++ map field_member e.fields.now)) no_members (event_members_plain e moment) refl
