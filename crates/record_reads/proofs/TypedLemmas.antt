-- The values read from rows are those that the rows show.
use Rattle.std.proofs.Common.{◌≡◌, ◌<◌, ◌+◌, ◌++◌, ℕ, List, [], ◌∷◌, Bool, true, false, Option, Some, None}
use Rattle.std.proofs.Common.{map, length, take, get_or, Result, Ok, Err, refl, sym, ap, subst, ◌∙◌, IfOk, IfErr}
use Rattle.std.proofs.Common.{OnOk, OnErr, IsErrAnd}
use Rattle.std.proofs.lemmas.List.{take_more}
use Rattle.std.proofs.lemmas.Result.{err_from_is_err_and}
use Rattle.std.specs.List.{AllZip, AllByRecursion}
use Rattle.sqlite_keyed.proofs.ListLemmas.{all_of, all_weaker, all_map}
use Rattle.sqlite.specs.declared.types.Value.{Value}
use Rattle.sqlite.specs.declared.types.Value.TheVariants.{Int, Text}
use Rattle.sqlite.specs.declared.error.Error.{Error}
use Rattle.sqlite.specs.declared.error.Error.TheVariants.{SqliteFailure}
use Rattle.sqlite.specs.declared.error.ErrorCode.TheVariants.{OutOfMemory}
use Rattle.sqlite_typed.specs.Columns.{or_null}
use Rattle.record_tables.specs.declared.fault.Fault.{Fault}
use Rattle.record_tables.specs.declared.fault.Fault.TheVariants.{NoArchive}
use Rattle.record_tables.specs.Faults.{fault_of}
use Rattle.record_items.specs.Items.{Record}
use Rattle.record_tables.specs.Rows.{as_flag}
use Rattle.record_tables.specs.Changes.{ClassEntry, Rule}
use Rattle.record_tables.specs.Reads.{HoldEntry, Pair, record_values, ReadsRecord, FitsRecord, number_values}
use Rattle.record_tables.specs.Reads.{ReadsNumber, FitsNumber, hold_values, ReadsHold, FitsHold, pair_values, ReadsPair}
use Rattle.record_tables.specs.Reads.{class_values, ReadsClass, rule_values, ReadsRule, FitsRule}

pub on_err : {T E : Type 0} (r : Result T E) (P : Type 0) → P → OnErr r P
on_err (Ok x) P p = tt
on_err (Err e) P p = p

pub on_ok : {T E : Type 0} (r : Result T E) (P : Type 0) → P → OnOk r P
on_ok (Ok x) P p = p
on_ok (Err e) P p = tt

pub if_ok : {T E : Type 0} (r : Result T E) (P Q : T → Type 0) → IfOk r P → ((x : T) → P x → Q x) → IfOk r Q
if_ok (Ok x) P Q h to = to x h
if_ok (Err e) P Q h to = tt

pub if_err_is : {T E : Type 0} (r : Result T E) (e : E) (P : E → Type 0) → r ≡ Err e → IfErr r P → P e
if_err_is r e P is h = subst (λ x. IfErr x P) is h

not_none : (e : Error) → fault_of e ≡ NoArchive → ⊥
not_none (SqliteFailure OutOfMemory) h = cc
not_none e h = cc

-- an error of sqlite is never the refusal `NoArchive`
pub never_none : {T : Type 0} (r : Result T Fault) (e : Error) → IsErrAnd r (λ f. f ≡ fault_of e) → r ≡ Err NoArchive → ⊥
never_none r e h is =
    let p = err_from_is_err_and r h in
    let same : p.0 ≡ NoArchive = let a = p.1 in cc in
    not_none e (sym p.2 ∙ same)

-- a refusal is passed on unchanged
pub handed_on : {T : Type 0} (r : Result T Fault) (f : Fault) → IsErrAnd r (λ e. e ≡ f) → r ≡ Err NoArchive → f ≡ NoArchive
handed_on r f h is =
    let p = err_from_is_err_and r h in
    let same : p.0 ≡ NoArchive = let a = p.1 in cc in
    sym p.2 ∙ same

-- ---- lists

zip_push : {A B : Type 0} (P : A → B → Type 0) (xs : List A) (ys : List B) (x : A) (y : B) → AllZip P xs ys → P x y
    → AllZip P (xs ++ x ∷ []) (ys ++ y ∷ [])
zip_push P [] [] x y h p = (p, tt)
zip_push P [] (b ∷ ys) x y h p = absurd h
zip_push P (a ∷ xs) [] x y h p = absurd h
zip_push P (a ∷ xs) (b ∷ ys) x y h p = (h.0, zip_push P xs ys x y h.1 p)

pub zip_next : {A C : Type 0} (P : A → C → Type 0) (xs : List A) (ys : List C) (x : A) (y : C) (i : ℕ) → i < length xs
    → x ≡ get_or xs i x → AllZip P (take i xs) ys → P x y
    → AllZip P (take (i + 1) xs) (ys ++ y ∷ [])
zip_next P xs ys x y i low is h p = rw (take_more xs i x low, ← is) (zip_push P (take i xs) ys x y h p)

module _ {A V : Type 0} (show : A → List Value) (Reads : List Value → A → Type 0) (of : V → A) (one : (a q : A) → Reads (show a) q → q ≡ a) where
  read_back : (xs : List A) (qs : List V) → AllZip (λ row v. Reads row (of v)) (map show xs) qs → map of qs ≡ xs
  read_back [] [] h = refl
  read_back [] (q ∷ qs) h = absurd h
  read_back (x ∷ xs) [] h = absurd h
  read_back (x ∷ xs) (q ∷ qs) h = let first = one x (of q) h.0 in let others = read_back xs qs h.1 in cc

  -- rows that show these values are read as them
  pub back : (rows : List (List Value)) (xs : List A) (qs : List V) → rows ≡ map show xs → AllZip (λ row v. Reads row (of v)) rows qs → map of qs ≡ xs
  back rows xs qs is h = read_back xs qs (subst (λ l. AllZip (λ row v. Reads row (of v)) l qs) is h)

-- rows that show values which can be read can be read
pub readable : {A : Type 0} (show : A → List Value) (P : List Value → Type 0) (Fits : A → Type 0) → ((a : A) → Fits a → P (show a))
    → (rows : List (List Value)) (xs : List A) → rows ≡ map show xs → AllByRecursion Fits xs → AllByRecursion P rows
readable show P Fits can rows xs is h = subst (AllByRecursion P) (sym is) (all_map P show xs (all_weaker Fits (λ a. P (show a)) can xs h))

pub readable_all : {A : Type 0} (show : A → List Value) (P : List Value → Type 0) → ((a : A) → P (show a))
    → (rows : List (List Value)) (xs : List A) → rows ≡ map show xs → AllByRecursion P rows
readable_all show P can rows xs is = subst (AllByRecursion P) (sym is) (all_map P show xs (all_of (λ a. P (show a)) can xs))

-- ---- one row

flag_is : (a b : Bool) → ◌≡◌ {A = Value} (Int (as_flag a)) (Int (as_flag b)) → b ≡ a
flag_is true true h = refl
flag_is true false h = absurd (let x = h in cc)
flag_is false true h = absurd (let x = h in cc)
flag_is false false h = refl

text_is : (a b : Option (List ℕ)) → or_null Text a ≡ or_null Text b → b ≡ a
text_is None None h = refl
text_is None (Some b) h = absurd (let x = h in cc)
text_is (Some a) None h = absurd (let x = h in cc)
text_is (Some a) (Some b) h = let x : b ≡ a = cc in ap Some x

pub one_record : (r q : Record) → ReadsRecord (record_values r) q → q ≡ r
one_record r q h =
    let number : q.number ≡ r.number = let e = h.number in cc in
    let message : q.message ≡ r.message = let e = h.message in cc in
    let path : q.path ≡ r.path = let e = h.path in cc in
    let day : q.day ≡ r.day = let e = h.day in cc in
    let destroyed : q.destroyed ≡ r.destroyed = flag_is r.destroyed q.destroyed h.destroyed in
    λ i. record { number = number i; message = message i; path = path i; day = day i; destroyed = destroyed i }

pub can_record : (r : Record) → FitsRecord r → (q : Record) × (FitsRecord q × ReadsRecord (record_values r) q)
can_record r fits = (r, (fits, record { number = refl; message = refl; path = refl; day = refl; destroyed = refl }))

pub one_hold : (r q : HoldEntry) → ReadsHold (hold_values r) q → q ≡ r
one_hold r q h =
    let name : q.name ≡ r.name = let e = h.name in cc in
    let number : q.number ≡ r.number = let e = h.number in cc in
    λ i. record { name = name i; number = number i }

pub can_hold : (r : HoldEntry) → FitsHold r → (q : HoldEntry) × (FitsHold q × ReadsHold (hold_values r) q)
can_hold r fits = (r, (fits, record { name = refl; number = refl }))

pub one_setting : (r q : Pair) → ReadsPair (pair_values r) q → q ≡ r
one_setting r q h =
    let key : q.key ≡ r.key = let e = h.key in cc in
    let value : q.value ≡ r.value = let e = h.value in cc in
    λ i. record { key = key i; value = value i }

pub can_setting : (r : Pair) → (q : Pair) × ReadsPair (pair_values r) q
can_setting r = (r, record { key = refl; value = refl })

pub one_class : (r q : ClassEntry) → ReadsClass (class_values r) q → q ≡ r
one_class r q h =
    let path : q.path ≡ r.path = let e = h.path in cc in
    let is_open : q.is_open ≡ r.is_open = flag_is r.is_open q.is_open h.is_open in
    let schedule : q.schedule ≡ r.schedule = text_is r.schedule q.schedule h.schedule in
    λ i. record { path = path i; is_open = is_open i; schedule = schedule i }

pub can_class : (r : ClassEntry) → (q : ClassEntry) × ReadsClass (class_values r) q
can_class r = (r, record { path = refl; is_open = refl; schedule = refl })

pub one_rule : (r q : Rule) → ReadsRule (rule_values r) q → q ≡ r
one_rule r q h =
    let path : q.path ≡ r.path = let e = h.path in cc in
    let count : q.count ≡ r.count = let e = h.count in cc in
    let unit : q.unit ≡ r.unit = let e = h.unit in cc in
    let action : q.action ≡ r.action = let e = h.action in cc in
    let year_end : q.year_end ≡ r.year_end = let e = h.year_end in cc in
    λ i. record { path = path i; count = count i; unit = unit i; action = action i; year_end = year_end i }

pub can_rule : (r : Rule) → FitsRule r → (q : Rule) × (FitsRule q × ReadsRule (rule_values r) q)
can_rule r fits = (r, (fits, record { path = refl; count = refl; unit = refl; action = refl; year_end = refl }))

pub one_number : (r q : ℕ) → ReadsNumber (number_values r) q → q ≡ r
one_number r q h = let e = h in cc

pub can_number : (r : ℕ) → FitsNumber r → (q : ℕ) × (FitsNumber q × ReadsNumber (number_values r) q)
can_number r fits = (r, (fits, refl))
