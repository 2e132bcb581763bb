-- Statements one after another.
use Rattle.std.proofs.Common.{◌≡◌, ◌<◌, ◌+◌, ◌+ℤ◌, ℕ, ℤ, zero, suc, pos, List, [], ◌∷◌, ◌++◌, map, take, length, get_or}
use Rattle.std.proofs.Common.{fold, true, refl, sym, ap, subst, ◌∙◌, arith, rules, IsTrue, Result, Ok, Err, OnOk, OnErr}
use Rattle.std.proofs.lemmas.List.{take_more, map-append}
use Rattle.std.specs.List.{AllByRecursion}
use Rattle.std.specs.Borrow.{MutBor}
use Rattle.sqlite_trees.specs.Tree.{Trees, IsAscending}
use Rattle.sqlite_keyed.proofs.ListLemmas.{ascending_from_map, all_map}
use Rattle.sqlite.specs.Store.{Ghosts}
use Rattle.sqlite.specs.Effect.{Database}
use Rattle.sqlite.specs.Order.{Row}
use Rattle.sqlite.specs.declared.error.Error.{Error}
use Rattle.sqlite.specs.State.{State, HasCleanDisk, Survives, ExecutesInside}
use Rattle.sqlite.specs.Held.{Held, state}
use Rattle.sqlite.proofs.StateLemmas.{survives_then}
use Rattle.sqlite.proofs.Callers.{survives_begin}
use Rattle.record_tables.specs.Steps.{Runs, Writes}
use Rattle.record_tables.specs.Rows.{Tables, StoresKeyed, Due, class_key, schedule_key}
use Rattle.record_tables.specs.Changes.{RestBeside, Puts, Turns, TurnsAlone, Always, HasNoDues, HasNoClasses, HasNoSchedules, IsPastDues}
use Rattle.record_tables.specs.Changes.{ClassEntry, Rule, schedule_at, classes_from, schedules_from, with_due}
use Rattle.record_tables.specs.Changes.{with_dues, with_class, with_classes, with_schedule, with_schedules}

-- tables of other names rest over two changes
pub rest_then : (a b c : Database) → RestBeside a b → RestBeside b c → RestBeside a c
rest_then a b c one two = λ table apart was.
    let mid = one table apart was in
    let last = two table apart mid.stands in
    record { stands = last.stands; rows = last.rows ∙ mid.rows }

pub puts_then : (a b c : State) (A B : Tables → Type 0) (f h : Tables → Tables) → ((t : Tables) → A t → B (f t))
    → Puts a b A f → Puts b c B h → Puts a c A (λ t. h (f t))
puts_then a b c A B f h fits one two = record {
  stored = λ t s keyed allowed. let mid = one.stored t s keyed allowed in two.stored (f t) mid.0 mid.1 (fits t allowed);
  beside = λ t s keyed allowed.
      let mid = one.stored t s keyed allowed in
      rest_then a.now b.now c.now (one.beside t s keyed allowed) (two.beside (f t) mid.0 mid.1 (fits t allowed));
  sound = λ h t s keyed allowed.
      let mid = one.stored t s keyed allowed in
      two.sound (one.sound h t s keyed allowed) (f t) mid.0 mid.1 (fits t allowed);
  committed = two.committed ∙ one.committed;
  mode = two.mode ∙ one.mode;
  is_open = two.is_open ∙ one.is_open;
}

-- the same change of the tables, in another form
pub puts_as : (a b : State) (A B : Tables → Type 0) (f h : Tables → Tables) → ((t : Tables) → B t → A t)
    → ((t : Tables) → B t → f t ≡ h t) → Puts a b A f → Puts a b B h
puts_as a b A B f h fits same one = record {
  stored = λ t s keyed allowed. let to = one.stored t s keyed (fits t allowed) in subst (StoresKeyed b.now) (same t allowed) to;
  beside = λ t s keyed allowed. one.beside t s keyed (fits t allowed);
  sound = λ h t s keyed allowed. one.sound h t s keyed (fits t allowed);
  committed = one.committed;
  mode = one.mode;
  is_open = one.is_open;
}

pub turned : (a b : State) (A : Tables → Type 0) (f : Tables → Tables) → Puts a b A f → Turns a.now b.now A f
turned a b A f one = record { stored = one.stored; sound = one.sound }

pub turned_alone : (a b : State) (A : Tables → Type 0) (f : Tables → Tables) → Puts a b A f → TurnsAlone a.now b.now A f
turned_alone a b A f one = record { turns = turned a b A f one; beside = one.beside }

pub nothing_yet : (a : State) (A : Tables → Type 0) (f : Tables → Tables) → ((t : Tables) → A t → t ≡ f t) → Puts a a A f
nothing_yet a A f same = record {
  stored = λ t s keyed allowed. subst (StoresKeyed a.now) (same t allowed) (s, keyed);
  beside = λ t s keyed allowed table apart was. record { stands = was; rows = refl };
  sound = λ h t s keyed allowed. h;
  committed = refl;
  mode = refl;
  is_open = refl;
}

-- ---- calls in a transaction

pub on_ok : {T E P Q : Type 0} (r : Result T E) → (P → Q) → OnOk r P → OnOk r Q
on_ok (Ok x) f p = f p
on_ok (Err e) f p = tt

on_err : {T E P Q : Type 0} (r : Result T E) → (P → Q) → OnErr r P → OnErr r Q
on_err (Ok x) f p = tt
on_err (Err e) f p = f p

-- one statement
pub written : {S T E : Type 0} (g : Ghosts S) (a b : MutBor (Held S)) (r : Result T E) {sql : List ℕ} {params : Row}
    {Allows : Tables → Type 0} {change : Tables → Tables} → Runs g a b r sql params
    → ((count : ℕ) → IsTrue (state g a.now).in_transaction → ExecutesInside 0 sql params (state g a.now) (state g b.now) (Ok count)
    → Puts (state g a.now) (state g b.now) Allows change)
    → Writes g a b r Allows change
written g a b r run puts = record {
  ok = on_ok r (λ ran clean inside. let it = ran clean inside in puts it.0 inside it.1) run.ran;
  frame = run.frame;
}

-- a call that may write after those that have written
pub writes_next : {S T E X F : Type 0} (g : Ghosts S) (a b c : MutBor (Held S)) (r : Result T E) {x : X}
    {A B C : Tables → Type 0} {f h k : Tables → Tables} → Writes {E = F} g a b (Ok x) A f → Writes g b c r B h
    → (Puts (state g a.now) (state g b.now) A f → Puts (state g b.now) (state g c.now) B h → Puts (state g a.now) (state g c.now) C k)
    → Writes g a c r C k
writes_next g a b c r one two both =
    let first = λ (clean : HasCleanDisk (state g c.now)). one.ok (omega (arith, two.frame.survives.clean)) in
    record {
      ok = on_ok r (λ put clean inside. let was = first clean inside in both was (put clean (was.mode ∙ inside))) two.ok;
      frame = record {
        same_reference = two.frame.same_reference ∙ one.frame.same_reference;
        err = λ clean inside. let was = first clean inside in on_err r (λ left. record {
          was_open = λ is. subst IsTrue was.is_open (left.was_open is);
          committed = λ is. left.committed is ∙ was.committed;
        }) (two.frame.err clean (was.mode ∙ inside));
        survives = search rules;
      };
    }

pub writes_nothing : {S : Type 0} (g : Ghosts S) (a : MutBor (Held S)) {A : Tables → Type 0} {f : Tables → Tables}
    → Puts (state g a.now) (state g a.now) A f → Writes {T = Unit} {E = Error} g a a (Ok tt) A f
writes_nothing g a put = record {
  ok = λ clean inside. put;
  frame = record { same_reference = refl; err = λ clean inside. tt; survives = search rules };
}

pub get_or_any : {X : Type 0} (xs : List X) (i : ℕ) (d e : X) → i < length xs → get_or xs i d ≡ get_or xs i e
get_or_any [] i d e low = absurd (omega arith)
get_or_any (x ∷ xs) zero d e low = refl
get_or_any (x ∷ xs) (suc i) d e low = get_or_any xs i d e (omega arith)

-- ---- due days

all_before : {X : Type 0} (R : X → X → Type 0) (xs : List X) (i : ℕ) (v : X) → IsAscending R xs → i < length xs
    → AllByRecursion (λ x. R x (get_or xs i v)) (take i xs)
all_before R [] i v up low = absurd (omega arith)
all_before R (x ∷ xs) zero v up low = tt
all_before R (x ∷ xs) (suc i) v up low = (at xs i v up.0 (omega arith), all_before R xs i v up.1 (omega arith))
  where
    at : (ys : List _) (i : ℕ) (v : _) → AllByRecursion (R x) ys → i < length ys → R x (get_or ys i v)
    at [] i v all low = absurd (omega arith)
    at (y ∷ ys) zero v all low = all.0
    at (y ∷ ys) (suc i) v all low = at ys i v all.1 (omega arith)

pub dues_next : {V : Type 0} (f : V → Due) (old mid new : State) (vs : List V) (v : V) (i : ℕ) → i < length vs
    → v ≡ get_or vs i v → IsAscending (λ (a b : Due). a.number < b.number) (map f vs)
    → Puts old mid HasNoDues (with_dues (map f (take i vs))) → Puts mid new (IsPastDues (f v).number) (with_due (f v))
    → Puts old new HasNoDues (with_dues (map f (take (i + 1) vs)))
dues_next f old mid new vs v i low is up one two =
    let before = all_before (λ a b. (f a).number < (f b).number) vs i v (ascending_from_map (λ (a b : Due). a.number < b.number) f vs up) low in
    let past : AllByRecursion (λ (d : Due). d.number < (f v).number) (map f (take i vs)) =
    all_map (λ (d : Due).
    d.number < (f v).number) f (take i vs) (subst (λ x.
    AllByRecursion (λ a. (f a).number < (f x).number) (take i vs)) (sym is) before) in
    let next : map f (take i vs) ++ f v ∷ [] ≡ map f (take (i + 1) vs) = sym (ap (map f) (take_more vs i v low)
    ∙ map-append f (take i vs) _ ∙ ap (λ x. map f (take i vs) ++ f x ∷ []) (sym is)) in
    puts_as old new HasNoDues HasNoDues _ _ (λ t h. h) (λ t h.
    ap (λ l. with_dues l t) next) (puts_then old mid new HasNoDues (IsPastDues (f v).number) _ (with_due (f v))
    (λ t h. past) one two)

-- ---- classes

numbered-push : (id : ℤ) (cs : List ClassEntry) (c : ClassEntry)
    → classes_from id (cs ++ c ∷ []) ≡ classes_from id cs
    ++ record {
      id = fold (λ _ x. class_key x +ℤ pos 1) id (classes_from id cs);
      path = c.path;
      is_open = c.is_open;
      schedule = c.schedule;
    } ∷ []
numbered-push id [] c = refl
numbered-push id (x ∷ cs) c = ap (λ l. record { id = id; path = x.path; is_open = x.is_open; schedule = x.schedule }
    ∷ l) (numbered-push (id +ℤ pos 1) cs c)

pub classes_next : {V : Type 0} (f : V → ClassEntry) (old mid new : State) (vs : List V) (v : V) (i : ℕ) → i < length vs → v ≡ get_or vs i v
    → Puts old mid HasNoClasses (with_classes (map f (take i vs)))
    → Puts mid new Always (with_class (f v).path (f v).is_open (f v).schedule)
    → Puts old new HasNoClasses (with_classes (map f (take (i + 1) vs)))
classes_next f old mid new vs v i low is one two =
    let next : map f (take i vs) ++ f v ∷ [] ≡ map f (take (i + 1) vs) = sym (ap (map f) (take_more vs i v low)
    ∙ map-append f (take i vs) _ ∙ ap (λ x. map f (take i vs) ++ f x ∷ []) (sym is)) in
    puts_as old new HasNoClasses HasNoClasses _ _ (λ t h. h) (λ t h.
    ap (λ l. record t { classes = l }) (sym (numbered-push (pos 1) (map f (take i vs)) (f v))
    ∙ ap (classes_from (pos 1)) next))
    (puts_then old mid new HasNoClasses Always _ (with_class (f v).path (f v).is_open (f v).schedule) (λ t h. tt) one two)

-- ---- schedules

numbered_schedules-push : (id : ℤ) (rs : List Rule) (r : Rule) → schedules_from id (rs ++ r ∷ []) ≡ schedules_from id rs
    ++ schedule_at (fold (λ _ x. schedule_key x +ℤ pos 1) id (schedules_from id rs)) r ∷ []
numbered_schedules-push id [] r = refl
numbered_schedules-push id (x ∷ rs) r = ap (λ l. schedule_at id x ∷ l) (numbered_schedules-push (id +ℤ pos 1) rs r)

pub schedules_next : {V : Type 0} (f : V → Rule) (old mid new : State) (vs : List V) (v : V) (i : ℕ) → i < length vs → v ≡ get_or vs i v
    → Puts old mid HasNoSchedules (with_schedules (map f (take i vs))) → Puts mid new Always (with_schedule (f v))
    → Puts old new HasNoSchedules (with_schedules (map f (take (i + 1) vs)))
schedules_next f old mid new vs v i low is one two =
    let next : map f (take i vs) ++ f v ∷ [] ≡ map f (take (i + 1) vs) = sym (ap (map f) (take_more vs i v low)
    ∙ map-append f (take i vs) _ ∙ ap (λ x. map f (take i vs) ++ f x ∷ []) (sym is)) in
    puts_as old new HasNoSchedules HasNoSchedules _ _ (λ t h. h) (λ t h.
    ap (λ l. record t { schedules = l }) (sym (numbered_schedules-push (pos 1) (map f (take i vs)) (f v))
    ∙ ap (schedules_from (pos 1)) next))
    (puts_then old mid new HasNoSchedules Always _ (with_schedule (f v)) (λ t h. tt) one two)

pub none_yet_dues : (a : State) → Puts a a HasNoDues (with_dues [])
none_yet_dues a = nothing_yet a HasNoDues (with_dues []) (λ t h. ap (λ l. record t { dues = l }) h)

pub none_yet_classes : (a : State) → Puts a a HasNoClasses (with_classes [])
none_yet_classes a = nothing_yet a HasNoClasses (with_classes []) (λ t h. ap (λ l. record t { classes = l }) h)

pub none_yet_schedules : (a : State) → Puts a a HasNoSchedules (with_schedules [])
none_yet_schedules a = nothing_yet a HasNoSchedules (with_schedules []) (λ t h. ap (λ l. record t { schedules = l }) h)

-- ---- a whole transaction

-- what a crash may leave of a whole transaction
pub survives_whole : {S : Type 0} (g : Ghosts S) (old last new : Held S) (A : Tables → Type 0) (f : Tables → Tables)
    → (HasCleanDisk (state g last) → Turns (state g old).now (state g last).now A f)
    → Survives (state g (record old { in_transaction = true })) (state g last) (λ _. ⊥)
    → Survives (state g last) (state g new) (λ db. db ≡ (state g last).now.trees)
    → Survives (state g old) (state g new) (λ (trees : Trees). (db : Database) × Turns (state g old).now db A f × (trees ≡ db.trees))
survives_whole g old last new A f ran inside ends =
    survives_then (state g old) (state g last) (state g new) _ _ _ (λ _ db none. absurd none) (λ clean db is.
    (_, ran (omega (arith, ends.clean)), is)) (survives_begin g old (state g last) _ inside) ends

-- the same, for what holds of the database at the transaction's end
pub survives_good : {S : Type 0} (g : Ghosts S) (old last new : Held S) (Good : Database → Type 0)
    → (HasCleanDisk (state g last) → Good (state g last).now)
    → Survives (state g (record old { in_transaction = true })) (state g last) (λ _. ⊥)
    → Survives (state g last) (state g new) (λ db. db ≡ (state g last).now.trees)
    → Survives (state g old) (state g new) (λ (trees : Trees). (db : Database) × Good db × (trees ≡ db.trees))
survives_good g old last new Good ran inside ends =
    survives_then (state g old) (state g last) (state g new) _ _ _ (λ _ db none. absurd none) (λ clean db is.
    (_, ran (omega (arith, ends.clean)), is)) (survives_begin g old (state g last) _ inside) ends
