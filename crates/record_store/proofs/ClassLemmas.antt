-- A class that is added: its row, and the due days, which stay.
use Rattle.std.proofs.Common.{◌≡◌, ℕ, Bool, true, false, cond, ◌&&◌, ◌||◌, List, [], ◌∷◌, ◌++◌, map, filter, Option}
use Rattle.std.proofs.Common.{Some, None, is_some, option_map, option_and_then, unwrap_or, Ordering, Less, Equal}
use Rattle.std.proofs.Common.{Greater, nat_cmp, is_eq, Ok, refl, sym, ap, subst, ◌∙◌, true≢false, IsPermutation}
use Rattle.std.specs.Str.{bytes_eq}
use Rattle.std.specs.List.{AllByRecursion, All}
use Rattle.std.specs.Cmp.Lexicographic.{slice_cmp}
use Rattle.std.proofs.lemmas.Map.Text.{is_eq-slice_cmp}
use Rattle.std.proofs.lemmas.List.{map-append}
use Rattle.std.proofs.lemmas.List.Elements.{recursion_from_All}
use Rattle.std.proofs.lemmas.List.Sorted.{IsPermutation-refl, IsPermutation-to_front, IsPermutation-cons}
use Rattle.std.proofs.lemmas.List.Sorted.{IsPermutation-map, IsPermutation-append_left, IsPermutation-trans}
use Rattle.sqlite_keyed.proofs.ListLemmas.{all_weaker}
use Rattle.sqlite.specs.Store.{Ghosts}
use Rattle.sqlite.specs.Effect.{Database}
use Rattle.sqlite.specs.Held.{state}
use Rattle.sqlite.proofs.StateLemmas.{survives_weaker}
use Rattle.class_paths.specs.Path.{ancestors}
use Rattle.class_plan.specs.Changes.{addition, with_class}
use Rattle.class_plan.specs.Calendar.{due_on, due_by}
use Rattle.class_plan.specs.Plans.{Row, Listing, IsPlan, row_at, has, with_row, open_row, own_at, first_own, schedule_at}
use Rattle.class_plan.proofs.Put.{placed, put-cons, has-put, say-put}
use Rattle.class_plan.proofs.Removed.{head_other, tail_other, added-new}
use Rattle.record_archive.specs.Archive.{Record, Archive, IsArchive, IsRecord, due_of, is_live, add_class, plan_answer}
use Rattle.record_tables.specs.Changes as tables
use Rattle.record_tables.specs.Changes.{ClassEntry}
use Rattle.record_tables.specs.Reads.{class_entry}
use Rattle.record_rows.specs.Rules.{rule_at, own_rules, with_own, entry_of_row}
use Rattle.record_store.specs.Revisions.{with_plan, IsClassAdded}
use Rattle.record_adoption.specs.Keeping.{StoresArchive, has_due, due_row, due_rows}
use Rattle.record_store.specs.Companions.{LeavesBoth, LeavesBothWhere}
use Rattle.record_store.specs.declared.store.Store.{Store}
use Rattle.record_store.proofs.HoldLemmas.{same_name}

-- ---- the plan

-- no row has the path, so none compares as equal
not_equal : (r x : Row) → bytes_eq r.path x.path ≡ false → Equal ≡ slice_cmp nat_cmp r.path x.path → ⊥
not_equal r x apart e = true≢false (ap is_eq e ∙ is_eq-slice_cmp r.path x.path ∙ apart)

put_permutes : (r : Row) (xs : List Row) → has xs r.path ≡ false → IsPermutation (xs ++ r ∷ []) (with_row r xs)
put_permutes r [] h = IsPermutation-refl (r ∷ [])
put_permutes r (x ∷ xs) h =
    subst (IsPermutation ((x ∷ xs) ++ r ∷ [])) (sym (put-cons r x xs))
    (go (slice_cmp nat_cmp r.path x.path) refl (put_permutes r xs (tail_other r.path x xs h)))
  where
    go : (o : Ordering) → o ≡ slice_cmp nat_cmp r.path x.path → IsPermutation (xs ++ r ∷ []) (with_row r xs)
        → IsPermutation ((x ∷ xs) ++ r ∷ []) (placed o r x xs)
    go Less e more = IsPermutation-to_front (x ∷ xs) r
    go Equal e more = absurd (not_equal r x (head_other r.path x xs h) e)
    go Greater e more = IsPermutation-cons x (xs ++ r ∷ []) (with_row r xs) more

-- an open class without a schedule adds no row of one
rules_stay : (path : List ℕ) (xs : List Row) → has xs path ≡ false → own_rules (with_row (open_row path) xs) ≡ own_rules xs
rules_stay path [] h = refl
rules_stay path (x ∷ xs) h = ap own_rules (put-cons (open_row path) x xs)
    ∙ go (slice_cmp nat_cmp path x.path) refl (rules_stay path xs (tail_other path x xs h))
  where
    go : (o : Ordering) → o ≡ slice_cmp nat_cmp path x.path → own_rules (with_row (open_row path) xs) ≡ own_rules xs
        → own_rules (placed o (open_row path) x xs) ≡ own_rules (x ∷ xs)
    go Less e more = refl
    go Equal e more = absurd (not_equal (open_row path) x (head_other path x xs h) e)
    go Greater e more = ap (with_own x.path x.schedule) more

-- ---- schedules

own_say : (o : Option Row) → option_and_then (λ (r : Row). r.schedule) o ≡ unwrap_or (option_map (λ (r : Row). r.schedule) o) None
own_say None = refl
own_say (Some r) = refl

none_at : (rows : List Row) (path : List ℕ) → has rows path ≡ false → own_at rows path ≡ None
none_at rows path h = go (row_at path rows) h
  where
    go : (o : Option Row) → is_some o ≡ false → option_and_then (λ (r : Row). r.schedule) o ≡ None
    go None h = refl
    go (Some r) h = absurd (true≢false h)

own_same : (path : List ℕ) (xs : List Row) → has xs path ≡ false → (y : List ℕ) → own_at (with_row (open_row path) xs) y ≡ own_at xs y
own_same path xs h y =
    own_say (row_at y (with_row (open_row path) xs)) ∙ say-put (λ (r : Row). r.schedule) None y (open_row path) xs ∙ go (bytes_eq y path) refl
  where
    go : (b : Bool) → bytes_eq y path ≡ b → cond b None (unwrap_or (option_map (λ (r : Row). r.schedule) (row_at y xs)) None) ≡ own_at xs y
    go true e = sym (ap (own_at xs) (same_name y path e) ∙ none_at xs path h)
    go false e = sym (own_say (row_at y xs))

first_same : (p : Listing) (path : List ℕ) → has p.rows path ≡ false → (qs : List (List ℕ)) → first_own (with_class p path) qs ≡ first_own p qs
first_same p path h [] = refl
first_same p path h (q ∷ qs) = λ i. unwrap_or (own_same path p.rows h q i) (first_same p path h qs i)

has_more : (path : List ℕ) (xs : List Row) (y : List ℕ) → has xs y ≡ true → has (with_row (open_row path) xs) y ≡ true
has_more path xs y h = has-put y (open_row path) xs ∙ ap (λ b. bytes_eq y path || b) h ∙ or_true (bytes_eq y path)
  where
    or_true : (b : Bool) → (b || true) ≡ true
    or_true true = refl
    or_true false = refl

schedule_same : (p : Listing) (path : List ℕ) → has p.rows path ≡ false → (y : List ℕ) → has p.rows y ≡ true
    → schedule_at (with_class p path) y ≡ schedule_at p y
schedule_same p path h y there =
    ap (λ b. cond b (Some (first_own (with_class p path) (y ∷ ancestors y))) None) (has_more path p.rows y there ∙ sym there)
    ∙ ap (λ s. cond (has p.rows y) (Some s) None) (first_same p path h (y ∷ ancestors y))

-- no due date of a class that is there changes
pub due_same : (p : Listing) (path : List ℕ) → has p.rows path ≡ false → (y : List ℕ) (day : ℕ) → has p.rows y ≡ true
    → due_on (with_class p path) y day ≡ due_on p y day
due_same p path h y day there = ap (option_and_then (due_by day)) (schedule_same p path h y there)

-- ---- the archive

pub added_is_archive : (a : Archive) (path : List ℕ) → IsArchive a → IsPlan (with_class a.plan path)
    → IsArchive (with_plan a (with_class a.plan path))
added_is_archive a path is plan = record {
  plan = plan;
  records = λ i d low. let r = is.records i d low in record {
    number = r.number;
    message = r.message;
    day = r.day;
    class = has_more path a.plan.rows _ r.class;
    stored = r.stored;
  };
  in_order = is.in_order;
  messages = is.messages;
  named = is.named;
  held = is.held;
  once = is.once;
}

dues_same_on : (a b : Archive) (rs : List Record) → AllByRecursion (λ r. due_of b r ≡ due_of a r) rs
    → map (due_row a) (filter (has_due a) rs) ≡ map (due_row b) (filter (has_due b) rs)
dues_same_on a b [] h = refl
dues_same_on a b (r ∷ rs) h =
    let one = h.0 in
    ap (λ o. map (due_row a) (cond (is_live r && is_some o) (r ∷ filter (has_due a) rs) (filter (has_due a) rs)))
    (sym one) ∙ go (has_due b r) (dues_same_on a b rs h.1)
  where
    go : (c : Bool) → map (due_row a) (filter (has_due a) rs) ≡ map (due_row b) (filter (has_due b) rs)
        → map (due_row a) (cond c (r ∷ filter (has_due a) rs) (filter (has_due a) rs))
        ≡ map (due_row b) (cond c (r ∷ filter (has_due b) rs) (filter (has_due b) rs))
    go true more = let one : due_of a r ≡ due_of b r = sym h.0 in λ i. record { number = r.number; day = unwrap_or (one i) 0 } ∷ more i
    go false more = more

pub dues_stay : (a : Archive) (path : List ℕ) → IsArchive a → has a.plan.rows path ≡ false
    → due_rows a ≡ due_rows (with_plan a (with_class a.plan path))
dues_stay a path is h =
    dues_same_on a (with_plan a (with_class a.plan path)) a.records
    (all_weaker (IsRecord a) (λ (r : Record). due_of (with_plan a (with_class a.plan path)) r ≡ due_of a r) (λ r k.
    due_same a.plan path h r.path r.day k.class) a.records (recursion_from_All (IsRecord a) a.records is.records))

-- ---- the tables

pub stores_added : (a : Archive) (path : List ℕ) → IsArchive a → has a.plan.rows path ≡ false → (was db : Database)
    → StoresArchive was a → IsClassAdded path was db → StoresArchive db (with_plan a (with_class a.plan path))
stores_added a path is h was db s turns =
    let made = turns.stored s.tables s.stored s.keyed tt in
    let new : ClassEntry = entry_of_row (open_row path) in
    let classes : IsPermutation (map class_entry s.tables.classes ++ new ∷ []) (map entry_of_row (with_row (open_row path) a.plan.rows)) =
    IsPermutation-trans _ _ _ (IsPermutation-append_left (new ∷ []) _ _ s.keeps.classes)
    (subst (λ l. IsPermutation l (map entry_of_row (with_row (open_row path) a.plan.rows)))
    (map-append entry_of_row a.plan.rows (open_row path ∷ []))
    (IsPermutation-map entry_of_row _ _ (put_permutes (open_row path) a.plan.rows h))) in
    record {
      tables = tables.with_class path true None s.tables;
      stored = made.0;
      keyed = made.1;
      keeps = record {
        messages = s.keeps.messages;
        records = s.keeps.records;
        holds = s.keeps.holds;
        settings = s.keeps.settings;
        classes = subst (λ l. IsPermutation l (map entry_of_row (with_row (open_row path) a.plan.rows)))
            (sym (map-append class_entry s.tables.classes _)) classes;
        schedules = subst (IsPermutation _) (ap (λ l. rule_at [] a.plan.root ∷ l) (sym (rules_stay path a.plan.rows h))) s.keeps.schedules;
      };
      dues = s.dues ∙ dues_stay a path is h;
    }

-- ---- the command

module _ (a : Archive) (p q : Listing) (path : List ℕ) (same : p ≡ a.plan) (made : addition p path ≡ Ok q) where
  by_archive : addition a.plan path ≡ Ok q
  by_archive = subst (λ l. addition l path ≡ Ok q) same made

  news : (q ≡ with_class a.plan path) × (has a.plan.rows path ≡ false)
  news = added-new a.plan q path by_archive

  pub is_added : add_class a path ≡ Ok (with_plan a q)
  is_added = ap (plan_answer a) by_archive

  pub added_archive : IsArchive a → IsPlan q → IsArchive (with_plan a q)
  added_archive is plan = subst (λ l. IsArchive (with_plan a l)) (sym news.0) (added_is_archive a path is (subst IsPlan news.0 plan))

  pub keeps_added : IsArchive a → (was db : Database) → StoresArchive was a → IsClassAdded path was db → StoresArchive db (with_plan a q)
  keeps_added is was db kept turns = subst (λ l. StoresArchive db (with_plan a l)) (sym news.0) (stores_added a path is news.1 was db kept turns)

  due_of_each : (r : Record) → IsRecord a r → due_on q r.path r.day ≡ due_on p r.path r.day
  due_of_each r h = ap (λ l. due_on l r.path r.day) news.0 ∙ due_same a.plan path news.1 r.path r.day h.class
      ∙ sym (ap (λ l. due_on l r.path r.day) same)

  -- each record keeps its due date
  pub same_dues : IsArchive a → All (λ (r : Record). due_on q r.path r.day ≡ due_on p r.path r.day) a.records
  same_dues is = λ i d low. due_of_each _ (is.records i d low)

pub leaves_added : {S : Type 0} (g : Ghosts S) (Needs : Database → Type 0) (Brings : Database → Database → Type 0) (old new : Store S)
    (path : List ℕ) (q : Listing) → addition old.plan path ≡ Ok q
    → LeavesBothWhere g Needs Brings old new (λ a. Unit {0}) (λ a. with_plan a q) → LeavesBoth g Needs Brings old new (λ a. add_class a path)
leaves_added g Needs Brings old new path q made left a s ready is_open =
    survives_weaker (state g old.conn) (state g new.conn) _ _ (λ clean trees it.
    (with_plan a q, is_added a old.plan q path s.plan made, it is_open tt)) (left a s ready)
