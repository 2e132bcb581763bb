-- What a file lists has its schedules in range, and `unfiled` open.
use Rattle.std.proofs.Common.{◌≡◌, ℕ, ◌≤◌, nat_le, Bool, true, false, not, ◌&&◌, if◌then◌else◌, List, [], ◌∷◌, codes}
use Rattle.std.proofs.Common.{Option, Some, None, option_map, option_and_then, refl, sym, subst, ◌∙◌}
use Rattle.std.proofs.lemmas.List.Elements.{All-from_recursion}
use Rattle.std.specs.Str.{bytes_eq}
use Rattle.std.specs.List.{AllByRecursion}
use Rattle.class_plan.proofs.Periods.{low_of, high_of}
use Rattle.toml.specs.Data.{Data, Items, no_items, item, Members, get_member, as_str, as_table, as_array}
use Rattle.class_paths.specs.Path.{unfiled}
use Rattle.class_plan.specs.declared.schedules.Unit.{Unit as TimeUnit}
use Rattle.class_plan.specs.declared.schedules.Action.{Action}
use Rattle.class_plan.specs.declared.schedules.Schedule.{Schedule}
use Rattle.class_plan.specs.declared.schedules.Schedule.TheVariants.{Permanent, After}
use Rattle.class_plan.specs.declared.entries.Stated.{Stated}
use Rattle.class_plan.specs.declared.entries.Stated.TheVariants.{Nothing}
use Rattle.class_plan.specs.Schedules.{most, IsInRange, IsInRangeIfAny}
use Rattle.class_plan.specs.Texts.{count_of, unit_of, ending_of, period_of, schedule_of_bytes}
use Rattle.class_plan.specs.Entries.{Entry, Contents, stated_if, own_of, IsListable, IsListableEntry}
use Rattle.class_plan.specs.Document.{has_only, is_file_key, is_class_key, openness_of, statement_of, class_of}
use Rattle.class_plan.specs.Document.{class_of_parts, entry_of, entries_of, listed_of, contents_of, contents_of_parts}

range_if : (b : Bool) (n : ℕ) (u : TimeUnit) (x : Action × Bool) (s : Schedule) → (b ≡ true → (1 ≤ n) × (n ≤ most u))
    → Some s ≡ (if b then Some (After n u x.0 x.1) else None) → IsInRange s
range_if true n u x s h e = let is : After n u x.0 x.1 ≡ s = cc in subst IsInRange is (h refl)
range_if false n u x s h e = absurd (cc)

period_range : (o : Option ℕ) (u : Option TimeUnit) (x : Option (Action × Bool)) (a b c : List ℕ) (s : Schedule)
    → o ≡ count_of a → u ≡ unit_of b → x ≡ ending_of c → Some s ≡ period_of a b c → IsInRange s
unfolding period_of
period_range None u x a b c s d e f h = let k : Some s ≡ None = rw (← d) at h in absurd (cc)
period_range (Some n) None x a b c s d e f h = let k : Some s ≡ None = rw (← d, ← e) at h in absurd (cc)
period_range (Some n) (Some u) None a b c s d e f h = let k : Some s ≡ None = rw (← d, ← e, ← f) at h in absurd (cc)
period_range (Some n) (Some u) (Some x) a b c s d e f h = range_if (nat_le 1 n && nat_le n (most u)) n u x s (λ t.
    (low_of n (most u) t, high_of n (most u) t)) (rw (← d, ← e, ← f) at h)

text_range : (p : Bool) (t a b c : List ℕ) (s : Schedule) → Some s ≡ (if p then Some Permanent else period_of a b c) → IsInRange s
text_range true t a b c s h = let is : Permanent ≡ s = cc in subst IsInRange is tt
text_range false t a b c s h = period_range (count_of a) (unit_of b) (ending_of c) a b c s refl refl refl h

pub schedule-range : (t : List ℕ) (s : Schedule) → Some s ≡ schedule_of_bytes t → IsInRange s
unfolding schedule_of_bytes
schedule-range t s h = text_range _ t _ _ _ s h

any_range : (t : List ℕ) (o : Option Schedule) → o ≡ schedule_of_bytes t → IsInRangeIfAny o
any_range t None h = tt
any_range t (Some s) h = schedule-range t s h

own_range : (t : List ℕ) (o : Option Schedule) → o ≡ schedule_of_bytes t → IsInRangeIfAny (own_of (stated_if (Some o)))
own_range t None h = tt
own_range t (Some s) h = schedule-range t s h

stated_range : (o : Option (List ℕ)) (s : Stated) → Some s ≡ option_map (λ t. stated_if (Some (schedule_of_bytes t))) o → IsInRangeIfAny (own_of s)
stated_range None s h = absurd (cc)
stated_range (Some t) s h = let k : stated_if (Some (schedule_of_bytes t)) ≡ s = cc in
    subst (λ x. IsInRangeIfAny (own_of x)) k (own_range t (schedule_of_bytes t) refl)

statement_range : (o : Option Data) (s : Stated) → Some s ≡ statement_of o → IsInRangeIfAny (own_of s)
statement_range None s h = let k : Nothing ≡ s = cc in subst (λ x. IsInRangeIfAny (own_of x)) k tt
statement_range (Some d) s h = stated_range (as_str d) s h

checked_if : (b o : Bool) (e f : Entry) → o ≡ e.is_open → b ≡ bytes_eq e.path unfiled → IsInRangeIfAny (own_of e.stated)
    → Some f ≡ (if b && not o then None else Some e) → IsListableEntry f
checked_if true true e f is same range h = let k : e ≡ f = cc in subst IsListableEntry k (record { range = range; unfiled_open = λ _. sym is })
checked_if true false e f is same range h = absurd (cc)
checked_if false o e f is same range h = let k : e ≡ f = cc in
    subst IsListableEntry k (record {
      range = range;
      unfiled_open = λ t. absurd (let x : true ≡ false = sym t
          ∙ sym same in (cc));
    })

class_parts : (b : Bool) (p : Option (List ℕ)) (o : Option Bool) (t : Option Stated) (e : Entry)
    → ((s : Stated) → Some s ≡ t → IsInRangeIfAny (own_of s)) → Some e ≡ class_of_parts b p o t → IsListableEntry e
class_parts true (Some p) (Some o) (Some s) e range h =
    checked_if (bytes_eq p unfiled) o (record { path = p; is_open = o; stated = s }) e refl refl (range s refl) h
class_parts false p o t e range h = absurd (cc)
class_parts true None o t e range h = absurd (cc)
class_parts true (Some p) None t e range h = absurd (cc)
class_parts true (Some p) (Some o) None e range h = absurd (cc)

class_listable : (ms : Members) (e : Entry) → Some e ≡ class_of ms → IsListableEntry e
unfolding class_of
class_listable ms e h =
    class_parts (has_only is_class_key ms) (option_and_then as_str (get_member (codes "path") ms))
    (openness_of (get_member (codes "open") ms)) (statement_of (get_member (codes "schedule") ms)) e
    (statement_range (get_member (codes "schedule") ms)) h

entry_table : (o : Option Members) (e : Entry) → Some e ≡ option_and_then class_of o → IsListableEntry e
entry_table None e h = absurd (cc)
entry_table (Some ms) e h = class_listable ms e h

entry_listable : (d : Data) (e : Entry) → Some e ≡ entry_of d → IsListableEntry e
unfolding entry_of
entry_listable d e h = entry_table (as_table d) e h

entries_both : (o : Option Entry) (p : Option (List Entry)) (es : List Entry)
    → ((e : Entry) → Some e ≡ o → IsListableEntry e)
    → ((xs : List Entry) → Some xs ≡ p → AllByRecursion IsListableEntry xs)
    → Some es ≡ option_and_then (λ e. option_and_then (λ xs. Some (e ∷ xs)) p) o → AllByRecursion IsListableEntry es
entries_both None p es f g h = absurd (cc)
entries_both (Some e) None es f g h = absurd (cc)
entries_both (Some e) (Some xs) es f g h = let k : e ∷ xs ≡ es = cc in subst (AllByRecursion IsListableEntry) k (f e refl, g xs refl)

entries_listable : (ds : Items) (es : List Entry) → Some es ≡ entries_of ds → AllByRecursion IsListableEntry es
unfolding entries_of
entries_listable no_items es h = let k : [] ≡ es = cc in subst (AllByRecursion IsListableEntry) k tt
entries_listable (item d ds) es h = entries_both (entry_of d) (entries_of ds) es (entry_listable d) (entries_listable ds) h

array_listable : (o : Option Items) (es : List Entry) → Some es ≡ option_and_then entries_of o → AllByRecursion IsListableEntry es
array_listable None es h = absurd (cc)
array_listable (Some ds) es h = entries_listable ds es h

listed_listable : (o : Option Data) (es : List Entry) → Some es ≡ listed_of o → AllByRecursion IsListableEntry es
unfolding listed_of
listed_listable None es h = let k : [] ≡ es = cc in subst (AllByRecursion IsListableEntry) k tt
listed_listable (Some d) es h = array_listable (as_array d) es h

contents_parts : (b : Bool) (r : Option (List ℕ)) (o : Option (List Entry)) (f : Contents)
    → ((es : List Entry) → Some es ≡ o → AllByRecursion IsListableEntry es) → Some f ≡ contents_of_parts b r o
    → IsListable f
contents_parts true (Some r) (Some es) f g h =
    let k : record { root = schedule_of_bytes r; entries = es } ≡ f = cc in
    subst IsListable k (record { root = any_range r (schedule_of_bytes r) refl; entries = All-from_recursion IsListableEntry es (g es refl) })
contents_parts false r o f g h = absurd (cc)
contents_parts true None o f g h = absurd (cc)
contents_parts true (Some r) None f g h = absurd (cc)

-- the contents of a file are fit to be judged
pub contents-listable : (ms : Members) (f : Contents) → Some f ≡ contents_of ms → IsListable f
unfolding contents_of
contents-listable ms f h =
    contents_parts (has_only is_file_key ms) (option_and_then as_str (get_member (codes "root") ms))
    (listed_of (get_member (codes "class") ms)) f (listed_listable (get_member (codes "class") ms)) h
