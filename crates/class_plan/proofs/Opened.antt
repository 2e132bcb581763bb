-- The paths of the open classes, inserted one by one into a set, stand in it in order.
use Rattle.std.proofs.Common.{◌≡◌, ℕ, Bool, true, false, cond, if◌then◌else◌, List, [], ◌∷◌, ◌++◌, map, filter, Vec}
use Rattle.std.proofs.Common.{Global, Ordering, Less, Equal, Greater, nat_cmp, refl, ap, sym, ◌∙◌, append_assoc}
use Rattle.std.proofs.lemmas.Cmp.{nat_list_cmp_total}
use Rattle.std.proofs.lemmas.List.{append-nil}
use Rattle.std.specs.List.{AllByRecursion}
use Rattle.std.specs.List.Sorted.{IsStrictlySortedBy}
use Rattle.std.specs.Cmp.Lexicographic.{slice_cmp}
use Rattle.std.specs.Ordering.{match_ordering, ordering_reverse}
use Rattle.std.specs.BTreeSet.{insert_key}
use Rattle.class_plan.specs.Plans.{Row, paths_of}
use Rattle.class_plan.specs.Fields.{MapEntry, rows}
use Rattle.class_plan.proofs.Keeping.{key_cmp}

abbrev pub path_cmp : List ℕ → List ℕ → Ordering
path_cmp = slice_cmp nat_cmp

abbrev pub items_of : List (Vec ℕ Global) → List (List ℕ)
items_of ks = map (λ v. v.items) ks

match_items : (o : Ordering) (a b c : List (Vec ℕ Global))
    → items_of (match_ordering o a b c) ≡ match_ordering o (items_of a) (items_of b) (items_of c)
match_items Less a b c = refl
match_items Equal a b c = refl
match_items Greater a b c = refl

-- an insert into a set of keys is an insert into the set of their paths
pub items-insert : (ks : List (Vec ℕ Global)) (k : Vec ℕ Global) → items_of (insert_key key_cmp ks k) ≡ insert_key path_cmp (items_of ks) k.items
items-insert [] k = refl
items-insert (x ∷ xs) k = match_items (key_cmp k x) _ _ _ ∙ rw (items-insert xs k)

-- the paths of the open rows, inserted one by one
abbrev pub collected : List (List ℕ) → List Row → List (List ℕ)
collected ks [] = ks
collected ks (r ∷ rs) = collected (if r.is_open then insert_key path_cmp ks r.path else ks) rs

abbrev IsAbove : List (List ℕ) → List ℕ → Type 0
IsAbove ks q = AllByRecursion (λ k. path_cmp q k ≡ Greater) ks

insert_last : (ks : List (List ℕ)) (q : List ℕ) → IsAbove ks q → insert_key path_cmp ks q ≡ ks ++ q ∷ []
insert_last [] q h = refl
insert_last (k ∷ ks) q h = rw h.0 (ap (λ xs. k ∷ xs) (insert_last ks q h.1))

above_push : (ks : List (List ℕ)) (p q : List ℕ) → IsAbove ks q → path_cmp p q ≡ Less → IsAbove (ks ++ p ∷ []) q
above_push [] p q h e = (nat_list_cmp_total.antisymm q p ∙ ap ordering_reverse e, tt)
above_push (k ∷ ks) p q h e = (h.0, above_push ks p q h.1 e)

all_push : (ks : List (List ℕ)) (p : List ℕ) (qs : List (List ℕ)) → AllByRecursion (IsAbove ks) qs
    → AllByRecursion (λ q. path_cmp p q ≡ Less) qs → AllByRecursion (IsAbove (ks ++ p ∷ [])) qs
all_push ks p [] h e = tt
all_push ks p (q ∷ qs) h e = (above_push ks p q h.0 e.0, all_push ks p qs h.1 e.1)

abbrev opened : List Row → List (List ℕ)
opened rs = paths_of (filter (λ r. r.is_open) rs)

collected_if : (b : Bool) (ks : List (List ℕ)) (r : Row) (rs : List Row)
    → (b ≡ true → collected (insert_key path_cmp ks r.path) rs ≡ ks ++ r.path ∷ opened rs)
    → (b ≡ false → collected ks rs ≡ ks ++ opened rs)
    → collected (if b then insert_key path_cmp ks r.path else ks) rs ≡ ks
    ++ paths_of (cond b (r ∷ filter (λ x. x.is_open) rs) (filter (λ x. x.is_open) rs))
collected_if true ks r rs f g = f refl
collected_if false ks r rs f g = g refl

collected-from : (ks : List (List ℕ)) (rs : List Row) → AllByRecursion (IsAbove ks) (paths_of rs)
    → IsStrictlySortedBy path_cmp (paths_of rs) → collected ks rs ≡ ks ++ opened rs
unfolding IsStrictlySortedBy
collected-from ks [] h s = sym (append-nil ks)
collected-from ks (r ∷ rs) h s =
    collected_if r.is_open ks r rs
    (λ _. ap (λ xs. collected xs rs) (insert_last ks r.path h.0)
    ∙ collected-from (ks ++ r.path ∷ []) rs (all_push ks r.path (paths_of rs) h.1 s.0) s.1
    ∙ append_assoc ks (r.path ∷ []) (opened rs))
    (λ _. collected-from ks rs h.1 s.1)

none_above : (qs : List (List ℕ)) → AllByRecursion (IsAbove []) qs
none_above [] = tt
none_above (q ∷ qs) = (tt, none_above qs)

pub collected-all : (rs : List Row) → IsStrictlySortedBy path_cmp (paths_of rs) → collected [] rs ≡ opened rs
collected-all rs s = collected-from [] rs (none_above (paths_of rs)) s

-- an open class's path is inserted into the set
pub collected-open : (ks more : List (Vec ℕ Global)) (k : Vec ℕ Global) (e : MapEntry) (it rest : List MapEntry)
    (whole : List (List ℕ)) → it ≡ e ∷ rest → e.1.is_open ≡ true → more ≡ insert_key key_cmp ks k → k.items ≡ e.0.items
    → collected (items_of ks) (rows it) ≡ whole → collected (items_of more) (rows rest) ≡ whole
collected-open ks more k e it rest whole cut is_open grown same so =
    let one : collected (items_of ks) (rows it) ≡ collected (insert_key path_cmp (items_of ks) e.0.items) (rows rest) =
    ap (λ x. collected (items_of ks) (rows x)) cut
    ∙ ap (λ b. collected (if b then insert_key path_cmp (items_of ks) e.0.items else items_of ks) (rows rest))
    is_open in
    let two : items_of more ≡ insert_key path_cmp (items_of ks) e.0.items = ap items_of grown ∙ items-insert ks k
    ∙ ap (insert_key path_cmp (items_of ks)) same in
    ap (λ x. collected x (rows rest)) two ∙ sym one ∙ so
