-- Pages of a walk over the rows of a history, and calls that only look.
use Rattle.std.proofs.Common.{◌≡◌, ◌+◌, ◌-◌, ◌<◌, ◌≤◌, ◌++◌, ◌∷◌, ◌∙◌, [], ℕ, zero, suc, List, Vec, map, take, drop, get_or, length, nat_lt, cond}
use Rattle.std.proofs.Common.{◌^◌, true, false, Option, Some, None, option_map, IfSome, refl, ap, sym, subst, arith, slice_get}
use Rattle.std.specs.Option.{SomeIff, option_and_then}
use Rattle.std.specs.declared.alloc.Global.{Global}
use Rattle.std.proofs.lemmas.Bool.Decides.{nat_tests}
use Rattle.std.proofs.lemmas.List.{append_assoc, append-nil, drop-drop, drop_all, map-append, take_all, take_more}
use Rattle.sqlite.specs.Effect.{Database}
use Rattle.sqlite.specs.Held.{state}
use Rattle.sqlite.specs.State.{HasCleanDisk}
use Rattle.sqlite.specs.Store.{Ghosts}
use Rattle.record_tables.specs.Events.{Event as Row, StoresEvents}
use Rattle.record_reads.specs.Events.{event_of, last_of}
use Rattle.record_reads.specs.declared.events.EventRow.{EventRow}
use Rattle.record_history.specs.Chain.{mark_after}
use Rattle.record_noted.specs.Histories.{rows_from, rows_of}
use Rattle.record_noted.specs.declared.store.NotedStore.{NotedStore}
use Rattle.record_archive.specs.Archive.{Archive}
use Rattle.record_store.specs.Stores.{StandsFor}
use Rattle.record_store.specs.declared.store.Store.{Store}
use Rattle.cli_history.specs.Walks.{Glances, GoesOn, HasLines, IsNextPage, Looks, next_number, number_behind, rows_left}

-- ---- calls that only look

pub looks_still : {S : Type 0} (g : Ghosts S) (noted : NotedStore S) → Looks g noted noted
looks_still g noted = record { lines = λ a ls s. s; falls = λ clean. clean }

pub looks_on : {S : Type 0} (g : Ghosts S) (old mid new : NotedStore S) → Looks g old mid → Looks g mid new → Looks g old new
looks_on g old mid new one other = record {
  lines = λ a ls s. other.lines a ls (one.lines a ls s);
  falls = λ clean. one.falls (other.falls clean);
}

pub glances_on : {S : Type 0} (g : Ghosts S) (old mid new : Store S) → Glances g old mid → Glances g mid new → Glances g old new
glances_on g old mid new one other = record {
  stands = λ a s. other.stands a (one.stands a s);
  still = λ a s clean is_open.
      let second = other.still a (one.stands a s) clean is_open in
      let first = one.still a s (other.falls clean) second.0 in (first.0, second.1 ∙ first.1);
  falls = λ clean. one.falls (other.falls clean);
}

pub glances_still : {S : Type 0} (g : Ghosts S) (store : Store S) → Glances g store store
glances_still g store = record { stands = λ a s. s; still = λ a s clean is_open. (is_open, refl); falls = λ clean. clean }

-- ---- the last row of a page

pub last_row : (rows : List EventRow) → last_of (map event_of rows) ≡ option_map event_of (slice_get rows (length rows - 1))
last_row [] = refl
last_row (r ∷ []) = refl
last_row (r ∷ q ∷ rows) =
    let here : length (r ∷ q ∷ rows) - 1 ≡ suc (length (q ∷ rows) - 1) = omega arith in
    last_row (q ∷ rows) ∙ ap (λ i. option_map event_of (slice_get (r ∷ q ∷ rows) i)) (sym here)

pub behind_none : (rows : List EventRow) → None ≡ slice_get rows (length rows - 1) → None ≡ number_behind (map event_of rows)
behind_none rows is =
    ap (λ (o : Option EventRow). option_and_then next_number (option_map event_of o)) is ∙ sym (ap (option_and_then next_number) (last_row rows))

number_of : (r : EventRow) (o : Option ℕ) → SomeIff o (r.number + 1 < 2 ^ 32) (r.number + 1) → o ≡ next_number (event_of r)
number_of r None past =
    let high : 4294967295 ≤ r.number = grind (arith, past) in
    let test : nat_lt r.number 4294967295 ≡ false = grind (arith, nat_tests, high) in
    sym (ap (λ b. cond b (Some (r.number + 1)) None) test)
number_of r (Some n) is =
    let below : r.number < 4294967295 = omega (arith, is.0) in
    let test : nat_lt r.number 4294967295 ≡ true = grind (arith, nat_tests, below) in
    ap (λ i. Some i) is.1 ∙ sym (ap (λ b. cond b (Some (r.number + 1)) None) test)

pub behind_some : (rows : List EventRow) (r : EventRow) (o : Option ℕ) → Some r ≡ slice_get rows (length rows - 1)
    → SomeIff o (r.number + 1 < 2 ^ 32) (r.number + 1) → o ≡ number_behind (map event_of rows)
behind_some rows r o is number =
    number_of r o number ∙ ap (λ (p : Option EventRow). option_and_then next_number (option_map event_of p)) is
    ∙ sym (ap (option_and_then next_number) (last_row rows))

-- ---- rows that are numbered upwards

abbrev Numbered : ℕ → List Row → Type 0
Numbered n [] = Unit {0}
Numbered n (r ∷ rows) = (r.number ≡ n) × Numbered (n + 1) rows

numbered_rows : (n : ℕ) (mark : List ℕ) (ls : List (List ℕ)) → Numbered n (rows_from n mark ls)
numbered_rows n mark [] = tt
numbered_rows n mark (l ∷ ls) = (refl, numbered_rows (n + 1) (mark_after mark l) ls)

length_rows : (n : ℕ) (mark : List ℕ) (ls : List (List ℕ)) → length (rows_from n mark ls) ≡ length ls
length_rows n mark [] = refl
length_rows n mark (l ∷ ls) = ap (λ k. suc k) (length_rows (n + 1) (mark_after mark l) ls)

-- the lines of the rows are the lines
pub lines_of_rows : (n : ℕ) (mark : List ℕ) (ls : List (List ℕ)) → map (λ (r : Row). r.line) (rows_from n mark ls) ≡ ls
lines_of_rows n mark [] = refl
lines_of_rows n mark (l ∷ ls) = ap (λ rest. l ∷ rest) (lines_of_rows (n + 1) (mark_after mark l) ls)

numbered_drop : (n k : ℕ) (rows : List Row) → Numbered n rows → Numbered (n + k) (drop k rows)
numbered_drop n zero rows is = let e : n ≡ n + 0 = omega arith in subst (λ m. Numbered m rows) e is
numbered_drop n (suc k) [] is = tt
numbered_drop n (suc k) (r ∷ rows) is =
    let e : n + 1 + k ≡ n + suc k = omega arith in
    subst (λ m. Numbered m (drop k rows)) e (numbered_drop (n + 1) k rows is.1)

numbered_take : (n m : ℕ) (rows : List Row) → Numbered n rows → Numbered n (take m rows)
numbered_take n zero rows is = tt
numbered_take n (suc m) [] is = tt
numbered_take n (suc m) (r ∷ rows) is = (is.0, numbered_take (n + 1) m rows is.1)

record HasLast (n : ℕ) (rows : List Row) : Type 0 where
  row : Row
  is_last : last_of rows ≡ Some row
  number : row.number + 1 ≡ n + length rows

last_numbered : (n : ℕ) (r : Row) (rows : List Row) → Numbered n (r ∷ rows) → HasLast n (r ∷ rows)
last_numbered n r [] is = record { row = r; is_last = refl; number = omega (arith, is.0) }
last_numbered n r (q ∷ rows) is =
    let it = last_numbered (n + 1) q rows is.1 in
    record { row = it.row; is_last = it.is_last; number = omega (arith, it.number) }

number_is : (row : Row) (k : ℕ) → row.number + 1 ≡ k → k < 4294967296 → next_number row ≡ Some k
number_is row k same low =
    let below : row.number < 4294967295 = omega (arith, same, low) in
    let test : nat_lt row.number 4294967295 ≡ true = grind (arith, nat_tests, below) in
    ap (λ b. cond b (Some (row.number + 1)) None) test ∙ ap (λ i. Some i) same

behind_is : (n : ℕ) (r : Row) (rows : List Row) → Numbered n (r ∷ rows) → n + length (r ∷ rows) < 4294967296
    → number_behind (r ∷ rows) ≡ Some (n + length (r ∷ rows))
behind_is n r rows is low =
    let it = last_numbered n r rows is in
    ap (option_and_then next_number) it.is_last ∙ number_is it.row (n + length (r ∷ rows)) it.number low

-- ---- what a page leaves

taken_and_left : {X : Type 0} (m : ℕ) (xs : List X) → xs ≡ take m xs ++ drop (length (take m xs)) xs
taken_and_left zero xs = refl
taken_and_left (suc m) [] = refl
taken_and_left (suc m) (x ∷ xs) = ap (λ l. x ∷ l) (taken_and_left m xs)

taken_length : {X : Type 0} (m k : ℕ) (xs : List X) → length (take m (drop k xs)) + k ≤ length xs + k
taken_length zero k xs = omega arith
taken_length (suc m) zero [] = omega arith
taken_length (suc m) zero (x ∷ xs) = let e = taken_length m zero xs in omega (arith, e)
taken_length (suc m) (suc k) [] = omega arith
taken_length (suc m) (suc k) (x ∷ xs) = let e = taken_length (suc m) k xs in omega (arith, e)

taken_within : {X : Type 0} (m k : ℕ) (x : X) (page xs : List X) → x ∷ page ≡ take m (drop k xs) → length (x ∷ page) + k ≤ length xs
taken_within zero k x page xs is = absurd cc
taken_within (suc m) zero x page [] is = absurd cc
taken_within (suc m) zero x page (y ∷ xs) is =
    let e : length (x ∷ page) ≡ length (take (suc m) (y ∷ xs)) = ap length is in
    let h = taken_length (suc m) zero (y ∷ xs) in omega (arith, e, h)
taken_within (suc m) (suc k) x page [] is = absurd cc
taken_within (suc m) (suc k) x page (y ∷ xs) is = let h = taken_within (suc m) k x page xs is in omega (arith, h)

-- no row is left where the page has none
pub none_left : {X : Type 0} (m : ℕ) (xs : List X) → 0 < m → [] ≡ take m xs → xs ≡ []
none_left zero xs some is = absurd (omega (arith, some))
none_left (suc m) [] some is = refl
none_left (suc m) (x ∷ xs) some is = absurd cc

goes_on : (ls : List (List ℕ)) (from most : ℕ) (r : Row) (page : List Row) → r ∷ page ≡ take most (drop (from - 1) (rows_of ls))
    → length ls < 4294967295 → GoesOn (rows_of ls) (Some from) (number_behind (r ∷ page)) (r ∷ page)
goes_on ls from most r page is low =
    let k = from - 1 in
    let rows = rows_of ls in
    let numbered : Numbered (1 + k) (r ∷ page) =
    subst (Numbered (1 + k)) (sym is) (numbered_take (1 + k) most (drop k rows) (numbered_drop 1 k rows (numbered_rows 1 [] ls))) in
    let within : length (r ∷ page) + k ≤ length ls =
    omega (arith, taken_within most k r page rows is, length_rows 1 [] ls) in
    let behind : number_behind (r ∷ page) ≡ Some (1 + k + length (r ∷ page)) =
    behind_is (1 + k) r page numbered (omega (arith, within, low)) in
    let left : drop (length (r ∷ page)) (drop k rows) ≡ drop (1 + k + length (r ∷ page) - 1) rows =
    drop-drop (length (r ∷ page)) k rows ∙ (let e : k + length (r ∷ page) ≡ 1 + k + length (r ∷ page) - 1 = omega arith in ap (λ i. drop i rows) e) in
    let joined : drop k rows ≡ (r ∷ page) ++ drop (1 + k + length (r ∷ page) - 1) rows =
    taken_and_left most (drop k rows) ∙ ap (λ l. l ++ drop (length l) (drop k rows)) (sym is) ∙ ap (λ l. (r ∷ page) ++ l) left in
    subst (λ after. GoesOn rows (Some from) after (r ∷ page)) (sym behind)
    (record { joined = joined; advances = record { number = from; stood = refl; later = (omega arith, omega (arith, within, low)) } })

-- THE PAGE that was read is the next one
pub page_is_next : (ls : List (List ℕ)) (from : ℕ) (page : Vec EventRow Global) → map event_of page.items ≡ take 1000 (drop (from - 1) (rows_of ls))
    → length ls < 4294967295 → (page.items ≡ [] → ⊥)
    → IsNextPage (rows_of ls) (Some from) (number_behind (map event_of page.items)) (Some page)
page_is_next ls from page is low some = go page.items is some
  where
    go : (rows : List EventRow) → map event_of rows ≡ take 1000 (drop (from - 1) (rows_of ls)) → (rows ≡ [] → ⊥)
        → GoesOn (rows_of ls) (Some from) (number_behind (map event_of rows)) (map event_of rows)
    go [] same none = absurd (none refl)
    go (r ∷ rows) same none = goes_on ls from 1000 (event_of r) (map event_of rows) same low

-- no page was read, and no row is left
pub page_is_none : (ls : List (List ℕ)) (from : ℕ) (page : List EventRow) → map event_of page ≡ take 1000 (drop (from - 1) (rows_of ls))
    → page ≡ [] → drop (from - 1) (rows_of ls) ≡ []
page_is_none ls from page same none =
    none_left 1000 (drop (from - 1) (rows_of ls)) (omega arith) (sym (ap (map event_of) none) ∙ same)

-- the number of the next event is past all rows
pub past_all_rows : (ls : List (List ℕ)) (from next : ℕ) → next ≡ length ls + 1 → next ≤ from → drop (from - 1) (rows_of ls) ≡ []
past_all_rows ls from next is past = drop_all (from - 1) (rows_of ls) (omega (arith, length_rows 1 [] ls, is, past))

-- ---- the elements of a page, one after the other

pub none_of_page : {X Y : Type 0} (P : List Y → Type 0) (f : X → Y) (ys : List Y) (page : List X) → P ys → P (ys ++ map f (take 0 page))
none_of_page P f ys page so_far = subst P (sym (append-nil ys)) so_far

pub more_of_page : {X Y : Type 0} (P : List Y → Type 0) (f : X → Y) (ys : List Y) (page : List X) (i : ℕ) (d : X) → i < length page
    → P ((ys ++ map f (take i page)) ++ f (get_or page i d) ∷ []) → P (ys ++ map f (take (i + 1) page))
more_of_page P f ys page i d low does =
    let more : map f (take i page) ++ f (get_or page i d) ∷ [] ≡ map f (take (i + 1) page) =
    sym (map-append f (take i page) (get_or page i d ∷ [])) ∙ ap (map f) (sym (take_more page i d low)) in
    subst P (append_assoc ys (map f (take i page)) (f (get_or page i d) ∷ []) ∙ ap (λ rest. ys ++ rest) more) does

pub all_of_page : {X Y : Type 0} (P : List Y → Type 0) (f : X → Y) (ys : List Y) (page : List X) (i : ℕ) → length page ≤ i
    → P (ys ++ map f (take i page)) → P (ys ++ map f page)
all_of_page {X = X} P f ys page i all does = subst (λ (xs : List X). P (ys ++ map f xs)) (take_all i page all) does

-- ---- a walk that was begun

-- something holds of the rows so far, and the others are left
pub record Walked (P : List Row → Type 0) (rows : List Row) (from : Option ℕ) (index : ℕ) : Type 0 where
  pub front : List Row
  pub split : rows ≡ front ++ rows_left rows from
  pub holds : P front
  pub bound : IfSome from (λ n. (index < n) × (n < 4294967296))

pub walked_none : (P : List Row → Type 0) (rows : List Row) → P [] → Walked P rows (Some 1) 0
walked_none P rows holds = record { front = []; split = refl; holds = holds; bound = (omega arith, omega arith) }

pub later_bound : (index m : ℕ) (after : Option ℕ) → index < m → IfSome after (λ n. (m < n) × (n < 4294967296))
    → IfSome after (λ n. (index + 1 < n) × (n < 4294967296))
later_bound index m (Some n) at later = (omega (arith, at, later.0), later.1)
later_bound index m None at later = tt

-- one page more
pub walked_more : (P Q : List Row → Type 0) (rows : List Row) (before after : Option ℕ) (index : ℕ) (page : List Row)
    → Walked P rows before index → GoesOn rows before after page → ((front : List Row) → P front → Q (front ++ page))
    → Walked Q rows after (index + 1)
walked_more P Q rows before after index page so_far on does =
    let at = subst (λ (o : Option ℕ). IfSome o (λ n. (index < n) × (n < 4294967296))) on.advances.stood so_far.bound in
    record {
      front = so_far.front ++ page;
      split = so_far.split ∙ ap (λ rest. so_far.front ++ rest) on.joined ∙ sym (append_assoc so_far.front page (rows_left rows after));
      holds = does so_far.front so_far.holds;
      bound = later_bound index on.advances.number after at.0 on.advances.later;
    }

-- no row is left
pub walked_all : (P : List Row → Type 0) (rows : List Row) (from : Option ℕ) (index : ℕ) → Walked P rows from index
    → rows_left rows from ≡ [] → P rows
walked_all P rows from index walked none =
    subst P (sym (walked.split ∙ ap (λ rest. walked.front ++ rest) none ∙ append-nil walked.front)) walked.holds

-- no number is left
pub walked_out : (P : List Row → Type 0) (rows : List Row) (from : Option ℕ) (index : ℕ) → Walked P rows from index → 4294967296 ≤ index
    → P rows
walked_out P rows (Some n) index walked past = absurd (omega (arith, walked.bound.0, walked.bound.1, past))
walked_out P rows None index walked past = walked_all P rows None index walked refl

-- what the next page says where there is one, and where there is none
pub next_some : (rows : List Row) (before after : Option ℕ) (o : Option (Vec EventRow Global)) (page : Vec EventRow Global)
    → o ≡ Some page → IsNextPage rows before after o → GoesOn rows before after (map event_of page.items)
next_some rows before after o page is next = subst (IsNextPage rows before after) is next

pub next_none : (rows : List Row) (before after : Option ℕ) (o : Option (Vec EventRow Global)) → o ≡ None → IsNextPage rows before after o
    → rows_left rows before ≡ []
next_none rows before after o is next = subst (IsNextPage rows before after) is next

-- the lines that a store has, it has after a call that only glances at it
pub lines_kept : {S : Type 0} (g : Ghosts S) (old new : Store S) (a : Archive) (ls : List (List ℕ)) → Glances g old new → StandsFor g old a
    → HasCleanDisk (state g new.conn) → HasLines g old ls → HasLines g new ls
lines_kept g old new a ls glances stands clean has = record {
  few = has.few;
  rows = λ is_open.
      let still = glances.still a stands clean is_open in
      subst (λ (db : Database). StoresEvents db (rows_of ls)) (sym still.1) (has.rows still.0);
}

-- the lines of some rows and of a page are those of both
pub lines_joined : (front : List Row) (page : List EventRow)
    → map (λ (row : Row). row.line) front ++ map (λ (row : EventRow). row.line.items) page
    ≡ map (λ (row : Row). row.line) (front ++ map event_of page)
lines_joined [] [] = refl
lines_joined [] (r ∷ page) = ap (λ rest. r.line.items ∷ rest) (lines_joined [] page)
lines_joined (f ∷ front) page = ap (λ rest. f.line ∷ rest) (lines_joined front page)
