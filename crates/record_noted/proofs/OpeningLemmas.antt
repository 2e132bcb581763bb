-- The end of a history, by its last row, and its rows from a number on.
use Rattle.std.proofs.Common.{◌≡◌, ◌≤◌, ◌<◌, ◌+◌, ◌-◌, ℕ, zero, suc, pos, Bool, true, false, cond, nat_lt, List, [], ◌∷◌, length, drop}
use Rattle.std.proofs.Common.{Option, Some, None, option_map}
use Rattle.std.proofs.Common.{refl, sym, ap, subst, ◌∙◌, arith, int_le, Result, Ok, Err, IfOk, IfErr, map, take}
use Rattle.std.specs.Prelude.{Vec}
use Rattle.std.specs.declared.alloc.Global.{Global}
use Rattle.std.proofs.lemmas.Bool.Decides.{nat_tests}
use Rattle.std.proofs.lemmas.Int.{ints}
use Rattle.std.specs.List.{AllByRecursion}
use Rattle.sqlite.specs.Store.{Ghosts}
use Rattle.sqlite.specs.State.{HasCleanDisk}
use Rattle.sqlite.specs.Held.{state}
use Rattle.record_tables.specs.Events.{Event as Row, new_event, StoresEvents, event_table}
use Rattle.record_tables.specs.Steps.{Learns}
use Rattle.record_tables.specs.Tables.{Stands}
use Rattle.record_tables.specs.declared.event_layout.EventLayout.{EventLayout}
use Rattle.record_tables.specs.declared.event_layout.EventLayout.TheVariants.{Other, Present}
use Rattle.record_reads.specs.Events.{event_of, events_from, last_of, FitsEvent}
use Rattle.record_reads.specs.declared.events.EventRow.{EventRow}
use Rattle.record_history.specs.Chain.{mark_after, chain, chain_from}
use Rattle.record_archive.specs.Archive.{Archive}
use Rattle.record_store.specs.Events.{ReadsBeside, LosesMisfits}
use Rattle.record_store.specs.Faults.{StoreFault, is_own}
use Rattle.record_store.specs.Stores.{StandsFor}
use Rattle.record_store.specs.declared.store.Store.{Store}
use Rattle.record_noted.specs.Histories.{rows_from, rows_of, StandsWith}
use Rattle.record_noted.specs.Openings.{end_after, OpensHistory, RefusesToOpen}
use Rattle.record_noted.proofs.HistoryLemmas.{survives_itself}
use Rattle.record_noted.specs.declared.opening.OpenFault.{OpenFault}
use Rattle.record_noted.specs.declared.opening.OpenFault.TheVariants.{NoHistory}
use Rattle.record_noted.specs.declared.store.NotedStore.{NotedStore}

-- ---- the last row

record LastRow (n : ℕ) (mark l : List ℕ) (ls : List (List ℕ)) : Type 0 where
  row : Row
  is_last : last_of (rows_from n mark (l ∷ ls)) ≡ Some row
  number : row.number ≡ n + length ls
  ends : row.mark ≡ chain_from mark (l ∷ ls)

last_row : (n : ℕ) (mark l : List ℕ) (ls : List (List ℕ)) → LastRow n mark l ls
last_row n mark l [] = record { row = new_event n l (mark_after mark l); is_last = refl; number = omega arith; ends = refl }
last_row n mark l (k ∷ ls) =
    let r = last_row (n + 1) (mark_after mark l) k ls in
    record { row = r.row; is_last = r.is_last; number = omega (arith, r.number); ends = r.ends }

-- the number and the mark that follow the last row
abbrev Follow : List (List ℕ) → ℕ × List ℕ → Type 0
Follow ls x = (x.0 ≡ length ls + 1) × (x.1 ≡ chain ls)

follows : (ls : List (List ℕ)) (o : Option Row) (x : ℕ × List ℕ) → o ≡ last_of (rows_of ls) → end_after o ≡ Some x → Follow ls x
follows [] o x is end =
    let one : Some (1, []) ≡ Some x = ap end_after (sym is) ∙ end in
    let same : (1, []) ≡ x = cc in
    subst (Follow []) same (refl, refl)
follows (l ∷ ls) o x is end =
    let r = last_row 1 [] l ls in
    let at : end_after (Some r.row) ≡ Some x = ap end_after (sym (is ∙ r.is_last)) ∙ end in
    go r.row (nat_lt r.row.number 4294967295) at r.number r.ends
  where
    go : (e : Row) (b : Bool) → cond b (Some (e.number + 1, e.mark)) None ≡ Some x → e.number ≡ 1 + length ls → e.mark ≡ chain (l ∷ ls)
        → Follow (l ∷ ls) x
    go e true h number mark =
        let same : (e.number + 1, e.mark) ≡ x = cc in
        subst (Follow (l ∷ ls)) same (omega (arith, number), mark)
    go e false h number mark = absurd (let p = h in cc)

-- there is none only after 4,294,967,294 lines
pub none_left : (ls : List (List ℕ)) (o : Option Row) → o ≡ last_of (rows_of ls) → end_after o ≡ None → length ls < 4294967295 → ⊥
none_left [] o is end low = let one : ◌≡◌ {A = Option (ℕ × List ℕ)} (Some (1, [])) None = ap end_after (sym is) ∙ end in absurd cc
none_left (l ∷ ls) o is end low =
    let r = last_row 1 [] l ls in
    let at : end_after (Some r.row) ≡ None = ap end_after (sym (is ∙ r.is_last)) ∙ end in
    go r.row (nat_lt r.row.number 4294967295) refl at r.number
  where
    go : (e : Row) (b : Bool) → nat_lt e.number 4294967295 ≡ b → cond {A = Option (ℕ × List ℕ)} b (Some (e.number + 1, e.mark)) None ≡ None
        → e.number ≡ 1 + length ls → ⊥
    go e true is h number = absurd (let p = h in cc)
    go e false is h number = grind (arith, nat_tests, is, number, low)

pub rows_fit : (n : ℕ) (mark : List ℕ) (ls : List (List ℕ)) → n + length ls ≤ 4294967296 → AllByRecursion FitsEvent (rows_from n mark ls)
rows_fit n mark [] low = tt
rows_fit n mark (l ∷ ls) low = (omega (arith, low), rows_fit (n + 1) (mark_after mark l) ls (omega (arith, low)))

pub opens_history : {S : Type 0} (g : Ghosts S) (store : Store S) (noted : NotedStore S) (last : Option EventRow)
    (result : Result (Option EventRow) StoreFault) → result ≡ Ok last → ReadsBeside g store noted.store result
    → Learns g store.conn noted.store.conn result (λ db r. (es : List Row) → StoresEvents db es → option_map event_of r ≡ last_of es)
    → end_after (option_map event_of last) ≡ Some (noted.next, noted.mark.items) → OpensHistory g store noted
opens_history {S} g store noted last result is beside learned end = record {
  stands = stands;
  told = λ clean a ls s stored told. (ls, stands clean a ls s stored, told);
  crash = beside.crash;
}
  where
    read : HasCleanDisk (state g noted.store.conn) → (es : List Row) → StoresEvents (state g store.conn).now es
        → option_map event_of last ≡ last_of es
    read clean = subst (λ r. IfOk r (λ o. (es : List Row) → StoresEvents (state g store.conn).now es → option_map event_of o ≡ last_of es)) is
        (learned clean)

    stands : HasCleanDisk (state g noted.store.conn) → (a : Archive) (ls : List (List ℕ)) → StandsFor g store a
        → StoresEvents (state g store.conn).now (rows_of ls) → StandsWith g noted a ls
    stands clean a ls s stored =
        let at = follows ls (option_map event_of last) (noted.next, noted.mark.items) (read clean (rows_of ls) stored) end in
        record {
          stands = beside.stands a s;
          next = at.0;
          mark = at.1;
          lines = λ clean is_open. subst (λ db. StoresEvents db (rows_of ls)) (sym (beside.still a s clean is_open).1) stored;
        }

-- ---- refusals

-- the last event is not read
pub refused_read : {S : Type 0} (g : Ghosts S) (store mid : Store S) (refusal : OpenFault) (fault : StoreFault)
    (result : Result (Option EventRow) StoreFault) → result ≡ Err fault → ReadsBeside g store mid result → LosesMisfits g store mid result
    → (refusal ≡ NoHistory → is_own fault ≡ true) → RefusesToOpen g store refusal mid
refused_read g store mid refusal fault result is beside lost own = record {
  stands = beside.stands;
  none = λ clean none ls low stored.
      subst (λ r. IfErr r (λ f. is_own f ≡ true → (es : List Row) → StoresEvents (state g store.conn).now es
      → AllByRecursion FitsEvent es → ⊥)) is (lost clean) (own none) (rows_of ls) stored (rows_fit 1 [] ls (omega (arith, low)));
  crash = beside.crash;
}

-- the last event leaves no number
pub refused_end : {S : Type 0} (g : Ghosts S) (store mid : Store S) (last : Option EventRow) (result : Result (Option EventRow) StoreFault)
    → result ≡ Ok last → ReadsBeside g store mid result
    → Learns g store.conn mid.conn result (λ db r. (es : List Row) → StoresEvents db es → option_map event_of r ≡ last_of es)
    → end_after (option_map event_of last) ≡ None → RefusesToOpen g store NoHistory mid
refused_end g store mid last result is beside learned end = record {
  stands = beside.stands;
  none = λ clean none ls low stored.
      none_left ls (option_map event_of last) (subst (λ r. IfOk r (λ o. (es : List Row) → StoresEvents (state g store.conn).now es
      → option_map event_of o ≡ last_of es)) is (learned clean) (rows_of ls) stored) end low;
  crash = beside.crash;
}

-- the table `event` is none of events
pub refused_layout : {S : Type 0} (g : Ghosts S) (store : Store S) (layout : EventLayout) → layout ≡ Other
    → (Stands (state g store.conn).now.schema event_table → layout ≡ Present) → RefusesToOpen g store NoHistory store
refused_layout g store layout is present = record {
  stands = λ a s. s;
  none = λ clean none ls low stored. absurd (let one = sym is ∙ present stored.stands in cc);
  crash = λ a s. survives_itself (state g store.conn) _;
}

-- ---- rows from a number on

all_from : (from n : ℕ) (mark : List ℕ) (ls : List (List ℕ)) → from ≤ n → events_from from (rows_from n mark ls) ≡ rows_from n mark ls
all_from from n mark [] low = refl
all_from from n mark (l ∷ ls) low =
    go (int_le (pos from) (pos n)) (grind (arith, ints, low)) (all_from from (n + 1) (mark_after mark l) ls (omega (arith, low)))
  where
    row : Row
    row = new_event n l (mark_after mark l)

    go : (b : Bool) → b ≡ true → {xs ys : List Row} → xs ≡ ys → cond b (row ∷ xs) xs ≡ row ∷ ys
    go true is same = ap (λ l. row ∷ l) same
    go false is same = absurd (let p = is in cc)

drop_none : (k : ℕ) (es : List Row) → es ≡ [] → drop k es ≡ []
drop_none zero es none = none
drop_none (suc k) [] none = refl
drop_none (suc k) (e ∷ es) none = absurd (let h = none in cc)

pub from_rows : (from n : ℕ) (mark : List ℕ) (ls : List (List ℕ)) → events_from from (rows_from n mark ls) ≡ drop (from - n) (rows_from n mark ls)
from_rows from n mark [] = sym (drop_none (from - n) [] refl)
from_rows from n mark (l ∷ ls) = go (int_le (pos from) (pos n)) refl (from_rows from (n + 1) (mark_after mark l) ls)
  where
    row : Row
    row = new_event n l (mark_after mark l)

    rest : List Row
    rest = rows_from (n + 1) (mark_after mark l) ls

    go : (b : Bool) → int_le (pos from) (pos n) ≡ b → events_from from rest ≡ drop (from - (n + 1)) rest
        → cond b (row ∷ events_from from rest) (events_from from rest) ≡ drop (from - n) (row ∷ rest)
    go true is later =
        let low : from ≤ n = grind (arith, ints, is) in
        let none : from - n ≡ 0 = omega (arith, low) in
        rw none (ap (λ l. row ∷ l) (all_from from (n + 1) (mark_after mark l) ls (omega (arith, low))))
    go false is later =
        let high : n < from = grind (arith, ints, is) in
        let one : from - n ≡ suc (from - (n + 1)) = omega (arith, high) in
        rw one later

-- ---- a page

pub page_told : {S : Type 0} (g : Ghosts S) (old new : NotedStore S) (from most : ℕ) (result : Result (Vec EventRow Global) StoreFault)
    → ReadsBeside g old.store new.store result
    → Learns g old.store.conn new.store.conn result (λ db all. (es : List Row) → StoresEvents db es
    → map event_of all.items ≡ take most (events_from from es)) → (a : Archive) (ls : List (List ℕ)) → StandsWith g old a ls
    → HasCleanDisk (state g new.store.conn) → IfOk result (λ all. map event_of all.items ≡ take most (drop (from - 1) (rows_of ls)))
page_told g old new from most (Ok all) beside learned a ls s clean =
    learned clean (rows_of ls) (s.lines (beside.falls clean) (beside.«open» clean).0) ∙ ap (take most) (from_rows from 1 [] ls)
page_told g old new from most (Err f) beside learned a ls s clean = tt

pub page_stands : {S X : Type 0} (g : Ghosts S) (old new : NotedStore S) (result : Result X StoreFault) → ReadsBeside g old.store new.store result
    → new.next ≡ old.next → new.mark ≡ old.mark → (a : Archive) (ls : List (List ℕ)) → StandsWith g old a ls → StandsWith g new a ls
page_stands g old new result beside next mark a ls s = record {
  stands = beside.stands a s.stands;
  next = next ∙ s.next;
  mark = ap (λ m. m.items) mark ∙ s.mark;
  lines = λ clean is_open.
      let it = beside.still a s.stands clean is_open in
      subst (λ db. StoresEvents db (rows_of ls)) (sym it.1) (s.lines (beside.falls clean) it.0);
}
