-- Rows of lines, and events that are added one after another.
use Rattle.std.proofs.Common.{◌≡◌, ◌<◌, ◌+◌, ◌++◌, ◌∷◌, [], ℕ, zero, suc, List, map}
use Rattle.std.proofs.Common.{take, length, get_or, refl, sym, ap, ap₂, subst, ◌∙◌, arith, rules, IsTrue}
use Rattle.std.proofs.Common.{Result, Ok, Err, OnOk, OnErr}
use Rattle.std.proofs.lemmas.List.{append_assoc, append-nil, length-append, map-append, map_more, take_more}
use Rattle.std.specs.Borrow.{MutBor}
use Rattle.sqlite.specs.Store.{Ghosts}
use Rattle.sqlite.specs.Effect.{Database}
use Rattle.sqlite.specs.State.{HasCleanDisk}
use Rattle.sqlite.specs.Held.{Held, state}
use Rattle.sqlite.specs.declared.error.Error.{Error}
use Rattle.record_tables.specs.Companions.{Accompanies}
use Rattle.record_tables.specs.Changes.{RestBeside}
use Rattle.record_tables.specs.Events.{Event, IsPastEvents, Notes, StoresEvents, event_table, new_event}
use Rattle.record_tables.specs.Layouts.{GoesOn, GoesOnIn}
use Rattle.record_tables.specs.Steps.{MakesIn, StaysInside}
use Rattle.record_tables.proofs.EventLemmas.{event_is_beside, note_accompanies}
use Rattle.record_reads.specs.Events.{event_of}
use Rattle.record_reads.specs.declared.events.EventRow.{EventRow}
use Rattle.record_history.specs.Chain.{chain_from, mark_after}
use Rattle.record_noted.specs.Rows.{AreAfter, AreInOrder, Awaits}
use Rattle.record_noted.specs.Histories.{MovesOn, rows_from, rows_of}
use Rattle.record_noted.proofs.HistoryLemmas.{chain_append, rows_append, rows_past, survives_itself}

pub rest_itself : (db : Database) → RestBeside db db
rest_itself db = λ table apart was. record { stands = was; rows = refl }

-- so many of the events are added behind those that were there
abbrev pub Added : List Event → ℕ → (mid now : Database) → Type 0
Added all k mid now = Accompanies (Awaits all) (λ old new. (es : List Event) → StoresEvents old es → AreAfter es all
    → StoresEvents new (es ++ take k all)) mid now

added_none : (all : List Event) (mid : Database) → Added all 0 mid mid
added_none all mid = record {
  stored = λ old t awaits rest s. s;
  sound = λ old t awaits rest s sound. sound;
  brought = λ old t awaits rest s es stored order.
      let event = rest event_table event_is_beside stored.stands in
      subst (StoresEvents mid) (sym (append-nil es))
      (record { stands = event.stands; rows = event.rows ∙ stored.rows; keyed = stored.keyed });
}

-- one event more
added_more : (mid now next : Database) (all : List Event) (k : ℕ) (d : Event) → k < length all → Added all k mid now
    → Notes now next (get_or all k d) → Added all (k + 1) mid next
added_more mid now next all k d low so_far noted =
    let note = note_accompanies now next (get_or all k d) noted in
    record {
      stored = λ old t awaits rest s.
          let has = so_far.brought old t awaits rest s awaits.0 awaits.1 awaits.2 in
          note.stored now t has.stands (rest_itself now) (so_far.stored old t awaits rest s);
      sound = λ old t awaits rest s sound.
          let has = so_far.brought old t awaits rest s awaits.0 awaits.1 awaits.2 in
          note.sound now t has.stands (rest_itself now) (so_far.stored old t awaits rest s) (so_far.sound old t awaits rest s sound);
      brought = λ old t awaits rest s es stored order.
          let has = so_far.brought old t awaits rest s es stored order in
          let more : es ++ take k all ++ get_or all k d ∷ [] ≡ es ++ take (k + 1) all =
          append_assoc es (take k all) (get_or all k d ∷ []) ∙ ap (λ l. es ++ l) (sym (take_more all k d low)) in
          subst (StoresEvents next) more
          (note.brought now t has.stands (rest_itself now) (so_far.stored old t awaits rest s) (es ++ take k all) has (order k d low));
    }

-- ---- in a transaction

-- so many events are added in a transaction that goes on
pub record Adds {S : Type 0} (g : Ghosts S) (start now : MutBor (Held S)) (all : List Event) (k : ℕ) : Type 0 where
  pub ok : MakesIn g start.now now.now (Added all k)
  pub goes_on : HasCleanDisk (state g now.now) → IsTrue (state g start.now).in_transaction → GoesOn (state g start.now) (state g now.now)
  pub frame : StaysInside {T = Unit} {E = Error} g start now (Ok tt)

pub adds_none : {S : Type 0} (g : Ghosts S) (start : MutBor (Held S)) (all : List Event) → Adds g start start all 0
adds_none g start all = record {
  ok = λ clean inside. added_none all (state g start.now).now;
  goes_on = λ clean inside. record { committed = refl; mode = refl; is_open = refl };
  frame = record {
    same_reference = refl;
    err = λ clean inside. tt;
    survives = survives_itself (state g start.now) _;
  };
}

pub on_ok : {T E P Q : Type 0} (r : Result T E) → (P → Q) → OnOk r P → OnOk r Q
on_ok (Ok x) f p = f p
on_ok (Err e) f p = tt

on_err : {T E P Q : Type 0} (r : Result T E) → (P → Q) → OnErr r P → OnErr r Q
on_err (Ok x) f p = tt
on_err (Err e) f p = f p

module _ {S T E : Type 0} (g : Ghosts S) (a b c : MutBor (Held S)) (r : Result T E)
    (first : HasCleanDisk (state g b.now) → IsTrue (state g a.now).in_transaction → GoesOn (state g a.now) (state g b.now)) where
  -- a call after others, which stays inside the transaction too
  pub stays_then : StaysInside {T = Unit} {E = Error} g a b (Ok tt) → StaysInside g b c r → StaysInside g a c r
  stays_then so_far last = record {
    same_reference = last.same_reference ∙ so_far.same_reference;
    err = λ clean inside. let was = first (omega (arith, last.survives.clean, clean)) inside in on_err r (λ left. record {
      was_open = λ is. subst IsTrue was.is_open (left.was_open is);
      committed = λ is. left.committed is ∙ was.committed;
    }) (last.err clean (was.mode ∙ inside));
    survives = search rules;
  }

  -- and goes on with it
  pub goes_then : (HasCleanDisk (state g c.now) → HasCleanDisk (state g b.now)) → GoesOnIn g b.now c.now r → GoesOnIn g a.now c.now r
  goes_then back last clean inside =
      let was = first (back clean) inside in on_ok r (λ (on : GoesOn (state g b.now) (state g c.now)). record {
        committed = on.committed ∙ was.committed;
        mode = on.mode ∙ was.mode;
        is_open = on.is_open ∙ was.is_open;
      }) (last clean (was.mode ∙ inside))

pub adds_next : {S : Type 0} (g : Ghosts S) (a b c : MutBor (Held S)) (all : List Event) (k : ℕ) (d : Event) → k < length all
    → Adds g a b all k → MakesIn g b.now c.now (λ old new. Notes old new (get_or all k d))
    → (HasCleanDisk (state g c.now) → IsTrue (state g b.now).in_transaction → GoesOn (state g b.now) (state g c.now))
    → StaysInside {T = Unit} {E = Error} g b c (Ok tt) → Adds g a c all (k + 1)
adds_next g a b c all k d low so_far noted goes_on frame =
    let back : HasCleanDisk (state g c.now) → HasCleanDisk (state g b.now) = λ clean. omega (arith, frame.survives.clean, clean) in
    let done : Result Unit Error = Ok tt in
    record {
      ok = λ clean inside.
          let was = so_far.goes_on (back clean) inside in
          added_more (state g a.now).now (state g b.now).now (state g c.now).now all k d low (so_far.ok (back clean) inside)
          (noted clean (was.mode ∙ inside));
      goes_on = goes_then g a b c done so_far.goes_on back goes_on;
      frame = stays_then g a b c done so_far.goes_on so_far.frame frame;
    }

-- ---- the rows of lines are in order

number_at : (n : ℕ) (mark : List ℕ) (ls : List (List ℕ)) (k : ℕ) (d : Event) → k < length (rows_from n mark ls)
    → (get_or (rows_from n mark ls) k d).number ≡ n + k
number_at n mark [] k d low = absurd (omega (arith, low))
number_at n mark (l ∷ ls) zero d low = omega arith
number_at n mark (l ∷ ls) (suc k) d low = omega (arith, number_at (n + 1) (mark_after mark l) ls k d (omega (arith, low)))

pub in_order : (n : ℕ) (mark : List ℕ) (ls : List (List ℕ)) → AreInOrder (rows_from n mark ls)
in_order n mark [] k d low = absurd (omega (arith, low))
in_order n mark (l ∷ ls) zero d low = tt
in_order n mark (l ∷ ls) (suc k) d low =
    let rest = rows_from (n + 1) (mark_after mark l) ls in
    let at = number_at (n + 1) (mark_after mark l) ls k d (omega (arith, low)) in
    (omega (arith, at), in_order (n + 1) (mark_after mark l) ls k d (omega (arith, low)))

past_append : (n : ℕ) (es fs : List Event) → IsPastEvents n es → IsPastEvents n fs → IsPastEvents n (es ++ fs)
past_append n [] fs past more = more
past_append n (e ∷ es) fs past more = (past.0, past_append n es fs past.1 more)

-- and come after those of the lines before them
pub in_order_after : (ls : List (List ℕ)) (n : ℕ) (mark : List ℕ) (lines : List (List ℕ)) → n ≡ length ls + 1
    → AreAfter (rows_of ls) (rows_from n mark lines)
in_order_after ls n mark lines next k d low =
    let rows = rows_from n mark lines in
    let number = (get_or rows k d).number in
    let at = number_at n mark lines k d low in
    past_append number (rows_of ls) (take k rows) (rows_past 1 [] ls number (omega (arith, at, next))) (in_order n mark lines k d low)

-- ---- one line more

pub row_next : (n : ℕ) (mark : List ℕ) (rows : List EventRow) (row : EventRow) (ls : List (List ℕ)) (l : List ℕ)
    → map event_of rows ≡ rows_from n mark ls → row.number ≡ n + length ls → row.line.items ≡ l
    → row.mark.items ≡ mark_after (chain_from mark ls) l
    → map event_of (rows ++ row ∷ []) ≡ rows_from n mark (ls ++ l ∷ [])
row_next n before rows row ls l is number line mark =
    let event : event_of row ≡ new_event row.number l (mark_after (chain_from before ls) l) = ap₂ (new_event row.number) line mark in
    map-append event_of rows (row ∷ []) ∙ ap₂ (λ es (e : Event). es ++ e ∷ []) is event
    ∙ sym (rows_append n before ls (l ∷ []) row.number number)

pub end_next : (n : ℕ) (mark : List ℕ) (ls : List (List ℕ)) (l : List ℕ) (next after : ℕ) (last ends : List ℕ) → MovesOn n mark ls next last
    → after ≡ next + 1 → ends ≡ mark_after last l → MovesOn n mark (ls ++ l ∷ []) after ends
end_next n mark ls l next after last ends so_far number is = record {
  next_is = omega (arith, so_far.next_is, number, length-append ls (l ∷ []));
  mark_is = is ∙ ap (λ m. mark_after m l) so_far.mark_is ∙ sym (chain_append mark ls (l ∷ []));
}

-- the lines up to the next
pub lines_next : {V : Type 0} (f : V → List ℕ) (vs : List V) (i : ℕ) (v : V) → i < length vs → v ≡ get_or vs i v
    → map f (take i vs) ++ f v ∷ [] ≡ map f (take (i + 1) vs)
lines_next f vs i v low is = ap (λ x. map f (take i vs) ++ f x ∷ []) is ∙ sym (map_more f vs i v low)
