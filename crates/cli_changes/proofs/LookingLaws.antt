-- Records that are looked at, one after another.
use Rattle.std.specs.Prelude.{◌≡◌, ◌==◌, ℕ, Bool, true, false, not, ◌||◌, ◌&&◌, if◌then◌else◌, List, [], ◌∷◌, ◌++◌, map, filter, length}
use Rattle.std.proofs.Common.{sym, ap, refl, ◌∙◌, cond, true≢false}
use Rattle.std.specs.List.{list_any}
use Rattle.std.proofs.lemmas.List.{append-nil}
use Rattle.std.specs.Str.{bytes_eq}
use Rattle.choice_words.specs.declared.numbers.TypedNumbers.{TypedNumbers}
use Rattle.cli_choice.specs.Typed.{is_one}
use Rattle.record_choice.specs.Entries.{RecordEntry, entry_view}
use Rattle.record_choice.specs.declared.entry.RecordEntry as own
use Rattle.cli_console.specs.Finds.{numbers_of}
use Rattle.cli_changes.specs.declared.refilings.Fate.{Fate}
use Rattle.cli_changes.specs.declared.refilings.Fate.TheVariants.{Moves, PassedOver, IsThere, IsDestroyed}
use Rattle.cli_changes.specs.declared.refile.Moves as moved
use Rattle.cli_changes.specs.Holdings.{is_any_of}
use Rattle.cli_changes.specs.Moves.{AddsMoving, MovesOne, is_refused}
use Rattle.cli_changes.specs.Refilings.{fate_of, moves}
use Rattle.cli_changes.proofs.SeriesLaws.{or_off}

-- the numbers of one record of which it is known whether a test chooses it
pub one_number : (p : RecordEntry → Bool) (v : RecordEntry) (b : Bool) → p v ≡ b
    → numbers_of (filter p (v ∷ [])) ≡ numbers_of (cond b (v ∷ []) [])
one_number p v b is = ap (λ c. numbers_of (cond c (v ∷ []) [])) is

pub seen_one : (x : Bool) → true ≡ (x || true)
seen_one true = refl
seen_one false = refl

any_viewed : (es : List own.RecordEntry) → is_any_of es ≡ is_any_of (map entry_view es)
any_viewed [] = refl
any_viewed (e ∷ es) = refl

-- records were seen where these were found
pub seen_found : (es : List own.RecordEntry) (found : List RecordEntry) (b : Bool) → map entry_view es ≡ found
    → b ≡ (false || is_any_of es) → b ≡ is_any_of found
seen_found es found b is seen = seen ∙ any_viewed es ∙ ap is_any_of is

numbered : (es : List RecordEntry) → is_any_of (numbers_of es) ≡ is_any_of es
numbered [] = refl
numbered (e ∷ es) = refl

some_of : (ns : List ℕ) → (length ns == 0) ≡ false → is_any_of ns ≡ true
some_of [] h = absurd cc
some_of (n ∷ ns) h = refl

-- a test whether there are none says that there are some
pub is_some : (x y : Bool) → x ≡ y → not x ≡ true → y ≡ false
is_some true y is some = absurd cc
is_some false y is some = sym is

-- there are records where there are their numbers
pub some_listed : (ns : List ℕ) (es : List RecordEntry) → ns ≡ numbers_of es → (length ns == 0) ≡ false → is_any_of es ≡ true
some_listed ns es are some = sym (numbered es) ∙ ap is_any_of (sym are) ∙ some_of ns some

-- ---- what moves

abbrev pub is_move : Fate → Bool
is_move Moves = true
is_move PassedOver = false
is_move IsThere = false
is_move IsDestroyed = false

abbrev pub is_destroyed : Fate → Bool
is_destroyed IsDestroyed = true
is_destroyed Moves = false
is_destroyed PassedOver = false
is_destroyed IsThere = false

-- what is known of one record by its fate: whether it moves, and whether it is refused
pub record IsFateOf (typed : List TypedNumbers) (to : List ℕ) (e : RecordEntry) (f : Fate) : Type 0 where
  pub moving : moves to e ≡ is_move f
  pub refused : is_refused typed e ≡ is_destroyed f

decided : (s d c : Bool)
    → is_move (if (not d && c) then Moves else if s then (if d then IsDestroyed else IsThere) else PassedOver) ≡ (not d && c)
decided true true c = refl
decided true false true = refl
decided true false false = refl
decided false true c = refl
decided false false true = refl
decided false false false = refl

gone : (s d c : Bool)
    → is_destroyed (if (not d && c) then Moves else if s then (if d then IsDestroyed else IsThere) else PassedOver) ≡ (s && d)
gone true true c = refl
gone true false true = refl
gone true false false = refl
gone false true c = refl
gone false false true = refl
gone false false false = refl

pub fate_tells : (typed : List TypedNumbers) (to : List ℕ) (e : RecordEntry) (f : Fate) → fate_of typed to e ≡ f → IsFateOf typed to e f
fate_tells typed to e f is =
    let s = list_any (is_one e.number) typed in
    let c = not (bytes_eq e.path to) in
    record {
      moving = sym (decided s e.destroyed c) ∙ ap is_move is;
      refused = sym (gone s e.destroyed c) ∙ ap is_destroyed is;
    }

or_one : (z x y : Bool) → x ≡ y → (z || y) ≡ (z || (x || false))
or_one true x y is = refl
or_one false true y is = sym is
or_one false false y is = sym is

-- a record that moves was looked at
pub looked_moving : (old new : moved.Moves) (e : own.RecordEntry) → IsFateOf old.typed.now old.to.now (entry_view e) Moves
    → MovesOne old e.number new → AddsMoving old (e ∷ []) new
looked_moving old new e is added = record {
  to = added.to;
  typed = added.typed;
  numbers = added.numbers ∙ ap (λ l. old.numbers.items ++ l) (sym (one_number (moves old.to.now) (entry_view e) true is.moving));
  refused = added.refused ∙ sym (or_off old.is_refused) ∙ or_one old.is_refused (is_refused old.typed.now (entry_view e)) false is.refused;
}

-- one that does not move was looked at, and it was noted whether it is refused
pub looked_staying : (old new : moved.Moves) (e : own.RecordEntry) (f : Fate) → IsFateOf old.typed.now old.to.now (entry_view e) f
    → is_move f ≡ false → new.to.now ≡ old.to.now → new.typed.now ≡ old.typed.now → new.numbers.items ≡ old.numbers.items
    → new.is_refused ≡ (old.is_refused || is_destroyed f) → AddsMoving old (e ∷ []) new
looked_staying old new e f is stays to typed numbers refused = record {
  to = to;
  typed = typed;
  numbers = numbers ∙ sym (ap (λ l. old.numbers.items ++ l) (one_number (moves old.to.now) (entry_view e) false (is.moving ∙ stays))
      ∙ append-nil old.numbers.items);
  refused = refused ∙ or_one old.is_refused (is_refused old.typed.now (entry_view e)) (is_destroyed f) is.refused;
}

-- ---- the numbers that are typed by themselves

-- none is missing where a change notes no refusal, and what it notes last is whether all were found
pub none_missing : (old all refused : Bool) (missing : List ℕ) → refused ≡ (old || not all) → refused ≡ false → all ≡ not (is_any_of missing)
    → missing ≡ []
none_missing old all refused [] noted accepted is = refl
none_missing old all refused (n ∷ ns) noted accepted is =
    absurd (true≢false (seen_one old ∙ ap (λ b. old || not b) (sym is) ∙ sym noted ∙ accepted))
