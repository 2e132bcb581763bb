-- What a subcommand changes, by the series of its commands.
use Rattle.std.proofs.Common.{◌≡◌, ◌<◌, ℕ, Bool, true, false, not, List, [], ◌∷◌, ◌&&◌, map, filter, length, nat_le, take}
use Rattle.std.proofs.Common.{None, refl, sym, ap, ◌∙◌, subst, zero}
use Rattle.std.specs.List.{list_any}
use Rattle.class_plan.specs.Plans.{has}
use Rattle.record_archive.specs.Archive.{Archive, IsArchive, Record}
use Rattle.record_archive.specs.Lists.{IsAscending}
use Rattle.record_archive.specs.Refiling.{refile}
use Rattle.record_choice.specs.Choices.{meets_asked}
use Rattle.cli_choice.specs.declared.holds.Change.{Change}
use Rattle.cli_choice.specs.declared.holds.Change.TheVariants.{Place, End}
use Rattle.choice_words.specs.declared.choice.Choice as words
use Rattle.cli_choice.specs.declared.questions.Questions.{Questions}
use Rattle.cli_choice.specs.Questions.{question_of}
use Rattle.cli_choice.specs.Typed.{choice_typed}
use Rattle.cli_console.specs.Finds.{HasSingles, found_in, numbers_of}
use Rattle.cli_choice.specs.Holds.{is_meant}
use Rattle.cli_changes.specs.declared.holds.HoldTally.{HoldTally}
use Rattle.cli_changes.specs.Holdings.{IsHeld, HoldsAs, HoldsWell, changed_numbers, changed_on, chosen_by, held_by, hold_command, is_any_of}
use Rattle.cli_changes.specs.Holdings.{meant_numbers}
use Rattle.cli_changes.specs.Moves.{moved_to, moving_numbers}
use Rattle.cli_changes.specs.Refilings.{moves}
use Rattle.cli_changes.specs.Series.{Command, IsTriedOn, StopsIn}
use Rattle.record_choice.proofs.QuestionLaws.{kept_all}
use Rattle.cli_changes.proofs.SeriesLaws.{IsEach, does, each_of, first_ascending, first_filtered, none_refused}
use Rattle.cli_changes.proofs.HoldLaws.{hold_is_each}
use Rattle.cli_changes.proofs.FoundLaws.{any_done, changed_are, each_found, held_are, numbers_ascending, some_held}
use Rattle.cli_changes.proofs.RefileLaws.{moved_are, refile_is_each}

-- nothing is changed
pub none_changed : (S : Archive → Type 0) (command : Command) (made : List ℕ → Archive → Archive) → IsEach command made → (ns : List ℕ)
    (a : Archive) → S a → (n : ℕ) × S (made (take n ns) a)
none_changed S command made each ns a stands = (zero, subst S (sym (each.none a)) stands)

-- all that are meant were tried: changed are those on which the archive does it
pub tried_changes : (S : Archive → Type 0) (command : Command) (made : List ℕ → Archive → Archive) → IsEach command made → (ns ms : List ℕ)
    (a : Archive) (any refused : Bool) → IsAscending (λ (x y : ℕ). x < y) ns → filter (does command a) ns ≡ ms
    → IsTriedOn S command ns a any refused → S (made ms a)
tried_changes S command made each ns ms a any refused up are tried =
    subst S ((each_of command made each ns a up).archive ∙ ap (λ l. made l a) are) tried.stands

pub all_done : (S : Archive → Type 0) (command : Command) (made : List ℕ → Archive → Archive) → IsEach command made → (ns : List ℕ)
    (a : Archive) (any refused : Bool) → IsAscending (λ (x y : ℕ). x < y) ns → refused ≡ false
    → IsTriedOn S command ns a any refused → filter (does command a) ns ≡ ns
all_done S command made each ns a any refused up well tried =
    none_refused (does command a) ns (ap (list_any not) (sym (each_of command made each ns a up).answers) ∙ sym tried.refused ∙ well)

-- the first of them were tried
pub first_changes : (S : Archive → Type 0) (command : Command) (made : List ℕ → Archive → Archive) → IsEach command made → (ns ms : List ℕ)
    (a : Archive) → IsAscending (λ (x y : ℕ). x < y) ns → filter (does command a) ns ≡ ms
    → StopsIn S command ns a → (n : ℕ) × S (made (take n ms) a)
first_changes S command made each ns ms a up are stops = (
  length (filter (does command a) (take stops.0 ns)),
  subst S ((each_of command made each (take stops.0 ns) a (first_ascending stops.0 ns up)).archive
      ∙ ap (λ l. made l a) (first_filtered (does command a) stops.0 ns
      ∙ ap (take (length (filter (does command a) (take stops.0 ns)))) are)) stops.1,
)

-- all of them, as the first so many
pub all_first : (S : Archive → Type 0) (made : List ℕ → Archive → Archive) (ms : List ℕ) (a : Archive) → S (made ms a)
    → (n : ℕ) × S (made (take n ms) a)
all_first S made ms a stands = (length ms, subst (λ l. S (made l a)) (sym (take_whole ms)) stands)
  where
    take_whole : {X : Type 0} (xs : List X) → take (length xs) xs ≡ xs
    take_whole [] = refl
    take_whole (x ∷ xs) = ap (λ l. x ∷ l) (take_whole xs)

-- ---- holds

-- a record of an archive is found
abbrev is_found : words.Choice → Questions → Archive → Record → Bool
is_found typed questions a r = nat_le typed.from r.number && meets_asked (question_of questions) (choice_typed typed) a r

-- of what is found in an archive
pub hold_up : (a : Archive) → IsArchive a → (change : Change) (name : List ℕ) (typed : words.Choice) (questions : Questions)
    → IsAscending (λ (x y : ℕ). x < y) (meant_numbers change name typed.numbers.items (found_in typed questions a))
hold_up a is change name typed questions = numbers_ascending a is (is_meant change name typed.numbers.items) (is_found typed questions a)

pub hold_are : (a : Archive) → IsArchive a → (change : Change) (name : List ℕ) (typed : words.Choice) (questions : Questions)
    → filter (does (hold_command change name) a) (meant_numbers change name typed.numbers.items (found_in typed questions a))
    ≡ changed_numbers change name (found_in typed questions a)
hold_are a is change name typed questions =
    changed_are change name typed.numbers.items a is (filter (is_found typed questions a) a.records)
    (each_found a is (is_found typed questions a))

none_of : {X : Type 0} (xs : List X) → is_any_of xs ≡ false → xs ≡ []
none_of [] none = refl
none_of (x ∷ xs) none = absurd cc

-- where a hold ends on a record that is found, a live one has it
pub ended_held : (a : Archive) (name : List ℕ) (typed : words.Choice) (questions : Questions)
    → is_any_of (changed_numbers End name (found_in typed questions a)) ≡ true → is_any_of (held_by name a) ≡ true
ended_held a name typed questions some = some_held name a (is_found typed questions a) a.records some

held_well : (a : Archive) → IsArchive a → (change : Change) (name : List ℕ) (typed : words.Choice) (questions : Questions) (any : Bool)
    → any ≡ is_any_of (changed_numbers change name (found_in typed questions a))
    → (any ≡ false → IsHeld change name (changed_on change name (changed_numbers change name (found_in typed questions a)) a))
    → IsHeld change name a
held_well a is Place name typed questions any told seen = tt
held_well a is End name typed questions any told seen = go any refl
  where
    ns : List ℕ
    ns = changed_numbers End name (found_in typed questions a)

    go : (b : Bool) → any ≡ b → IsHeld End name a
    go true e = ended_held a name typed questions (sym told ∙ e)
    go false e =
        subst (λ b. IsHeld End name b)
        (ap (λ l. changed_on End name l a) (none_of ns (sym told ∙ e)) ∙ (hold_is_each End name).none a) (seen e)

-- where it is so for the end of a hold, it is so for either change
pub held_at_end : (change : Change) (name : List ℕ) (a : Archive) → (change ≡ End → IsHeld change name a) → IsHeld change name a
held_at_end Place name a held = tt
held_at_end End name a held = held refl

-- WHAT A CHANGE OF A HOLD CAME TO, once all that are meant were tried, of which none was refused where it came to no refusal
pub hold_as : (S : Archive → Type 0) (a : Archive) → IsArchive a → (change : Change) (name : List ℕ) (typed : words.Choice)
    (questions : Questions) (tally : HoldTally) (refused : Bool) → (tally.changed.is_refused ≡ false → refused ≡ false)
    → IsTriedOn S (hold_command change name) (meant_numbers change name typed.numbers.items (found_in typed questions a)) a
    tally.changed.is_any refused
    → (tally.changed.is_refused ≡ false → HasSingles typed.numbers.items (found_in typed questions a))
    → HoldsAs tally change name typed.numbers.items (found_in typed questions a)
hold_as S a is change name typed questions tally refused none tried each =
    let ns = meant_numbers change name typed.numbers.items (found_in typed questions a) in
    let up = hold_up a is change name typed questions in
    let are = hold_are a is change name typed questions in
    record {
      each_found = each;
      any = tried.any
          ∙ ap (list_any (λ b. b)) (each_of (hold_command change name) (changed_on change name) (hold_is_each change name) ns a up).answers
          ∙ any_done (does (hold_command change name) a) ns
          ∙ ap is_any_of are;
      accepted = λ well. sym (all_done S (hold_command change name) (changed_on change name) (hold_is_each change name) ns a
          tally.changed.is_any refused up (none well) tried) ∙ are;
    }

-- A CHANGE OF A HOLD that ends well
pub hold_well : (a : Archive) → IsArchive a → (change : Change) (name : List ℕ) (typed : words.Choice) (questions : Questions)
    (tally : HoldTally) → tally.changed.is_refused ≡ false
    → HoldsAs tally change name typed.numbers.items (found_in typed questions a)
    → (tally.changed.is_any ≡ false → IsHeld change name (changed_on change name (changed_numbers change name (found_in typed questions a)) a))
    → HoldsWell change name typed.numbers.items (found_in typed questions a) a
hold_well a is change name typed questions tally well came seen = record {
  each_found = came.each_found well;
  accepted = came.accepted well;
  held = held_well a is change name typed questions tally.changed.is_any came.any seen;
}

-- what is changed of those that are meant, once all were tried
pub hold_changes : (S : Archive → Type 0) (a : Archive) → IsArchive a → (change : Change) (name : List ℕ) (typed : words.Choice)
    (questions : Questions) (any refused : Bool)
    → IsTriedOn S (hold_command change name) (meant_numbers change name typed.numbers.items (found_in typed questions a)) a any refused
    → S (changed_on change name (changed_numbers change name (found_in typed questions a)) a)
hold_changes S a is change name typed questions any refused tried =
    tried_changes S (hold_command change name) (changed_on change name) (hold_is_each change name)
    (meant_numbers change name typed.numbers.items (found_in typed questions a)) (changed_numbers change name (found_in typed questions a))
    a any refused (hold_up a is change name typed questions) (hold_are a is change name typed questions) tried

-- once the first of them were tried
pub hold_stops : (S : Archive → Type 0) (a : Archive) → IsArchive a → (change : Change) (name : List ℕ) (typed : words.Choice)
    (questions : Questions)
    → StopsIn S (hold_command change name) (meant_numbers change name typed.numbers.items (found_in typed questions a)) a
    → (n : ℕ) × S (changed_on change name (take n (changed_numbers change name (found_in typed questions a))) a)
hold_stops S a is change name typed questions stops =
    first_changes S (hold_command change name) (changed_on change name) (hold_is_each change name)
    (meant_numbers change name typed.numbers.items (found_in typed questions a)) (changed_numbers change name (found_in typed questions a))
    a (hold_up a is change name typed questions) (hold_are a is change name typed questions) stops

-- ---- the end of a hold on each record that has it

held_up : (a : Archive) → IsArchive a → (name : List ℕ) → IsAscending (λ (x y : ℕ). x < y) (numbers_of (held_by name a))
held_up a is name =
    subst (λ es. IsAscending (λ (x y : ℕ). x < y) (numbers_of es)) (sym (kept_all (held_by name a)))
    (numbers_ascending a is (λ e. true) (meets_asked None (chosen_by name) a))

pub release_changes : (S : Archive → Type 0) (a : Archive) → IsArchive a → (name : List ℕ) (any refused : Bool)
    → IsTriedOn S (hold_command End name) (numbers_of (held_by name a)) a any refused
    → S (changed_on End name (numbers_of (held_by name a)) a)
release_changes S a is name any refused tried =
    tried_changes S (hold_command End name) (changed_on End name) (hold_is_each End name) (numbers_of (held_by name a))
    (numbers_of (held_by name a)) a any refused (held_up a is name) (held_are name a is) tried

pub release_stops : (S : Archive → Type 0) (a : Archive) → IsArchive a → (name : List ℕ)
    → StopsIn S (hold_command End name) (numbers_of (held_by name a)) a
    → (n : ℕ) × S (changed_on End name (take n (numbers_of (held_by name a))) a)
release_stops S a is name stops =
    first_changes S (hold_command End name) (changed_on End name) (hold_is_each End name) (numbers_of (held_by name a))
    (numbers_of (held_by name a)) a (held_up a is name) (held_are name a is) stops

-- ---- refilings

refile_up : (a : Archive) → IsArchive a → (to : List ℕ) (typed : words.Choice) (questions : Questions)
    → IsAscending (λ (x y : ℕ). x < y) (moving_numbers to (found_in typed questions a))
refile_up a is to typed questions = numbers_ascending a is (moves to) (is_found typed questions a)

pub refile_changes : (S : Archive → Type 0) (a : Archive) → IsArchive a → (to : List ℕ) → has a.plan.rows to ≡ true
    → (typed : words.Choice) (questions : Questions) (any refused : Bool)
    → IsTriedOn S (λ n b. refile b n to) (moving_numbers to (found_in typed questions a)) a any refused
    → S (moved_to to (moving_numbers to (found_in typed questions a)) a)
refile_changes S a is to there typed questions any refused tried =
    tried_changes S (λ n b. refile b n to) (moved_to to) (refile_is_each to) (moving_numbers to (found_in typed questions a))
    (moving_numbers to (found_in typed questions a)) a any refused (refile_up a is to typed questions)
    (moved_are to a there (filter (is_found typed questions a) a.records) (each_found a is (is_found typed questions a))) tried

pub refile_stops : (S : Archive → Type 0) (a : Archive) → IsArchive a → (to : List ℕ) → has a.plan.rows to ≡ true
    → (typed : words.Choice) (questions : Questions)
    → StopsIn S (λ n b. refile b n to) (moving_numbers to (found_in typed questions a)) a
    → (n : ℕ) × S (moved_to to (take n (moving_numbers to (found_in typed questions a))) a)
refile_stops S a is to there typed questions stops =
    first_changes S (λ n b. refile b n to) (moved_to to) (refile_is_each to) (moving_numbers to (found_in typed questions a))
    (moving_numbers to (found_in typed questions a)) a (refile_up a is to typed questions)
    (moved_are to a there (filter (is_found typed questions a) a.records) (each_found a is (is_found typed questions a))) stops
