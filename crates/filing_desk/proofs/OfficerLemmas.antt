-- What officers set, and the scripts that are kept.
use Rattle.std.proofs.Common.{◌≡◌, ℕ, ◌≤◌, ◌⊎◌, List, length, Bool, true, false, Option, is_some, Result, Err, inl, inr, refl, ap, sym, ◌∙◌, subst}
use Rattle.std.specs.List.{AllByRecursion}
use Rattle.std.proofs.lemmas.Bool.{false≢true}
use Rattle.sieve_syntax.specs.Tree.{CommandTrees}
use Rattle.sieve_meaning.specs.Program.{Commands}
use Rattle.sieve_meaning.specs.Reading.{program_of}
use Rattle.record_archive.specs.Archive.{Archive}
use Rattle.record_archive.specs.Calls.{Keeper}
use Rattle.desk_commands.specs.Answers.{Answer, done}
use Rattle.desk_commands.specs.ArchiveAnswers.{is_for_archive, is_of_archive}
use Rattle.desk_commands.specs.Calls.{Calls}
use Rattle.desk_commands.specs.Faults.{refused_by}
use Rattle.desk_commands.specs.Limits.{greatest_script}
use Rattle.desk_commands.specs.Office.{Office, PlainCommand, OfficeStep, Settles, Refuses, GivesUp, LacksMemory, activate}
use Rattle.desk_commands.specs.Parts.{IsGood, IsKept, RefusesToKeep}
use Rattle.desk_commands.specs.Pinning.{Officer}
use Rattle.desk_commands.specs.Scripts.{HasNoRoom, put_script, script_at}
use Rattle.desk_commands.specs.Standing.{Standing, plain}
use Rattle.desk_commands.specs.declared.fault.DeskFault.{DeskFault}
use Rattle.desk_commands.specs.declared.fault.DeskFault.TheVariants.{LibraryFull, NoMemory, NoScript}
use Rattle.desk_flights.specs.Flights.{AreHeld}
use Rattle.desk_flights.specs.FlightViews.{FlightView}
use Rattle.desk_officers.specs.Register.{office_of, officer_at}
use Rattle.filing_desk.specs.Standing.{AreOpenPaths, HasPathsOf, StandsFor, desk_keeper}
use Rattle.filing_desk.specs.declared.desk.Desk.{Desk}
use Rattle.filing_desk.proofs.StepLemmas.{cleans, plain_calls, untouched}

-- ---- steps of the office

-- a script is kept in a location that has room for it
pub kept : (location was : List (List ℕ × Commands)) (name text : List ℕ) (tree : CommandTrees) → was ≡ location
    → IsGood text tree → (HasNoRoom was name → ⊥)
    → IsKept location name text (put_script name (program_of tree) location)
kept location was name text tree same good room =
    let P : List (List ℕ × Commands) → Type 0 = λ x. HasNoRoom x name in
    record { tree = tree; good = good; has_room = λ full. room (subst P (sym same) full); put = refl }

-- there is no room, or no memory
pub keep_refused : (s : Office) (c : PlainCommand) (location was : List (List ℕ × Commands)) (name text : List ℕ)
    (tree : CommandTrees) (f : DeskFault) → ((n : ℕ) → RefusesToKeep location name text n → Refuses s c n)
    → ((n : ℕ) → LacksMemory greatest_script text n → GivesUp s c n) → was ≡ location → IsGood text tree
    → length text ≤ greatest_script → (f ≡ LibraryFull) ⊎ (f ≡ NoMemory) → (f ≡ LibraryFull → HasNoRoom was name)
    → OfficeStep s c (refused_by f) s
keep_refused s c location was name text tree f refuses lacks same good short (inl full) room =
    let P : List (List ℕ × Commands) → Type 0 = λ x. HasNoRoom x name in
    let Q : DeskFault → Type 0 = λ x. OfficeStep s c (refused_by x) s in
    subst Q (sym full) (inl (
      refl,
      refl,
      refuses 96 (inr (record {
        tree = tree;
        good = good;
        has_no_room = subst P same (room full);
        is_number =
            refl;
      })),
    ))
keep_refused s c location was name text tree f refuses lacks same good short (inr none) room =
    let Q : DeskFault → Type 0 = λ x. OfficeStep s c (refused_by x) s in
    subst Q (sym none) (inr (99, lacks 99 (refl, short), refl, refl))

abbrev tells_no_script : Result (Unit {0}) DeskFault → Bool
tells_no_script (Err NoScript) = true
tells_no_script _ = false

abbrev failed : DeskFault → Result (Unit {0}) DeskFault
failed f = Err f

-- where memory is short, the officer has the script, since a script that is not there is refused first
has_script : (b : Bool) (f : DeskFault) → f ≡ NoMemory → (b ≡ false → failed f ≡ failed NoScript) → b ≡ true
has_script true f poor missing = refl
has_script false f poor missing = absurd (false≢true (ap tells_no_script (ap failed (sym poor) ∙ missing refl)))

-- the officer has no such script, or there is no memory
pub activate_refused : (s : Office) (officer name : List ℕ) (o : Officer) (f : DeskFault) → o ≡ s.officers officer
    → (f ≡ NoScript) ⊎ (f ≡ NoMemory) → (f ≡ NoScript → is_some (script_at name o.scripts) ≡ false)
    → (is_some (script_at name o.scripts) ≡ false → failed f ≡ failed NoScript)
    → OfficeStep s (activate officer name) (refused_by f) s
activate_refused s officer name o f same (inl missing) none exact =
    let Q : DeskFault → Type 0 = λ x. OfficeStep s (activate officer name) (refused_by x) s in
    let P : Officer → Type 0 = λ x. is_some (script_at name x.scripts) ≡ false in
    subst Q (sym missing) (inl (refl, refl, (subst P same (none missing), refl)))
activate_refused s officer name o f same (inr poor) none exact =
    let Q : DeskFault → Type 0 = λ x. OfficeStep s (activate officer name) (refused_by x) s in
    let P : Officer → Type 0 = λ x. is_some (script_at name x.scripts) ≡ true in
    let there : is_some (script_at name o.scripts) ≡ true = has_script (is_some (script_at name o.scripts)) f poor exact in
    subst Q (sym poor) (inr (99, (refl, subst P same there), refl, refl))

-- a command that the archive does not carry out is not answered by it
not_of_archive : (c : PlainCommand) (a : Answer) → is_for_archive c ≡ false → is_of_archive (plain c) a ≡ false
not_of_archive c a apart = rw apart refl

module _ {A : Type 0} (keeper : Keeper A Archive) where
  -- the desk is as it was, except for its officers
  pub record KeepsOthers (old new : Desk A) : Type 0 where
    pub store : new.store ≡ old.store
    pub flights : new.flights ≡ old.flights
    pub last : new.last ≡ old.last
    pub open_paths : new.open_paths ≡ old.open_paths

  -- the desk represents the state with the office that its officers have now
  resets : (old new : Desk A) (s : Standing) (b : Office) → KeepsOthers old new → StandsFor keeper old s
      → b.archive ≡ s.office.archive → office_of s.office.archive new.officers ≡ b
      → StandsFor keeper new (record s { office = b })
  resets old new s b rest stands same is =
      let P : A → Type 0 = λ x. keeper.stands x b.archive in
      let Q : Archive → Type 0 = λ x. keeper.stands old.store x in
      let R : List FlightView → Type 0 = λ xs. AreHeld xs s.flights in
      let T : Option (List (List ℕ)) → Type 0 = λ x. AreOpenPaths x b.archive.plan in
      let U : Archive → Type 0 = λ x. AreOpenPaths old.open_paths x.plan in
      let V : Archive → Type 0 = λ x. AllByRecursion (HasPathsOf x.plan) s.flights in
      record {
        store = subst P (sym rest.store) (subst Q (sym same) stands.store);
        officers = ap (λ a. office_of a new.officers) same ∙ is;
        flights = subst R (sym rest.flights) stands.flights;
        last = rest.last ∙ stands.last;
        open_paths = subst T (sym rest.open_paths) (subst U (sym same) stands.open_paths);
        classes = subst V (sym same) stands.classes;
      }

  -- something is set
  pub set_by : (old new : Desk A) (c : PlainCommand) (change : Office → Office) → is_for_archive c ≡ false → KeepsOthers old new
      → ((s : Office) → (change s).archive ≡ s.archive)
      → ((a : Archive) → office_of a new.officers ≡ change (office_of a old.officers))
      → ((s : Standing) → StandsFor keeper old s → Settles s.office c (change s.office))
      → Calls (desk_keeper keeper) old (plain c) done new
  set_by old new c change apart rest same is settles = plain_calls keeper old new c done (cleans keeper old new
      rest.store) (λ sure s stands. (
        change s.office,
        inl (settles s stands),
        resets old new s (change s.office) rest stands (same s.office) (is s.office.archive
            ∙ ap change stands.officers),
      )) (λ refused. absurd (false≢true refused)) (untouched keeper old new (plain c) rest.store)
      (λ from_archive. absurd (false≢true (sym (not_of_archive c done apart) ∙ from_archive)))

  -- nothing is set
  pub not_set : (old new : Desk A) (c : PlainCommand) (a : Answer) → is_for_archive c ≡ false → KeepsOthers old new → new.officers ≡ old.officers
      → ((s : Standing) → StandsFor keeper old s → OfficeStep s.office c a s.office)
      → Calls (desk_keeper keeper) old (plain c) a new
  not_set old new c a apart rest same step =
      plain_calls keeper old new c a (cleans keeper old new rest.store) (λ sure s stands.
      (s.office, step s stands, stays s stands)) (λ refused s stands. stays s stands)
      (untouched keeper old new (plain c) rest.store)
      (λ from_archive. absurd (false≢true (sym (not_of_archive c a apart) ∙ from_archive)))
    where
      stays : (s : Standing) → StandsFor keeper old s → StandsFor keeper new s
      stays s stands = resets old new s s.office rest stands refl (ap (λ x. office_of s.office.archive x) same ∙ stands.officers)

  -- what the officers have, as the state does
  pub globals_are : (desk : Desk A) (s : Standing) → StandsFor keeper desk s → (office_of s.office.archive desk.officers).globals ≡ s.office.globals
  globals_are desk s stands = ap (λ (o : Office). o.globals) stands.officers

  pub officer_is : (desk : Desk A) (s : Standing) (name : List ℕ) → StandsFor keeper desk s
      → officer_at name desk.officers.officers ≡ s.office.officers name
  officer_is desk s name stands = ap (λ (o : Office). o.officers name) stands.officers
