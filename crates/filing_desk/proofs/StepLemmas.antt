-- Calls of a desk that have nothing to do with captures in flight.
use Rattle.std.proofs.Common.{◌≡◌, ℕ, List, [], ◌∷◌, Bool, true, false, not, if◌then◌else◌, Option, Result, Ok, ◌⊎◌}
use Rattle.std.proofs.Common.{Err, inl, inr, refl, ap, sym, ◌∙◌, subst}
use Rattle.std.specs.Result.{IsErr, IsErrAnd}
use Rattle.std.proofs.lemmas.Bool.{false≢true}
use Rattle.std.specs.List.{AllByRecursion}
use Rattle.class_plan.specs.Plans.{Listing, has}
use Rattle.record_archive.specs.Archive.{Archive, IsArchive}
use Rattle.record_archive.specs.Calls.{CarriesOut, Keeper, KeepsMade, Makes, Quietly}
use Rattle.record_archive.specs.Faults.{WhereRefused, number_of}
use Rattle.record_archive.specs.declared.fault.ArchiveFault.{ArchiveFault}
use Rattle.record_archive.specs.declared.fault.ArchiveFault.TheVariants.{Refused, Database, NoMemory}
use Rattle.record_archive.specs.declared.fault.ArchiveRefusal.{ArchiveRefusal}
use Rattle.desk_commands.specs.Answers.{Answer, done}
use Rattle.desk_commands.specs.ArchiveAnswers.{is_for_archive, is_of_archive, is_refused_outside}
use Rattle.desk_commands.specs.Calls.{Calls, KeepsOne}
use Rattle.desk_commands.specs.Faults.{refused_by, refusal_fault, archive_fault}
use Rattle.desk_commands.specs.Office.{Office, PlainCommand, OfficeStep, Settles, Refuses, GivesUp, IsMade, IsRefused, IsTrouble, with_archive}
use Rattle.desk_commands.specs.Standing.{Standing, Command, Flight, Step, plain, is_refusal}
use Rattle.desk_commands.specs.CallAnswers.{answer_of_done}
use Rattle.desk_commands.specs.declared.fault.DeskFault.{DeskFault}
use Rattle.desk_flights.specs.Flights.{AreHeld}
use Rattle.desk_flights.specs.FlightViews.{FlightView}
use Rattle.desk_officers.specs.Register.{office_of}
use Rattle.filing_desk.specs.Filing.{IsArchiveFault}
use Rattle.filing_desk.specs.Standing.{AreOpenPaths, HasPathsOf, StandsFor, desk_keeper}
use Rattle.filing_desk.specs.declared.desk.Desk.{Desk}
use Rattle.filing_desk.proofs.ArchiveLemmas.{fault_told, told, no_place}

-- the command is this one of the archive
pub record IsCommand (c : PlainCommand) (command : Archive → Result Archive ArchiveRefusal) : Type 0 where
  pub for_archive : is_for_archive c ≡ true
  pub settles : (s new : Office) → IsMade s (command s.archive) new → Settles s c new
  pub refuses : (s : Office) (n : ℕ) → IsRefused (command s.archive) n → Refuses s c n
  pub gives_up : (s : Office) (n : ℕ) → IsTrouble n → GivesUp s c n
  -- no class is dropped
  pub keeps : (a b : Archive) → command a ≡ Ok b → (q : List ℕ) → has a.plan.rows q ≡ true → has b.plan.rows q ≡ true

made : (s : Office) (a : Archive) (r : Result Archive ArchiveRefusal) → r ≡ Ok a → IsMade s r (with_archive s a)
made s a r e = let P : Result Archive ArchiveRefusal → Type 0 = λ x. IsMade s x (with_archive s a) in subst P (sym e) refl

refusal : (r : ArchiveRefusal) (result : Result Archive ArchiveRefusal) → result ≡ Err r → IsRefused result (number_of r)
refusal r result e = let P : Result Archive ArchiveRefusal → Type 0 = λ x. IsRefused x (number_of r) in subst P (sym e) refl

-- an answer to a command of the archive, other than for lack of memory or by the database, comes from the archive
pub of_archive : (c : PlainCommand) (a : Answer) → is_for_archive c ≡ true → is_refused_outside a ≡ false → is_of_archive (plain c) a ≡ true
of_archive c a for_archive inside = go (is_for_archive c) (is_refused_outside a) for_archive inside
  where
    go : (x y : Bool) → x ≡ true → y ≡ false → (if x then not y else false) ≡ true
    go true false e f = refl
    go true true e f = absurd cc
    go false y e f = absurd cc

-- the answer to a fault
pub done_fault : (result : Result (Unit {0}) DeskFault) (fault : DeskFault) → IsErr result
    → IsErrAnd result (λ f. f ≡ fault) → answer_of_done result ≡ refused_by fault
done_fault (Err f) fault is same = ap refused_by same
done_fault (Ok u) fault is same = absurd (false≢true is)

-- the archive refuses
pub refusal_step : (s : Office) (c : PlainCommand) (command : Archive
    → Result Archive ArchiveRefusal) (r : ArchiveRefusal) → IsCommand c command → command s.archive ≡ Err r
    → OfficeStep s c (refused_by (refusal_fault r)) s
refusal_step s c command r is refuses =
    let P : Answer → Type 0 = λ a. OfficeStep s c a s in
    subst P (sym (told r)) (inl (refl, sym (no_place r), is.refuses s (number_of r) (refusal r (command s.archive) refuses)))

-- the archive refuses, or its database or the memory does
pub refused_step : {E : Type 0} (s : Office) (c : PlainCommand) (command : Archive
    → Result Archive ArchiveRefusal) (f : ArchiveFault E) → IsCommand c command
    → WhereRefused (λ r. command s.archive ≡ Err r) f → OfficeStep s c (refused_by (archive_fault f)) s
refused_step s c command (Refused r) is refuses = refusal_step s c command r is (refuses r refl)
refused_step s c command (Database e) is refuses = inr (89, is.gives_up s 89 (inr refl), refl, refl)
refused_step s c command NoMemory is refuses = inr (99, is.gives_up s 99 (inl refl), refl, refl)

-- the same, where only a refusal of the archive itself is known to be right
either_step : {E : Type 0} (s : Office) (c : PlainCommand) (command : Archive
    → Result Archive ArchiveRefusal) (f : ArchiveFault E) → IsCommand c command → IsArchiveFault (archive_fault f)
    → (is_refused_outside (refused_by (archive_fault f)) ≡ false → WhereRefused (λ r. command s.archive ≡ Err r) f)
    → OfficeStep s c (refused_by (archive_fault f)) s
either_step s c command f is (inl trouble) refuses = inr (trouble.0, is.gives_up s trouble.0 trouble.1, trouble.2, refl)
either_step s c command f is (inr inside) refuses = refused_step s c command f is (refuses inside)

-- an answer to a fault is a refusal
pub refused_so : (a : Answer) (f : DeskFault) → a ≡ refused_by f → is_refusal a ≡ true
refused_so a f told = ap is_refusal told

-- a plan that drops no class has the classes of flights
still_classes : (p q : Listing) (fs : List Flight) → ((x : List ℕ) → has p.rows x ≡ true → has q.rows x ≡ true)
    → AllByRecursion (HasPathsOf p) fs → AllByRecursion (HasPathsOf q) fs
still_classes p q [] keeps all = tt
still_classes p q (f ∷ fs) keeps all = ((λ x there. keeps x (all.0 x there)), still_classes p q fs keeps all.1)

module _ {A : Type 0} (keeper : Keeper A Archive) where
  -- the desk is as it was, except for its store and the paths that it keeps
  pub record KeepsRest (old new : Desk A) : Type 0 where
    pub officers : new.officers ≡ old.officers
    pub flights : new.flights ≡ old.flights
    pub last : new.last ≡ old.last

  -- a crash leaves what it might have left before, or the archive that the command makes
  abbrev pub Crashes : (old new : Desk A) → Command → Type 0
  Crashes old new c = keeper.clean new.store → (s : Standing) → StandsFor keeper old s → (image : keeper.remains)
      → keeper.may_leave new.store image → keeper.may_leave old.store image ⊎ ((answer : Answer) × KeepsOne keeper.keeps image (Step s c answer))

  -- what a crash leaves keeps the archive of a state to which the command leads by this answer
  abbrev pub Stays : (old new : Desk A) → Command → Answer → Type 0
  Stays old new c a = keeper.clean new.store → (s : Standing) → StandsFor keeper old s → (image : keeper.remains)
      → keeper.may_leave new.store image → KeepsOne keeper.keeps image (Step s c a)

  -- the archive is not touched
  pub untouched : (old new : Desk A) (c : Command) → new.store ≡ old.store → Crashes old new c
  untouched old new c same clean s stands image may = inl (let P : A → Type 0 = λ x. keeper.may_leave x image in subst P same may)

  pub cleans : (old new : Desk A) → new.store ≡ old.store → keeper.clean new.store → keeper.clean old.store
  cleans old new same clean = let P : A → Type 0 = λ x. keeper.clean x in subst P same clean

  -- it is refused, so that nothing is said of it
  pub no_stay : (old new : Desk A) (c : Command) (a : Answer) → is_refusal a ≡ true → is_refusal a ≡ false → Stays old new c a
  no_stay old new c a is other = absurd (false≢true (sym other ∙ is))

  pub plain_calls : (old new : Desk A) (c : PlainCommand) (a : Answer) → (keeper.clean new.store → keeper.clean old.store)
      → ((is_of_archive (plain c) a ≡ true → keeper.clean new.store) → (s : Standing) → StandsFor keeper old s → (b : Office)
      × OfficeStep s.office c a b × StandsFor keeper new (record s { office = b }))
      → (is_refusal a ≡ true → (s : Standing) → StandsFor keeper old s → StandsFor keeper new s)
      → Crashes old new (plain c) → (is_of_archive (plain c) a ≡ true → is_refusal a ≡ false → Stays old new (plain c) a)
      → Calls (desk_keeper keeper) old (plain c) a new
  unfolding Step
  plain_calls old new c a falls leads holds crashes stays = record {
    was_clean = falls;
    leads = λ sure s stands.
        let l = leads sure s stands in
        record { to = record s { office = l.0 }; is_one = (l.0, l.1, refl); there = l.2 };
    unchanged = λ from_archive refused. holds refused;
    crash = crashes;
    kept = stays;
  }

  -- the desk represents the state with the archive that its store represents now
  pub restands : (old new : Desk A) (s : Standing) (b : Archive) → KeepsRest old new → StandsFor keeper old s
      → keeper.stands new.store b → AreOpenPaths new.open_paths b.plan → ((q : List ℕ) → has s.office.archive.plan.rows q ≡ true
      → has b.plan.rows q ≡ true) → StandsFor keeper new (record s { office = with_archive s.office b })
  restands old new s b rest stands store paths keeps =
      let P : List FlightView → Type 0 = λ xs. AreHeld xs s.flights in
      record {
        store = store;
        officers = ap (λ x. office_of b x) rest.officers ∙ ap (λ o. with_archive o b) stands.officers;
        flights = subst P (sym rest.flights) stands.flights;
        last = rest.last ∙ stands.last;
        open_paths = paths;
        classes = still_classes s.office.archive.plan b.plan s.flights keeps stands.classes;
      }

  -- the same with the archive as it was
  pub still_stands : (old new : Desk A) (s : Standing) → KeepsRest old new → new.open_paths ≡ old.open_paths
      → StandsFor keeper old s → keeper.stands new.store s.office.archive → StandsFor keeper new s
  still_stands old new s rest same stands store =
      let P : Option (List (List ℕ)) → Type 0 = λ x. AreOpenPaths x s.office.archive.plan in
      restands old new s s.office.archive rest stands store (subst P (sym same) stands.open_paths) (λ q there. there)

  pub becomes : (new : A) (r : Result Archive ArchiveRefusal) → Makes (keeper.stands new) r → (b : Archive) × (r ≡ Ok b) × keeper.stands new b
  becomes new (Ok b) h = (b, refl, h)
  becomes new (Err f) h = absurd h

  abbrev done_to : Standing → Archive → Standing
  done_to s b = record s { office = with_archive s.office b }

  done_step : (s : Standing) (c : PlainCommand) (command : Archive → Result Archive ArchiveRefusal) (b : Archive)
      → IsCommand c command → command s.office.archive ≡ Ok b → Step s (plain c) done (done_to s b)
  unfolding Step
  done_step s c command b is e = (
    with_archive s.office b,
    inl (is.settles s.office (with_archive s.office b) (made s.office b (command s.office.archive) e)),
    refl,
  )

  keeps_done : (s : Standing) (c : PlainCommand) (command : Archive → Result Archive ArchiveRefusal) (image : keeper.remains)
      → IsCommand c command → KeepsMade keeper.keeps image (command s.office.archive) → KeepsOne keeper.keeps image (Step s (plain c) done)
  keeps_done s c command image is made = record {
    to = done_to s made.0;
    is_one = done_step s c command made.0 is made.1;
    kept = made.2;
  }

  -- a call of the archive by this command
  crashes_by : {E X : Type 0} (Answers : Archive → X → Type 0) (result : Result X (ArchiveFault E)) (old new : Desk A)
      (c : PlainCommand) (command : Archive → Result Archive ArchiveRefusal) → IsCommand c command
      → CarriesOut {E = E} keeper old.store new.store command Answers result → Crashes old new (plain c)
  crashes_by Answers result old new c command is call clean s stands image may =
      elim (call.crash clean s.office.archive stands.store image may) [
        | inl before ↦ inl before
        | inr made ↦ inr (done, keeps_done s c command image is made)
      ]

  -- the archive's command is done
  pub done_by : {E : Type 0} (old new : Desk A) (c : PlainCommand) (command : Archive → Result Archive ArchiveRefusal)
      → IsCommand c command → KeepsRest old new
      → ((a b : Archive) → command a ≡ Ok b → AreOpenPaths old.open_paths a.plan → AreOpenPaths new.open_paths b.plan)
      → CarriesOut {X = Unit {0}} {E = E} keeper old.store new.store command Quietly (Ok tt)
      → Calls (desk_keeper keeper) old (plain c) done new
  done_by old new c command is rest paths call = plain_calls old new c done call.was_clean (λ sure s stands.
      let clean : keeper.clean new.store = sure (of_archive c done is.for_archive refl) in
      let b = becomes new.store (command s.office.archive) (call.does clean s.office.archive stands.store).0 in
      let step : Settles s.office c (with_archive s.office b.0) =
      is.settles s.office (with_archive s.office b.0) (made s.office b.0 (command s.office.archive) b.1) in (
        with_archive s.office b.0,
        inl step,
        restands old new s b.0 rest stands b.2 (paths s.office.archive b.0 b.1 stands.open_paths)
            (is.keeps s.office.archive b.0 b.1),
      )) (λ refused. absurd (false≢true refused)) (crashes_by Quietly (Ok tt) old new c command is call)
      (λ from_archive told clean s stands image may.
      keeps_done s c command image is (call.kept clean s.office.archive stands.store image may))

  -- the archive's command is refused, or given up
  pub refused_by_archive : {E : Type 0} (old new : Desk A) (c : PlainCommand) (command : Archive
      → Result Archive ArchiveRefusal) (f : ArchiveFault E) (a : Answer) → IsCommand c command → KeepsRest old new
      → new.open_paths ≡ old.open_paths
      → CarriesOut {X = Unit {0}} {E = E} keeper old.store new.store command Quietly (Err f)
      → a ≡ refused_by (archive_fault f) → Calls (desk_keeper keeper) old (plain c) a new
  refused_by_archive old new c command f a is rest same call is_told = plain_calls old new c a call.was_clean (λ sure s stands.
      let h = call.does s.office.archive stands.store in
      let P : Answer → Type 0 = λ x. OfficeStep s.office c x s.office in
      let step : OfficeStep s.office c (refused_by (archive_fault f)) s.office =
      either_step s.office c command f is (fault_told f) (λ inside.
      h.1 (sure (of_archive c a is.for_archive (ap is_refused_outside is_told ∙ inside)))) in
      (s.office, subst P (sym is_told) step, still_stands old new s rest same stands h.0)) (λ refused s stands.
      still_stands old new s rest same stands (call.does s.office.archive stands.store).0)
      (crashes_by Quietly (Err f) old new c command is call)
      (λ from_archive other. no_stay old new (plain c) a (refused_so _ _ is_told) other)

  -- no record has the number
  pub refused_by_number : ((x : A) (a : Archive) → keeper.stands x a → IsArchive a)
      → (desk : Desk A) (c : PlainCommand) (command : Archive
      → Result Archive ArchiveRefusal) (r : ArchiveRefusal) (a : Answer) → IsCommand c command
      → ((x : Archive) → IsArchive x → command x ≡ Err r) → a ≡ refused_by (refusal_fault r)
      → Calls (desk_keeper keeper) desk (plain c) a desk
  refused_by_number is_archive desk c command r a is none is_told = plain_calls desk desk c a (λ clean. clean) (λ sure s stands.
      let P : Answer → Type 0 = λ x. OfficeStep s.office c x s.office in (
        s.office,
        subst P (sym is_told)
            (refusal_step s.office c command r is
            (none s.office.archive (is_archive desk.store s.office.archive stands.store))),
        stands,
      )) (λ refused s stands.
      stands) (untouched desk desk (plain c) refl) (λ from_archive other. no_stay desk desk (plain c) a (refused_so _ _ is_told) other)
