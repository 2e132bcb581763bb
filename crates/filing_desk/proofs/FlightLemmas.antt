-- Captures in flight of a desk: their turns, and their ends.
use Rattle.std.proofs.Common.{◌≡◌, ℕ, ◌+◌, ◌==◌, List, [], ◌∷◌, map, Bool, true, false, not, if◌then◌else◌, Option}
use Rattle.std.proofs.Common.{Some, None, Result, Ok, Err, Vec, inl, inr, refl, ap, sym, ◌∙◌, subst}
use Rattle.std.specs.Prelude.{nat_lt, unsigned_abs, All}
use Rattle.std.proofs.lemmas.Bool.{false≢true}
use Rattle.std.specs.List.{AllByRecursion}
use Rattle.std.specs.declared.alloc.Global.{Global}
use Rattle.class_plan.specs.Calendar.{number_of_day}
use Rattle.class_plan.specs.Plans.{Listing}
use Rattle.sieve_meaning.specs.declared.outcome.Outcome.{Outcome}
use Rattle.sieve_meaning.specs.Case.{Facts}
use Rattle.mail_case.specs.Message.{is_among}
use Rattle.record_archive.specs.Archive as archives
use Rattle.record_archive.specs.Archive.{Archive, IsArchive, capture, capture_lines}
use Rattle.record_archive.specs.Lines.{line_view}
use Rattle.record_archive.specs.Calls.{Keeper, KeepsMade}
use Rattle.record_archive.specs.declared.fault.ArchiveRefusal.TheVariants.{Full}
use Rattle.record_archive.specs.declared.line.Line.{Line}
use Rattle.desk_commands.specs.Answers.{Answer, captured, refused}
use Rattle.desk_commands.specs.ArchiveAnswers.{is_of_archive, is_refused_outside}
use Rattle.desk_commands.specs.Calls.{Calls, KeepsOne}
use Rattle.desk_commands.specs.Faults.{refused_by}
use Rattle.desk_commands.specs.Office.{with_archive}
use Rattle.desk_commands.specs.Standing.{Standing, Flight, Step, FinishStep, flight_of, grant, is_refusal, with_turns, without, turn, finish}
use Rattle.desk_commands.specs.declared.fault.DeskFault.{DeskFault}
use Rattle.desk_flights.specs.Flights.{AreHeld, Finds, IsFound, Removes, Turns}
use Rattle.desk_flights.specs.FlightViews.{FlightView, Holds, IsOpenAtBegin, IsOutcome, TellsEnd}
use Rattle.desk_flights.specs.Laws.{CapturesHaveClasses, HasOpen}
use Rattle.desk_officers.specs.Register.{office_of}
use Rattle.filing_desk.specs.Filing.{MakesRecords, FilesSafely, IsArchiveFault, IsNotFiled}
use Rattle.filing_desk.specs.Standing.{AreOpenPaths, HasPathsOf, StandsFor, desk_keeper}
use Rattle.filing_desk.specs.declared.desk.Desk.{Desk}
use Rattle.filing_desk.proofs.ClassLemmas.{captured_plan}
use Rattle.filing_desk.proofs.StepLemmas.{Crashes, becomes, cleans, no_stay, refused_so, untouched}

-- ---- flights

granted_classes : (p : Listing) (t k : ℕ) (fs : List Flight) → AllByRecursion (HasPathsOf p) fs → AllByRecursion (HasPathsOf p) (grant t k fs)
granted_classes p t k [] all = tt
granted_classes p t k (f ∷ fs) all = go (f.ticket == t) (granted_classes p t k fs all.1)
  where
    go : (b : Bool) → AllByRecursion (HasPathsOf p) (grant t k fs)
        → AllByRecursion (HasPathsOf p) (if b then record f { granted = f.granted + k } ∷ fs else f ∷ grant t k fs)
    go true rest = (all.0, all.1)
    go false rest = (all.0, rest)

left_classes : (p : Listing) (t : ℕ) (fs : List Flight) → AllByRecursion (HasPathsOf p) fs → AllByRecursion (HasPathsOf p) (without t fs)
left_classes p t [] all = tt
left_classes p t (f ∷ fs) all = go (f.ticket == t) (left_classes p t fs all.1)
  where
    go : (b : Bool) → AllByRecursion (HasPathsOf p) (without t fs) → AllByRecursion (HasPathsOf p) (if b then fs else f ∷ without t fs)
    go true rest = all.1
    go false rest = (all.0, rest)

found_classes : (p : Listing) (t : ℕ) (fs : List Flight) (f : Flight) → AllByRecursion (HasPathsOf p) fs → flight_of t fs ≡ Some f → HasPathsOf p f
found_classes p t [] f all e = absurd cc
found_classes p t (x ∷ fs) f all e = go (x.ticket == t) e (λ h. found_classes p t fs f all.1 h)
  where
    go : (b : Bool) → (if b then Some x else flight_of t fs) ≡ Some f → (flight_of t fs ≡ Some f → HasPathsOf p f) → HasPathsOf p f
    go true e rest = let same : x ≡ f = cc in subst (λ y. HasPathsOf p y) same all.0
    go false e rest = rest e

pub none_found : (o : Option Flight) → IsFound o None → o ≡ None
none_found None h = refl
none_found (Some f) h = absurd h

pub some_found : (o : Option Flight) (x : FlightView) → IsFound o (Some x) → (f : Flight) × (o ≡ Some f) × Holds x f
some_found None x h = absurd h
some_found (Some f) x h = (f, refl, h)

-- the plan has each path that was open at the beginning of a capture
has_open : (x : FlightView) (f : Flight) (p : Listing) → Holds x f → HasPathsOf p f → HasOpen x p
has_open x f p holds paths = λ q among.
    let same : is_among x.case.paths ≡ f.at_begin.is_open = ap (λ (c : Facts). c.is_open) holds.facts in
    paths q (ap (λ (h : List ℕ → Bool). h q) (sym same) ∙ among)

ended_flag : (x : FlightView) (f : Flight) (b : Bool) → TellsEnd x b → Holds x f → b ≡ true → nat_lt f.granted f.run_length ≡ false
ended_flag x f b tells holds e = go (nat_lt f.granted f.run_length) (sym (tells f holds) ∙ e)
  where
    go : (c : Bool) → not c ≡ true → c ≡ false
    go true h = absurd cc
    go false h = refl

early_flag : (x : FlightView) (f : Flight) (b : Bool) → TellsEnd x b → Holds x f → b ≡ false → nat_lt f.granted f.run_length ≡ true
early_flag x f b tells holds e = go (nat_lt f.granted f.run_length) (sym (tells f holds) ∙ e)
  where
    go : (c : Bool) → not c ≡ false → c ≡ true
    go true h = refl
    go false h = absurd cc

module _ {A : Type 0} (keeper : Keeper A Archive) where
  -- the desk represents the state with other flights
  pub reflies : (old new : Desk A) (s : Standing) (fs : List Flight) (n : ℕ) → new.store ≡ old.store
      → new.officers ≡ old.officers → new.last ≡ n → AreOpenPaths new.open_paths s.office.archive.plan
      → StandsFor keeper old s → AreHeld new.flights fs → AllByRecursion (HasPathsOf s.office.archive.plan) fs
      → StandsFor keeper new (record { office = s.office; flights = fs; last = n })
  reflies old new s fs n es eo el paths stands held classes =
      let P : A → Type 0 = λ x. keeper.stands x s.office.archive in
      record {
        store = subst P (sym es) stands.store;
        officers = ap (λ x. office_of s.office.archive x) eo ∙ stands.officers;
        flights = held;
        last = el;
        open_paths = paths;
        classes = classes;
      }

  -- turns are granted
  pub turned_by : (old new : Desk A) (t k : ℕ) (a : Answer) → new.store ≡ old.store → new.officers ≡ old.officers
      → new.last ≡ old.last → new.open_paths ≡ old.open_paths → Turns old.flights t k a new.flights
      → Calls (desk_keeper keeper) old (turn t k) a new
  unfolding Step
  turned_by old new t k a es eo el ep turns = record {
    was_clean = cleans keeper old new es;
    leads = λ sure s stands.
        let h = turns s stands.flights in
        let P : Option (List (List ℕ)) → Type 0 = λ x. AreOpenPaths x s.office.archive.plan in
        record {
          to = with_turns s t h.made;
          is_one = h.step;
          there = reflies old new s (grant t h.made s.flights) s.last es eo (el
              ∙ stands.last) (subst P (sym ep) stands.open_paths) stands h.held
              (granted_classes s.office.archive.plan t h.made s.flights stands.classes);
        };
    unchanged = λ from_archive. absurd (false≢true from_archive);
    crash = untouched keeper old new (turn t k) es;
    kept = λ from_archive. absurd (false≢true from_archive);
  }

  -- nothing is finished
  finish_same : (desk : Desk A) (t : ℕ) (a : Answer) → is_refusal a ≡ true
      → ((s : Standing) → StandsFor keeper desk s → FinishStep s t (flight_of t s.flights) a s)
      → Calls (desk_keeper keeper) desk (finish t) a desk
  unfolding Step
  finish_same desk t a is step = record {
    was_clean = λ clean. clean;
    leads = λ sure s stands. record { to = s; is_one = step s stands; there = stands };
    unchanged = λ from_archive refused s stands. stands;
    crash = untouched keeper desk desk (finish t) refl;
    kept = λ from_archive other. no_stay keeper desk desk (finish t) a is other;
  }

  -- no capture in flight has the ticket
  pub finish_none : (desk : Desk A) (t : ℕ) → Finds desk.flights t None
      → Calls (desk_keeper keeper) desk (finish t) (refused 91 None) desk
  finish_none desk t finds = finish_same desk t (refused 91 None) refl (λ s stands.
      let P : Option Flight → Type 0 = λ o. FinishStep s t o (refused 91 None) s in
      subst P (sym (none_found (flight_of t s.flights) (finds s.flights stands.flights))) (refl, refl))

  -- a capture that has not come to its end
  pub finish_early : (desk : Desk A) (t : ℕ) (x : FlightView) (b : Bool) → Finds desk.flights t (Some x) → TellsEnd x b
      → b ≡ false → Calls (desk_keeper keeper) desk (finish t) (refused 92 None) desk
  finish_early desk t x b finds tells e = finish_same desk t (refused 92 None) refl (λ s stands.
      let f = some_found (flight_of t s.flights) x (finds s.flights stands.flights) in
      let early = early_flag x f.0 b tells f.2 e in
      rw (f.1, early) (refl, refl))

  -- there is no memory for the outcome
  pub finish_poor : (desk : Desk A) (t : ℕ) (x : FlightView) (b : Bool) (a : Answer) → Finds desk.flights t (Some x)
      → TellsEnd x b → b ≡ true → a ≡ refused 99 None
      → Calls (desk_keeper keeper) desk (finish t) a desk
  finish_poor desk t x b a finds tells e told = finish_same desk t a (ap is_refusal told) (λ s stands.
      let f = some_found (flight_of t s.flights) x (finds s.flights stands.flights) in
      let ended = ended_flag x f.0 b tells f.2 e in
      rw (f.1, ended) (inr (99, inl refl, told, refl)))

  -- the archive that is filed into, in the terms of the flight
  of_flight : (x : FlightView) (f : Flight) (s : Standing) → Holds x f → number_of_day x.day ≡ f.at_begin.day
  of_flight x f s holds = ap (λ z. unsigned_abs z) holds.day

  -- after nothing was filed, the desk represents the same state
  finish_stays : (are_classes : CapturesHaveClasses) → ((x : A) (a : Archive) → keeper.stands x a → IsArchive a)
      → (old new : Desk A) (t : ℕ) (x : FlightView) (o : Outcome) (f : DeskFault) → Finds old.flights t (Some x)
      → All (IsOpenAtBegin x) o.classes
      → MakesRecords keeper old.store new.store x.message (number_of_day x.day) o.classes (Err f)
      → new.officers ≡ old.officers → new.flights ≡ old.flights → new.last ≡ old.last → new.open_paths ≡ old.open_paths
      → (s : Standing) → StandsFor keeper old s → StandsFor keeper new s
      × (keeper.clean new.store → IsNotFiled s.office.archive x.message (number_of_day x.day) o.classes f)
  finish_stays are_classes is_archive old new t x o f finds each files eo ef el ep s stands =
      let here = some_found (flight_of t s.flights) x (finds s.flights stands.flights) in
      let classes =
      are_classes x s.office.archive.plan o.classes (is_archive old.store s.office.archive stands.store).plan
      (has_open x here.0 s.office.archive.plan here.2 (found_classes s.office.archive.plan t s.flights here.0
      stands.classes here.1)) each in
      let filed = files s.office.archive stands.store classes in
      let P : Option (List (List ℕ)) → Type 0 = λ y. AreOpenPaths y s.office.archive.plan in
      let Q : List FlightView → Type 0 = λ xs. AreHeld xs s.flights in
      let there : StandsFor keeper new s = record {
        store = filed.0;
        officers = ap (λ y. office_of s.office.archive y) eo ∙ stands.officers;
        flights = subst Q (sym ef) stands.flights;
        last = el ∙ stands.last;
        open_paths = subst P (sym ep) stands.open_paths;
        classes = stands.classes;
      } in
      (there, filed.1)

  -- there is no memory, or the database refuses, or the numbers of records are used up
  not_filed_step : (s : Standing) (t : ℕ) (x : FlightView) (f : Flight) (b : Bool) (o : Outcome) (fault : DeskFault)
      → flight_of t s.flights ≡ Some f → Holds x f → TellsEnd x b → b ≡ true → IsOutcome x o → IsArchiveFault fault
      → (is_refused_outside (refused_by fault) ≡ false
      → IsNotFiled s.office.archive x.message (number_of_day x.day) o.classes fault)
      → FinishStep s t (flight_of t s.flights) (refused_by fault) s
  not_filed_step s t x f b o fault here holds tells e alone (inl trouble) reason =
      let ended = ended_flag x f b tells holds e in
      rw (here, ended) (inr (trouble.0, trouble.1, trouble.2, refl))
  not_filed_step s t x f b o fault here holds tells e alone (inr inside) reason =
      let ended = ended_flag x f b tells holds e in
      let why = reason inside in
      let number = why.number in
      let step : FinishStep s t (Some f) (refused number None) s = rw ended (elim why.reason [
        | inl trouble ↦ inr (number, trouble, refl, refl)
        | inr full ↦
            let C : List ℕ → Type 0 = λ m. capture s.office.archive m f.at_begin.day o.classes ≡ Err Full in
            let D : ℕ → Type 0 = λ d. capture s.office.archive x.message d o.classes ≡ Err Full in
            inl (s.office.archive, (full.0, refl, refl, (o, alone f holds, subst C holds.message (subst D (of_flight x f s holds) full.1))), refl)
      ]) in
      let R : Answer → Type 0 = λ y. FinishStep s t (flight_of t s.flights) y s in
      let T : Option Flight → Type 0 = λ y. FinishStep s t y (refused number None) s in
      subst R (sym why.told) (subst T (sym here) step)

  -- the state after a capture was made whole
  abbrev after_capture_of : Standing → ℕ → Archive → Standing
  after_capture_of s t now = record { office = with_archive s.office now; flights = without t s.flights; last = s.last }

  -- the capture of a flight that has come to its end is whole
  filed_step : (s : Standing) (t : ℕ) (x : FlightView) (f : Flight) (b : Bool) (o : Outcome) (now : Archive) (lines : List archives.Line)
      → flight_of t s.flights ≡ Some f → Holds x f → TellsEnd x b → b ≡ true → IsOutcome x o
      → capture s.office.archive x.message (number_of_day x.day) o.classes ≡ Ok now
      → lines ≡ capture_lines s.office.archive (number_of_day x.day) o.classes
      → Step s (finish t) (captured o.fault lines) (after_capture_of s t now)
  unfolding Step
  filed_step s t x f b o now lines here holds tells e alone made told =
      let ended = ended_flag x f b tells holds e in
      let was = s.office.archive in
      let D : ℕ → Type 0 = λ d. (capture was x.message d o.classes ≡ Ok now) × (lines ≡ capture_lines was d o.classes) in
      let C : List ℕ → Type 0 = λ m. capture was m f.at_begin.day o.classes ≡ Ok now in
      let dated = subst D (of_flight x f s holds) (made, told) in
      let answer = captured o.fault lines in
      let step : FinishStep s t (Some f) answer (after_capture_of s t now) =
      rw ended (inl (now, (o, alone f holds, refl, subst C holds.message dated.0, dated.1), refl)) in
      let T : Option Flight → Type 0 = λ y. FinishStep s t y answer (after_capture_of s t now) in
      subst T (sym here) step

  -- what a crash leaves of the capture keeps the archive that it makes
  keeps_filed : (s : Standing) (t : ℕ) (x : FlightView) (f : Flight) (b : Bool) (o : Outcome) (image : keeper.remains) (lines : List archives.Line)
      → flight_of t s.flights ≡ Some f → Holds x f → TellsEnd x b → b ≡ true → IsOutcome x o
      → lines ≡ capture_lines s.office.archive (number_of_day x.day) o.classes
      → KeepsMade keeper.keeps image (capture s.office.archive x.message (number_of_day x.day) o.classes)
      → KeepsOne keeper.keeps image (Step s (finish t) (captured o.fault lines))
  keeps_filed s t x f b o image lines here holds tells e alone told made = record {
    to = after_capture_of s t made.0;
    is_one = filed_step s t x f b o made.0 lines here holds tells e alone made.1 told;
    kept = made.2;
  }

  crashes_filed : (old new : Desk A) (t : ℕ) (x : FlightView) (b : Bool) (o : Outcome) (result : Result (Vec Line Global) DeskFault)
      → Finds old.flights t (Some x) → TellsEnd x b → b ≡ true → IsOutcome x o
      → FilesSafely keeper old.store new.store x.message (number_of_day x.day) o.classes result
      → Crashes keeper old new (finish t)
  crashes_filed old new t x b o result finds tells e alone safe clean s stands image may =
      let here = some_found (flight_of t s.flights) x (finds s.flights stands.flights) in
      let lines = capture_lines s.office.archive (number_of_day x.day) o.classes in
      elim (safe.crash clean s.office.archive stands.store image may) [
        | inl before ↦ inl before
        | inr made ↦ inr (captured o.fault lines, keeps_filed s t x here.0 b o image lines here.1 here.2 tells e alone refl made)
      ]

  -- nothing is filed
  pub finish_refused : CapturesHaveClasses → ((x : A) (a : Archive) → keeper.stands x a → IsArchive a)
      → (old new : Desk A) (t : ℕ) (x : FlightView) (b : Bool) (o : Outcome) (f : DeskFault) (a : Answer)
      → Finds old.flights t (Some x) → TellsEnd x b → b ≡ true → IsOutcome x o
      → All (IsOpenAtBegin x) o.classes
      → MakesRecords keeper old.store new.store x.message (number_of_day x.day) o.classes (Err f) → IsArchiveFault f
      → FilesSafely keeper old.store new.store x.message (number_of_day x.day) o.classes (Err f)
      → (keeper.clean new.store → keeper.clean old.store) → new.officers ≡ old.officers → new.flights ≡ old.flights
      → new.last ≡ old.last → new.open_paths ≡ old.open_paths → a ≡ refused_by f
      → Calls (desk_keeper keeper) old (finish t) a new
  unfolding Step
  finish_refused are_classes is_archive old new t x b o f a finds tells e alone each files fault safe falls eo ef el ep told = record {
    was_clean = falls;
    leads = λ sure s stands.
        let here = some_found (flight_of t s.flights) x (finds s.flights stands.flights) in
        let stays = finish_stays are_classes is_archive old new t x o f finds each files eo ef el ep s stands in
        let from_archive : is_refused_outside (refused_by f) ≡ false → is_of_archive (finish t) a ≡ true = λ inside.
        ap (λ y. is_of_archive (finish t) y) told ∙ ap not inside in
        let R : Answer → Type 0 = λ y. FinishStep s t (flight_of t s.flights) y s in
        let step = not_filed_step s t x here.0 b o f here.1 here.2 tells e alone fault (λ inside. stays.1 (sure (from_archive inside))) in
        record { to = s; is_one = subst R (sym told) step; there = stays.0 };
    unchanged = λ from_archive refused s stands. (finish_stays are_classes is_archive old new t x o f finds each files eo ef el ep s stands).0;
    crash = crashes_filed old new t x b o (Err f) finds tells e alone safe;
    kept = λ from_archive other. no_stay keeper old new (finish t) a (refused_so _ _ told) other;
  }

  -- a capture is whole
  pub finish_done : (old new : Desk A) (t : ℕ) (x : FlightView) (b : Bool) (o : Outcome) (lines : Vec Line Global)
      → Finds old.flights t (Some x) → TellsEnd x b → b ≡ true → IsOutcome x o
      → MakesRecords keeper old.store new.store x.message (number_of_day x.day) o.classes (Ok lines)
      → FilesSafely keeper old.store new.store x.message (number_of_day x.day) o.classes (Ok lines)
      → (keeper.clean new.store → keeper.clean old.store) → new.officers ≡ old.officers → Removes old.flights t new.flights
      → new.last ≡ old.last → new.open_paths ≡ old.open_paths
      → Calls (desk_keeper keeper) old (finish t) (captured o.fault (map line_view lines.items)) new
  unfolding Step
  finish_done old new t x b o lines finds tells e alone files safe falls eo removes el ep = record {
    was_clean = falls;
    leads = λ sure s stands.
        let clean : keeper.clean new.store = sure refl in
        let here = some_found (flight_of t s.flights) x (finds s.flights stands.flights) in
        let was = s.office.archive in
        let day = number_of_day x.day in
        let h = files clean was stands.store in
        let made = becomes keeper new.store (capture was x.message day o.classes) h.0 in
        let now = made.0 in
        let same : now.plan ≡ was.plan = captured_plan was now x.message day o.classes made.1 in
        let P : Option (List (List ℕ)) → Type 0 = λ y. AreOpenPaths y now.plan in
        let Q : Listing → Type 0 = λ p. AreOpenPaths old.open_paths p in
        let U : Listing → Type 0 = λ p. AllByRecursion (HasPathsOf p) (without t s.flights) in
        let there : StandsFor keeper new (after_capture_of s t now) = record {
          store = made.2;
          officers = ap (λ y. office_of now y) eo ∙ ap (λ y. with_archive y now) stands.officers;
          flights = removes s.flights stands.flights;
          last = el ∙ stands.last;
          open_paths = subst P (sym ep) (subst Q (sym same) stands.open_paths);
          classes = subst U (sym same) (left_classes was.plan t s.flights stands.classes);
        } in
        let step = filed_step s t x here.0 b o now (map line_view lines.items) here.1 here.2 tells e alone made.1 h.1 in
        record { to = after_capture_of s t now; is_one = step; there = there };
    unchanged = λ from_archive refused. absurd (false≢true refused);
    crash = crashes_filed old new t x b o (Ok lines) finds tells e alone safe;
    kept = λ from_archive told clean s stands image may.
        let here = some_found (flight_of t s.flights) x (finds s.flights stands.flights) in
        keeps_filed s t x here.0 b o image (map line_view lines.items) here.1 here.2 tells e alone
        (files clean s.office.archive stands.store).1 (safe.kept clean s.office.archive stands.store image may);
  }
