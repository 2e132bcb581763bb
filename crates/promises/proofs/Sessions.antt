-- A session with turns is the serial one.
use Rattle.std.proofs.Common.{◌≡◌, ◌+◌, ◌++◌, ◌∷◌, [], ℕ, List, length, map, refl, arith, ap, ◌∙◌, subst, inl, inr}
use Rattle.std.proofs.Common.{Bool, true, false, Option, Some, None}
use Rattle.std.specs.Prelude.{if◌then◌else◌}
use Rattle.std.specs.Option.{option_map}
use Rattle.std.proofs.lemmas.Bool.Decides.{nat_tests}
use Rattle.std.proofs.lemmas.List.{map-append, length-map}
use Rattle.sieve_meaning.specs.Program.{Commands}
use Rattle.sieve_meaning.specs.Meaning.{Library}
use Rattle.sieve_meaning.specs.TooHeavy.{script_budget}
use Rattle.filing_image.specs.Program.{Program}
use Rattle.record_archive.specs.Archive.{Archive}
use Rattle.desk_commands.specs.Answers.{Answer, done, dry_run, begun, running, ended, captured, listed, refused}
use Rattle.desk_commands.specs.Office.{Office, PlainCommand, OfficeRule, OfficeStep, GivesUp, IsTrouble, add_class}
use Rattle.desk_commands.specs.Office.{set_plan, set_script, set_global, activate, deactivate, set_image, file}
use Rattle.desk_commands.specs.Office.{try_image, hold, release, due, destroy, with_archive}
use Rattle.desk_commands.specs.Pinning.{BeginState, Choice, nothing, script, image_of, Pins, PinsChoice, PinsScript, budget_of, budget_by}
use Rattle.desk_commands.specs.Standing.{Command, plain, begin, turn, finish, Flight, Standing, Step, BeginStep}
use Rattle.desk_commands.specs.Standing.{TurnStep, FinishStep, FinishWhole, Files, flight_of, grant, without}
use Rattle.desk_commands.specs.Standing.{with_turns, after_finish, begin_refusal, begin_state}
use Rattle.promises.specs.Runs.{Steps}
use Rattle.promises.specs.Serial.{Serial, SerialStep, SerialRun, Ticket, next_ticket, ticket_of, stood_of}
use Rattle.promises.specs.Serial.{without_ticket, is_passing, is_struck, kept_commands, kept_answers, forget}

grant_shows : (t k : ℕ) (fs : List Flight) → map ticket_of (grant t k fs) ≡ map ticket_of fs
grant_shows t k [] = refl
grant_shows t k (f ∷ fs) = let rest = grant_shows t k fs in grind (arith, nat_tests, rest)

without_shows : (t : ℕ) (fs : List Flight) → map ticket_of (without t fs) ≡ without_ticket t (map ticket_of fs)
without_shows t [] = refl
without_shows t (f ∷ fs) = let rest = without_shows t fs in grind (arith, nat_tests, rest)

stood_shows : (t : ℕ) (fs : List Flight) → stood_of t (map ticket_of fs) ≡ option_map (λ f. f.at_begin) (flight_of t fs)
stood_shows t [] = refl
stood_shows t (f ∷ fs) = let rest = stood_shows t fs in grind (arith, nat_tests, rest)

-- ---- what is pinned declares the budget that is answered

pinned_budget : (too_heavy : Bool) (lib : Library) (name : List ℕ) (c : Commands) (p : Program)
    → PinsScript too_heavy lib name c p → p.budget ≡ (if too_heavy then 1 else script_budget lib (Some name) c)
pinned_budget true lib name c p h = ap (λ (q : Program). q.budget) h
pinned_budget false lib name c p h = h.budget

chosen_budget : (c : Choice) (lib : Library) (p : Program) → PinsChoice c lib p → p.budget ≡ budget_by c lib
chosen_budget nothing lib p h = ap (λ (q : Program). q.budget) h
chosen_budget (script name c) lib p h = pinned_budget _ lib name c p h
chosen_budget (image_of q) lib p h = ap (λ (q : Program). q.budget) h

pub pins_budget : (s : BeginState) (p : Program) → Pins s p → p.budget ≡ budget_of s
pins_budget s p h = chosen_budget s.program s.library p h

-- ---- steps

-- what a step is to the serial session: none where it is struck
abbrev pub Follows : (struck : Bool) → Serial → Command → Answer → Serial → Type 0
Follows true s c a new = new ≡ s
Follows false s c a new = SerialStep s c a new

struck : (x : Bool) (s : Serial) (c : Command) (a : Answer) (new : Serial) → x ≡ true → new ≡ s → Follows x s c a new
struck true s c a new h e = e
struck false s c a new h e = absurd cc

either : (x : Bool) (s : Serial) (c : Command) (a : Answer) (new : Serial) → new ≡ s → SerialStep s c a new → Follows x s c a new
either true s c a new e f = e
either false s c a new e f = f

passing_99 : (n : ℕ) (at : Option ℕ) → n ≡ 99 → is_passing (refused n at) ≡ true
passing_99 n at e = rw e refl

passing_trouble : (n : ℕ) (at : Option ℕ) → IsTrouble n → is_passing (refused n at) ≡ true
passing_trouble n at (inl e) = rw e refl
passing_trouble n at (inr e) = rw e refl

gives_up : (s : Office) (c : PlainCommand) (n : ℕ) → GivesUp s c n → is_passing (refused n None) ≡ true
gives_up s (add_class path) n h = passing_trouble n None h
gives_up s (set_plan text) n h = passing_trouble n None h.0
gives_up s (set_script officer name text) n h = passing_99 n None h.0
gives_up s (set_global name text) n h = passing_99 n None h.0
gives_up s (activate officer name) n h = passing_99 n None h.0
gives_up s (deactivate officer) n h = absurd h
gives_up s (set_image officer octets) n h = passing_99 n None h.0
gives_up s (file text message) n h = passing_99 n None h.0
gives_up s (try_image octets message) n h = passing_99 n None h.0
gives_up s (hold name r) n h = passing_trouble n None h
gives_up s (release name r) n h = passing_trouble n None h
gives_up s (due day) n h = passing_trouble n None h
gives_up s (destroy r day) n h = passing_trouble n None h

rule_follows : (s : Standing) (c : PlainCommand) (a : Answer) (b : Office) (new : Standing) → OfficeRule s.office c a b
    → new ≡ record s { office = b } → Follows (is_struck (plain c) a) (forget s) (plain c) a (forget new)
rule_follows s c done b new h e = (b, h, ap forget e)
rule_follows s c (dry_run o) b new h e = (b, h, ap forget e)
rule_follows s c (listed ls) b new h e = (b, h, ap forget e)
rule_follows s c (refused n at) b new h e =
    let same : new ≡ s = e ∙ ap (λ o. record s { office = o }) h.0 in
    either _ (forget s) (plain c) (refused n at) (forget new) (ap forget same) (b, h, ap forget e)
rule_follows s c (begun t n) b new h e = absurd h
rule_follows s c (running k) b new h e = absurd h
rule_follows s c (ended k) b new h e = absurd h
rule_follows s c (captured f ls) b new h e = absurd h

plain_follows : (s : Standing) (c : PlainCommand) (a : Answer) (b : Office) (new : Standing) → OfficeStep s.office c a b
    → new ≡ record s { office = b } → Follows (is_struck (plain c) a) (forget s) (plain c) a (forget new)
plain_follows s c a b new (inl h) e = rule_follows s c a b new h e
plain_follows s c a b new (inr h) e =
    let same : new ≡ s = e ∙ ap (λ o. record s { office = o }) h.3 in
    struck _ (forget s) (plain c) a (forget new) (ap (is_struck (plain c)) h.2 ∙ gives_up s.office c h.0 h.1) (ap forget same)

counted : (s : Standing) → length (forget s).tickets ≡ length s.flights
counted s = length-map s.flights ticket_of

begin_follows : (s : Standing) (officer : List ℕ) (moment : ℕ) (message : List ℕ) (a : Answer) (new : Standing)
    → BeginStep s officer moment message a new
    → Follows (is_struck (begin officer moment message) a) (forget s) (begin officer moment message) a (forget new)
begin_follows s officer moment message (begun t b) new h =
    let at_begin = begin_state s.office officer moment message in
    let ticket : Ticket = next_ticket (forget s) officer moment message in
    let one : ticket_of h.flight ≡ ticket = λ i. record { number = h.next i; at_begin = h.at_begin i } in
    let more : map ticket_of (s.flights ++ h.flight ∷ []) ≡ (forget s).tickets
    ++ ticket ∷ [] = map-append ticket_of s.flights _ ∙ ap (λ p. (forget s).tickets ++ p ∷ []) one in
    record {
      allowed = ap (λ n. begin_refusal n s.last moment (length message)) (counted s) ∙ h.allowed;
      ticket = h.ticket;
      budget = h.budget ∙ pins_budget h.flight.at_begin h.flight.pinned h.pinned.pins ∙ ap budget_of h.at_begin;
      leaves = ap forget h.leaves ∙ ap (λ ts. record { office = s.office; tickets = ts; last = s.last + 1 }) more;
    }
begin_follows s officer moment message (refused n at) new (same, no_place, inl h) =
    either _ (forget s) (begin officer moment message) (refused n at) (forget new) (ap forget same) (
      ap forget same,
      no_place,
      ap (λ k. begin_refusal k s.last moment (length message)) (counted s) ∙ h,
    )
begin_follows s officer moment message (refused n at) new (same, no_place, inr h) =
    struck _ (forget s) (begin officer moment message) (refused n at) (forget new) (passing_99 n at h.1) (ap forget same)
begin_follows s officer moment message done new h = absurd h
begin_follows s officer moment message (dry_run o) new h = absurd h
begin_follows s officer moment message (running k) new h = absurd h
begin_follows s officer moment message (ended k) new h = absurd h
begin_follows s officer moment message (captured f ls) new h = absurd h
begin_follows s officer moment message (listed ls) new h = absurd h

granting_same : (s : Standing) (t k : ℕ) → forget (with_turns s t k) ≡ forget s
granting_same s t k = ap (λ ts. record { office = s.office; tickets = ts; last = s.last }) (grant_shows t k s.flights)

turn_follows : (s : Standing) (t k : ℕ) (f : Option Flight) (a : Answer) (new : Standing) → TurnStep s t k f a new → forget new ≡ forget s
turn_follows s t k None a new h = ap forget h.1
turn_follows s t k (Some f) a new (inl h) = ap forget h.1 ∙ granting_same s t k
turn_follows s t k (Some f) a new (inr h) = ap forget h.1.2 ∙ granting_same s t h.1.0

files_follow : (s : Standing) (t : ℕ) (at_begin : BeginState) (a : Answer) (b : Archive) (new : Standing)
    → stood_of t (forget s).tickets ≡ Some at_begin → Files s.office.archive at_begin a b → new ≡ after_finish s t a b
    → Follows (is_struck (finish t) a) (forget s) (finish t) a (forget new)
files_follow s t at_begin (captured fault ls) b new e h en =
    rw e (b, h, ap forget en ∙ ap (λ ts. record { office = with_archive s.office b; tickets = ts; last = s.last }) (without_shows t s.flights))
files_follow s t at_begin (refused n at) b new e h en =
    let same : new ≡ s = en ∙ ap (λ x. record s { office = with_archive s.office x }) h.2 in
    let whole : SerialStep (forget s) (finish t) (refused n at) (forget new) = rw e (b, h, ap forget en) in
    either _ (forget s) (finish t) (refused n at) (forget new) (ap forget same) whole
files_follow s t at_begin done b new e h en = absurd h
files_follow s t at_begin (dry_run o) b new e h en = absurd h
files_follow s t at_begin (begun x y) b new e h en = absurd h
files_follow s t at_begin (running k) b new e h en = absurd h
files_follow s t at_begin (ended k) b new e h en = absurd h
files_follow s t at_begin (listed ls) b new e h en = absurd h

whole_follows : (s : Standing) (t : ℕ) (early : Bool) (at_begin : BeginState) (a : Answer) (new : Standing)
    → stood_of t (forget s).tickets ≡ Some at_begin → FinishWhole s t early at_begin a new
    → Follows (is_struck (finish t) a) (forget s) (finish t) a (forget new)
whole_follows s t true at_begin a new e h = struck _ (forget s) (finish t) a (forget new) (ap (is_struck (finish t)) h.0) (ap forget h.1)
whole_follows s t false at_begin a new e (inl h) = files_follow s t at_begin a h.0 new e h.1 h.2
whole_follows s t false at_begin a new e (inr h) =
    struck _ (forget s) (finish t) a (forget new) (ap (is_struck (finish t)) h.2
    ∙ passing_trouble h.0 None h.1) (ap forget h.3)

finish_follows : (s : Standing) (t : ℕ) (f : Option Flight) (a : Answer) (new : Standing) → flight_of t s.flights ≡ f
    → FinishStep s t f a new → Follows (is_struck (finish t) a) (forget s) (finish t) a (forget new)
finish_follows s t None a new e h =
    let none : stood_of t (forget s).tickets ≡ None = stood_shows t s.flights ∙ ap (option_map (λ x. x.at_begin)) e in
    rw h.0 (rw none (refl, ap forget h.1))
finish_follows s t (Some f) a new e h =
    whole_follows s t _ f.at_begin a new (stood_shows t s.flights ∙ ap (option_map (λ x. x.at_begin)) e) h

-- a step of the session is one of the serial session, or does nothing to it
pub step_follows : (s : Standing) (c : Command) (a : Answer) (new : Standing) → Step s c a new → Follows (is_struck c a) (forget s) c a (forget new)
unfolding Step
step_follows s (plain c) a new h = plain_follows s c a h.0 new h.1 h.2
step_follows s (begin officer moment message) a new h = begin_follows s officer moment message a new h
step_follows s (turn t k) a new h = turn_follows s t k (flight_of t s.flights) a new h
step_follows s (finish t) a new h = finish_follows s t (flight_of t s.flights) a new refl h

-- ---- sessions

joined : (x : Bool) (s mid new : Serial) (c : Command) (a : Answer) (cs : List Command) (answers : List Answer)
    → is_struck c a ≡ x → Follows x s c a mid → SerialRun mid (kept_commands cs answers) (kept_answers cs answers) new
    → SerialRun s (kept_commands (c ∷ cs) (a ∷ answers)) (kept_answers (c ∷ cs) (a ∷ answers)) new
joined true s mid new c a cs answers e f rest =
    let P : Serial → Type 0 = λ x. SerialRun x (kept_commands cs answers) (kept_answers cs answers) new in
    rw e (subst P f rest)
joined false s mid new c a cs answers e f rest = rw e (mid, e, f, rest)

pub sessions : (s : Standing) (cs : List Command) (answers : List Answer) (new : Standing) → Steps s cs answers new
    → SerialRun (forget s) (kept_commands cs answers) (kept_answers cs answers) (forget new)
sessions s [] [] new h = ap forget h
sessions s (c ∷ cs) (a ∷ answers) new h =
    joined (is_struck c a) (forget s) (forget h.0) (forget new) c a cs answers refl (step_follows s c a h.0 h.1)
    (sessions h.0 cs answers new h.2)
sessions s [] (a ∷ answers) new h = absurd h
sessions s (c ∷ cs) [] new h = absurd h
