-- A serial session has one list of answers, and leaves one state.
use Rattle.std.proofs.Common.{◌≡◌, [], ◌∷◌, ℕ, List, refl, ap, ◌∙◌, sym, subst, inl, false, Bool, Option, Some, None, Result, Ok, Err}
use Rattle.std.specs.Prelude.{if◌then◌else◌}
use Rattle.sieve_meaning.specs.Meaning.{Library}
use Rattle.sieve_meaning.specs.Case.{Facts}
use Rattle.sieve_meaning.specs.declared.outcome.Outcome.{Outcome}
use Rattle.record_archive.specs.Archive.{Archive, capture, capture_lines}
use Rattle.record_archive.specs.declared.fault.ArchiveRefusal.TheVariants.{Full}
use Rattle.desk_commands.specs.Answers.{Answer, done, dry_run, begun, running, ended, captured, listed, refused}
use Rattle.desk_commands.specs.Office.{with_archive}
use Rattle.desk_commands.specs.Pinning.{BeginState, IsAlone, GivesOutcome, Choice, nothing, script, image_of, case_in}
use Rattle.desk_commands.specs.Standing.{Command, plain, begin, turn, finish, Standing, Files, is_refusal}
use Rattle.promises.specs.Alike.{AreAlike, AllAlike}
use Rattle.promises.specs.Runs.{Steps}
use Rattle.promises.specs.Serial.{Serial, SerialStep, SerialBegin, SerialFinish, SerialRun, stood_of, without_ticket}
use Rattle.promises.specs.Serial.{is_struck, kept_commands, kept_answers, forget}
use Rattle.promises.proofs.CitedLaws.{OutcomesAreOne, ProgramsAreOne, TextsAreOne}
use Rattle.promises.proofs.OfficeOnce.{office_once}
use Rattle.promises.proofs.Sessions.{sessions}
use Rattle.promises.proofs.Verdicts.{some_is}

ok_is : {A E : Type 0} (x y : A) → ◌≡◌ {A = Result A E} (Ok x) (Ok y) → x ≡ y
ok_is x y e = cc

ok_err : {A E : Type 0} (x : A) (y : E) → ◌≡◌ {A = Result A E} (Ok x) (Err y) → ⊥
ok_err x y e = cc

-- ---- a capture is whole, or there is no room for it

capture_once : (a : Archive) (at_begin : BeginState) (o q : Outcome) (x y : Archive) → o ≡ q
    → capture a at_begin.message at_begin.day o.classes ≡ Ok x
    → capture a at_begin.message at_begin.day q.classes ≡ Ok y → x ≡ y
capture_once a at_begin o q x y e h k = ok_is x y (sym h ∙ ap (λ (z : Outcome). capture a at_begin.message at_begin.day z.classes) e ∙ k)

full_or : (a : Archive) (at_begin : BeginState) (o q : Outcome) (x : Archive) → o ≡ q
    → capture a at_begin.message at_begin.day o.classes ≡ Ok x
    → capture a at_begin.message at_begin.day q.classes ≡ Err Full → ⊥
full_or a at_begin o q x e h k = ok_err x Full (sym h ∙ ap (λ (z : Outcome). capture a at_begin.message at_begin.day z.classes) e ∙ k)

-- two answers say the same, and leave the same
record AreOne (r q : Answer) (x y : Archive) : Type 0 where
  alike : AreAlike r q
  archives : x ≡ y
  refusals : is_refusal r ≡ is_refusal q

-- ---- one answer to each command

none_some : {A : Type 0} (o : Option A) (n : A) → o ≡ None → o ≡ Some n → ⊥
none_some {A} o n h k = let e : ◌≡◌ {A = Option A} None (Some n) = sym h ∙ k in cc

begin_once : (s : Serial) (officer : List ℕ) (moment : ℕ) (message : List ℕ) (a b : Answer) (x y : Serial)
    → SerialBegin s officer moment message a x → SerialBegin s officer moment message b y → AreAlike a b × (x ≡ y)
begin_once s officer moment message (begun t m) (begun u n) x y h k =
    ((λ i. begun ((h.ticket ∙ sym k.ticket) i) ((h.budget ∙ sym k.budget) i)), h.leaves ∙ sym k.leaves)
begin_once s officer moment message (begun t m) (refused n at) x y h k = absurd (none_some _ n h.allowed k.2)
begin_once s officer moment message (refused m at) (begun u n) x y h k = absurd (none_some _ m k.allowed h.2)
begin_once s officer moment message (refused m at) (refused n on) x y h k = (inl (some_is m n (sym h.2 ∙ k.2)), h.0 ∙ sym k.0)
begin_once s officer moment message done q x y h k = absurd h
begin_once s officer moment message (dry_run o) q x y h k = absurd h
begin_once s officer moment message (running n) q x y h k = absurd h
begin_once s officer moment message (ended n) q x y h k = absurd h
begin_once s officer moment message (captured f ls) q x y h k = absurd h
begin_once s officer moment message (listed ls) q x y h k = absurd h
begin_once s officer moment message r done x y h k = absurd k
begin_once s officer moment message r (dry_run o) x y h k = absurd k
begin_once s officer moment message r (running n) x y h k = absurd k
begin_once s officer moment message r (ended n) x y h k = absurd k
begin_once s officer moment message r (captured f ls) x y h k = absurd k
begin_once s officer moment message r (listed ls) x y h k = absurd k

refused_alike : (a b : Answer) (n : ℕ) → a ≡ refused n None → b ≡ refused n None → AreAlike a b
refused_alike a b n h k = rw (h, k) (inl refl)

given_up_once : (s : Serial) (t : ℕ) (p q : Bool) (x y : Archive) → p ≡ q → x ≡ y
    → ◌≡◌ {A = Serial} (record {
      office = with_archive s.office x;
      tickets =
          if p then s.tickets else without_ticket t s.tickets;
      last = s.last;
    }) (record {
      office = with_archive s.office y;
      tickets = if q then s.tickets else without_ticket t s.tickets;
      last = s.last;
    })
given_up_once s t p q x y e f = λ i. record {
  office = with_archive s.office (f i);
  tickets =
      if e i then s.tickets else without_ticket t s.tickets;
  last = s.last;
}

module _ (texts : TextsAreOne) (one_start : ProgramsAreOne) (one_outcome : OutcomesAreOne) where
  outcome_once : (c : Choice) (lib : Library) (facts : Facts) (o q : Outcome) → GivesOutcome c lib facts o → GivesOutcome c lib facts q → o ≡ q
  outcome_once nothing lib facts o q h k = h ∙ sym k
  outcome_once (script name s) lib facts o q h k = h ∙ sym k
  outcome_once (image_of p) lib facts o q h k = one_outcome p facts h.0 k.0 o q h.1 k.1

  pub alone_once : (s : BeginState) (o q : Outcome) → IsAlone s o → IsAlone s q → o ≡ q
  alone_once s o q h k = outcome_once s.program s.library (case_in s) o q h k

  files_once : (a : Archive) (at_begin : BeginState) (r q : Answer) (x y : Archive) → Files a at_begin r x → Files a at_begin q y → AreOne r q x y
  files_once a at_begin (captured f ls) (captured g ms) x y h k =
      let e = alone_once at_begin h.0 k.0 h.1 k.1 in
      let faults : f ≡ g = h.2 ∙ ap (λ (o : Outcome). o.fault) e ∙ sym k.2 in
      let lines : ls ≡ ms = h.4 ∙ ap (λ (o : Outcome). capture_lines a at_begin.day o.classes) e ∙ sym k.4 in
      record { alike = λ i. captured (faults i) (lines i); archives = capture_once a at_begin h.0 k.0 x y e h.3 k.3; refusals = refl }
  files_once a at_begin (captured f ls) (refused n at) x y h k =
      absurd (full_or a at_begin h.0 k.3.0 x (alone_once at_begin h.0 k.3.0 h.1 k.3.1) h.3 k.3.2)
  files_once a at_begin (refused m at) (captured g ms) x y h k =
      absurd (full_or a at_begin k.0 h.3.0 y (alone_once at_begin k.0 h.3.0 k.1 h.3.1) k.3 h.3.2)
  files_once a at_begin (refused m at) (refused n on) x y h k = record { alike = inl (h.0 ∙ sym k.0); archives = h.2 ∙ sym k.2; refusals = refl }
  files_once a at_begin done q x y h k = absurd h
  files_once a at_begin (dry_run o) q x y h k = absurd h
  files_once a at_begin (begun t n) q x y h k = absurd h
  files_once a at_begin (running n) q x y h k = absurd h
  files_once a at_begin (ended n) q x y h k = absurd h
  files_once a at_begin (listed ls) q x y h k = absurd h
  files_once a at_begin r done x y h k = absurd k
  files_once a at_begin r (dry_run o) x y h k = absurd k
  files_once a at_begin r (begun t n) x y h k = absurd k
  files_once a at_begin r (running n) x y h k = absurd k
  files_once a at_begin r (ended n) x y h k = absurd k
  files_once a at_begin r (listed ls) x y h k = absurd k

  finish_once : (s : Serial) (t : ℕ) (at_begin : Option BeginState) (a b : Answer) (x y : Serial)
      → SerialFinish s t at_begin a x → SerialFinish s t at_begin b y → AreAlike a b × (x ≡ y)
  finish_once s t None a b x y h k = (refused_alike a b 91 h.0 k.0, h.1 ∙ sym k.1)
  finish_once s t (Some at_begin) a b x y h k =
      let f = files_once s.office.archive at_begin a b h.0 k.0 h.1 k.1 in
      (f.alike, h.2 ∙ given_up_once s t (is_refusal a) (is_refusal b) h.0 k.0 f.refusals f.archives ∙ sym k.2)

  pub step_once : (s : Serial) (c : Command) (a b : Answer) (x y : Serial) → is_struck c a ≡ false
      → is_struck c b ≡ false → SerialStep s c a x → SerialStep s c b y → AreAlike a b × (x ≡ y)
  step_once s (plain c) a b x y d e h k =
      let o = office_once texts one_start one_outcome s.office c a b h.0 k.0 h.1 k.1 d e in
      (o.0, h.2 ∙ ap (λ z. record s { office = z }) o.1 ∙ sym k.2)
  step_once s (begin officer moment message) a b x y d e h k = begin_once s officer moment message a b x y h k
  step_once s (turn t n) a b x y d e h k = absurd h
  step_once s (finish t) a b x y d e h k = finish_once s t (stood_of t s.tickets) a b x y h k

  -- ---- sessions

  run_once : (s : Serial) (cs : List Command) (answers others : List Answer) (x y : Serial) → SerialRun s cs answers x
      → SerialRun s cs others y → AllAlike answers others × (x ≡ y)
  run_once s [] [] [] x y h k = (tt, h ∙ sym k)
  run_once s (c ∷ cs) (a ∷ answers) (b ∷ others) x y h k =
      let o = step_once s c a b h.0 k.0 h.1 k.1 h.2 k.2 in
      let P : Serial → Type 0 = λ z. SerialRun z cs answers x in
      let rest = run_once k.0 cs answers others x y (subst P o.1 h.3) k.3 in
      ((o.0, rest.0), rest.1)
  run_once s [] (a ∷ answers) others x y h k = absurd h
  run_once s [] [] (b ∷ others) x y h k = absurd k
  run_once s (c ∷ cs) [] others x y h k = absurd h
  run_once s (c ∷ cs) (a ∷ answers) [] x y h k = absurd k

  pub equal_sessions : (s t : Standing) (cs ds : List Command) (answers others : List Answer) (x y : Standing)
      → forget s ≡ forget t → Steps s cs answers x → Steps t ds others y
      → kept_commands cs answers ≡ kept_commands ds others → AllAlike (kept_answers cs answers) (kept_answers ds others)
      × (forget x ≡ forget y)
  equal_sessions s t cs ds answers others x y same h k e =
      let P : Serial → Type 0 = λ z. SerialRun z (kept_commands cs answers) (kept_answers cs answers) (forget x) in
      let Q : List Command → Type 0 = λ z. SerialRun (forget t) z (kept_answers cs answers) (forget x) in
      run_once (forget t) (kept_commands ds others) (kept_answers cs answers) (kept_answers ds others) (forget x)
      (forget y) (subst Q e (subst P same (sessions s cs answers x h))) (sessions t ds others y k)
