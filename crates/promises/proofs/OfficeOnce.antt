-- A command has one answer by the rules of filing, and leaves one office.
use Rattle.std.proofs.Common.{◌≡◌, ◌≢◌, [], ℕ, List, refl, arith, ap, ◌∙◌, sym, subst, inl, inr, Bool, true, false, Option, None, Result, Ok, Err}
use Rattle.std.specs.Prelude.{if◌then◌else◌}
use Rattle.sieve_meaning.specs.Program.{Commands}
use Rattle.sieve_meaning.specs.Reading.{program_of}
use Rattle.sieve_meaning.specs.declared.outcome.Outcome.{Outcome}
use Rattle.sieve_meaning.specs.Outcome as meaning
use Rattle.class_plan.specs.declared.faults.PlanFault.TheVariants.{PathDropped}
use Rattle.class_plan.specs.Faults as plan
use Rattle.class_plan.specs.Plans.{Listing, is_open_in, keeps}
use Rattle.mail_case.specs.Message.{case_of}
use Rattle.filing_image.specs.Program.{Program}
use Rattle.filing_table.specs.Ends.{HasOutcome}
use Rattle.record_archive.specs.Archive.{Archive, Line, revise}
use Rattle.record_archive.specs.declared.fault.ArchiveRefusal.{ArchiveRefusal}
use Rattle.desk_commands.specs.Answers.{Answer, done, dry_run, begun, running, ended, captured, listed, refused}
use Rattle.desk_commands.specs.Office.{Office, PlainCommand, OfficeRule, Settles, Captures, Lists, Refuses, IsFiled}
use Rattle.desk_commands.specs.Office.{IsMade, IsRefused, IsTried, add_class, set_plan, set_script, set_global}
use Rattle.desk_commands.specs.Office.{activate, deactivate, set_image, file, try_image, hold, release, due, destroy}
use Rattle.desk_commands.specs.Office.{with_globals, with_officer, with_scripts, with_active}
use Rattle.desk_commands.specs.Parts.{IsKept, IsPlanOf, RefusesPlan, RefusesToKeep}
use Rattle.desk_commands.specs.Pinning.{image}
use Rattle.desk_commands.specs.Scripts.{library, put_script}
use Rattle.promises.specs.Alike.{AreSameNumber, AreAlike}
use Rattle.promises.specs.Serial.{is_passing}
use Rattle.promises.proofs.CitedLaws.{OutcomesAreOne, ProgramsAreOne, TextsAreOne}
use Rattle.promises.proofs.Verdicts.{one_script, script_or, one_refusal, one_image, image_or, one_image_refusal}

ok_is : {A E : Type 0} (x y : A) → ◌≡◌ {A = Result A E} (Ok x) (Ok y) → x ≡ y
ok_is x y e = cc

err_is : {A E : Type 0} (x y : E) → ◌≡◌ {A = Result A E} (Err x) (Err y) → x ≡ y
err_is x y e = cc

ok_err : {A E : Type 0} (x : A) (y : E) → ◌≡◌ {A = Result A E} (Ok x) (Err y) → ⊥
ok_err x y e = cc

true_false : true ≡ false → ⊥
true_false e = cc

-- ---- the archive's commands

made_once : (s : Office) (r : Result Archive ArchiveRefusal) (x y : Office) → IsMade s r x → IsMade s r y → x ≡ y
made_once s (Ok a) x y h k = h ∙ sym k
made_once s (Err f) x y h k = absurd h

made_or : (s : Office) (r : Result Archive ArchiveRefusal) (x : Office) (n : ℕ) → IsMade s r x → IsRefused r n → ⊥
made_or s (Ok a) x n h k = k
made_or s (Err f) x n h k = h

refused_once : (r : Result Archive ArchiveRefusal) (m n : ℕ) → IsRefused r m → IsRefused r n → m ≡ n
refused_once (Ok a) m n h k = absurd h
refused_once (Err f) m n h k = h ∙ sym k

one_plan : (text : List ℕ) (p q : Listing) → IsPlanOf text p → IsPlanOf text q → p ≡ q
one_plan text p q h k = ok_is p q (sym h.is_plan ∙ k.is_plan)

plan_once : (s : Office) (text : List ℕ) (p q : Listing) (x y : Office) → IsPlanOf text p
    → IsMade s (revise s.archive p) x → IsPlanOf text q → IsMade s (revise s.archive q) y → x ≡ y
plan_once s text p q x y hp h kp k =
    let P : Listing → Type 0 = λ z. IsMade s (revise s.archive z) x in
    made_once s (revise s.archive q) x y (subst P (one_plan text p q hp kp) h) k

-- no plan that drops a path is taken over
drops_or : (s : Office) (old p : Listing) (x : Office) (keeps_all : Bool) → keeps_all ≡ false
    → IsMade s (if keeps_all then Ok (record s.archive { plan = p }) else Err
    (Rattle.record_archive.specs.declared.fault.ArchiveRefusal.TheVariants.Plan PathDropped)) x → ⊥
drops_or s old p x true e h = true_false e
drops_or s old p x false e h = h

plan_or : (s : Office) (text : List ℕ) (p : Listing) (x : Office) (n : ℕ) → IsPlanOf text p
    → IsMade s (revise s.archive p) x → RefusesPlan s.archive.plan text n → ⊥
plan_or s text p x n h made (inl k) = omega (arith, k.0, h.short)
plan_or s text p x n h made (inr (inl k)) = ok_err p k.fault (sym h.is_plan ∙ k.refuses)
plan_or s text p x n h made (inr (inr k)) =
    drops_or s s.archive.plan p x (keeps s.archive.plan p) (ap (keeps s.archive.plan) (one_plan text p k.plan h k.is_plan) ∙ k.drops) made

plan_refused : (old : Listing) (text : List ℕ) (m n : ℕ) → RefusesPlan old text m → RefusesPlan old text n → m ≡ n
plan_refused old text m n (inl h) (inl k) = h.1 ∙ sym k.1
plan_refused old text m n (inl h) (inr (inl k)) = absurd (omega (arith, h.0, k.short))
plan_refused old text m n (inl h) (inr (inr k)) = absurd (omega (arith, h.0, k.is_plan.short))
plan_refused old text m n (inr (inl h)) (inl k) = absurd (omega (arith, k.0, h.short))
plan_refused old text m n (inr (inr h)) (inl k) = absurd (omega (arith, k.0, h.is_plan.short))
plan_refused old text m n (inr (inl h)) (inr (inl k)) = h.is_number
    ∙ ap plan.number_of (err_is h.fault k.fault (sym h.refuses ∙ k.refuses)) ∙ sym k.is_number
plan_refused old text m n (inr (inl h)) (inr (inr k)) = absurd (ok_err k.plan h.fault (sym k.is_plan.is_plan ∙ h.refuses))
plan_refused old text m n (inr (inr h)) (inr (inl k)) = absurd (ok_err h.plan k.fault (sym h.is_plan.is_plan ∙ k.refuses))
plan_refused old text m n (inr (inr h)) (inr (inr k)) = h.is_number ∙ sym k.is_number

-- ---- what cannot be both

settles_captures : (s : Office) (c : PlainCommand) (x : Office) (o : Outcome) → Settles s c x → Captures s c o → ⊥
settles_captures s (file script message) x o h k = h
settles_captures s (try_image octets message) x o h k = h
settles_captures s (add_class path) x o h k = k
settles_captures s (set_plan text) x o h k = k
settles_captures s (set_script officer name text) x o h k = k
settles_captures s (set_global name text) x o h k = k
settles_captures s (activate officer name) x o h k = k
settles_captures s (deactivate officer) x o h k = k
settles_captures s (set_image officer octets) x o h k = k
settles_captures s (hold name r) x o h k = k
settles_captures s (release name r) x o h k = k
settles_captures s (due day) x o h k = k
settles_captures s (destroy r day) x o h k = k

-- ---- due lists

-- a command that answers a due list answers one alone, and nothing else
record IsToldAlone (s : Office) (c : PlainCommand) (lines : List Line) : Type 0 where
  once : (others : List Line) → Lists s c others → lines ≡ others
  unsettled : (x : Office) → Settles s c x → ⊥
  uncaptured : (o : Outcome) → Captures s c o → ⊥
  unrefused : (n : ℕ) → Refuses s c n → ⊥

told_alone : (s : Office) (c : PlainCommand) (lines : List Line) → Lists s c lines → IsToldAlone s c lines
told_alone s (due day) lines h = record { once = λ others k. h ∙ sym k; unsettled = λ x k. k; uncaptured = λ o k. k; unrefused = λ n k. k }
told_alone s (file script message) lines h = absurd h
told_alone s (try_image octets message) lines h = absurd h
told_alone s (add_class path) lines h = absurd h
told_alone s (set_plan text) lines h = absurd h
told_alone s (set_script officer name text) lines h = absurd h
told_alone s (set_global name text) lines h = absurd h
told_alone s (activate officer name) lines h = absurd h
told_alone s (deactivate officer) lines h = absurd h
told_alone s (set_image officer octets) lines h = absurd h
told_alone s (hold name r) lines h = absurd h
told_alone s (release name r) lines h = absurd h
told_alone s (destroy r day) lines h = absurd h

no_99 : (n : ℕ) (at : Option ℕ) → is_passing (refused n at) ≡ false → n ≢ 99
no_99 n at e x = true_false (sym (ap (λ y. is_passing (refused y at)) x) ∙ e)

module _ (texts : TextsAreOne) (one_start : ProgramsAreOne) (one_outcome : OutcomesAreOne) where
  -- ---- scripts that are kept

  kept_once : (es x y : List (List ℕ × Commands)) (name text : List ℕ) → IsKept es name text x → IsKept es name text y → x ≡ y
  kept_once es x y name text h k = h.put ∙ ap (λ t. put_script name (program_of t) es) (one_script texts text h.tree k.tree h.good k.good) ∙ sym k.put

  kept_or : (es x : List (List ℕ × Commands)) (name text : List ℕ) (n : ℕ) → IsKept es name text x → RefusesToKeep es name text n → ⊥
  kept_or es x name text n h (inl k) = script_or texts text h.tree n h.good k
  kept_or es x name text n h (inr k) = h.has_room k.has_no_room

  keep_refused : (es : List (List ℕ × Commands)) (name text : List ℕ) (m n : ℕ) → RefusesToKeep es name text m
      → RefusesToKeep es name text n → AreSameNumber m n
  keep_refused es name text m n (inl h) (inl k) = one_refusal texts text m n h k
  keep_refused es name text m n (inl h) (inr k) = absurd (script_or texts text k.tree m k.good h)
  keep_refused es name text m n (inr h) (inl k) = absurd (script_or texts text h.tree n h.good k)
  keep_refused es name text m n (inr h) (inr k) = inl (h.is_number ∙ sym k.is_number)

  -- ---- what is done

  settles_once : (s : Office) (c : PlainCommand) (x y : Office) → Settles s c x → Settles s c y → x ≡ y
  settles_once s (add_class path) x y h k = made_once s _ x y h k
  settles_once s (set_plan text) x y h k = plan_once s text h.0 k.0 x y h.1 h.2 k.1 k.2
  settles_once s (set_script officer name text) x y h k =
      h.2 ∙ ap (λ es. with_officer s officer (with_scripts (s.officers officer) es))
      (kept_once (s.officers officer).scripts h.0 k.0 name text h.1 k.1) ∙ sym k.2
  settles_once s (set_global name text) x y h k = h.2 ∙ ap (with_globals s) (kept_once s.globals h.0 k.0 name text h.1 k.1) ∙ sym k.2
  settles_once s (activate officer name) x y h k = h.1 ∙ sym k.1
  settles_once s (deactivate officer) x y h k = h ∙ sym k
  settles_once s (set_image officer octets) x y h k = h.2
      ∙ ap (λ p. with_active s officer (image p)) (one_image one_start octets h.0 k.0 h.1.is_image k.1.is_image)
      ∙ sym k.2
  settles_once s (hold name r) x y h k = made_once s _ x y h k
  settles_once s (release name r) x y h k = made_once s _ x y h k
  settles_once s (destroy r day) x y h k = made_once s _ x y h k
  settles_once s (file script message) x y h k = absurd h
  settles_once s (try_image octets message) x y h k = absurd h
  settles_once s (due day) x y h k = absurd h

  settles_or : (s : Office) (c : PlainCommand) (x : Office) (n : ℕ) → Settles s c x → Refuses s c n → n ≢ 99 → ⊥
  settles_or s (add_class path) x n h k e = made_or s _ x n h k
  settles_or s (set_plan text) x n h k e = plan_or s text h.0 x n h.1 h.2 k
  settles_or s (set_script officer name text) x n h k e = kept_or (s.officers officer).scripts h.0 name text n h.1 k
  settles_or s (set_global name text) x n h k e = kept_or s.globals h.0 name text n h.1 k
  settles_or s (activate officer name) x n h k e = true_false (sym h.0 ∙ k.0)
  settles_or s (deactivate officer) x n h k e = k
  settles_or s (set_image officer octets) x n h k e = image_or one_start octets h.0 n h.1 k e
  settles_or s (hold name r) x n h k e = made_or s _ x n h k
  settles_or s (release name r) x n h k e = made_or s _ x n h k
  settles_or s (destroy r day) x n h k e = made_or s _ x n h k
  settles_or s (file script message) x n h k e = h
  settles_or s (try_image octets message) x n h k e = h
  settles_or s (due day) x n h k e = h

  -- ---- dry runs

  filed_once : (s : Office) (script message : List ℕ) (o q : Outcome) → IsFiled s script message o → IsFiled s script message q → o ≡ q
  filed_once s script message o q h k =
      let facts = case_of message (is_open_in s.archive.plan) in
      h.outcome ∙ ap (λ t. meaning.outcome facts (library [] s.globals) None (program_of t))
      (one_script texts script h.tree k.tree h.good k.good) ∙ sym k.outcome

  tried_once : (s : Office) (octets message : List ℕ) (o q : Outcome) → IsTried s octets message o → IsTried s octets message q → o ≡ q
  tried_once s octets message o q h k =
      let facts = case_of message (is_open_in s.archive.plan) in
      let P : Program → Type 0 = λ p. HasOutcome p facts h.steps o in
      one_outcome k.program facts h.steps k.steps o q
      (subst P (one_image one_start octets h.program k.program h.good.is_image k.good.is_image) h.outcome) k.outcome

  captures_once : (s : Office) (c : PlainCommand) (o q : Outcome) → Captures s c o → Captures s c q → o ≡ q
  captures_once s (file script message) o q h k = filed_once s script message o q h k
  captures_once s (try_image octets message) o q h k = tried_once s octets message o q h k
  captures_once s (add_class path) o q h k = absurd h
  captures_once s (set_plan text) o q h k = absurd h
  captures_once s (set_script officer name text) o q h k = absurd h
  captures_once s (set_global name text) o q h k = absurd h
  captures_once s (activate officer name) o q h k = absurd h
  captures_once s (deactivate officer) o q h k = absurd h
  captures_once s (set_image officer octets) o q h k = absurd h
  captures_once s (hold name r) o q h k = absurd h
  captures_once s (release name r) o q h k = absurd h
  captures_once s (due day) o q h k = absurd h
  captures_once s (destroy r day) o q h k = absurd h

  captures_or : (s : Office) (c : PlainCommand) (o : Outcome) (n : ℕ) → Captures s c o → Refuses s c n → n ≢ 99 → ⊥
  captures_or s (file script message) o n h (inl k) e = script_or texts script h.tree n h.good k
  captures_or s (file script message) o n h (inr k) e = omega (arith, k.long, h.short)
  captures_or s (try_image octets message) o n h (inl k) e = image_or one_start octets h.program n h.good k e
  captures_or s (try_image octets message) o n h (inr k) e = omega (arith, k.long, h.short)
  captures_or s (add_class path) o n h k e = h
  captures_or s (set_plan text) o n h k e = h
  captures_or s (set_script officer name text) o n h k e = h
  captures_or s (set_global name text) o n h k e = h
  captures_or s (activate officer name) o n h k e = h
  captures_or s (deactivate officer) o n h k e = h
  captures_or s (set_image officer octets) o n h k e = h
  captures_or s (hold name r) o n h k e = h
  captures_or s (release name r) o n h k e = h
  captures_or s (due day) o n h k e = h
  captures_or s (destroy r day) o n h k e = h

  -- ---- refusals

  refuses_once : (s : Office) (c : PlainCommand) (m n : ℕ) → Refuses s c m → Refuses s c n → m ≢ 99 → n ≢ 99 → AreSameNumber m n
  refuses_once s (add_class path) m n h k d e = inl (refused_once _ m n h k)
  refuses_once s (set_plan text) m n h k d e = inl (plan_refused s.archive.plan text m n h k)
  refuses_once s (set_script officer name text) m n h k d e = keep_refused (s.officers officer).scripts name text m n h k
  refuses_once s (set_global name text) m n h k d e = keep_refused s.globals name text m n h k
  refuses_once s (activate officer name) m n h k d e = inl (h.1 ∙ sym k.1)
  refuses_once s (deactivate officer) m n h k d e = absurd h
  refuses_once s (set_image officer octets) m n h k d e = inl (one_image_refusal one_start octets m n h k d e)
  refuses_once s (file script message) m n (inl h) (inl k) d e = one_refusal texts script m n h k
  refuses_once s (file script message) m n (inl h) (inr k) d e = absurd (script_or texts script k.tree m k.good h)
  refuses_once s (file script message) m n (inr h) (inl k) d e = absurd (script_or texts script h.tree n h.good k)
  refuses_once s (file script message) m n (inr h) (inr k) d e = inl (h.is_number ∙ sym k.is_number)
  refuses_once s (try_image octets message) m n (inl h) (inl k) d e = inl (one_image_refusal one_start octets m n h k d e)
  refuses_once s (try_image octets message) m n (inl h) (inr k) d e = absurd (image_or one_start octets k.program m k.good h d)
  refuses_once s (try_image octets message) m n (inr h) (inl k) d e = absurd (image_or one_start octets h.program n h.good k e)
  refuses_once s (try_image octets message) m n (inr h) (inr k) d e = inl (h.is_number ∙ sym k.is_number)
  refuses_once s (hold name r) m n h k d e = inl (refused_once _ m n h k)
  refuses_once s (release name r) m n h k d e = inl (refused_once _ m n h k)
  refuses_once s (due day) m n h k d e = absurd h
  refuses_once s (destroy r day) m n h k d e = inl (refused_once _ m n h k)

  -- ---- one answer

  pub office_once : (s : Office) (c : PlainCommand) (a b : Answer) (x y : Office) → OfficeRule s c a x
      → OfficeRule s c b y → is_passing a ≡ false → is_passing b ≡ false → AreAlike a b × (x ≡ y)
  office_once s c done done x y h k d e = (refl, settles_once s c x y h k)
  office_once s c done (dry_run q) x y h k d e = absurd (settles_captures s c x q h k.1)
  office_once s c done (listed ms) x y h k d e = absurd ((told_alone s c ms k.1).unsettled x h)
  office_once s c done (refused n at) x y h k d e = absurd (settles_or s c x n h k.2 (no_99 n at e))
  office_once s c (dry_run o) done x y h k d e = absurd (settles_captures s c y o k h.1)
  office_once s c (dry_run o) (dry_run q) x y h k d e = (ap dry_run (captures_once s c o q h.1 k.1), h.0 ∙ sym k.0)
  office_once s c (dry_run o) (listed ms) x y h k d e = absurd ((told_alone s c ms k.1).uncaptured o h.1)
  office_once s c (dry_run o) (refused n at) x y h k d e = absurd (captures_or s c o n h.1 k.2 (no_99 n at e))
  office_once s c (listed ls) done x y h k d e = absurd ((told_alone s c ls h.1).unsettled y k)
  office_once s c (listed ls) (dry_run q) x y h k d e = absurd ((told_alone s c ls h.1).uncaptured q k.1)
  office_once s c (listed ls) (listed ms) x y h k d e = (ap listed ((told_alone s c ls h.1).once ms k.1), h.0 ∙ sym k.0)
  office_once s c (listed ls) (refused n at) x y h k d e = absurd ((told_alone s c ls h.1).unrefused n k.2)
  office_once s c (refused m at) done x y h k d e = absurd (settles_or s c y m k h.2 (no_99 m at d))
  office_once s c (refused m at) (dry_run q) x y h k d e = absurd (captures_or s c q m k.1 h.2 (no_99 m at d))
  office_once s c (refused m at) (listed ms) x y h k d e = absurd ((told_alone s c ms k.1).unrefused m h.2)
  office_once s c (refused m at) (refused n on) x y h k d e = (refuses_once s c m n h.2 k.2 (no_99 m at d) (no_99 n on e), h.0 ∙ sym k.0)
  office_once s c (begun t n) b x y h k d e = absurd h
  office_once s c (running n) b x y h k d e = absurd h
  office_once s c (ended n) b x y h k d e = absurd h
  office_once s c (captured f ls) b x y h k d e = absurd h
  office_once s c a (begun t n) x y h k d e = absurd k
  office_once s c a (running n) x y h k d e = absurd k
  office_once s c a (ended n) x y h k d e = absurd k
  office_once s c a (captured f ls) x y h k d e = absurd k
