-- Calls of a desk that change nothing.
use Rattle.std.proofs.Common.{◌≡◌, ℕ, ◌≤◌, List, [], length, true, None, Result, Ok, Err, Vec, inl, inr, refl, ap, sym, ◌∙◌, subst}
use Rattle.std.specs.Result.{IsErr, IsErrAnd}
use Rattle.std.specs.declared.alloc.Global.{Global}
use Rattle.std.proofs.lemmas.Bool.{false≢true}
use Rattle.sieve_syntax.specs.Tree.{CommandTrees}
use Rattle.sieve_meaning.specs.declared.outcome.Outcome.{Outcome}
use Rattle.sieve_meaning.specs.Case.{Facts}
use Rattle.sieve_meaning.specs.Meaning.{Library}
use Rattle.sieve_meaning.specs.Outcome as meaning
use Rattle.sieve_meaning.specs.Reading.{program_of}
use Rattle.class_plan.specs.Plans.{Listing, is_open_in}
use Rattle.mail_case.specs.Message.{case_of}
use Rattle.filing_image.specs.Program.{Program}
use Rattle.filing_table.specs.Ends.{HasOutcome}
use Rattle.record_archive.specs.Archive.{Archive}
use Rattle.record_archive.specs.Calls.{Keeper}
use Rattle.record_archive.specs.declared.line.Line.{Line}
use Rattle.desk_commands.specs.Answers.{Answer, dry_run}
use Rattle.desk_commands.specs.ArchiveAnswers.{is_of_archive}
use Rattle.desk_commands.specs.Calls.{Calls}
use Rattle.desk_commands.specs.Faults.{refused_by}
use Rattle.desk_commands.specs.Limits.{greatest_image, greatest_message, greatest_script}
use Rattle.desk_commands.specs.Office.{Office, PlainCommand, OfficeStep, Refuses, GivesUp, LacksMemory, IsFiled, IsTried, file, try_image}
use Rattle.desk_commands.specs.Parts.{IsGood, IsGoodImage, RefusesImage, RefusesScript}
use Rattle.desk_commands.specs.Scripts.{library, meanings_of}
use Rattle.desk_commands.specs.Standing.{Standing, is_refusal, plain}
use Rattle.desk_commands.specs.CallAnswers.{answer_of_lines, answer_of_outcome}
use Rattle.desk_commands.specs.declared.fault.DeskFault.{DeskFault}
use Rattle.desk_commands.specs.declared.fault.DeskFault.TheVariants.{NoMemory}
use Rattle.desk_officers.specs.Register.{Register}
use Rattle.filing_desk.specs.DryRuns.{IsOutcomeOf}
use Rattle.filing_desk.specs.Judging.{IsFaultOf, IsLongMessage}
use Rattle.filing_desk.specs.Standing.{StandsFor, desk_keeper}
use Rattle.filing_desk.specs.declared.desk.Desk.{Desk}
use Rattle.filing_desk.proofs.StepLemmas.{no_stay, plain_calls, refused_so, untouched}

-- the answer to a fault
pub outcome_fault : (result : Result Outcome DeskFault) (fault : DeskFault) → IsErr result
    → IsErrAnd result (λ f. f ≡ fault) → answer_of_outcome result ≡ refused_by fault
outcome_fault (Err f) fault is same = ap refused_by same
outcome_fault (Ok o) fault is same = absurd (false≢true is)

pub lines_fault : (result : Result (Vec Line Global) DeskFault) (fault : DeskFault) → IsErr result
    → IsErrAnd result (λ f. f ≡ fault) → answer_of_lines result ≡ refused_by fault
lines_fault (Err f) fault is same = ap refused_by same
lines_fault (Ok o) fault is same = absurd (false≢true is)

-- a fault of a part, as that of a command
pub fault_step : (s : Office) (c : PlainCommand) (Rule : ℕ → Type 0) (limit : ℕ) (payload : List ℕ) (f : DeskFault)
    → ((n : ℕ) → Rule n → Refuses s c n) → ((n : ℕ) → LacksMemory limit payload n → GivesUp s c n)
    → IsFaultOf Rule limit payload f → OfficeStep s c (refused_by f) s
fault_step s c Rule limit payload f refuses lacks (inl h) = inl (refl, h.0, refuses _ h.1)
fault_step s c Rule limit payload f refuses lacks (inr h) =
    let P : DeskFault → Type 0 = λ x. OfficeStep s c (refused_by x) s in
    subst P (sym h.0) (inr (99, lacks 99 (refl, h.1), refl, refl))

pub lacking : (s : Office) (c : PlainCommand) (limit : ℕ) (payload : List ℕ) (f : DeskFault) (a : Answer)
    → a ≡ refused_by f → f ≡ NoMemory → length payload ≤ limit → ((n : ℕ) → LacksMemory limit payload n → GivesUp s c n)
    → OfficeStep s c a s
lacking s c limit payload f a told is short lacks =
    let P : Answer → Type 0 = λ x. OfficeStep s c x s in
    subst P (sym told) (fault_step s c (λ n. ⊥) limit payload f (λ n r. absurd r) lacks (inr (is, short)))

module _ {A : Type 0} (keeper : Keeper A Archive) where
  -- a call that leaves the desk as it was
  pub unchanged : (desk : Desk A) (c : PlainCommand) (a : Answer)
      → (is_of_archive (plain c) a ≡ true → is_refusal a ≡ true)
      → ((s : Standing) → StandsFor keeper desk s → OfficeStep s.office c a s.office)
      → Calls (desk_keeper keeper) desk (plain c) a desk
  unchanged desk c a refused step = plain_calls keeper desk desk c a (λ clean. clean) (λ sure s stands.
      (s.office, step s stands, stands)) (λ refused s stands. stands)
      (untouched keeper desk desk (plain c) refl)
      (λ from_archive other. no_stay keeper desk desk (plain c) a (refused from_archive) other)

  -- the same, where the officers are the same, and are shown anew
  pub officers_same : (desk : Desk A) (officers : Register) (c : PlainCommand) (a : Answer) → officers ≡ desk.officers
      → Calls (desk_keeper keeper) desk (plain c) a desk
      → Calls (desk_keeper keeper) desk (plain c) a (record desk { officers = officers })
  officers_same desk officers c a same called =
      let P : Register → Type 0 = λ o. Calls (desk_keeper keeper) desk (plain c) a (record desk { officers = o }) in
      subst P (sym same) called

  -- the outcome of a script with the global scripts of a desk, in a message's case
  pub file_done : (desk : Desk A) (p : Listing) (script message : List ℕ) (facts : Facts) (o : Outcome)
      → ((s : Standing) → StandsFor keeper desk s → p ≡ s.office.archive.plan)
      → length message ≤ greatest_message → facts ≡ case_of message (is_open_in p)
      → IsOutcomeOf desk.officers.globals script facts o
      → Calls (desk_keeper keeper) desk (plain (file script message)) (dry_run o) desk
  file_done desk p script message facts o is_plan short case is = unchanged desk (file script message) (dry_run o)
      (λ e. absurd (false≢true e)) (λ s stands.
      let main = program_of is.tree in
      let own : Library = library [] (meanings_of desk.officers.globals) in
      let there : facts ≡ case_of message (is_open_in s.office.archive.plan) = case ∙ ap (λ q. case_of message (is_open_in q)) (is_plan s stands) in
      let lib : own ≡ library [] s.office.globals = ap (λ o. library [] o.globals) stands.officers in
      let filed : IsFiled s.office script message o = record {
        tree = is.tree;
        good = is.good;
        short = short;
        outcome = is.outcome ∙ ap (λ f. meaning.outcome f own None main) there
            ∙ ap (λ l. meaning.outcome (case_of message (is_open_in s.office.archive.plan)) l None main) lib;
      } in
      inl (refl, filed))

  -- the outcome of an image's run
  pub try_done : (desk : Desk A) (p : Listing) (program : Program) (image message : List ℕ) (facts : Facts) (n : ℕ)
      (o : Outcome) → ((s : Standing) → StandsFor keeper desk s → p ≡ s.office.archive.plan) → IsGoodImage image program
      → length message ≤ greatest_message → facts ≡ case_of message (is_open_in p) → HasOutcome program facts n o
      → Calls (desk_keeper keeper) desk (plain (try_image image message)) (dry_run o) desk
  try_done desk p program image message facts n o is_plan good short case ran = unchanged desk (try_image image message) (dry_run o)
      (λ e. absurd (false≢true e)) (λ s stands.
      let there : facts ≡ case_of message (is_open_in s.office.archive.plan) = case ∙ ap (λ q. case_of message (is_open_in q)) (is_plan s stands) in
      let P : Facts → Type 0 = λ f. HasOutcome program f n o in
      let tried : IsTried s.office image message o = record {
        program = program;
        good = good;
        short = short;
        steps = n;
        outcome = subst P there ran;
      } in
      inl (refl, tried))

  pub file_no_script : (desk : Desk A) (script message : List ℕ) (f : DeskFault) (a : Answer) → a ≡ refused_by f
      → IsFaultOf (RefusesScript script) greatest_script script f
      → Calls (desk_keeper keeper) desk (plain (file script message)) a desk
  file_no_script desk script message f a told h = unchanged desk (file script message) a
      (λ e. refused_so _ _ told) (λ s stands.
      let P : Answer → Type 0 = λ x. OfficeStep s.office (file script message) x s.office in
      subst P (sym told) (fault_step s.office (file script message) (RefusesScript script) greatest_script script f (λ n r. inl r) (λ n l. l) h))

  pub file_no_message : (desk : Desk A) (script message : List ℕ) (tree : CommandTrees) (f : DeskFault) (a : Answer)
      → a ≡ refused_by f → IsGood script tree → length script ≤ greatest_script
      → IsFaultOf (IsLongMessage message) greatest_message message f
      → Calls (desk_keeper keeper) desk (plain (file script message)) a desk
  file_no_message desk script message tree f a told good short h = unchanged desk (file script message) a
      (λ e. refused_so _ _ told) (λ s stands.
      let P : Answer → Type 0 = λ x. OfficeStep s.office (file script message) x s.office in
      subst P (sym told) (fault_step s.office (file script message) (IsLongMessage message) greatest_message message f
      (λ n long. inr (record { tree = tree; good = good; long = long.0; is_number = long.1 })) (λ n l.
      (l.0, short)) h))

  pub try_no_image : (desk : Desk A) (image message : List ℕ) (f : DeskFault) (a : Answer) → a ≡ refused_by f
      → IsFaultOf (RefusesImage image) greatest_image image f
      → Calls (desk_keeper keeper) desk (plain (try_image image message)) a desk
  try_no_image desk image message f a told h = unchanged desk (try_image image message) a
      (λ e. refused_so _ _ told) (λ s stands.
      let P : Answer → Type 0 = λ x. OfficeStep s.office (try_image image message) x s.office in
      subst P (sym told) (fault_step s.office (try_image image message) (RefusesImage image) greatest_image image f (λ n r. inl r) (λ n l. l) h))

  pub try_no_message : (desk : Desk A) (image message : List ℕ) (program : Program) (f : DeskFault) (a : Answer)
      → a ≡ refused_by f → IsGoodImage image program → length image ≤ greatest_image
      → IsFaultOf (IsLongMessage message) greatest_message message f
      → Calls (desk_keeper keeper) desk (plain (try_image image message)) a desk
  try_no_message desk image message program f a told good short h = unchanged desk (try_image image message) a
      (λ e. refused_so _ _ told) (λ s stands.
      let P : Answer → Type 0 = λ x. OfficeStep s.office (try_image image message) x s.office in
      subst P (sym told) (fault_step s.office (try_image image message) (IsLongMessage message) greatest_message message f
      (λ n long. inr (record { program = program; good = good; long = long.0; is_number = long.1 })) (λ n l.
      (l.0, short)) h))

  pub refused_part : (desk : Desk A) (c : PlainCommand) (Rule : ℕ
      → Type 0) (limit : ℕ) (payload : List ℕ) (f : DeskFault) (a : Answer)
      → ((s : Office) (n : ℕ) → Rule n → Refuses s c n)
      → ((s : Office) (n : ℕ) → LacksMemory limit payload n → GivesUp s c n) → a ≡ refused_by f
      → IsFaultOf Rule limit payload f → Calls (desk_keeper keeper) desk (plain c) a desk
  refused_part desk c Rule limit payload f a refuses lacks told h = unchanged desk c a (λ e. refused_so _ _ told) (λ s stands.
      let P : Answer → Type 0 = λ x. OfficeStep s.office c x s.office in
      subst P (sym told) (fault_step s.office c Rule limit payload f (refuses s.office) (lacks s.office) h))

  -- no memory in a run
  pub gave_up : (desk : Desk A) (c : PlainCommand) (limit : ℕ) (payload : List ℕ) (f : DeskFault) (a : Answer)
      → a ≡ refused_by f → f ≡ NoMemory → length payload ≤ limit
      → ((s : Office) (n : ℕ) → LacksMemory limit payload n → GivesUp s c n)
      → Calls (desk_keeper keeper) desk (plain c) a desk
  gave_up desk c limit payload f a told is short lacks =
      unchanged desk c a (λ e. refused_so _ _ told) (λ s stands. lacking s.office c limit payload f a told is short (lacks s.office))
