-- How an import captures messages, and how it ends.
use Rattle.std.specs.Prelude.{◌≡◌, ◌⊎◌, ℕ, ◌||◌, nat_lt, Bool, true, false, is_ok, List, [], ◌∷◌, codes, length, slice_get, if◌then◌else◌}
use Rattle.std.specs.Prelude.{Option, Some, None, option_map, Result, Ok, Err, IfOk, Vec}
use Rattle.std.specs.List.{flat_map}
use Rattle.std.specs.declared.alloc.Global.{Global}
use Rattle.command_lines.specs.declared.archives.imports.Dating.{Dating}
use Rattle.command_lines.specs.declared.archives.imports.Dating.TheVariants.{Received, Date, Now, On}
use Rattle.cli_console.specs.declared.failure.Status.{Status}
use Rattle.cli_console.specs.declared.failure.Status.TheVariants.{BadData, TryAgain}
use Rattle.desk_commands.specs.declared.fault.DeskFault.{DeskFault}
use Rattle.desk_commands.specs.declared.results.Capture.{Capture}
use Rattle.filing_desk.specs.declared.deliveries.Delivery.{Delivery}
use Rattle.filing_desk.specs.declared.deliveries.OnFault.{OnFault}
use Rattle.filing_desk.specs.declared.desk.Desk.{Desk}
use Rattle.cli_console.specs.declared.failure.Failure.{Failure}
use Rattle.cli_console.specs.declared.failure.Failure.TheVariants.{Reported}
use Rattle.mail_import.specs.Fates.{FirstRecords, Knows}
use Rattle.mail_import.specs.Imports.{Breaks, Does, Ending, EndsSo, IsEnding, last_course}
use Rattle.mail_import.specs.Findings.{AreRight, Finding, course, known_after_all, tallied_all}
use Rattle.mail_import.specs.Tallies.{one_more}
use Rattle.mail_import.specs.declared.known.FirstRecord.{FirstRecord}
use Rattle.mail_import.specs.declared.message.Progress.{Progress}
use Rattle.mail_import.specs.declared.message.Terms.{Terms}
use Rattle.mail_import.specs.Calls.{Call, capture, tell, tell_known, taken, answer_of}
use Rattle.mail_import.specs.declared.tally.ImportTally.{ImportTally}
use Rattle.mail_intake.specs.declared.mailroom.Refusal.{Refusal}
use Rattle.mail_intake.specs.declared.mailroom.Refusal.TheVariants.{Stays, Ends}
use Rattle.mail_intake.specs.declared.reason.Reason.TheVariants.{NoMemory}
use Rattle.mail_sources.specs.declared.sources.Source.{Source}
use Rattle.record_archive.specs.Archive.{Archive}
use Rattle.record_archive.specs.declared.line.Line.{Line}
use Rattle.record_ledger.specs.declared.ledger.Ledger.{Ledger}
use Rattle.cli_changes.specs.Desks.{IsDeskOf, IsGivenBack}
use Rattle.cli_changes.specs.Endings.{EndsWith, IsAnswer}
use Rattle.record_archive.specs.Calls.{Keeper}
use Rattle.cli_changes.specs.Deliveries.{IsDelivered, IsLeft}
use Rattle.cli_changes.specs.ImportRounds.{next_source}
use Rattle.cli_changes.specs.Spaces.{with_message}
use Rattle.cli_changes.specs.declared.import.MailImport.{MailImport}
use Rattle.cli_changes.specs.declared.import_room.ImportRoom.{ImportRoom}
use Rattle.cli_changes.specs.declared.import_rounds.ImportRounds.{ImportRounds}
use Rattle.cli_changes.specs.declared.rounds.Round.{Round}
use Rattle.cli_changes.specs.declared.rounds.Round.TheVariants.{Done, NextVolume}
use Rattle.cli_changes.specs.declared.space.Place.{Place}
use Rattle.cli_changes.specs.declared.space.Space.{Space}

-- what the history notes of each capture
abbrev pub notes_of : Dating → List ℕ
notes_of Received = codes "dated=received"
notes_of Date = codes "dated=date"
notes_of Now = codes "dated=now"
notes_of (On day) = codes "dated=given"

-- THE STATUS of an import that came to its end: 75 where a message was given up, which another import may take; 65 where one stays
-- for another reason, or a folder has none; and else that of success
abbrev pub status_of : ImportTally → Option Status
status_of tally =
    if nat_lt 0 tally.given_up then Some TryAgain
    else if nat_lt 0 tally.unfit || nat_lt 0 tally.empty then Some BadData
    else None

-- the first record of a capture in a volume, in an archive of volumes; none where the message was discarded
abbrev pub first_of : (volume : Option ℕ) → Capture → Option FirstRecord
first_of volume c = option_map (λ (line : Line). record { volume = volume; number = line.number }) (slice_get c.lines.items 0)

-- what is answered of a message that is handed over
abbrev pub Answered : Type 0
Answered = Result (Option FirstRecord) (Refusal Failure)

-- nothing was delivered: there was no memory, or no clock
abbrev pub IsUndelivered : Answered → Type 0
IsUndelivered (Err (Stays why)) = why ≡ NoMemory
IsUndelivered (Err (Ends failure)) = Unit {0}
IsUndelivered (Ok first) = ⊥

module _ {A : Type 0} (keeper : Keeper A Archive) (officer : List ℕ) (on_fault : OnFault) (volume : Option ℕ) where
  -- A MESSAGE WAS HANDED OVER, with this answer: the desk delivered these octets at this moment, once
  pub record HandsOver (moment : ℕ) (octets : List ℕ) (answer : Answered) (desk after : Desk A) : Type 0 where
    pub done : Result Delivery DeskFault
    pub mid : Desk A
    pub delivered : IsDelivered keeper desk officer moment octets on_fault done mid
    pub answers : IsAnswer (first_of volume) done answer
    pub left : IsLeft keeper answer mid after

  abbrev pub IsHandedOver : (moment : ℕ) (octets : List ℕ) → Answered → (desk after : Desk A) → Type 0
  IsHandedOver moment octets answer desk after =
      HandsOver moment octets answer desk after ⊎ (IsUndelivered answer × (after ≡ desk))

  -- what a call of an import does at the desk
  abbrev pub AtDesk : Call → (desk after : Desk A) → Type 0
  AtDesk (capture name moment octets answer) desk after =
      (answered : Answered) × (answer ≡ answer_of answered) × IsHandedOver moment octets answered desk after
  AtDesk _ desk after = after ≡ desk

  -- THE DESK CAME HERE BY THESE CALLS from the first one
  abbrev pub ComesBy : (first : Desk A) → List Call → (desk : Desk A) → Type 0
  ComesBy first [] desk = desk ≡ first
  ComesBy first (c ∷ []) desk = AtDesk c first desk
  ComesBy first (c ∷ d ∷ calls) desk = (mid : Desk A) × AtDesk c first mid × ComesBy mid (d ∷ calls) desk

-- how many messages are done after a call: one more where one is captured or discarded, passed over, or stays
abbrev pub done_by : Call → ℕ → ℕ
done_by (capture name moment octets (taken first)) n = one_more n
done_by (tell_known name first) n = one_more n
done_by (tell name why) n = one_more n
done_by _ n = n

abbrev pub done_after : List Call → ℕ → ℕ
done_after [] n = n
done_after (c ∷ calls) n = done_after calls (done_by c n)

-- FROM ONE MOMENT TO ANOTHER an import made these calls: the desk came by them to where it is, under the same terms, in one volume, and so many
-- messages more are done
pub record Goes {A : Type 0} (keeper : Keeper A Archive) (before : ImportRoom A) (calls : List Call) (after : ImportRoom A) : Type 0 where
  pub job : after.job ≡ before.job
  pub volume : after.place.volume ≡ before.place.volume
  pub messages : after.reached.messages ≡ done_after calls before.reached.messages
  pub desk : ComesBy keeper before.job.filing.officer.now before.job.filing.on_fault before.place.volume before.desk calls after.desk

-- it captures where it did, and is as far as it was
pub record IsAtPlace {A : Type 0} (before after : ImportRoom A) : Type 0 where
  pub place : after.place ≡ before.place
  pub is_full : after.is_full ≡ before.is_full
  pub reached : after.reached ≡ before.reached

-- nothing was done at the desk
pub record IsQuiet {A : Type 0} (before after : ImportRoom A) : Type 0 where
  pub job : after.job ≡ before.job
  pub desk : after.desk ≡ before.desk
  pub place : IsAtPlace before after

-- A SOURCE IS DONE, and the next one begins with the files that it has then
pub record EndsSource {A : Type 0} (before after : ImportRoom A) : Type 0 where
  pub job : after.job ≡ before.job
  pub desk : after.desk ≡ before.desk
  pub place : after.place ≡ before.place
  pub is_full : after.is_full ≡ before.is_full
  pub reached : after.reached ≡ next_source before.reached
  pub files : after.files ≡ None

-- ---- the space of a volume

-- the space that a message leaves: it is counted where it is captured, and not where it is discarded or refused
abbrev pub space_after : Answered → (octets : ℕ) → Space → Space
space_after (Ok (Some first)) octets s = with_message octets s
space_after _ octets s = s

-- the messages that are done after one is handed over: one that the archive took is done
abbrev pub done_with : Answered → ℕ → ℕ
done_with (Ok first) n = one_more n
done_with (Err refusal) n = n

-- a message of so many octets is counted that was answered so
pub record Counts {A : Type 0} (octets : ℕ) (answer : Answered) (before after : ImportRoom A) : Type 0 where
  pub job : after.job ≡ before.job
  pub desk : after.desk ≡ before.desk
  pub is_full : after.is_full ≡ before.is_full
  pub volume : after.place.volume ≡ before.place.volume
  pub space : after.place.space ≡ space_after answer octets before.place.space
  pub messages : after.reached.messages ≡ done_with answer before.reached.messages

-- THE ROUND ENDS AT A MESSAGE where the volume is full: it is not delivered, and the next round begins with it
pub record StopsFull {A : Type 0} (before : ImportRoom A) (answer : Answered) (after : ImportRoom A) : Type 0 where
  pub answered : answer ≡ Err (Ends (Reported TryAgain))
  pub room : after ≡ record before { is_full = true }

-- ELSE A MESSAGE IS HANDED OVER, and counted where it is captured
pub record TakesOne {A : Type 0} (keeper : Keeper A Archive) (before : ImportRoom A) (moment : ℕ) (octets : List ℕ) (answer : Answered)
    (after : ImportRoom A) : Type 0 where
  pub job : after.job ≡ before.job
  pub handed_over : IsHandedOver keeper before.job.filing.officer.now before.job.filing.on_fault before.place.volume moment octets answer
      before.desk after.desk
  pub is_full : after.is_full ≡ before.is_full
  pub volume : after.place.volume ≡ before.place.volume
  pub space : after.place.space ≡ space_after answer (length octets) before.place.space
  pub messages : after.reached.messages ≡ done_with answer before.reached.messages

-- ---- a round

-- A ROUND BEGINS with what the rounds before it came to, and has not ended
pub record BeginsAfter {A : Type 0} (rounds : ImportRounds) (room : ImportRoom A) : Type 0 where
  pub reached : room.reached ≡ rounds.reached
  pub files : room.files ≡ rounds.files
  pub has_spoken : room.has_spoken ≡ rounds.has_spoken
  pub is_full : room.is_full ≡ false

module _ {A : Type 0} (keeper : Keeper A Archive) (terms : Terms) (before : ImportRoom A) (p : Progress) (after : ImportRoom A) (q : Progress) where
  -- this was found and done
  pub record Finds : Type 0 where
    pub findings : List Finding
    pub does : Does (Goes keeper) (λ _ _. ⊥) terms before p findings after q

  -- an import breaks off
  abbrev pub Stops : Type 0
  Stops = Breaks (Goes keeper) (λ _ _. ⊥) terms (λ m ss. Unit {0}) before p after q

-- without what it comes to
abbrev pub ended_so : {T : Type 0} → Result T Failure → Result (Unit {0}) Failure
ended_so (Ok t) = Ok tt
ended_so (Err failure) = Err failure

-- WHAT A ROUND OF AN IMPORT DID at its desk, by what was known and counted before it, how it ended, and whether messages are left for a next
-- round. Each message that was found has the outcome that is decided of it by what was known and by what was captured before it, by the calls for
-- that and no others. None is left where all were found, and then the status is that of what was found in all rounds. Or the round broke off
-- after what was found, which stays done: where the volume is full, so that messages are left, and else with a failure.
pub record IsWhole {A : Type 0} (keeper : Keeper A Archive) (terms : Terms) (p : Progress) (before after : ImportRoom A)
    (done : Result Bool Failure) : Type 0 where
  pub findings : List Finding
  pub calls : Goes keeper before (flat_map course findings) after
  pub right : (first : FirstRecords) → Knows p.known first → AreRight terms first findings
  pub none_left : IfOk done (λ is_left. is_left ≡ false)
  pub ended : EndsWith (status_of (tallied_all findings p.tally)) (ended_so done)

pub record IsBroken {A : Type 0} (keeper : Keeper A Archive) (terms : Terms) (p : Progress) (before after : ImportRoom A) (q : Progress)
    (done : Result Bool Failure) : Type 0 where
  pub findings : List Finding
  pub ending : Ending
  pub mid : ImportRoom A
  pub between : Progress
  pub calls : Goes keeper before (flat_map course findings) mid
  pub last : Goes keeper mid (last_course ending) after
  pub tally : between.tally ≡ tallied_all findings p.tally
  pub right : (first : FirstRecords) → Knows p.known first → AreRight terms first findings
      × IsEnding terms (known_after_all findings first) ending × Knows between.known (known_after_all findings first)
  pub ends : EndsSo ending between q
  pub left : IfOk done (λ is_left. is_left ≡ true)
  pub ended : is_ok done ≡ after.is_full

abbrev pub IsImport : {A : Type 0} → Keeper A Archive → Terms → Progress → (before after : ImportRoom A) → Progress → Result Bool Failure → Type 0
IsImport keeper terms p before after q done = IsWhole keeper terms p before after done ⊎ IsBroken keeper terms p before after q done

-- HOW A ROUND OVER THESE SOURCES ENDED: as the last one; or with a next one, which goes on with the same job, by what is known and counted now,
-- and where this one ended; or with a failure
abbrev pub round_by : {A : Type 0} → ImportRoom A → (sources : Vec Source Global) → Progress → Result Bool Failure
    → Result (Round MailImport ImportRounds) Failure
round_by room sources q (Err failure) = Err failure
round_by room sources q (Ok false) = Ok Done
round_by room sources q (Ok true) = Ok (NextVolume (record room.job { sources = sources }) (record {
  progress = q;
  has_begun = true;
  reached = room.reached;
  files = room.files;
  has_spoken = room.has_spoken;
}))

-- A ROUND OF AN IMPORT INTO AN ARCHIVE by these rules: at a desk over it, which has the archive afterwards
pub record ImportsInto {A : Type 0} (keeper : Keeper A Archive) (job : MailImport) (rounds : ImportRounds) (place : Place) (store : A)
    (result : A × Result (Round MailImport ImportRounds) Failure) : Type 0 where
  pub before : ImportRoom A
  pub after : ImportRoom A
  pub progress : Progress
  pub ended : Result Bool Failure
  pub rules : before.job.filing ≡ job.filing
  pub place_is : before.place ≡ place
  pub begins : BeginsAfter rounds before
  pub desk : IsDeskOf keeper job.filing store before.desk
  pub done : IsImport keeper job.terms rounds.progress before after progress ended
  pub round : result.1 ≡ round_by after job.sources progress ended
  pub given_back : result.0 ≡ after.desk.store

-- or there is no desk for it, and the archive is given back
abbrev pub IsImportOf : {A : Type 0} → Keeper A Archive → MailImport → ImportRounds → Place → (store : A)
    → A × Result (Round MailImport ImportRounds) Failure → Type 0
IsImportOf keeper job rounds place store result = ImportsInto keeper job rounds place store result
    ⊎ ((failure : Failure) × (result.1 ≡ Err failure) × IsGivenBack keeper job.filing store result.0 failure)

-- THE SAME INTO A LEDGER, which from then on notes with each capture what gave its moment, and is as it was else
pub record ImportsNoting {S K : Type 0} (keeper : Keeper (Ledger S K) Archive) (job : MailImport) (rounds : ImportRounds) (place : Place)
    (store : Ledger S K) (result : Ledger S K × Result (Round MailImport ImportRounds) Failure) : Type 0 where
  pub noting : Ledger S K
  pub kept : noting.kept ≡ store.kept
  pub notes : noting.occasion.notes.now ≡ notes_of job.asked
  pub done : IsImportOf keeper job rounds place noting result
