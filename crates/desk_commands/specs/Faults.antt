-- The numbers of refusals.
use Rattle.std.specs.Prelude.{ℕ, Bool, nat_le, ◌&&◌, ◌||◌, ◌==◌, if◌then◌else◌, Some, None}
use Rattle.sieve_text.specs.declared.fault.TextFault.{TextFault}
use Rattle.sieve_text.specs.declared.fault.TextFault.TheVariants as texts
use Rattle.sieve_text.specs.Grammar.{text_number}
use Rattle.sieve_check.specs.Faults as check
use Rattle.class_plan.specs.declared.faults.PlanFault.{PlanFault}
use Rattle.class_plan.specs.declared.faults.PlanFault.TheVariants as plans
use Rattle.class_plan.specs.Faults as plan
use Rattle.sieve_library.specs.declared.fault.LibraryFault.{LibraryFault}
use Rattle.sieve_library.specs.declared.fault.LibraryFault.TheVariants as libraries
use Rattle.filing_image.specs.declared.fault.FormFault.{FormFault}
use Rattle.filing_image.specs.declared.fault.FormFault.TheVariants as forms
use Rattle.filing_verify.specs.declared.fault.VerifyFault.{VerifyFault}
use Rattle.filing_verify.specs.declared.fault.VerifyFault.TheVariants as verify
use Rattle.filing_verify.specs.Well.{verify_number}
use Rattle.record_archive.specs.Faults as archives
use Rattle.record_archive.specs.declared.fault.ArchiveFault.{ArchiveFault}
use Rattle.record_archive.specs.declared.fault.ArchiveFault.TheVariants.{Refused, Database, NoMemory}
use Rattle.record_archive.specs.declared.fault.ArchiveRefusal.{ArchiveRefusal}
use Rattle.record_archive.specs.declared.fault.ArchiveRefusal.TheVariants as archive
use Rattle.desk_commands.specs.declared.fault.Refusal.{Refusal}
use Rattle.desk_commands.specs.declared.fault.DeskFault.{DeskFault}
use Rattle.desk_commands.specs.declared.fault.DeskFault.TheVariants as faults
use Rattle.desk_commands.specs.Answers.{Answer, refused}

-- the faults of the parts, as faults of the desk
abbrev pub text_fault : TextFault → DeskFault
text_fault texts.NoMemory = faults.NoMemory
text_fault (texts.Refused r at) = faults.Text r at

abbrev pub plan_fault : PlanFault → DeskFault
plan_fault plans.NoMemory = faults.NoMemory
plan_fault f = faults.Plan f

abbrev pub library_fault : LibraryFault → DeskFault
library_fault libraries.NoMemory = faults.NoMemory
library_fault libraries.Full = faults.LibraryFull

abbrev pub form_fault : FormFault → DeskFault
form_fault forms.NoMemory = faults.NoMemory
form_fault forms.BadForm = faults.ImageForm

abbrev pub verify_fault : VerifyFault → DeskFault
verify_fault verify.NoMemory = faults.NoMemory
verify_fault f = faults.Image f

-- the faults of an archive
abbrev pub refusal_fault : ArchiveRefusal → DeskFault
refusal_fault (archive.Plan f) = plan_fault f
refusal_fault r = faults.Archive r

abbrev pub archive_fault : {E : Type 0} → ArchiveFault E → DeskFault
archive_fault NoMemory = faults.NoMemory
archive_fault (Refused r) = refusal_fault r
archive_fault (Database e) = faults.Database

-- whether a refusal with this number is shown with its offset
abbrev pub has_place : ℕ → Bool
has_place n = (nat_le 11 n && nat_le n 14) || ((n == 16) || ((n == 20) || (n == 21)))

abbrev pub refusal_of : DeskFault → Refusal
refusal_of faults.NoMemory = record { number = 99; offset = None }
refusal_of (faults.Text r at) = record { number = text_number r; offset = if has_place (text_number r) then Some at else None }
refusal_of (faults.Check f) = record { number = check.number_of f; offset = None }
refusal_of (faults.Plan f) = record { number = plan.number_of f; offset = None }
refusal_of faults.PlanTooLong = record { number = 58; offset = None }
refusal_of faults.ImageTooLong = record { number = 61; offset = None }
refusal_of faults.ImageForm = record { number = 60; offset = None }
refusal_of (faults.Image f) = record { number = verify_number f; offset = None }
refusal_of faults.MessageTooLong = record { number = 95; offset = None }
refusal_of faults.LibraryFull = record { number = 96; offset = None }
refusal_of (faults.Archive r) = record { number = archives.number_of r; offset = None }
refusal_of faults.Database = record { number = 89; offset = None }
refusal_of faults.TooManyInFlight = record { number = 90; offset = None }
refusal_of faults.NoTicket = record { number = 91; offset = None }
refusal_of faults.NotEnded = record { number = 92; offset = None }
refusal_of faults.NoScript = record { number = 93; offset = None }
refusal_of faults.BadMoment = record { number = 94; offset = None }
refusal_of faults.TicketsUsedUp = record { number = 97; offset = None }

abbrev pub refused_by : DeskFault → Answer
refused_by f = refused (refusal_of f).number (refusal_of f).offset
