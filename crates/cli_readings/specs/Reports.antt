-- The records of a report.
use Rattle.std.specs.Prelude.{◌≡◌, ℕ, pos, List, [], ◌∷◌, ◌++◌, Option, None}
use Rattle.std.proofs.Common.{refl, subst, sym, ◌∙◌}
use Rattle.class_plan.specs.Plans.{Listing}
use Rattle.cli_page.specs.declared.report.Record.{Record}
use Rattle.cli_page.specs.declared.report.Report.{Report}
use Rattle.cli_page.specs.Seeing.{AddsRecord, report_day}
use Rattle.jiff.specs.Words.{epoch_day}
use Rattle.jiff_core.specs.declared.civil.date.Date.{Date}
use Rattle.record_archive.specs.Archive.{Archive}
use Rattle.record_choice.specs.declared.entry.RecordEntry.{RecordEntry}
use Rattle.cli_readings.specs.declared.report.Reporting.{Reporting}

-- a record as a page reads it: one of a volume, in an archive of volumes
pub record IsRecordOf (volume : Option ℕ) (e : RecordEntry) (r : Record) : Type 0 where
  pub volume_is : r.volume ≡ volume
  pub number : r.number ≡ e.number
  pub path : r.path.now ≡ e.path.items
  pub day : r.day ≡ e.day
  pub due : r.due ≡ e.due
  pub holds : r.holds.now ≡ e.holds.items
  pub destroyed : r.is_destroyed ≡ e.destroyed

-- EACH OF THESE RECORDS IS ADDED, of a store or of a volume, in this order, by a plan, and nothing else
abbrev pub Reports : (volume : Option ℕ) → Listing → Report → List RecordEntry → Report → Type 0
Reports volume plan old [] new = old ≡ new
Reports volume plan old (e ∷ es) new =
    (r : Record) × IsRecordOf volume e r × (next : Report) × AddsRecord plan r old next × Reports volume plan next es new

pub more_reported : (volume : Option ℕ) (plan : Listing) (x y z : Report) (es fs : List RecordEntry) → Reports volume plan x es y
    → Reports volume plan y fs z → Reports volume plan x (es ++ fs) z
more_reported volume plan x y z [] fs one other = subst (λ r. Reports volume plan r fs z) (sym one) other
more_reported volume plan x y z (e ∷ es) fs one other =
    (one.0, one.1, one.2, one.3, more_reported volume plan one.2 y z es fs one.4 other)

-- a report by a day, to which the records of a store are added first
pub record IsReportBy (day : Date) (x : Reporting) : Type 0 where
  pub day_is : epoch_day day ≡ pos (report_day x.report)
  pub alone : x.volume ≡ None

-- THESE RECORDS OF AN ARCHIVE ARE ADDED, in this order, by its plan, and nothing else; the volume stays the same
pub record ReportsMore (old : Reporting) (a : Archive) (es : List RecordEntry) (new : Reporting) : Type 0 where
  pub reports : Reports old.volume a.plan old.report es new.report
  pub volume : new.volume ≡ old.volume

pub none_reports : (x : Reporting) (a : Archive) → ReportsMore x a [] x
none_reports x a = record { reports = refl; volume = refl }

pub more_reports : (x y z : Reporting) (a : Archive) (es fs : List RecordEntry) → ReportsMore x a es y → ReportsMore y a fs z
    → ReportsMore x a (es ++ fs) z
more_reports x y z a es fs one other = record {
  reports = more_reported x.volume a.plan x.report y.report z.report es fs one.reports
      (subst (λ v. Reports v a.plan y.report fs z.report) one.volume other.reports);
  volume = other.volume ∙ one.volume;
}
