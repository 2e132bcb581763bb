-- The records of a volume in a report, behind those of the volumes before it.
use Rattle.std.proofs.Common.{◌≡◌, ◌++◌, ◌∷◌, [], ℕ, List, Some, refl, subst, sym}
use Rattle.record_archive.specs.Archive.{Archive}
use Rattle.record_choice.specs.declared.entry.RecordEntry.{RecordEntry}
use Rattle.cli_page.specs.declared.report.Report.{Report}
use Rattle.cli_readings.specs.Reports.{Reports, ReportsMore}
use Rattle.cli_readings.specs.VolumeReports.{Reported, ReportsAll, ReportsVolume, reported_of}
use Rattle.cli_readings.specs.declared.report.Reporting.{Reporting}
use Rattle.cli_readings.specs.declared.volume_reports.VolumeReport.{VolumeReport}

-- a volume more, behind the others
pub reports_joined : (vs : List Reported) (v : Reported) (x y z : Report) → ReportsAll vs x y
    → Reports (Some v.volume) v.plan y v.records z → ReportsAll (vs ++ v ∷ []) x z
reports_joined [] v x y z are one = (z, subst (λ r. Reports (Some v.volume) v.plan r v.records z) (sym are) one, refl)
reports_joined (w ∷ vs) v x y z are one = (are.0, are.1, reports_joined vs v are.0 y z are.2 one)

-- the report as it is once the records of a volume are to come
abbrev pub for_volume : ℕ → Reporting → Reporting
for_volume v x = record x { volume = Some v }

pub volume_reported : (v : ℕ) (x : VolumeReport) (after : Reporting) (a : Archive) (es : List RecordEntry)
    → ReportsMore (for_volume v x.reporting) a es after → ReportsVolume (reported_of v a.plan es) x (record x { reporting = after })
volume_reported v x after a es more = λ vs begun are.
    reports_joined vs (reported_of v a.plan es) begun x.reporting.report after.report are more.reports
