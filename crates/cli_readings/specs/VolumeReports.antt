-- The report on an archive of volumes: the records of each volume, one after another, in one report.
use Rattle.std.specs.Prelude.{◌≡◌, ℕ, List, [], ◌∷◌, ◌++◌, Some}
use Rattle.class_plan.specs.Plans.{Listing}
use Rattle.record_choice.specs.declared.entry.RecordEntry.{RecordEntry}
use Rattle.cli_page.specs.declared.report.Report.{Report}
use Rattle.cli_readings.specs.Reports.{Reports}
use Rattle.cli_readings.specs.declared.volume_reports.VolumeReport.{VolumeReport}

-- what is reported of a volume: its number, its plan, and the records of it that are reported
pub record Reported : Type 0 where
  pub volume : ℕ
  pub plan : Listing
  pub records : List RecordEntry

abbrev pub reported_of : (volume : ℕ) → Listing → List RecordEntry → Reported
reported_of v plan es = record { volume = v; plan = plan; records = es }

-- THE RECORDS OF VOLUMES ARE ADDED, those of one volume after another, each with the number of its volume, and nothing else
abbrev pub ReportsAll : List Reported → (begun after : Report) → Type 0
ReportsAll [] begun after = begun ≡ after
ReportsAll (v ∷ vs) begun after =
    (next : Report) × Reports (Some v.volume) v.plan begun v.records next × ReportsAll vs next after

-- THE RECORDS OF A NEXT VOLUME ARE ADDED behind those of the volumes before it, whichever these are, and nothing else
abbrev pub ReportsVolume : Reported → (old new : VolumeReport) → Type 0
ReportsVolume v old new =
    (vs : List Reported) (begun : Report) → ReportsAll vs begun old.reporting.report → ReportsAll (vs ++ v ∷ []) begun new.reporting.report
