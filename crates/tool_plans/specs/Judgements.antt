-- What a session answers of a text that is sent as a plan.
use Rattle.std.specs.Prelude.{◌≡◌, ℕ, List, Option, Some, None, Err, IsOk}
use Rattle.class_plan.specs.Document.{plan_of_text}
use Rattle.tool_plans.specs.declared.findings.Report.{Report}

-- A report is there exactly where the text is refused, and its refusal is that of the text.
abbrev pub IsReport : List ℕ → Option Report → Type 0
IsReport text None = IsOk (plan_of_text text)
IsReport text (Some report) = plan_of_text text ≡ Err report.refusal.fault
