-- What a report is about.
use Rattle.std.specs.Prelude.{◌≡◌}
use Rattle.class_plan.specs.Plans.{is_open_in}
use Rattle.mail_case.specs.Message.{case_of}
use Rattle.sieve_evaluator.specs.Case.{facts_of}
use Rattle.tool_report.specs.declared.report.Report.{Report}

-- the fields and values that a report shows are those of its message, and the open classes those of its plan
abbrev pub IsOfMessage : Report → Type 0
IsOfMessage r = facts_of r.case.now ≡ case_of r.message.now (is_open_in r.plan.now)
