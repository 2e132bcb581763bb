use Rattle.tool_inquiry.specs.Inquiries.{library_in, main_name, program_of, facts_asked}
use Rattle.tool_inquiry.proofs.OutcomeLemmas.{outcome_of_run}
use Rattle.tool_inquiry.proofs.answers.image_outcome.Goals as goal

pub returns-clause-outcome : goal.returns-clause-outcome
returns-clause-outcome c =
    let inquiry = c.args.inquiry.now in
    let scripts = inquiry.scripts.now in
    let ran = rw c.in_ok-case.ensures.case at c.in_ok-run.ensures.outcome in
    outcome_of_run c.a_run_ends_once.ensures.outcome (facts_asked inquiry) (library_in scripts) (main_name scripts)
    (program_of scripts) c.args.program.now c.in_ok-run.field-0.steps c.in_ok-run.field-0.outcome c.requires.compiled c.requires.light ran
