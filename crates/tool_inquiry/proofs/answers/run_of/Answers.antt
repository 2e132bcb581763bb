use Rattle.std.proofs.Common.{◌∙◌, sym}
use Rattle.tool_inquiry.specs.Inquiries.{library_in, main_name, program_of, facts_asked}
use Rattle.tool_inquiry.proofs.OutcomeLemmas.{heavy_outcome}
use Rattle.tool_inquiry.proofs.answers.run_of.Goals as goal

pub returns-in_default-clause-outcome : goal.returns-in_default-clause-outcome
returns-in_default-clause-outcome c =
    let inquiry = c.args.inquiry.now in
    let scripts = inquiry.scripts.now in
    let heavy = rw c.in_default.is at c.in_ok-program.ensures.image in
    c.in_ok-fault_alone.ensures.at_end
    ∙ sym (heavy_outcome (facts_asked inquiry) (library_in scripts) (main_name scripts) (program_of scripts) heavy)
