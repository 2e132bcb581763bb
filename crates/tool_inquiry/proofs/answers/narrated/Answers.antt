use Rattle.std.proofs.Common.{◌∙◌, ap}
use Rattle.sieve_meaning.specs.Meaning.{meaning}
use Rattle.sieve_meaning.specs.Outcome.{outcome_of}
use Rattle.sieve_check.specs.declared.checked.Checked.{Checked}
use Rattle.sieve_library.specs.Libraries.{library_of, program_in}
use Rattle.tool_inquiry.specs.Inquiries.{library_in, main_name, program_of, facts_asked}
use Rattle.tool_inquiry.proofs.OutcomeLemmas.{outcome_meant}
use Rattle.tool_inquiry.proofs.answers.narrated.Goals as goal

pub returns : goal.returns
returns c =
    let inquiry = c.args.inquiry.now in
    let scripts = inquiry.scripts.now in
    let script = c.script.ensures.value ∙ ap (λ (k : Checked). k.script) c.deref.ensures in
    let shelves = c.shelves.ensures ∙ c.library.ensures in
    c.in_ok-outcome.ensures
    ∙ (λ i. outcome_of (meaning (c.requires.case i) (library_of (shelves i)) (c.name.ensures i) (program_in (script i))))
    ∙ outcome_meant (facts_asked inquiry) (library_in scripts) (main_name scripts) (program_of scripts) c.requires.light
