-- The faults of a text as faults of a question.
use Rattle.sieve_text.specs.declared.fault.TextFault.{TextFault}
use Rattle.sieve_text.specs.declared.fault.TextFault.TheVariants as texts
use Rattle.record_question.specs.declared.fault.QuestionFault.{QuestionFault}
use Rattle.record_question.specs.declared.fault.QuestionFault.TheVariants as faults

abbrev pub of_text : TextFault → QuestionFault
of_text texts.NoMemory = faults.NoMemory
of_text (texts.Refused refusal at) = faults.Text refusal at
