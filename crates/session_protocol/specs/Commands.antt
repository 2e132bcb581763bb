-- The commands that lines ask, by the payloads that follow them, and the limits of these in octets.
use Rattle.std.specs.Prelude.{ℕ, List}
use Rattle.class_plan.specs.Calendar.{number_of_day}
use Rattle.desk_commands.specs.Limits.{greatest_image, greatest_message, greatest_plan, greatest_script}
use Rattle.desk_commands.specs.Office as office
use Rattle.desk_commands.specs.Standing.{Command, plain, begin, turn, finish}
use Rattle.session_protocol.specs.declared.requests.NoPayload.{NoPayload}
use Rattle.session_protocol.specs.declared.requests.NoPayload.TheVariants as none
use Rattle.session_protocol.specs.declared.requests.OnePayload.{OnePayload}
use Rattle.session_protocol.specs.declared.requests.OnePayload.TheVariants as one
use Rattle.session_protocol.specs.declared.requests.TwoPayloads.{TwoPayloads}
use Rattle.session_protocol.specs.declared.requests.TwoPayloads.TheVariants as two

abbrev pub command_of : NoPayload → Command
command_of (none.AddClass path) = plain (office.add_class path.now)
command_of (none.Activate officer name) = plain (office.activate officer.now name.now)
command_of (none.Deactivate officer) = plain (office.deactivate officer.now)
command_of (none.Turn ticket count) = turn ticket count
command_of (none.Finish ticket) = finish ticket
command_of (none.Hold name number) = plain (office.hold name.now number)
command_of (none.Release name number) = plain (office.release name.now number)
command_of (none.Due day) = plain (office.due (number_of_day day.date))
command_of (none.Destroy number day) = plain (office.destroy number (number_of_day day.date))

abbrev pub one_command : OnePayload → List ℕ → Command
one_command one.SetPlan = λ payload. plain (office.set_plan payload)
one_command (one.SetScript officer name) = λ payload. plain (office.set_script officer.now name.now payload)
one_command (one.SetGlobal name) = λ payload. plain (office.set_global name.now payload)
one_command (one.SetImage officer) = λ payload. plain (office.set_image officer.now payload)
one_command (one.Begin officer moment) = λ payload. begin officer.now moment payload

abbrev pub one_limit : OnePayload → ℕ
one_limit one.SetPlan = greatest_plan
one_limit (one.SetScript officer name) = greatest_script
one_limit (one.SetGlobal name) = greatest_script
one_limit (one.SetImage officer) = greatest_image
one_limit (one.Begin officer moment) = greatest_message

abbrev pub two_command : TwoPayloads → List ℕ → List ℕ → Command
two_command two.File = λ first second. plain (office.file first second)
two_command two.Try = λ first second. plain (office.try_image first second)

abbrev pub two_limits : TwoPayloads → ℕ × ℕ
two_limits two.File = (greatest_script, greatest_message)
two_limits two.Try = (greatest_image, greatest_message)
