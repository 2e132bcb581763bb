use Rattle.std.proofs.Common.{◌≡◌, drop, map}
use Rattle.serde_json.specs.View.{members_view}
use Rattle.cli_texts.specs.EventValues.{field_member}
use Rattle.cli_texts.specs.Json.{with_members}
use Rattle.cli_texts.proofs.events.add_fields.Given as goal

abbrev pub invariant-loop-field : goal.invariant-loop-field
invariant-loop-field l =
    with_members (map field_member (drop l.field-index l.fields)) (members_view l.members.entries)
    ≡ with_members (map field_member l.fields) (members_view l.initial.members.entries)
