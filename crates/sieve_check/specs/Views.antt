-- What the rows of the code represent.
use Rattle.std.specs.Prelude.{map}
use Rattle.sieve_check.specs.Tables.{CapabilityWord, TagWord, WordForm, CommandWord, TestWord}
use Rattle.sieve_check.specs.declared.table.CapabilityRow.{CapabilityRow}
use Rattle.sieve_check.specs.declared.table.TagRow.{TagRow}
use Rattle.sieve_check.specs.declared.table.Form.{Form}
use Rattle.sieve_check.specs.declared.table.CommandRow.{CommandRow}
use Rattle.sieve_check.specs.declared.table.TestRow.{TestRow}

abbrev pub capability_view : CapabilityRow → CapabilityWord
capability_view r = record { text = r.text.now; capability = r.capability }

abbrev pub tag_view : TagRow → TagWord
tag_view r = record { name = r.name.now; kind = r.kind; needs = r.needs; names_comparator = r.names_comparator }

abbrev pub form_view : Form → WordForm
form_view f = record { needs = f.needs; tags = map tag_view f.tags.now; needs_tag = f.needs_tag; positional = f.positional.now; tests = f.tests }

abbrev pub command_view : CommandRow → CommandWord
command_view r = record { name = r.name.now; role = r.role; form = form_view r.form; has_block = r.has_block }

abbrev pub test_view : TestRow → TestWord
test_view r = record { name = r.name.now; form = form_view r.form }
