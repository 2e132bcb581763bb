use Rattle.std.proofs.Common.{refl}
use Rattle.command_lines.proofs.archives.holds.whole_asked.Goals as goal

pub returns : goal.returns
returns c = record {
  name = refl;
  agreed = c.has_flag.ensures;
  unnamed = (c.in_ok-typed_of.field-0, c.in_ok-typed_of.ensures, (cc));
}
