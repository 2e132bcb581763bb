use Rattle.std.proofs.Common.{sym, subst, rules}
use Rattle.filing_image.specs.Program.{Program}
use Rattle.filing_verify.specs.Well.{IsWell}
use Rattle.desk_officers.proofs.EndLemmas.{ends_well}
use Rattle.desk_officers.proofs.pinned.single.Goals as goal

pub known-requires : goal.known-requires
known-requires c = let P : Program → Type 0 = IsWell in subst P (sym (search rules)) (ends_well c.args.operation c.requires)
