use Rattle.std.proofs.Common.{◌≡◌, ◌==◌, ◌∙◌, List, ap, length, refl, subst, ℕ}
use Rattle.record_archive.specs.Archive.{Archive}
use Rattle.cli_readings.specs.Groups.{key_of}
use Rattle.cli_readings.specs.Twice.{IsBeside, beside_record}
use Rattle.cli_readings.proofs.volume_twice.GroupRows.add_row.Goals as goal

pub returns-clause-added : goal.returns-clause-added
returns-clause-added g c = λ clean (a : Archive) s.
    let group = c.args.self.now in
    let row = c.in_ok-row.row in
    let beside = beside_record c.args.listing.format (key_of group.keyed.0) in
    let first : c.is_empty-is_first.result ≡ (length group.rows.items == 0) =
    c.is_empty-is_first.ensures ∙ ap (λ n. n == 0) group.rows.ok.0 in
    let is = subst (λ t. IsBeside a c.args.listing t c.is_empty-is_first.result c.args.sealed row.items)
    (c.as_str.ensures.value ∙ c.in_ok-beside.ensures) (c.in_ok-row.ensures.row clean a s) in record {
      row = row;
      is = subst (λ b. IsBeside a c.args.listing beside b c.args.sealed row.items) first is;
      added = c.in_ok-push.ensures.items;
      keyed = refl;
    }
