use Rattle.std.proofs.Common.{◌≡◌, ◌++◌, [], drop, map}
use Rattle.csv.specs.Records.{fields_of, partial_of}
use Rattle.cli_texts.specs.Rows.{cell}
use Rattle.cli_texts.proofs.rows.cells_of.Given as goal

abbrev pub invariant-loop-field : goal.invariant-loop-field
invariant-loop-field l = record {
  cells : fields_of l.cells ++ map cell (map (λ f. f.now) (drop l.field-index l.fields)) ≡ map cell (map (λ f. f.now) l.fields);
  whole : partial_of l.cells ≡ [];
}
