use Rattle.std.proofs.Common.{◌≡◌, ◌≤◌, ℕ, List, drop}
use Rattle.class_paths.specs.Path.{is_path}
use Rattle.class_paths.proofs.Segments.{goes_on, Begun}
use Rattle.class_paths.proofs.path.fits_path.Given as goal

abbrev pub invariant-loop-octet : goal.invariant-loop-octet
invariant-loop-octet l = record {
  few : l.closed ≤ 7;
  short : l.run ≤ 40;
  now : (now : List ℕ) × Begun now l.run × (is_path l.path ≡ goes_on l.closed now (drop l.octet-index l.path));
}
