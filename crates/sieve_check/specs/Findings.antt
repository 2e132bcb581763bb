-- What the tags and strings of arguments show of the rules, gathered piece by piece.
use Rattle.std.specs.Prelude.{Bool, false, ◌&&◌, ◌||◌, not, List, [], ◌∷◌}
use Rattle.sieve_check.specs.declared.table.Capability.{Capability}
use Rattle.sieve_check.specs.declared.findings.Findings.{Findings}
use Rattle.sieve_check.specs.Pieces.{PieceWord, is_tagged}
use Rattle.sieve_check.specs.Rules.{piece_lacks, is_unknown_tag, lacks_string, is_unknown_comparator}

abbrev pub no_findings : Findings
no_findings = record { lacks_capability = false; unknown_tag = false; lacks_string = false; unknown_comparator = false; positional = false; late_tag = false; tag = false; two_tags = false }

-- these, and what one more piece shows
abbrev pub findings_with : (Capability → Bool) → Findings → PieceWord → Findings
findings_with has f p = record {
  lacks_capability = f.lacks_capability || piece_lacks has p;
  unknown_tag = f.unknown_tag || is_unknown_tag p;
  lacks_string = f.lacks_string || lacks_string p;
  unknown_comparator = f.unknown_comparator || is_unknown_comparator p;
  positional = f.positional || not (is_tagged p);
  late_tag = f.late_tag || (f.positional && is_tagged p);
  tag = f.tag || is_tagged p;
  two_tags = f.two_tags || (f.tag && is_tagged p);
}

-- these, and what more pieces show
abbrev pub findings_in : (Capability → Bool) → Findings → List PieceWord → Findings
findings_in has f [] = f
findings_in has f (p ∷ ps) = findings_in has (findings_with has f p) ps
