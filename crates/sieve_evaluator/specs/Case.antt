-- The case of a message, as it is given to the evaluator.
use Rattle.std.specs.Prelude.{ℕ, List, Bool, map}
use Rattle.std.specs.List.{list_any}
use Rattle.class_paths.specs.Paths.{Paths}
use Rattle.sieve_meaning.specs.declared.matching.MatchType.{MatchType}
use Rattle.sieve_meaning.specs.declared.matching.Comparator.{Comparator}
use Rattle.sieve_meaning.specs.Case.{Facts, Field, is_named}
use Rattle.sieve_meaning.specs.Matching.{key_matches}
use Rattle.mail_case.specs.Message.{is_among}
use Rattle.sieve_evaluator.specs.declared.case.BorrowedCase.{BorrowedCase}
use Rattle.sieve_evaluator.specs.declared.case.BorrowedField.{BorrowedField}

-- a field with its value
abbrev pub field_of : BorrowedField → Field
field_of f = record { name = f.name.now; value = f.value.items }

-- whether a field has one of these names
abbrev pub has_some_name : (names : List (List ℕ)) → BorrowedField → Bool
has_some_name names f = list_any (λ name. is_named name (field_of f)) names

-- whether the value of a field matches one of these keys
abbrev pub has_some_match : MatchType → Comparator → (keys : List (List ℕ)) → BorrowedField → Bool
has_some_match how comparator keys f = list_any (λ key. key_matches how comparator key (field_of f).value) keys

-- what a run can learn of a message, where a function answers which paths are open
abbrev pub facts_by : {P : Type 0} → (P → List ℕ → Bool) → BorrowedCase P → Facts
facts_by opens c = record { size = c.size; fields = map field_of c.fields.items; is_open = opens c.paths }

-- what a case means whose open classes are those of a set
abbrev pub facts_of : BorrowedCase Paths → Facts
facts_of c = facts_by is_among c
