-- What a session answers of a text that is sent as a script (RFC 5228, sections 2.10.6 and 8).
use Rattle.std.specs.Prelude.{◌≡◌, ℕ, Bool, true, List, [], ◌∷◌, Option, Some, None, nat_eq, nat_lt, if◌then◌else◌}
use Rattle.sieve_syntax.specs.Tree.{CommandTrees}
use Rattle.sieve_text.specs.Grammar.{IsScript, Explains, text_number}
use Rattle.sieve_text.specs.declared.fault.TextFault.TheVariants.{Refused}
use Rattle.sieve_check.specs.Faults.{number_of}
use Rattle.sieve_check.specs.Rules.{refusal_of}
use Rattle.tool_findings.specs.declared.judgement.Judgement.{Judgement}
use Rattle.tool_findings.specs.declared.findings.Finding.{Finding}
use Rattle.tool_findings.specs.declared.findings.Report.{Report}
use Rattle.tool_findings.specs.declared.judgement.Judgement.TheVariants.{Good, Text, Rule}

-- A good script has a tree that breaks no rule. A text that is refused by a rule has a tree whose first faulty command
-- breaks it. A text that is refused as a text lacks what the refusal says.
abbrev pub IsJudgement : List ℕ → Judgement → Type 0
IsJudgement text Good = (t : CommandTrees) × IsScript text t × (refusal_of t ≡ None)
IsJudgement text (Text refusal at) = Explains text (Refused refusal at)
IsJudgement text (Rule fault) = (t : CommandTrees) × IsScript text t × (refusal_of t ≡ Some (number_of fault))

abbrev pub refusal_number : Judgement → ℕ
refusal_number Good = 0
refusal_number (Text refusal at) = text_number refusal
refusal_number (Rule fault) = number_of fault

abbrev pub IsRefusal : Judgement → Type 0
IsRefusal Good = ⊥
IsRefusal (Text refusal at) = Unit {0}
IsRefusal (Rule fault) = Unit {0}

-- what kind of judgement gives a number: 1 of the tokens, 2 of the grammar, 3 of the rules
abbrev pub stage : ℕ → ℕ
stage number = if nat_lt number 20 then 1 else if nat_lt number 30 then 2 else 3

-- one number is greater than another or, where they are the same, this holds
abbrev pub greater_or : ℕ → ℕ → Bool → Bool
greater_or m n same = if nat_eq m n then same else nat_lt n m

-- A finding comes after another one: by its stage, then by its offset, then by its number, then by the place where it is
-- shown. So none comes after itself.
abbrev pub comes_after : Finding → Finding → Bool
comes_after f g = greater_or (stage f.number) (stage g.number) (greater_or f.at g.at (greater_or f.number g.number (nat_lt g.place f.place)))

-- each of the findings comes after the one before, and the first one after this finding
abbrev pub Rises : Finding → List Finding → Type 0
Rises f [] = Unit {0}
Rises f (g ∷ gs) = (comes_after g f ≡ true) × Rises g gs

-- A report is there exactly where the text is refused. Its first finding has the number of the refusal, and no finding is
-- told twice.
abbrev pub IsReport : List ℕ → Option Report → Type 0
IsReport text None = IsJudgement text Good
IsReport text (Some report) = ((j : Judgement) × IsJudgement text j × IsRefusal j × (report.verdict.number ≡ refusal_number j))
    × Rises report.verdict report.others.items
