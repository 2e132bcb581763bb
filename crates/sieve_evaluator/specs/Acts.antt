-- What a command does that is no open branch and no include (RFC 5228, sections 3 and 4; RFC 3894; RFC 6609, section
-- 3.3).
use Rattle.std.specs.Prelude.{List, Bool, true, false, codes}
use Rattle.sieve_syntax.specs.declared.tree.Argument.{Argument}
use Rattle.class_paths.specs.Paths.{insert_path}
use Rattle.sieve_meaning.specs.declared.run_fault.RunFault.TheVariants.{ClassNotOpen}
use Rattle.sieve_meaning.specs.declared.words.CommandWord.{CommandWord}
use Rattle.sieve_meaning.specs.declared.words.CommandWord.TheVariants as words
use Rattle.sieve_meaning.specs.Case.{Facts}
use Rattle.sieve_meaning.specs.Reading.{string_lists, first_string, has_tag}
use Rattle.sieve_meaning.specs.Meaning as meaning
use Rattle.sieve_meaning.specs.Meaning.{Included}
use Rattle.sieve_evaluator.specs.Runs.{PlainlyEnds}
use Rattle.sieve_evaluator.specs.declared.observer.Act.{Act}
use Rattle.sieve_evaluator.specs.declared.observer.Act.TheVariants as acts

-- a `fileinto`, given whether its class is open and whether it has `:copy`
abbrev pub filing_act : Bool → Bool → Act
filing_act true true = acts.Copies
filing_act true false = acts.Files
filing_act false copy = acts.Refuses

-- a command with this word and these arguments, which is no open branch
abbrev pub act_in : Facts → CommandWord → List Argument → Act
act_in facts words.Require args = acts.Nothing
act_in facts words.If args = acts.Nothing
act_in facts words.ElsIf args = acts.Passes
act_in facts words.Else args = acts.Passes
act_in facts words.Stop args = acts.Stops
act_in facts words.Keep args = acts.Keeps
act_in facts words.Discard args = acts.Discards
act_in facts words.Return args = acts.Returns
act_in facts words.FileInto args = filing_act (facts.is_open (first_string (string_lists false args)))
    (has_tag (codes "copy") args)
act_in facts words.Include args = acts.Nothing
act_in facts words.Other args = acts.Nothing

-- what a run has done after an act of a command with these arguments, and whether it goes on
abbrev pub done_by : Act → List Argument → meaning.Filing → meaning.Ending
done_by acts.Nothing args f = meaning.GoesOn f
done_by acts.Passes args f = meaning.GoesOn f
done_by acts.Stops args f = meaning.Stops f
done_by acts.Returns args f = meaning.Returns f
done_by acts.Keeps args f = meaning.GoesOn (record f { kept = true })
done_by acts.Discards args f = meaning.GoesOn (record f { cancelled = true })
done_by acts.Files args f = meaning.GoesOn (record f { filed = insert_path (first_string (string_lists false args)) f.filed; cancelled = true })
done_by acts.Copies args f = meaning.GoesOn (record f { filed = insert_path (first_string (string_lists false args)) f.filed })
done_by acts.Refuses args f = meaning.Faults ClassNotOpen f

-- any command but `if` and `include`
abbrev pub IsPlain : CommandWord → Type 0
IsPlain words.If = ⊥
IsPlain words.Include = ⊥
IsPlain word = Unit {0}

-- a command that is no open branch does what its act says, whatever stands with it
abbrev pub ActsAreDone : Type 0
ActsAreDone = (facts : Facts) (inc : Included) (word : CommandWord) (args : List Argument) (f : meaning.Filing) →
    IsPlain word → PlainlyEnds facts inc word args f (done_by (act_in facts word args) args f)
