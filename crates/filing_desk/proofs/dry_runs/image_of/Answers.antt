use Rattle.std.proofs.Common.{◌≡◌, rules, subst}
use Rattle.std.specs.Prelude.{◌≢◌, ◌↔◌, Err, IfOk, None}
use Rattle.sieve_syntax.specs.View.{tree_of}
use Rattle.sieve_meaning.specs.Meaning.{Library}
use Rattle.sieve_meaning.specs.Reading.{program_of}
use Rattle.sieve_meaning.specs.TooHeavy.{IsTooHeavy}
use Rattle.filing_flow.specs.Compiled.{IsCompiled}
use Rattle.filing_gen.specs.declared.fault.GenFault.TheVariants.{NoMemory, TooLarge}
use Rattle.filing_desk.proofs.ScriptLemmas.{library_meant}
use Rattle.filing_desk.proofs.dry_runs.image_of.Goals as goal

pub returns-clause-compiled : goal.returns-clause-compiled
returns-clause-compiled c =
    let main = program_of (tree_of c.args.script.now.script) in
    let P : Library → Type 0 = λ l. IfOk c.compile_with.result (IsCompiled l None main) in
    subst P (library_meant _ c.args.globals.now (search rules)) c.compile_with.ensures.compiled

pub returns-clause-too_large : goal.returns-clause-too_large
returns-clause-too_large c =
    let main = program_of (tree_of c.args.script.now.script) in
    let r = c.compile_with.result in
    let P : Library → Type 0 = λ l. r ≢ Err NoMemory → r ≡ Err TooLarge ↔ IsTooHeavy l None main in
    subst P (library_meant _ c.args.globals.now (search rules)) c.compile_with.ensures.too_large
