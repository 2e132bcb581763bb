use Rattle.std.proofs.Common.{◌≡◌, List, ℕ, Vec, Global, Option, Bor, map, filter, option_map, subst, ap, ◌∙◌}
use Rattle.sieve_check.specs.declared.checked.Checked.{Checked}
use Rattle.sieve_syntax.specs.declared.tree.Script.{Script}
use Rattle.sieve_syntax.specs.View.{tree_of}
use Rattle.sieve_meaning.specs.declared.scripts.ScriptName.{ScriptName}
use Rattle.sieve_meaning.specs.Reading.{program_of}
use Rattle.sieve_meaning.specs.Scripts.{script_of}
use Rattle.sieve_library.specs.BorrowedShelves.{scripts_of}
use Rattle.sieve_library.specs.Libraries.{library_of}
use Rattle.filing_procedures.specs.Slots.{slots_of, IsAt}
use Rattle.filing_procedures.specs.IncludedScripts.{is_there, names_there}
use Rattle.filing_procedures.specs.ReachTables.{IsRow}
use Rattle.filing_procedures.proofs.ReachTables.{if_ok_more, row_is}
use Rattle.filing_procedures.proofs.reach.included_slots.Goals as goal

pub returns : goal.returns
returns c =
    let l = scripts_of c.args.shelves in
    let lib = library_of l in
    let script = program_of (tree_of c.in-Some.script.now.script) in
    let at = subst (λ (o : Option (Bor Checked)).
    IsAt l c.args.slot (option_map (λ (b : Bor Checked). program_of (tree_of b.now.script)) o)) c.in-Some.is
    c.script_at.ensures in
    if_ok_more (λ (v : Vec ℕ Global).
    v.items ≡ map (slots_of l) (filter (is_there lib) (map script_of c.deref.result.now))) (λ (v : Vec ℕ Global).
    IsRow l c.args.slot v.items) c.slots_of_names.result
    (λ v is. row_is l c.args.slot script at v.items
    (is
    ∙ ap (λ (names : List ScriptName). map (slots_of l) (filter (is_there lib) (map script_of names))) c.deref.ensures.value
    ∙ ap (λ ns. map (slots_of l) (filter (is_there lib) ns)) c.in_ok-names.ensures
    ∙ ap (λ (x : Script). map (slots_of l) (filter (is_there lib) (names_there lib (program_of (tree_of x)))))
    c.script.ensures.value)) c.slots_of_names.ensures
