use Rattle.std.proofs.Common.{ℕ, List, [], ◌∷◌, Option, Bor, refl, arith}
use Rattle.std.specs.Option.{option_map}
use Rattle.std.proofs.lemmas.Result.{IfOk-weaker}
use Rattle.sieve_syntax.specs.View.{tree_of}
use Rattle.sieve_meaning.specs.Meaning.{main_names}
use Rattle.sieve_meaning.specs.Reading.{program_of}
use Rattle.filing_procedures.specs.Slots.{slots_of}
use Rattle.sieve_library.specs.BorrowedShelves.{scripts_of}
use Rattle.sieve_library.specs.Libraries.{library_of}
use Rattle.filing_gen.specs.IncludeCode.{linked_flow}
use Rattle.filing_gen.proofs.Types.{flow_typed}
use Rattle.filing_gen.proofs.IncludesTypes.{included_typed}
use Rattle.filing_gen.proofs.Compiled.{room, few, built_well, built}
use Rattle.filing_gen.proofs.program.build.Goals as goal

pub emit_program-requires-clause-room : goal.emit_program-requires-clause-room
emit_program-requires-clause-room c =
    let l = scripts_of c.args.scope.shelves in
    room (library_of l) (slots_of l) c.slot_count-slots.result c.slot_count-slots.ensures.enough
    (option_map (λ (s : Bor (List ℕ)). s.now) c.args.scope.main.known_as) (program_of (tree_of c.args.script.now))
    (omega (arith, c.requires.weight, c.requires.small))

pub emit_program-requires-clause-typed : goal.emit_program-requires-clause-typed
emit_program-requires-clause-typed c =
    let l = scripts_of c.args.scope.shelves in
    let known : Option (List ℕ) = option_map (λ (s : Bor (List ℕ)). s.now) c.args.scope.main.known_as in
    flow_typed (linked_flow (library_of l) (slots_of l) known)
    (included_typed (library_of l) (slots_of l) (main_names known) 7 (main_names known)) 0
    (program_of (tree_of c.args.script.now)) ([] ∷ []) refl

pub image_of-requires-clause-few : goal.image_of-requires-clause-few
image_of-requires-clause-few c =
    let l = scripts_of c.args.scope.shelves in
    few (library_of l) (slots_of l) c.slot_count-slots.result c.slot_count-slots.ensures.enough
    (option_map (λ (s : Bor (List ℕ)). s.now) c.args.scope.main.known_as) (program_of (tree_of c.args.script.now))
    c.in_ok-out.out c.in_ok-out.ensures (omega (arith, c.requires.weight, c.requires.small))

pub image_of-requires-clause-well : goal.image_of-requires-clause-well
image_of-requires-clause-well c =
    let l = scripts_of c.args.scope.shelves in
    λ p made. built_well (library_of l) (slots_of l) c.slot_count-slots.result c.slot_count-slots.ensures.enough
    (option_map (λ (s : Bor (List ℕ)). s.now) c.args.scope.main.known_as) (program_of (tree_of c.args.script.now))
    c.in_ok-out.out p c.args.weight c.in_ok-out.ensures made c.requires.weight c.requires.small

pub returns-clause-compiled : goal.returns-clause-compiled
returns-clause-compiled c =
    let l = scripts_of c.args.scope.shelves in
    IfOk-weaker c.image_of.result _ _
    (λ p made. built (library_of l) (slots_of l) c.slot_count-slots.result c.slot_count-slots.ensures.enough
    (option_map (λ (s : Bor (List ℕ)). s.now) c.args.scope.main.known_as) (program_of (tree_of c.args.script.now))
    c.in_ok-out.out p c.args.weight c.in_ok-out.ensures made (image_of-requires-clause-well c.before p made)
    c.requires.weight c.requires.small)
    c.image_of.ensures.made
