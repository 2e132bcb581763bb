use Rattle.std.proofs.Common.{◌≡◌, ◌+◌, ℕ, ◌∷◌, [], ◌++◌, suc, length, drop, sym, ap, ◌∙◌, subst, arith}
use Rattle.std.specs.List.{All}
use Rattle.std.proofs.lemmas.List.{take_rest}
use Rattle.sieve_library.specs.BorrowedShelves.{scripts_of}
use Rattle.sieve_library.specs.Libraries.{library_of}
use Rattle.filing_procedures.specs.ProcedureCode.{IsEntered}
use Rattle.filing_procedures.specs.Slots.{slots_of}
use Rattle.filing_gen.specs.Scopes.{names_of}
use Rattle.filing_gen.proofs.PathTables.{key_at, later_entered}
use Rattle.filing_gen.proofs.ProceduresEmitted.{place_fits, room_left, procedure_more, none_written, all_written}
use Rattle.filing_gen.proofs.emit_procedures.emit_procedures.Goals as goal

pub loop-own-init : goal.loop-own-init
loop-own-init c =
    let l = scripts_of c.args.reach.now.shelves in
    rw (c.in_ok-first_places.ensures.items) (none_written (library_of l) (slots_of l) (names_of c.args.main)
    c.args.procedures.now c.in_ok-out.out c.in_ok-out.ensures.texts c.in_ok-out.ensures.numbers
    c.in_ok-out.ensures.code)

pub overflow_cast-len : goal.overflow_cast-len
overflow_cast-len c =
    let l = scripts_of c.args.reach.now.shelves in
    let fits = place_fits (library_of l) (slots_of l) (names_of c.args.main) c.args.procedures.now c.loop-own.own
    c.index-procedures-own.result c.loop-own-test.true c.index-procedures-own.is c.loop-own.out
    c.loop-own.first_places.items c.loop-own.invariant c.requires.light in
    omega (arith, fits, c.len.ensures, c.loop-own.out.code.ok.0)

pub emit_procedure-requires-clause-key : goal.emit_procedure-requires-clause-key
emit_procedure-requires-clause-key c =
    key_at (scripts_of c.args.reach.now.shelves) c.args.procedures.now c.requires.keys c.loop-own.own
    c.index-procedures-own.result c.loop-own-test.true c.index-procedures-own.is

pub emit_procedure-requires-clause-entered : goal.emit_procedure-requires-clause-entered
emit_procedure-requires-clause-entered c =
    let l = scripts_of c.args.reach.now.shelves in
    let ps = c.args.procedures.now in
    let own = c.loop-own.own in
    let next : suc own ≡ own + 1 = omega arith in
    let later : All (IsEntered l) (drop (own + 1) ps) =
    subst (λ (k : ℕ). All (IsEntered l) (drop k ps)) next (later_entered l ps c.requires.keys own) in
    subst (All (IsEntered l)) (sym (take_rest ps (own + 1))) later

pub emit_procedure-requires-clause-room : goal.emit_procedure-requires-clause-room
emit_procedure-requires-clause-room c =
    let l = scripts_of c.args.reach.now.shelves in
    room_left (library_of l) (slots_of l) (names_of c.args.main) c.args.procedures.now c.loop-own.own
    c.index-procedures-own.result c.loop-own-test.true c.index-procedures-own.is c.loop-own.out
    c.loop-own.first_places.items c.loop-own.invariant c.requires.light

pub loop-own-preserved : goal.loop-own-preserved
loop-own-preserved c =
    let l = scripts_of c.args.reach.now.shelves in
    let place : c.len.result ≡ length c.loop-own.out.code.items = c.len.ensures ∙ c.loop-own.out.code.ok.0 in
    procedure_more (library_of l) (slots_of l) (names_of c.args.main) c.args.procedures.now c.loop-own.own
    c.index-procedures-own.result c.loop-own-test.true c.index-procedures-own.is c.loop-own.out
    c.loop-own.first_places.items c.loop-own.invariant c.emit_procedure.new.out c.push.new.self.items
    c.in_ok-emit_procedure.ensures (c.in_ok-push.ensures.items ∙ ap (λ (n : ℕ). c.loop-own.first_places.items ++ n ∷ []) place)

pub returns : goal.returns
returns c =
    let l = scripts_of c.args.reach.now.shelves in
    all_written (library_of l) (slots_of l) (names_of c.args.main) c.args.procedures.now c.loop-own.out
    c.loop-own.first_places.items c.loop-own.own (omega (arith, c.loop-own-test.false)) c.loop-own.invariant
