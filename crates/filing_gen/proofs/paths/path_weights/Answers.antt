use Rattle.std.proofs.Common.{◌≡◌, suc, ◌+◌, ◌-◌, ℕ, List, length, map, take, drop, sym, ap, ◌∙◌, subst, arith}
use Rattle.std.specs.List.{All}
use Rattle.std.specs.Prelude.{Option}
use Rattle.std.proofs.lemmas.List.{length-set}
use Rattle.sieve_library.specs.BorrowedShelves.{scripts_of}
use Rattle.sieve_library.specs.Libraries.{library_of}
use Rattle.filing_procedures.specs.ProcedureCode.{procedure_of, IsEntered}
use Rattle.filing_procedures.specs.declared.procedure.Procedure as code
use Rattle.filing_gen.specs.Paths.{known_path, path_from}
use Rattle.filing_gen.specs.Procedures.{path_weights}
use Rattle.filing_gen.proofs.PathTables.{rest_of, weight_more, key_at, later_entered}
use Rattle.filing_gen.proofs.paths.path_weights.Goals as goal

pub path_weight-requires-clause-key : goal.path_weight-requires-clause-key
path_weight-requires-clause-key c =
    key_at (scripts_of c.args.reach.now.shelves) c.args.procedures.now c.requires (c.loop-number.number - 1)
    c.index-procedures-number.result (omega (arith, c.loop-number.auto.number, c.loop-number-test.true))
    c.index-procedures-number.is

pub path_weight-requires-clause-entered : goal.path_weight-requires-clause-entered
path_weight-requires-clause-entered c =
    let ps = c.args.procedures.now in
    let n = c.loop-number.number in
    let next : suc (n - 1) ≡ n = omega (arith, c.loop-number-test.true) in
    let later : All (IsEntered (scripts_of c.args.reach.now.shelves)) (drop n ps) =
    subst (λ (k : ℕ). All (IsEntered (scripts_of c.args.reach.now.shelves)) (drop k ps)) next
    (later_entered (scripts_of c.args.reach.now.shelves) ps c.requires (n - 1)) in
    subst (All (IsEntered (scripts_of c.args.reach.now.shelves))) (sym (rest_of ps n c.loop-number-test.true c.loop-number.auto.number)) later

pub path_weight-requires-clause-paths : goal.path_weight-requires-clause-paths
path_weight-requires-clause-paths c =
    let ps = c.args.procedures.now in
    let n = c.loop-number.number in
    let lib = library_of (scripts_of c.args.reach.now.shelves) in
    let items = c.loop-number.paths.items in
    ap (λ (t : List (Option ℕ)). take (length t - (n - 1 + 1)) (drop (n - 1 + 1) t)) c.deref.ensures.value
    ∙ rest_of items n c.loop-number-test.true (omega (arith, c.loop-number.auto.number, c.loop-number.invariant.long))
    ∙ c.loop-number.invariant.known
    ∙ ap (λ (l : List code.Procedure). map known_path (path_weights lib (map procedure_of l)))
    (sym (rest_of ps n c.loop-number-test.true c.loop-number.auto.number))

pub loop-number-preserved : goal.loop-number-preserved
loop-number-preserved c =
    let ps = c.args.procedures.now in
    let n = c.loop-number.number in
    let lib = library_of (scripts_of c.args.reach.now.shelves) in
    let items = c.loop-number.paths.items in
    let p = c.index-procedures-number.result in
    record {
      long = length-set items (n - 1) c.in_ok-path.path ∙ c.loop-number.invariant.long;
      known = weight_more lib ps items n c.loop-number-test.true c.loop-number.auto.number c.loop-number.invariant.long
          c.loop-number.invariant.known p c.in_ok-path.path c.index-procedures-number.is
          (c.in_ok-path.ensures
          ∙ ap (λ (l : List code.Procedure). known_path (path_from lib (map procedure_of l) (procedure_of p)))
          (rest_of ps n c.loop-number-test.true c.loop-number.auto.number));
    }

pub returns : goal.returns
returns c =
    let lib = library_of (scripts_of c.args.reach.now.shelves) in
    let none : c.loop-number.number ≡ 0 = omega (arith, c.loop-number-test.false) in
    subst (λ (k : ℕ). drop k c.loop-number.paths.items
    ≡ map known_path (path_weights lib (map procedure_of (drop k c.args.procedures.now)))) none
    c.loop-number.invariant.known
