use Rattle.std.proofs.Common.{◌≡◌, ℕ, ◌-◌, ◌++◌, ◌∷◌, [], List, length, take, drop, option_map, sym, ap, ◌∙◌, subst, arith}
use Rattle.sieve_syntax.specs.View.{tree_of}
use Rattle.sieve_meaning.specs.Reading.{program_of}
use Rattle.sieve_library.specs.BorrowedShelves.{scripts_of}
use Rattle.filing_procedures.specs.declared.procedure.Procedure as code
use Rattle.filing_procedures.proofs.LevelLemmas.{AreLevels, slice_is, first_level, slice_left, slice_keys, none_answered, some_answered, all_levels}
use Rattle.filing_procedures.proofs.levels.procedures.Goals.{After-deref}
use Rattle.filing_procedures.proofs.levels.procedures.Goals as goal

-- the last level, as it stands in the slice
level : (c : After-deref) → take (length c.deref.result.now - c.loop-level.first) (drop c.loop-level.first c.deref.result.now)
    ≡ drop c.loop-level.first c.loop-level.procedures.items
level c = slice_is c.loop-level.first c.deref.result.now c.loop-level.procedures.items c.deref.ensures.value

pub loop-level-init : goal.loop-level-init
loop-level-init c =
    let l = scripts_of c.args.reach.now.shelves in
    let known_as = option_map (λ s. s.now) c.args.known_as in
    let main = program_of (tree_of c.args.main.now) in
    let p = c.in_ok-main_procedure.field-0 in
    let e : c.push.new.self.items ≡ p ∷ [] = c.in_ok-push.ensures.items
    ∙ ap (λ (ps : List code.Procedure). ps ++ p ∷ []) c.new-procedures.ensures.items in
    subst (λ (ps : List code.Procedure).
    AreLevels l known_as main 0 0 ps) (sym e) (first_level l known_as main p c.in_ok-main_procedure.ensures.key
    c.in_ok-main_procedure.ensures.is)

pub called-requires-clause-left : goal.called-requires-clause-left
called-requires-clause-left c =
    slice_left c.loop-level.invariant c.loop-level-test.true (level (goal.at.called-requires-clause-left c).After-deref)

pub called-requires-clause-keys : goal.called-requires-clause-keys
called-requires-clause-keys c =
    slice_keys c.loop-level.invariant c.loop-level-test.true (level (goal.at.called-requires-clause-keys c).After-deref)

pub returns-in_default-clause-are : goal.returns-in_default-clause-are
returns-in_default-clause-are c =
    none_answered c.loop-level.invariant c.loop-level-test.true (level (goal.at.returns-in_default-clause-are c).After-deref)
    (256 - c.len-room.result) (omega arith) c.in_ok-next.field-0 c.in_ok-next.ensures.made c.in_default.is

pub loop-level-preserved : goal.loop-level-preserved
loop-level-preserved c =
    some_answered c.loop-level.invariant c.loop-level-test.true (level (goal.at.loop-level-preserved c).After-deref)
    (256 - c.len-room.result) (omega arith) c.in_ok-next.field-0 c.in_ok-next.ensures.made c.in_ok-next.ensures.each
    c.in_ok-next.ensures.few c.in-Some.next c.in-Some.is c.len-first.result (omega arith) c.append.new.self.items
    c.in_ok-append.ensures.items

pub returns-clause-are : goal.returns-clause-are
returns-clause-are c =
    let e : c.loop-level._level ≡ 7 = omega arith in
    all_levels (subst (λ (n : ℕ). AreLevels (scripts_of c.args.reach.now.shelves) (option_map (λ s. s.now) c.args.known_as)
    (program_of (tree_of c.args.main.now)) n c.loop-level.first c.loop-level.procedures.items) e c.loop-level.invariant)
