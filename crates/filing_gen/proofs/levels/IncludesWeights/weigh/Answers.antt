use Rattle.std.proofs.Common.{sym, subst, arith}
use Rattle.sieve_syntax.specs.View.{tree_of}
use Rattle.sieve_meaning.specs.Reading.{program_of}
use Rattle.sieve_meaning.specs.Scripts.{include_view}
use Rattle.sieve_library.specs.BorrowedShelves.{scripts_of}
use Rattle.sieve_library.specs.Libraries.{library_of}
use Rattle.filing_procedures.specs.Slots.{slots_of}
use Rattle.filing_gen.specs.Scopes.{names_of}
use Rattle.filing_gen.specs.Weights.{IsLeft}
use Rattle.filing_gen.proofs.LevelLemmas.{nothing_weighed, entry_weight}
use Rattle.filing_gen.proofs.levels.IncludesWeights.weigh.Goals as goal

pub returns-in-Pass : goal.returns-in-Pass
returns-in-Pass g c =
    let s = c.args.self.now in
    omega (
      arith,
      nothing_weighed (library_of (scripts_of s.scope.shelves)) (slots_of (scripts_of s.scope.shelves))
          (names_of s.scope.main) g.L.Level.depth (g.C.Chain.names s.chain.now) (include_view c.args.include.now)
          c.find.result c.find.ensures.told c.in-Pass.is,
    )

pub returns-in-Entry : goal.returns-in-Entry
returns-in-Entry g c =
    let s = c.args.self.now in
    subst (λ n. IsLeft c.args.left n c.weigh.result)
    (sym (entry_weight (library_of (scripts_of s.scope.shelves)) (slots_of (scripts_of s.scope.shelves))
    (names_of s.scope.main) g.L.Level.depth (g.C.Chain.names s.chain.now) (include_view c.args.include.now)
    (program_of (tree_of c.in-Entry.script.now)) c.in-Entry.ensures.told)) c.weigh.ensures
