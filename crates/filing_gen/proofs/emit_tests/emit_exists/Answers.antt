use Rattle.std.proofs.Common.{List, [], ◌∷◌, ◌∙◌, sym, refl, subst, arith}
use Rattle.std.proofs.lemmas.Result.{on_ok_weaker}
use Rattle.sieve_syntax.specs.Arguments.{strings_of}
use Rattle.sieve_syntax.specs.declared.tree.StringList.{StringList}
use Rattle.sieve_meaning.specs.Reading.{exists_of}
use Rattle.filing_flow.specs.Structure.{nothing}
use Rattle.filing_gen.specs.Adds.{Emits}
use Rattle.filing_gen.specs.Ends.{no_place}
use Rattle.filing_gen.specs.Names.{each_once}
use Rattle.filing_gen.specs.BlockCode.{names_flow, test_flow}
use Rattle.filing_gen.proofs.Emitted.{grows, emits_nothing}
use Rattle.filing_gen.proofs.EmittedTests.{exists_size}
use Rattle.filing_gen.proofs.Types.{names_typed}
use Rattle.filing_gen.proofs.emit_tests.emit_exists.Goals as goal

pub returns-in-None : goal.returns-in-None
returns-in-None c = record {
  adds = on_ok_weaker c.put_either.result (λ h ends.
      subst (λ (lists : List StringList). Emits c.args.out.now c.put_either.new.out (test_flow (exists_of lists)) ends)
      (sym c.in-None.ensures)
      (h c.args.out.now nothing ends (c.len-start.ensures ∙ c.args.out.now.code.ok.0) (λ around. refl) (λ es there.
      emits_nothing c.args.out.now es))) c.put_either.ensures;
}

pub emit_names-requires : goal.emit_names-requires
emit_names-requires c =
    let same = exists_size c.args.arguments.now c.in-Some.names.now _ c.in-Some.ensures in
    (omega (arith, c.requires, same), omega (arith, c.requires, same), omega (arith, c.requires, same))

pub put_either-requires-in-Some : goal.put_either-requires-in-Some
put_either-requires-in-Some c =
    let same = exists_size c.args.arguments.now c.in-Some.names.now _ c.in-Some.ensures in
    let q = grows c.args.out.now c.emit_names.new.out (names_flow (each_once (strings_of c.in-Some.names.now)))
    (no_place ∷ []) (c.in_ok-emit_names-in-Some.ensures (no_place ∷ []) refl) in
    record {
      start = omega (arith, q.code, c.len-start.ensures, c.args.out.now.code.ok.0);
      room = (
        omega (arith, c.requires, q.code, same),
        omega (arith, c.requires, q.texts, same),
        omega (arith, c.requires, q.numbers, same),
      );
    }

pub returns-in_ok-emit_names-in-Some : goal.returns-in_ok-emit_names-in-Some
returns-in_ok-emit_names-in-Some c = record {
  adds = on_ok_weaker c.put_either-in-Some.result (λ h ends.
      subst (λ (lists : List StringList).
      Emits c.args.out.now c.put_either-in-Some.new.out (test_flow (exists_of lists)) ends) (sym c.in-Some.ensures)
      (h c.args.out.now (names_flow (each_once (strings_of c.in-Some.names.now))) ends (c.len-start.ensures
      ∙ c.args.out.now.code.ok.0) (λ around. names_typed (each_once (strings_of c.in-Some.names.now)) around)
      c.in_ok-emit_names-in-Some.ensures)) c.put_either-in-Some.ensures;
}
