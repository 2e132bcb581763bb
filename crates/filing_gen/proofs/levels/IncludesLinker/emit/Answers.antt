use Rattle.std.proofs.Common.{◌≡◌, ◌≤◌, ◌<◌, ◌^◌, true, false, ◌∷◌, length, sym, ap, ◌∙◌, subst, arith}
use Rattle.std.proofs.lemmas.Result.{on_ok_weaker}
use Rattle.filing_flow.specs.Structure.{Flow, size}
use Rattle.sieve_syntax.specs.View.{tree_of}
use Rattle.sieve_meaning.specs.Reading.{program_of}
use Rattle.sieve_meaning.specs.Scripts.{include_view, script_of}
use Rattle.filing_gen.specs.Adds.{Emits}
use Rattle.sieve_library.specs.BorrowedShelves.{scripts_of}
use Rattle.sieve_library.specs.Libraries.{library_of}
use Rattle.filing_gen.specs.Ends.{no_place}
use Rattle.filing_gen.specs.IncludeCode.{included_flow, once_flow}
use Rattle.filing_image.specs.declared.instruction.Operation.TheVariants.{Marked, JumpIf}
use Rattle.filing_gen.specs.Levels.{Passes, Fails, flow_at_level}
use Rattle.filing_procedures.specs.Slots.{slots_of}
use Rattle.filing_gen.specs.Scopes.{names_of, judgement_of}
use Rattle.filing_gen.proofs.Emitted.{put_grows, emits_nothing}
use Rattle.filing_gen.proofs.IncludesTypes.{entered_typed}
use Rattle.filing_gen.proofs.LevelLemmas.{flow_told, plain_entry, once_entry, once_long, once_emitted}
use Rattle.filing_gen.proofs.levels.IncludesLinker.emit.Goals as goal
use Rattle.filing_gen.proofs.levels.IncludesLinker.emit.Goals.{In-Entry, In_ok-emit}
use Rattle.filing_gen.proofs.levels.IncludesLinker.emit.Given.{Over}

pub returns-in-Pass : goal.returns-in-Pass
returns-in-Pass g c =
    let s = c.args.self.now in
    let same = flow_told (library_of (scripts_of s.scope.shelves)) (slots_of (scripts_of s.scope.shelves))
    (names_of s.scope.main) g.L.Level.depth (g.C.Chain.names s.chain.now) (include_view c.args.include.now) Passes
    (sym (ap judgement_of c.in-Pass.is) ∙ c.find.ensures.told) in
    record { adds = λ ends. subst (λ (a : Flow). Emits c.args.out.now c.args.out.now a ends) (sym same) (emits_nothing c.args.out.now ends) }

pub returns-in-Fault : goal.returns-in-Fault
returns-in-Fault g c =
    let s = c.args.self.now in
    let same = flow_told (library_of (scripts_of s.scope.shelves)) (slots_of (scripts_of s.scope.shelves))
    (names_of s.scope.main) g.L.Level.depth (g.C.Chain.names s.chain.now) (include_view c.args.include.now)
    (Fails c.in-Fault.fault) (sym (ap judgement_of c.in-Fault.is) ∙ c.find.ensures.told) in
    record {
      adds =
          on_ok_weaker c.put_fault.result (λ h ends.
          subst (λ (a : Flow). Emits c.args.out.now c.put_fault.new.out a ends) (sym same) (h ends))
          c.put_fault.ensures.adds;
    }

abbrev include_code : (g : Over) → In-Entry g → Flow
include_code g c =
    let s = c.args.self.now in
    included_flow (library_of (scripts_of s.scope.shelves)) (slots_of (scripts_of s.scope.shelves)) (names_of s.scope.main)
    g.L.Level.depth (g.C.Chain.names s.chain.now) (include_view c.args.include.now)

-- of the script that is entered
abbrev entry_code : (g : Over) → In-Entry g → Flow
entry_code g c =
    let s = c.args.self.now in
    flow_at_level (library_of (scripts_of s.scope.shelves)) (slots_of (scripts_of s.scope.shelves)) (names_of s.scope.main)
    g.L.Level.depth (script_of c.args.include.now.script ∷ g.C.Chain.names s.chain.now) c.in-Entry.slot
    (program_of (tree_of c.in-Entry.script.now))

plain : (g : Over) (c : In-Entry g) → c.args.include.now.is_once ≡ false → include_code g c ≡ entry_code g c
plain g c =
    let s = c.args.self.now in
    plain_entry (library_of (scripts_of s.scope.shelves)) (slots_of (scripts_of s.scope.shelves)) (names_of s.scope.main)
    g.L.Level.depth (g.C.Chain.names s.chain.now) (include_view c.args.include.now)
    (program_of (tree_of c.in-Entry.script.now)) c.in-Entry.ensures.told c.in-Entry.slot c.in-Entry.ensures.slot.0

once : (g : Over) (c : In-Entry g) → c.args.include.now.is_once ≡ true
    → include_code g c ≡ once_flow true c.in-Entry.slot (entry_code g c)
once g c =
    let s = c.args.self.now in
    once_entry (library_of (scripts_of s.scope.shelves)) (slots_of (scripts_of s.scope.shelves)) (names_of s.scope.main)
    g.L.Level.depth (g.C.Chain.names s.chain.now) (include_view c.args.include.now)
    (program_of (tree_of c.in-Entry.script.now)) c.in-Entry.ensures.told c.in-Entry.slot c.in-Entry.ensures.slot.0

-- its end, which is among the places
ended : (g : Over) (c : In_ok-emit g) → c.args.include.now.is_once ≡ true
    → (length c.args.out.now.code.items ≤ length c.emit-2.new.out.code.items) × (length c.emit-2.new.out.code.items < 2 ^ 16)
ended g c marked =
    let at = (goal.at.In_ok-emit g c).In-Entry in
    let long = once_long c.args.out.now c.put.new.out c.put-2.new.out c.emit-2.new.out c.in-Entry.slot (entry_code g at)
    c.in_ok-put.ensures c.in_ok-put-2.ensures c.in_ok-emit.ensures.adds in
    (omega (arith, long), omega (arith, long, c.requires.0, ap (λ (a : Flow). size a) (once g at marked)))

pub emit-requires-clause-room : goal.emit-requires-clause-room
emit-requires-clause-room g c =
    let long = ap (λ (a : Flow). size a) (plain g (goal.at.emit-requires-clause-room g c).In-Entry c.if-not-include.true) in
    (omega (arith, c.requires.0, long), omega (arith, c.requires.1, long), omega (arith, c.requires.2, long))

pub returns-then-not-include : goal.returns-then-not-include
returns-then-not-include g c =
    let is = plain g (goal.at.returns-then-not-include g c).In-Entry c.if-not-include.true in
    record {
      adds =
          on_ok_weaker c.emit.result (λ h ends.
          subst (λ (a : Flow). Emits c.args.out.now c.emit.new.out a ends) (sym is) (h ends)) c.emit.ensures.adds;
    }

pub emit-requires-2-clause-room : goal.emit-requires-2-clause-room
emit-requires-2-clause-room g c =
    let long = ap (λ (a : Flow). size a) (once g (goal.at.emit-requires-2-clause-room g c).In-Entry c.if-not-include.false) in
    let p = put_grows c.args.out.now c.put.new.out (Marked c.in-Entry.slot) c.in_ok-put.ensures in
    let q = put_grows c.put.new.out c.put-2.new.out (JumpIf no_place) c.in_ok-put-2.ensures in (
      omega (arith, c.requires.0, long, p.code, q.code),
      omega (arith, c.requires.1, long, p.texts, q.texts),
      omega (arith, c.requires.2, long, p.numbers, q.numbers),
    )

pub end_block-requires : goal.end_block-requires
end_block-requires g c =
    let e = ended g (goal.at.end_block-requires g c).In_ok-emit c.if-not-include.false in
    record { start = omega (arith, c.len-start.ensures, c.args.out.now.code.ok.0, e.0); room = e.1 }

pub returns : goal.returns
returns g c =
    let s = c.args.self.now in
    let at = goal.at.returns g c in
    let is = once g at.In-Entry c.if-not-include.false in
    record {
      adds = λ ends.
          subst (λ (b : Flow). Emits c.args.out.now c.end_block.new.out b ends) (sym is)
          (once_emitted c.args.out.now c.put.new.out c.put-2.new.out c.emit-2.new.out c.in-Entry.slot
          (entry_code g at.In-Entry) c.in_ok-put.ensures c.in_ok-put-2.ensures c.in_ok-emit.ensures.adds
          c.end_block.new.out c.len-start.result
          (entered_typed (library_of (scripts_of s.scope.shelves)) (slots_of (scripts_of s.scope.shelves))
          (names_of s.scope.main) g.L.Level.depth (script_of c.args.include.now.script
          ∷ g.C.Chain.names s.chain.now) c.in-Entry.slot (program_of (tree_of c.in-Entry.script.now)))
          (c.len-start.ensures ∙ c.args.out.now.code.ok.0) (ended g at.In_ok-emit c.if-not-include.false).1
          c.end_block.ensures ends);
    }
