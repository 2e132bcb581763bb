use Rattle.std.proofs.Common.{refl, subst}
use Rattle.sieve_meaning.specs.Program.{Include}
use Rattle.filing_gen.specs.Adds.{Emits}
use Rattle.std.proofs.lemmas.Result.{on_ok_weaker}
use Rattle.filing_image.specs.declared.instruction.Operation.TheVariants.{Keep, Discard, Stop}
use Rattle.filing_flow.specs.Structure.{SetKept, SetCancelled, End}
use Rattle.filing_gen.proofs.Emitted.{action_emitted, leave_emitted}
use Rattle.filing_gen.proofs.emit_commands.emit_plain.Goals as goal

pub returns-in-Keep : goal.returns-in-Keep
returns-in-Keep g c =
    rw (c.in-Keep.is) (record {
      adds =
          on_ok_weaker c.put.result (λ h n ends e. action_emitted c.args.out.now c.put.new.out Keep SetKept h refl ends)
          c.put.ensures;
    })

pub returns-in-Discard : goal.returns-in-Discard
returns-in-Discard g c =
    rw (c.in-Discard.is) (record {
      adds =
          on_ok_weaker c.put-in-Discard.result (λ h n ends e.
          action_emitted c.args.out.now c.put-in-Discard.new.out Discard SetCancelled h refl ends) c.put-in-Discard.ensures;
    })

pub returns-in-Stop : goal.returns-in-Stop
returns-in-Stop g c =
    rw (c.in-Stop.is) (record {
      adds =
          on_ok_weaker c.put-in-Stop.result (λ h n ends e.
          action_emitted c.args.out.now c.put-in-Stop.new.out Stop End h refl ends) c.put-in-Stop.ensures;
    })

pub returns-in-Return : goal.returns-in-Return
returns-in-Return g c =
    rw (c.in-Return.is) (record {
      adds =
          on_ok_weaker c.put-in-Return.result (λ h n ends e.
          leave_emitted c.args.out.now c.put-in-Return.new.out c.args.back n ends h e) c.put-in-Return.ensures;
    })

pub returns-in-FileInto : goal.returns-in-FileInto
returns-in-FileInto g c = rw (c.in-FileInto.is) (record { adds = on_ok_weaker c.emit_file.result (λ h n ends e. h ends) c.emit_file.ensures.adds })

pub returns-in-Include : goal.returns-in-Include
returns-in-Include g c =
    rw (c.in-Include.is) (record {
      adds =
          on_ok_weaker c.emit.result (λ h n ends e.
          subst (λ (i : Include). Emits c.args.out.now c.emit.new.out (g.L.Linker.flow_of c.args.linker.now i) ends)
          c.include.ensures (h ends)) c.emit.ensures.adds;
    })
