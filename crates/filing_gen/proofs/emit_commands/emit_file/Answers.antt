use Rattle.std.proofs.Common.{◌≡◌, ℕ, List, refl, ap, ◌∙◌, subst, codes, false}
use Rattle.std.proofs.lemmas.Result.{on_ok_weaker}
use Rattle.sieve_meaning.specs.Reading.{has_tag, first_string, string_lists}
use Rattle.filing_flow.specs.Structure.{action, FileInto}
use Rattle.filing_gen.specs.Adds.{Emits}
use Rattle.filing_gen.specs.BlockCode.{copy_number}
use Rattle.filing_gen.proofs.Emitted.{text_emitted}
use Rattle.filing_gen.proofs.emit_commands.emit_file.Goals as goal

pub returns : goal.returns
returns c =
    let how : c.copy_code-how.result ≡ copy_number (has_tag (codes "copy") c.args.arguments.now) =
    c.copy_code-how.ensures ∙ ap copy_number c.has_tag.ensures in
    let same : action (FileInto c.copy_code-how.result c.first_string.result.now)
    ≡ action (FileInto (copy_number (has_tag (codes "copy") c.args.arguments.now))
    (first_string (string_lists false c.args.arguments.now))) =
    ap (λ (n : ℕ). action (FileInto n c.first_string.result.now)) how
    ∙ ap (λ (t : List ℕ). action (FileInto (copy_number (has_tag (codes "copy") c.args.arguments.now)) t))
    c.first_string.ensures.value in
    record {
      adds = on_ok_weaker c.put.result (λ h ends. subst (λ a. Emits c.args.out.now c.put.new.out a ends) same
          (text_emitted c.args.out.now c.text_operand.new.out c.put.new.out _
          (FileInto c.copy_code-how.result c.first_string.result.now) _ c.first_string.result.now
          c.in_ok-place.ensures.brings h c.in_ok-place.ensures.there (λ at. (_, refl, at)) ends)) c.put.ensures;
    }
