use Rattle.std.proofs.Common.{◌∙◌, ap, sym, map-id, not, ◌++◌, ℕ, Bool, List, false, string_bytes}
use Rattle.std.proofs.lemmas.Iterator.{YieldsList-from_chars}
use Rattle.std.proofs.lemmas.Iterator.Consumers.{YieldsList-end}
use Rattle.std.specs.Str.{encode_utf8_all}
use Rattle.tool_texts.specs.Quoting.{needs_number, visible_after}
use Rattle.tool_texts.proofs.Pushes.{visible_more, visible_last_more}
use Rattle.tool_texts.proofs.quoting.push_all_visible.Goals as goal

pub loop-c-preserved : goal.loop-c-preserved
loop-c-preserved c = record {
  same = visible_more _ _ _ c.loop-c.yielded c.loop-c.after_plain _ c.loop-c.invariant.plain c.loop-c.invariant.same c.in_ok-push_visible.ensures;
  plain = ap not c.needs_number-after_plain.ensures ∙ ap (λ (a : Bool). not (needs_number a c.in-Some.c)) c.loop-c.invariant.plain
      ∙ visible_last_more false c.loop-c.yielded c.in-Some.c;
}

pub returns : goal.returns
returns c =
    let end = YieldsList-end (YieldsList-from_chars c.args.words.now c.utf8.words cc) c.loop-c.yielded _ c.loop-c.yielded_by
    _ _ c.in-None.is c.next.ensures.steps in
    c.loop-c.invariant.same
    ∙ ap (λ (cs : List ℕ). string_bytes c.args.text.now ++ encode_utf8_all (visible_after false cs)) (sym (map-id c.loop-c.yielded) ∙ end.0)
