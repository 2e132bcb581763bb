use Rattle.tool_texts.proofs.Pushes.{pushed_chunk, pushed_all}
use Rattle.tool_texts.proofs.Escapes.{chunk_text, text_of_empty}
use Rattle.tool_texts.proofs.quoting.push_escaped.Goals as goal

pub loop-chunk-preserved : goal.loop-chunk-preserved
loop-chunk-preserved c =
    let steps = c.in-Some.ensures.steps in
    let characters = rw c.valid.ensures at c.in_ok-push_characters.ensures in
    let octets = rw c.invalid.ensures at c.in_ok-push_octets.ensures in
    pushed_chunk _ _ _ _ _ _ _ _ characters octets
    (chunk_text _ _ _ _ steps.0 steps.3.0 steps.3.1 steps.2) c.loop-chunk.invariant

pub returns : goal.returns
returns c = pushed_all _ _ _ (text_of_empty _ c.in-None.ensures.steps.0) c.loop-chunk.invariant
