use Rattle.tool_texts.specs.Quoting.{octet_text}
use Rattle.tool_texts.proofs.Pushes.{pushed_more, texts_next}
use Rattle.tool_texts.proofs.quoting.push_octets.Goals as goal

pub loop-octet-preserved : goal.loop-octet-preserved
loop-octet-preserved c =
    pushed_more _ _ _ _ _ _ c.in_ok-push_octet.ensures
    (texts_next octet_text c.args.octets.now c.loop-octet.octet-index c.loop-octet-test.true) c.loop-octet.invariant
