use Rattle.std.specs.Char.Escape.{escape_ascii}
use Rattle.tool_texts.proofs.Pushes.{pushed_more, texts_next}
use Rattle.cli_texts.proofs.escapes.escaped.Goals as goal

pub loop-octet-preserved : goal.loop-octet-preserved
loop-octet-preserved c =
    pushed_more _ _ _ _ _ _ c.in_ok-push_octet.ensures
    (texts_next escape_ascii c.args.octets.now c.loop-octet.octet-index c.loop-octet-test.true) c.loop-octet.invariant
