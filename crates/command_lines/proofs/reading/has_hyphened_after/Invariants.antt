use Rattle.std.proofs.Common.{◌≡◌, drop}
use Rattle.std.specs.Prelude.{◌&&◌, ◌||◌}
use Rattle.command_lines.specs.Typed.{begin_hyphened, has_hyphened_after, typed}
use Rattle.command_lines.proofs.reading.has_hyphened_after.Given as goal

abbrev pub invariant-loop-word : goal.invariant-loop-word
invariant-loop-word l =
    ((l.is_after && begin_hyphened (typed (drop l.word-index l.words))) || has_hyphened_after l.before (typed (drop l.word-index l.words)))
    ≡ has_hyphened_after l.before (typed l.words)
