use Rattle.std.proofs.Common.{◌∙◌, sym}
use Rattle.tool_inquiry.specs.Partings.{words_of}
use Rattle.tool_inquiry.proofs.PartingLemmas.{take_more}
use Rattle.tool_inquiry.proofs.partings.first_parting.Goals as goal

pub loop-number-preserved : goal.loop-number-preserved
loop-number-preserved c =
    let same = sym c.words.ensures ∙ c.are_same.ensures.same c.if-not-are_same.false ∙ c.words-in-loop-number.ensures in
    take_more c.loop-number.number (words_of c.args.one.now) (words_of c.args.other.now) c.loop-number.invariant same
