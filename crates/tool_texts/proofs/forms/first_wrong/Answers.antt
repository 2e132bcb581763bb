use Rattle.std.proofs.Common.{rules, tests, not, ◌∙◌}
use Rattle.std.proofs.lemmas.Iterator.{YieldsList-from_slice, YieldsList-from_zip}
use Rattle.std.proofs.lemmas.Iterator.Search.{position_from_yields_List}
use Rattle.tool_texts.specs.Forms.{has_form}
use Rattle.tool_texts.proofs.Zips.{position-zip_map}
use Rattle.tool_texts.proofs.forms.first_wrong.Goals as goal

pub returns : goal.returns
returns c =
    position_from_yields_List (λ p. not (has_form p.0 p.1.now)) c.position.new.self _ _ c.position.ensures.ran
    (YieldsList-from_zip {s = c.zip.result} (YieldsList-from_slice c.args.slots.now cc) (YieldsList-from_slice c.args.words.now cc))
    (λ x b q k. search (rules, tests))
    ∙ position-zip_map (λ s w. not (has_form s w)) (λ w. w.now) c.args.slots.now c.args.words.now
