use Rattle.std.proofs.Common.{◌≡◌, ◌∙◌, ap, true, false, chars, string_bytes}
use Rattle.std.proofs.lemmas.Result.{IfOk-weaker}
use Rattle.std.specs.Str.{encode_utf8_all}
use Rattle.cli_texts.specs.Cuts.{fits_in, front_in}
use Rattle.cli_texts.proofs.CutLemmas.{pushed_next, whole_cut, front_cut}
use Rattle.cli_texts.proofs.headers.cut.Goals as goal

pub returns-then-fits : goal.returns-then-fits
returns-then-fits c =
    let whole : fits_in 80 (chars c.args.text.now) ≡ true = cc in
    IfOk-weaker c.from_str.result _ _ (λ t is. whole_cut c.args.text.now (string_bytes t) whole c.utf8.text is) c.from_str.ensures.ok

pub returns : goal.returns
returns c =
    let over : fits_in 80 (chars c.args.text.now) ≡ false = cc in
    pushed_next _ _ (front_in 79 (chars c.args.text.now)) 0x2026 c.in_ok-front.ensures c.in_ok-push.ensures.bytes
    ∙ ap encode_utf8_all (front_cut (chars c.args.text.now) over)
