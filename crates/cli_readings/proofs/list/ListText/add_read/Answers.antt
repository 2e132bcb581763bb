use Rattle.std.proofs.Common.{◌∙◌, ap, subst, sym}
use Rattle.std.specs.Prelude.{IfSome, is_none}
use Rattle.std.proofs.lemmas.Result.{on_ok_weaker}
use Rattle.record_archive.specs.Archive.{Archive}
use Rattle.cli_texts.specs.declared.headers.Headers.{Headers}
use Rattle.cli_console.specs.Headers.{AreTextsOf}
use Rattle.cli_readings.proofs.list.ListText.add_read.Goals as goal

pub returns-in-Some-clause-added : goal.returns-in-Some-clause-added
returns-in-Some-clause-added g c =
    on_ok_weaker c.add.result (λ added clean (a : Archive) s.
    let texts = subst (λ o. IfSome o (λ (h : Headers). AreTextsOf a c.args.entry.now.number h)) c.in-Some.is
    (c.in_ok-headers.ensures.texts clean a s) in
    added a (c.requires, texts)) c.add.ensures

pub returns-in-None-clause-added : goal.returns-in-None-clause-added
returns-in-None-clause-added g c =
    on_ok_weaker c.add-in-None.result (λ added clean (a : Archive) s.
    added a (c.requires, sym c.in_ok-headers.ensures.none ∙ ap is_none c.in-None.is)) c.add-in-None.ensures
