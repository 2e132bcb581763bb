use Rattle.std.proofs.Common.{◌∙◌, ap, subst, sym}
use Rattle.std.specs.Prelude.{IfSome, is_none}
use Rattle.std.proofs.lemmas.Result.{on_ok_weaker}
use Rattle.record_archive.specs.Archive.{Archive}
use Rattle.cli_texts.specs.declared.headers.Headers.{Headers}
use Rattle.cli_console.specs.Headers.{AreTextsOf}
use Rattle.cli_readings.proofs.twice.push_entry.Goals as goal

pub returns-then-not-list-clause-pushed : goal.returns-then-not-list-clause-pushed
returns-then-not-list-clause-pushed g c =
    on_ok_weaker c.push_row.result (λ pushed clean (a : Archive) s. pushed a c.if-not-list.true) c.push_row.ensures

pub returns-in-Some-clause-pushed : goal.returns-in-Some-clause-pushed
returns-in-Some-clause-pushed g c =
    on_ok_weaker c.push_row-in-Some.result (λ pushed clean (a : Archive) s.
    let texts = subst (λ o. IfSome o (λ (h : Headers). AreTextsOf a c.args.entry.now.number h)) c.in-Some.is
    (c.in_ok-headers.ensures.texts clean a s) in
    pushed a (c.if-not-list.false, texts)) c.push_row-in-Some.ensures

pub returns-in-None-clause-pushed : goal.returns-in-None-clause-pushed
returns-in-None-clause-pushed g c =
    on_ok_weaker c.push_row-in-None.result (λ pushed clean (a : Archive) s.
    pushed a (c.if-not-list.false, sym c.in_ok-headers.ensures.none ∙ ap is_none c.in-None.is)) c.push_row-in-None.ensures
