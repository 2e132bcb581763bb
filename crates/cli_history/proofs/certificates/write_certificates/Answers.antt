use Rattle.std.proofs.Common.{◌≡◌, [], ℕ, List, true}
use Rattle.std.specs.Prelude.{is_none}
use Rattle.std.proofs.lemmas.Result.{on_ok_weaker}
use Rattle.record_archive.specs.Archive.{Archive}
use Rattle.record_noted.specs.Histories.{rows_of}
use Rattle.cli_history.proofs.CertificateLaws.{each_certified}
use Rattle.cli_history.proofs.LawfulLemmas.{lawful}
use Rattle.cli_history.proofs.WalkLemmas.{looks_on}
use Rattle.cli_history.proofs.certificates.write_certificates.Goals as goal

pub returns-clause-looks : goal.returns-clause-looks
returns-clause-looks g c =
    looks_on g.S.Store c.args.noted.now c.certificates_to.new.noted c.tell_untold.new.noted c.certificates_to.ensures.looks
    c.tell_untold.ensures

pub returns-clause-lawful : goal.returns-clause-lawful
returns-clause-lawful g c =
    let watch = c.in_ok-printed.printed.watch in
    on_ok_weaker c.end.result (λ (sound : is_none watch.fault ≡ true) clean (a : Archive) (ls : List (List ℕ)) stands.
    lawful watch ls (c.in_ok-printed.ensures.judged (c.tell_untold.ensures.falls clean) a ls stands) sound) c.end.ensures.sound

pub returns-clause-met : goal.returns-clause-met
returns-clause-met g c =
    let left = c.in_ok-printed.printed.missing.rest.items in
    on_ok_weaker c.end.result (λ (none : left ≡ []) clean (a : Archive) (ls : List (List ℕ)) stands.
    each_certified c.args.typed.now (rows_of ls) left (c.in_ok-printed.ensures.met (c.tell_untold.ensures.falls clean) a ls stands) none)
    c.end.ensures.met
