use Rattle.std.proofs.Common.{◌≡◌, [], ℕ, List, true}
use Rattle.std.specs.Prelude.{is_none}
use Rattle.std.proofs.lemmas.Result.{on_ok_weaker}
use Rattle.record_archive.specs.Archive.{Archive}
use Rattle.record_noted.specs.Histories.{rows_of}
use Rattle.cli_history.proofs.LawfulLemmas.{lawful}
use Rattle.cli_history.proofs.PrintingLaws.{each_met}
use Rattle.cli_history.proofs.printing.write_history.Goals as goal

pub returns-clause-lawful : goal.returns-clause-lawful
returns-clause-lawful g c =
    let watch = c.in_ok-printing.printing.watch in
    on_ok_weaker c.end.result (λ (sound : is_none watch.fault ≡ true) clean (a : Archive) (ls : List (List ℕ)) stands.
    lawful watch ls (c.in_ok-printing.ensures.judged clean a ls stands) sound) c.end.ensures.sound

pub returns-clause-met : goal.returns-clause-met
returns-clause-met g c =
    let left = c.in_ok-printing.printing.missing.rest.items in
    on_ok_weaker c.end.result (λ (none : left ≡ []) clean (a : Archive) (ls : List (List ℕ)) stands.
    each_met c.args.asked.now (rows_of ls) left (c.in_ok-printing.ensures.met clean a ls stands) none) c.end.ensures.met
