use Rattle.std.proofs.Common.{[], ℕ, List, refl}
use Rattle.record_archive.specs.Archive.{Archive}
use Rattle.record_noted.specs.Histories.{rows_of}
use Rattle.cli_history.proofs.CertificateLaws.{all_certified, certified_met}
use Rattle.cli_history.proofs.certificates.certificates_to.Goals as goal

pub returns-clause-certified : goal.returns-clause-certified
returns-clause-certified g c = λ clean (a : Archive) (ls : List (List ℕ)) stands.
    all_certified g.K.Sink.written c.args.volume c.args.typed.now _ c.print_all.new.self c.args.sink c.print_all.new.sink (rows_of ls) refl refl
    (c.in_ok-print_all.ensures.certified clean a ls
    (c.find_seals.ensures.lines a ls (c.messages_of.ensures.lines a ls stands)))

pub returns-clause-judged : goal.returns-clause-judged
returns-clause-judged g c = λ clean (a : Archive) (ls : List (List ℕ)) stands.
    (c.in_ok-print_all.ensures.certified clean a ls
    (c.find_seals.ensures.lines a ls (c.messages_of.ensures.lines a ls stands))).watched [] (λ sound. c.in_ok-watch.ensures.judges)

pub returns-clause-met : goal.returns-clause-met
returns-clause-met g c = λ clean (a : Archive) (ls : List (List ℕ)) stands.
    certified_met g.K.Sink.written c.args.typed.now _ c.print_all.new.self c.args.sink c.print_all.new.sink (rows_of ls) refl
    c.in_ok-missing.ensures
    (c.in_ok-print_all.ensures.certified clean a ls
    (c.find_seals.ensures.lines a ls (c.messages_of.ensures.lines a ls stands)))
