use Rattle.std.proofs.Common.{◌≡◌, ◌∙◌, ℕ, List, ap, false, rules, sym}
use Rattle.std.proofs.lemmas.Bool.{false≢true, not-true}
use Rattle.record_archive.specs.Archive.{Archive}
use Rattle.cli_history.specs.Tellings.{is_present}
use Rattle.cli_history.proofs.OneSealLemmas.{no_seal_yet}
use Rattle.cli_history.proofs.TellingLemmas.{none_told}
use Rattle.cli_history.proofs.seals.Seals.read.Goals as goal

pub returns-then-not-has_events-clause-told : goal.returns-then-not-has_events-clause-told
returns-then-not-has_events-clause-told g c = λ only clean (a : Archive) (ls : List (List ℕ)) stands keeps.
    let none : c.has_events.result ≡ false = search (rules, not-true) in
    absurd (false≢true (sym none ∙ c.has_events.ensures ∙ ap is_present (c.event_layout.ensures.present keeps.rows.stands)))

pub returns-clause-told : goal.returns-clause-told
returns-clause-told g c = λ only clean (a : Archive) (ls : List (List ℕ)) stands keeps.
    c.in_ok-take_all.ensures.told only (none_told c.none-seals.result c.none-seals.ensures.seals c.none-seals.ensures.titles) clean a ls stands
    (record { few = keeps.few; rows = λ is_open. keeps.rows })

pub returns-then-not-has_events-clause-seal : goal.returns-then-not-has_events-clause-seal
returns-then-not-has_events-clause-seal g c = λ message enough clean (a : Archive) (ls : List (List ℕ)) stands keeps.
    let none : c.has_events.result ≡ false = search (rules, not-true) in
    absurd (false≢true (sym none ∙ c.has_events.ensures ∙ ap is_present (c.event_layout.ensures.present keeps.rows.stands)))

pub returns-clause-seal : goal.returns-clause-seal
returns-clause-seal g c = λ message enough clean (a : Archive) (ls : List (List ℕ)) stands keeps.
    c.in_ok-take_all.ensures.seal message enough (no_seal_yet message c.none-seals.result (c.none-seals.ensures.seals message)) clean a ls stands
    (record { few = keeps.few; rows = λ is_open. keeps.rows })
