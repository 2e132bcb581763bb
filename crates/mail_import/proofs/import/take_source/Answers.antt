use Rattle.std.proofs.Common.{◌≡◌, ℕ, List, OnErr, subst, sym}
use Rattle.mail_sources.specs.declared.sources.Source.{Source}
use Rattle.mail_sources.specs.declared.sources.Source.TheVariants.{Folder, Maildir}
use Rattle.mail_import.specs.Findings.{AreOfFolder, AreOfSource, Finding}
use Rattle.mail_import.specs.Imports.{Breaks}
use Rattle.mail_import.specs.Sources.{Mail}
use Rattle.mail_import.proofs.import.take_source.Goals as goal

-- what is so of the findings of a folder or Maildir is so of those of the source
of_source : (P : (Mail → List Finding → Type 0) → Type 0) (s t : Source) (path : List ℕ) → s ≡ t
    → (P (AreOfFolder t path) → P (AreOfSource t)) → P (AreOfFolder s path) → P (AreOfSource s)
of_source P s t path is same h = subst (λ (u : Source). P (AreOfSource u)) (sym is) (same (subst (λ (u : Source). P (AreOfFolder u path)) is h))

pub returns-in-Mbox-clause-ended : goal.returns-in-Mbox-clause-ended
returns-in-Mbox-clause-ended g c =
    subst (λ (s : Source). OnErr c.take_mbox.result (Breaks g.M.OldMailroom.goes g.M.OldMailroom.has c.args.terms.now (AreOfSource s)
    c.args.room.now c.args.progress.now c.take_mbox.new.room c.take_mbox.new.progress)) (sym c.in-Mbox.is) c.take_mbox.ensures.ended

pub returns-in-Folder-clause-ended : goal.returns-in-Folder-clause-ended
returns-in-Folder-clause-ended g c =
    let taken = c.take_folder in
    of_source (λ Are. OnErr taken.result (Breaks g.M.OldMailroom.goes g.M.OldMailroom.has c.args.terms.now Are c.args.room.now
    c.args.progress.now taken.new.room taken.new.progress)) c.args.source (Folder c.in-Folder.path) c.in-Folder.path.now c.in-Folder.is
    (λ h. h) taken.ensures.ended

pub returns-in-Maildir-clause-ended : goal.returns-in-Maildir-clause-ended
returns-in-Maildir-clause-ended g c =
    let taken = c.take_folder-in-Maildir in
    of_source (λ Are. OnErr taken.result (Breaks g.M.OldMailroom.goes g.M.OldMailroom.has c.args.terms.now Are c.args.room.now
    c.args.progress.now taken.new.room taken.new.progress)) c.args.source (Maildir c.in-Maildir.path) c.in-Maildir.path.now c.in-Maildir.is
    (λ h. h) taken.ensures.ended
