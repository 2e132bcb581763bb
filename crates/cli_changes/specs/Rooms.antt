-- The desk of an import, by the calls that it made.
use Rattle.std.proofs.Common.{◌≡◌, ℕ, Option, List, [], ◌∷◌, ◌++◌, refl, sym, ap, ◌∙◌, subst}
use Rattle.filing_desk.specs.declared.deliveries.OnFault.{OnFault}
use Rattle.filing_desk.specs.declared.desk.Desk.{Desk}
use Rattle.mail_import.specs.Calls.{Call}
use Rattle.record_archive.specs.Archive.{Archive}
use Rattle.record_archive.specs.Calls.{Keeper}
use Rattle.cli_changes.specs.Imports.{AtDesk, ComesBy, Goes, done_after, done_by}
use Rattle.cli_changes.specs.declared.import.MailImport.{MailImport}
use Rattle.cli_changes.specs.declared.import_room.ImportRoom.{ImportRoom}

comes_then : {A : Type 0} (keeper : Keeper A Archive) (officer : List ℕ) (on_fault : OnFault) (volume : Option ℕ) (xs ys : List Call)
    (a b c : Desk A) → ComesBy keeper officer on_fault volume a xs b → ComesBy keeper officer on_fault volume b ys c
    → ComesBy keeper officer on_fault volume a (xs ++ ys) c
comes_then keeper officer on_fault volume [] ys a b c h k = subst (λ d. ComesBy keeper officer on_fault volume d ys c) h k
comes_then keeper officer on_fault volume (x ∷ []) [] a b c h k = subst (AtDesk keeper officer on_fault volume x a) (sym k) h
comes_then keeper officer on_fault volume (x ∷ []) (y ∷ ys) a b c h k = (b, h, k)
comes_then keeper officer on_fault volume (x ∷ z ∷ xs) ys a b c h k =
    (h.0, h.1, comes_then keeper officer on_fault volume (z ∷ xs) ys h.0 b c h.2 k)

done_then : (xs ys : List Call) (n : ℕ) → done_after (xs ++ ys) n ≡ done_after ys (done_after xs n)
done_then [] ys n = refl
done_then (x ∷ xs) ys n = done_then xs ys (done_by x n)

pub goes_none : {A : Type 0} (keeper : Keeper A Archive) (a : ImportRoom A) → Goes keeper a [] a
goes_none keeper a = record { job = refl; volume = refl; messages = refl; desk = refl }

pub goes_then : {A : Type 0} (keeper : Keeper A Archive) (a b c : ImportRoom A) (xs ys : List Call) → Goes keeper a xs b → Goes keeper b ys c
    → Goes keeper a (xs ++ ys) c
goes_then keeper a b c xs ys h k = record {
  job = k.job ∙ h.job;
  volume = k.volume ∙ h.volume;
  messages = k.messages ∙ ap (done_after ys) h.messages ∙ sym (done_then xs ys a.reached.messages);
  desk = comes_then keeper a.job.filing.officer.now a.job.filing.on_fault a.place.volume xs ys a.desk b.desk c.desk h.desk
      (subst (λ (v : Option ℕ). ComesBy keeper a.job.filing.officer.now a.job.filing.on_fault v b.desk ys c.desk) h.volume
      (subst (λ (j : MailImport). ComesBy keeper j.filing.officer.now j.filing.on_fault b.place.volume b.desk ys c.desk) h.job k.desk));
}
