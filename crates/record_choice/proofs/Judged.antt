-- Which records the archive's command destroys.
use Rattle.std.proofs.Common.{◌≡◌, ◌∙◌, ◌&&◌, ℕ, ℤ, pos, true, false, not, cond, Option, Some, None, Ok, Err}
use Rattle.std.proofs.Common.{option_map, Bool, Vec, Result, List, [], ◌∷◌, ◌++◌, take, MatchOption, subst, refl, sym, ap, ap₂}
use Rattle.std.specs.List.{list_any}
use Rattle.std.specs.declared.alloc.Global.{Global}
use Rattle.class_plan.specs.declared.schedules.Schedule.{Schedule}
use Rattle.class_plan.specs.Plans.{Listing, schedule_at}
use Rattle.record_archive.specs.Archive.{Archive, IsArchive, Record, record_at, is_held, destroys, is_by_any}
use Rattle.record_archive.specs.Archive.{due_of, from_1970, destroy_on, without, message, message_one, body_of}
use Rattle.record_archive.specs.declared.fault.ArchiveRefusal.{ArchiveRefusal}
use Rattle.record_archive.specs.declared.fault.ArchiveRefusal.TheVariants as refusal
use Rattle.record_choice.specs.Choices.{anyone}
use Rattle.record_choice.specs.Entries.{RecordEntry, OfRecord, entry_of, entry_view, name_list, entries_from, hold_names}
use Rattle.record_choice.specs.Views.{shows_hold, shows_due}
use Rattle.record_choice.specs.declared.entry.RecordEntry as code
use Rattle.record_choice.proofs.EntryLaws.{held_shown, due_live}
use Rattle.record_choice.proofs.PageLaws.{entry_found, entry_other}

pub refused_missing : (a : Archive) (n : ℕ) (day : ℤ) → record_at a n ≡ None → destroy_on a n day ≡ Err refusal.NoRecord
refused_missing a n day at = rw at refl

pub refused_destroyed : (a : Archive) (n : ℕ) (day : ℤ) (r : Record) → record_at a n ≡ Some r → r.destroyed ≡ true
    → destroy_on a n day ≡ Err refusal.Destroyed
refused_destroyed a n day r at gone = rw (at, gone) refl

pub refused_held : (a : Archive) (n : ℕ) (day : ℤ) (r : Record) → record_at a n ≡ Some r → r.destroyed ≡ false → is_held a n ≡ true
    → destroy_on a n day ≡ Err refusal.Held
refused_held a n day r at live held = rw (at, live, held) refl

pub refused_kept : (a : Archive) (n : ℕ) (day : ℤ) (r : Record) → record_at a n ≡ Some r → r.destroyed ≡ false → is_held a n ≡ false
    → destroys (schedule_at a.plan r.path) ≡ false → destroy_on a n day ≡ Err refusal.NotForDestruction
refused_kept a n day r at live free kept = rw (at, live, free, kept) refl

pub refused_early : (a : Archive) (n : ℕ) (day : ℤ) (r : Record) → record_at a n ≡ Some r → r.destroyed ≡ false → is_held a n ≡ false
    → destroys (schedule_at a.plan r.path) ≡ true → is_by_any (from_1970 day) (due_of a r) ≡ false → destroy_on a n day ≡ Err refusal.NotDue
refused_early a n day r at live free goes early = rw (at, live, free, goes, early) refl

pub destroyed_now : (a : Archive) (n : ℕ) (day : ℤ) (r : Record) → record_at a n ≡ Some r → r.destroyed ≡ false → is_held a n ≡ false
    → destroys (schedule_at a.plan r.path) ≡ true → is_by_any (from_1970 day) (due_of a r) ≡ true → destroy_on a n day ≡ Ok (without a r)
destroyed_now a n day r at live free goes due = rw (at, live, free, goes, due) refl

-- what an entry shows of these
pub held_by_entry : (a : Archive) (n : ℕ) (r : Record) (e : RecordEntry) → e ≡ entry_of a r → r.number ≡ n
    → shows_hold e.holds anyone ≡ is_held a n
held_by_entry a n r e shown own =
    ap (λ (x : RecordEntry). shows_hold x.holds anyone) shown ∙ held_shown a r (Some anyone) ∙ ap (is_held a) own

pub names_by_entry : (a : Archive) (n : ℕ) (r : Record) (e : RecordEntry) → e ≡ entry_of a r → r.number ≡ n → e.holds ≡ hold_names a n
names_by_entry a n r e shown own = ap (λ (x : RecordEntry). x.holds) shown ∙ ap (hold_names a) own

pub due_by_entry : (a : Archive) (r : Record) (e : RecordEntry) (day : ℤ) → e ≡ entry_of a r → r.destroyed ≡ false
    → shows_due e.due day ≡ is_by_any (from_1970 day) (due_of a r)
due_by_entry a r e day shown live =
    ap (λ (x : RecordEntry). shows_due x.due day) shown ∙ due_live r.destroyed (due_of a r) day
    ∙ ap (λ b. not b && is_by_any (from_1970 day) (due_of a r)) live

pub date_by_entry : (a : Archive) (r : Record) (e : RecordEntry) → e ≡ entry_of a r → r.destroyed ≡ false → e.due ≡ option_map pos (due_of a r)
date_by_entry a r e shown live =
    ap (λ (x : RecordEntry). x.due) shown ∙ ap (λ b. option_map pos (cond {A = Option ℕ} b None (due_of a r))) live

pub path_by_entry : (a : Archive) (p : Listing) (r : Record) (e : RecordEntry) → p ≡ a.plan → e ≡ entry_of a r
    → schedule_at p e.path ≡ schedule_at a.plan r.path
path_by_entry a p r e same shown = ap₂ (λ q (x : RecordEntry). schedule_at q x.path) same shown

pub has_names : {names : List (Vec ℕ Global)} {now : List (Vec ℕ Global)} {b : Bool} → now ≡ names → b ≡ list_any (λ name. true) (name_list now)
    → list_any (λ name. true) (name_list names) ≡ b
has_names same has = ap (λ l. list_any (λ name. true) (name_list l)) (sym same) ∙ sym has

-- the schedule of an entry is that of its record's class
pub scheduled : (a : Archive) (p : Listing) (r : Record) (e : RecordEntry) (path : List ℕ) (o : Option Schedule) → p ≡ a.plan → e ≡ entry_of a r
    → path ≡ e.path → o ≡ schedule_at p path → o ≡ schedule_at a.plan r.path
scheduled a p r e path o same shown value of = of ∙ ap (schedule_at p) value ∙ path_by_entry a p r e same shown

-- a record that was read by its number
pub numbered_found : (a : Archive) → IsArchive a → (n : ℕ) (xs : List RecordEntry) (e : code.RecordEntry)
    → xs ++ entry_view e ∷ [] ≡ take 1 (entries_from a n) → (o : Option code.RecordEntry)
    → MatchOption o (e.number ≡ n → ⊥) (λ x. (x ≡ e) × (e.number ≡ n))
    → MatchOption o (record_at a n ≡ None) (λ x. OfRecord a n (λ r. entry_view x ≡ entry_of a r))
numbered_found a is n xs e are None other = entry_other a is n xs (entry_view e) are other
numbered_found a is n xs e are (Some x) own =
    subst (λ y. OfRecord a n (λ r. entry_view y ≡ entry_of a r)) (sym own.0) (entry_found a is n xs (entry_view e) are own.1)

-- the message that is read of a live record is stored
pub message_stored : (a : Archive) (n : ℕ) (r : Record) (body : List ℕ) → record_at a n ≡ Some r → r.destroyed ≡ false
    → message a n ≡ Ok (Some body) → body_of a.messages r.message ≡ Some body
message_stored a n r body at live e =
    let f : ◌≡◌ {A = Result (Option (List ℕ)) ArchiveRefusal} (Ok (body_of a.messages r.message)) (Ok (Some body)) =
    sym (ap (λ b. cond {A = Result (Option (List ℕ)) ArchiveRefusal} b (Err refusal.Destroyed) (Ok (body_of a.messages r.message))) live)
    ∙ sym (ap (message_one a) at) ∙ e in cc
