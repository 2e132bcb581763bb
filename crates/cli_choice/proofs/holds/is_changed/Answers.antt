use Rattle.std.proofs.Common.{◌≡◌, Bool, true, false, not, ◌&&◌, ◌∙◌, sym, ap, List, ℕ, Vec}
use Rattle.std.specs.declared.alloc.Global.{Global}
use Rattle.std.specs.List.{list_any}
use Rattle.std.specs.Str.{bytes_eq}
use Rattle.record_choice.specs.Choices.{named}
use Rattle.record_choice.specs.Entries.{name_list}
use Rattle.record_choice.specs.Views.{shows_hold}
use Rattle.record_choice.proofs.EntryLaws.{any_viewed}
use Rattle.cli_choice.proofs.holds.is_changed.Goals as goal

shown : (names : List (Vec ℕ Global)) (name : List ℕ)
    → shows_hold (name_list names) (named name) ≡ list_any (λ (n : Vec ℕ Global). bytes_eq n.items name) names
shown names name = any_viewed (λ (n : List ℕ). bytes_eq n name) (λ (n : Vec ℕ Global). n.items) names

placed : (gone kept other : Bool) → gone ≡ false → kept ≡ other → not kept ≡ (not gone && not other)
placed false kept other live same = ap not same
placed true kept other live same = absurd cc

ended : (gone kept other : Bool) → gone ≡ false → kept ≡ other → kept ≡ (not gone && other)
ended false kept other live same = same
ended true kept other live same = absurd cc

pub returns-then-not-entry : goal.returns-then-not-entry
returns-then-not-entry c =
    rw c.in-Place.is
    (placed c.args.entry.now.destroyed c.has_hold-is_kept.result
    (shows_hold (name_list c.args.entry.now.holds.items) (named c.args.name.now)) c.if-not-entry.true
    (c.has_hold-is_kept.ensures
    ∙ ap (λ w. list_any (λ (n : Vec ℕ Global). bytes_eq n.items c.args.name.now) w) c.as_slice.ensures.value
    ∙ sym (shown c.args.entry.now.holds.items c.args.name.now)))

pub returns-then-not-entry-2 : goal.returns-then-not-entry-2
returns-then-not-entry-2 c =
    rw c.in-End.is
    (ended c.args.entry.now.destroyed c.has_hold-is_kept.result
    (shows_hold (name_list c.args.entry.now.holds.items) (named c.args.name.now)) c.if-not-entry-2.true
    (c.has_hold-is_kept.ensures
    ∙ ap (λ w. list_any (λ (n : Vec ℕ Global). bytes_eq n.items c.args.name.now) w) c.as_slice.ensures.value
    ∙ sym (shown c.args.entry.now.holds.items c.args.name.now)))
