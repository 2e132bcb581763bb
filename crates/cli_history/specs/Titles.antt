-- The titles of classes, as the events of a history tell them.
use Rattle.std.specs.Prelude.{ℕ, ◌==◌, ◌||◌, not, if◌then◌else◌, Bool, List, length, Vec, Option, Some, None, option_map}
use Rattle.std.specs.declared.alloc.Global.{Global}
use Rattle.std.specs.declared.cmp.Ordering.{Ordering}
use Rattle.std.specs.Ordering.{nat_cmp}
use Rattle.std.specs.Cmp.Lexicographic.{slice_cmp}
use Rattle.std.specs.BTreeMap.{get_by}
use Rattle.record_history.specs.Titles.{Title}
use Rattle.std.specs.Borrow.{Bor}
use Rattle.record_choice.specs.declared.entry.RecordEntry.{RecordEntry}
use Rattle.cli_texts.specs.declared.titles.ClassTitle.{ClassTitle}
use Rattle.cli_history.specs.declared.titles.Kept.{Kept}
use Rattle.cli_history.specs.declared.titles.Titles.{Titles}

-- the path of a class, as titles are looked for by it
abbrev pub Path : Type 0
Path = Vec ℕ Global

abbrev pub path_cmp : Path → Path → Ordering
path_cmp p q = slice_cmp nat_cmp p.items q.items

abbrev pub title_view : Kept → Title
title_view k = record { title = k.title.items; basis = k.basis.items }

-- the title that some octets have as the path of a class, if an event gave it one
abbrev pub titled : Titles → List ℕ → Option Title
titled ts path = option_map title_view (get_by (λ (q : Path). slice_cmp nat_cmp path q.items) ts.titles)

-- THE TITLE OF A CLASS, if an event gave it one
abbrev pub title_of : Titles → Path → Option Title
title_of ts p = titled ts p.items

-- ---- as it is printed

abbrev pub title_seen : ClassTitle → Title
title_seen t = record { title = t.title.now; basis = t.basis.now }

-- there is a title or a legal basis
abbrev pub has_text : Title → Bool
has_text t = not (length t.title == 0) || not (length t.basis == 0)

-- a class has a title: an event gave it one, and none took both texts away
abbrev pub in_force : Option Title → Option Title
in_force None = None
in_force (Some t) = if has_text t then Some t else None

-- THE TITLE OF THE CLASS OF A RECORD, if it has one
abbrev pub title_for : Titles → RecordEntry → Option Title
title_for ts entry = in_force (titled ts entry.path.items)

-- the same, where there is the record
abbrev pub title_beside : Titles → Option (Bor RecordEntry) → Option Title
title_beside ts None = None
title_beside ts (Some entry) = title_for ts entry.now
