-- What the folders of a Maildir have, and what the fates of messages make of it.
use Rattle.std.specs.Prelude.{ℕ, List, [], ◌∷◌, ◌++◌, filter, not}
use Rattle.std.specs.List.{Contains}
use Rattle.std.specs.Str.{bytes_eq}
use Rattle.mail_intake.specs.Calls.{Call, Makes}
use Rattle.mail_intake.specs.Fates.{Fate, filed, unread, turned_away, Ending, after_all, at_capture, at_move}

pub record Mail : Type 0 where
  pub name : List ℕ
  pub octets : List ℕ

-- the messages of the folder new, and those of cur
pub record Folders : Type 0 where
  pub fresh : List Mail
  pub cur : List Mail

-- THE MESSAGE OF A NAME GOES FROM new TO cur, and each other message stays where it is
abbrev pub moved : (name : List ℕ) → Folders → Folders
moved name f = record {
  fresh = filter (λ (m : Mail). not (bytes_eq m.name name)) f.fresh;
  cur = f.cur ++ filter (λ (m : Mail). bytes_eq m.name name) f.fresh;
}

-- new has this message
abbrev pub HasNew : (name octets : List ℕ) → Folders → Type 0
HasNew name octets f = Contains f.fresh (record { name = name; octets = octets })

-- what the fate of a message leaves
abbrev pub left_by : Fate → Folders → Folders
left_by (filed name octets how) f = moved name f
left_by (unread name why) f = f
left_by (turned_away name octets why) f = f

-- what was captured, or handed over in vain, is what new has
abbrev pub IsFateIn : Folders → Fate → Type 0
IsFateIn f (filed name octets how) = HasNew name octets f
IsFateIn f (unread name why) = Unit {0}
IsFateIn f (turned_away name octets why) = HasNew name octets f

abbrev pub IsEndIn : Folders → Ending → Type 0
IsEndIn f after_all = Unit {0}
IsEndIn f (at_capture name octets) = HasNew name octets f
IsEndIn f (at_move name octets how) = HasNew name octets f

-- ONE FATE AFTER ANOTHER leads from these folders to ones of which this holds
abbrev pub Lead : (Left : Folders → Type 0) → List Fate → Folders → Type 0
Lead Left [] f = Left f
Lead Left (x ∷ xs) f = IsFateIn f x × Lead Left xs (left_by x f)

-- FROM ONE MOMENT TO ANOTHER THESE CALLS WERE MADE, and each message is where it was
pub record OnlyMakes {M : Type 0} (has_made : M → List Call → Type 0) (has : M → Folders → Type 0) (before after : M) (calls : List Call) : Type 0 where
  pub made : Makes has_made before after calls
  pub kept : (f : Folders) → has before f → has after f
