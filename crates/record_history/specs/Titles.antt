-- What people call the classes of a plan, as the events tell it.
use Rattle.std.specs.Prelude.{if◌then◌else◌, ℕ, List, [], ◌∷◌, Option, Some, None}
use Rattle.std.specs.Str.{bytes_eq}
use Rattle.record_history.specs.Events.{Deed, Event, Titled}

-- what people call a class, and the legal basis of its schedule
pub record Title : Type 0 where
  pub title : List ℕ
  pub basis : List ℕ

-- the title that a deed gives the class of this path, if it gives it one
abbrev pub title_given : List ℕ → Deed → Option Title
title_given path (Titled q title basis) = if bytes_eq q path then Some (record { title = title; basis = basis }) else None
title_given path _ = None

-- the later title where there is one, or else the one before
abbrev pub last_title : Option Title → Option Title → Option Title
last_title before None = before
last_title before (Some later) = Some later

-- THE TITLE of the class of this path: what the last event that gives it one says
abbrev pub title_at : List ℕ → List Event → Option Title
title_at path [] = None
title_at path (e ∷ es) = last_title (title_given path e.deed) (title_at path es)
