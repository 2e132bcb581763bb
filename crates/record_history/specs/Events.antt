-- Events: what was done to an archive, when, by whom and for what reason.
use Rattle.std.specs.Prelude.{ℕ, List, Option}
use Rattle.class_plan.specs.declared.schedules.Schedule.{Schedule}
use Rattle.class_plan.specs.Plans.{Listing}
use Rattle.record_archive.specs.Archive.{Record}

-- What stands for a message: how many octets it has, and their SHA-256 in 64 hexadecimal digits.
pub record Seal : Type 0 where
  pub octets : ℕ
  pub sum : List ℕ

-- The officer whose rules filed a message, and the SHA-256 of the rules.
pub record Filing : Type 0 where
  pub officer : List ℕ
  pub rules : List ℕ

-- A deed. Days are counted from 1970-01-01.
pub data Deed : Type 0 where
  -- the message is captured on the day in the classes of these paths, and its first record has this number; rules filed
  -- it, or its classes were given
  Captured : (first : ℕ) → Seal → (day : ℕ) → Option Filing → (paths : List (List ℕ)) → Deed
  Held : (name : List ℕ) → (number : ℕ) → Deed
  Released : (name : List ℕ) → (number : ℕ) → Deed
  -- the record is destroyed as due by the day, under this schedule
  Destroyed : (number day : ℕ) → Schedule → Deed
  -- the live record gets another class, the one of this path
  Refiled : (number : ℕ) → (path : List ℕ) → Deed
  ClassAdded : (path : List ℕ) → Deed
  PlanReplaced : Listing → Deed
  -- The class of this path gets a title for people, and the legal basis of its schedule. It changes nothing of the archive.
  Titled : (path title basis : List ℕ) → Deed
  -- From now on a reason is to be given for a hold, a release, a new plan and a destruction; or it need not be given any
  -- more. These change nothing of the archive.
  ReasonsRequired : Deed
  ReasonsOptional : Deed
  -- A person has looked at what a program that keeps no history left, and lets it stand. It changes nothing either.
  FindingsAccepted : Deed
  -- What was there when the history began, or what a program that keeps none has left: the plan, and then each message,
  -- each record and each hold.
  FoundPlan : Listing → Deed
  FoundMessage : (number : ℕ) → Seal → Deed
  FoundRecord : Record → Deed
  FoundHold : (name : List ℕ) → (number : ℕ) → Deed

-- A deed at a moment, in seconds since 1970-01-01T00:00:00Z. Who did it, and for what reason, is told by the caller. The
-- notes are more that is told of the deed, in one word, as `message=altered` or `dated=received`: `key=value`, joined by
-- `;`, or nothing. They are room for what comes later too, as a capture's file name: a line with any notes is read
-- today, and none of its octets changes.
pub record Event : Type 0 where
  pub moment : ℕ
  pub who : List ℕ
  pub deed : Deed
  pub notes : List ℕ
  pub reason : List ℕ
