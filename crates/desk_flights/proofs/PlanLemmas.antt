-- The classes of an outcome are classes of a plan that has all paths that were open.
use Rattle.std.proofs.Common.{◌≡◌, ℕ, List, [], ◌∷◌, refl, sym, ap, ◌∙◌, subst, inl, inr, true, false, ◌&&◌, Option, Some, None}
use Rattle.std.specs.Prelude.{is_some, option_map, unwrap_or, All}
use Rattle.std.specs.List.{AllByRecursion, list_all}
use Rattle.std.proofs.lemmas.List.Elements.{recursion_from_All}
use Rattle.class_paths.specs.Path.{unfiled}
use Rattle.sieve_meaning.specs.Case.{Facts}
use Rattle.class_plan.specs.Plans.{IsPlan, Listing, Row, row_at, has, is_open_in}
use Rattle.record_archive.specs.Archive.{AreClasses}
use Rattle.mail_case.specs.Message.{is_among}
use Rattle.desk_commands.specs.Standing.{Flight}
use Rattle.desk_flights.specs.FlightViews.{FlightView, Holds, IsOpenAtBegin}
use Rattle.desk_flights.specs.Laws.{HasOpen}

open_is_there : (o : Option Row) → unwrap_or (option_map (λ r. r.is_open) o) false ≡ true → is_some o ≡ true
open_is_there None e = absurd cc
open_is_there (Some r) e = refl

-- an open path is a class
pub open_has : (p : Listing) (q : List ℕ) → is_open_in p q ≡ true → has p.rows q ≡ true
open_has p q e = open_is_there (row_at q p.rows) e

are_there : (x : FlightView) (p : Listing) (cs : List (List ℕ)) → has p.rows unfiled ≡ true → HasOpen x p
    → AllByRecursion (IsOpenAtBegin x) cs → AreClasses p cs
are_there x p [] d opens all = refl
are_there x p (q ∷ qs) d opens all =
    ap (λ b. b && list_all (has p.rows) qs) (is_there all.0) ∙ are_there x p qs d opens all.1
  where
    is_there : IsOpenAtBegin x q → has p.rows q ≡ true
    is_there (inl same) = let P : List ℕ → Type 0 = λ r. has p.rows r ≡ true in subst P (sym same) d
    is_there (inr among) = opens q among

pub are_classes : (x : FlightView) (p : Listing) (cs : List (List ℕ)) → IsPlan p → HasOpen x p → All (IsOpenAtBegin x) cs
    → AreClasses p cs
are_classes x p cs plan opens each =
    are_there x p cs (open_has p unfiled plan.unfiled_open) opens (recursion_from_All (IsOpenAtBegin x) cs each)

pub held_has_open : (x : FlightView) (f : Flight) (p : Listing) → Holds x f
    → ((q : List ℕ) → f.at_begin.is_open q ≡ true → has p.rows q ≡ true) → HasOpen x p
held_has_open x f p h opens = λ q among. opens q (sym (ap (λ (c : Facts). c.is_open q) h.facts) ∙ among)
