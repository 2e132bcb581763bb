-- The moment of a capture.
use Rattle.std.specs.Prelude.{◌≡◌, ◌≤◌, ◌<◌, ◌+◌, ◌/◌, ℕ, ℤ, negsuc, pos, max, Bool, true, false, List, [], ◌∷◌, ◌++◌, fold, map, Option, Some, None}
use Rattle.std.proofs.Common.{refl, sym, ap, ◌∙◌}
use Rattle.std.proofs.lemmas.List.{map-append}
use Rattle.std.proofs.lemmas.List.Sums.{fold-append}
use Rattle.std.specs.List.{All, Contains}
use Rattle.command_lines.specs.declared.archives.Moment.{Moment}
use Rattle.command_lines.specs.declared.archives.Moment.TheVariants.{Unnamed, Now, At}
use Rattle.record_archive.specs.Archive.{Archive, Record}
use Rattle.record_archive.specs.Calls.{Keeper}
use Rattle.record_choice.specs.Entries.{RecordEntry, entry_view}
use Rattle.record_choice.specs.declared.entry.RecordEntry as own
use Rattle.cli_changes.specs.declared.moments.MomentFault.{MomentFault}
use Rattle.cli_changes.specs.declared.moments.Timing.{Timing}
use Rattle.cli_changes.specs.declared.moments.MomentFault.TheVariants.{NotCome, PastLast, Behind}

-- the last moment of the years 1970 to 2199, in seconds since 1970
abbrev pub last_moment : ℕ
last_moment = 7258118399

-- the day of a moment, in days since 1970-01-01; a day has 86,400 seconds
abbrev pub day_of_moment : ℕ → ℕ
day_of_moment moment = moment / 86400

-- the clock stands more than a day before the last day on which a record was captured
abbrev pub IsBehind : (now : ℕ) → Option ℕ → Type 0
IsBehind now None = ⊥
IsBehind now (Some last) = day_of_moment now + 1 < last

-- The moment of a capture: one that is named has come. Else it is that of the clock, in the years 1970 to 2199, and, where
-- the clock is not named, not before the days of the archive.
abbrev pub IsMoment : Moment → (now : ℕ) → (last : Option ℕ) → ℕ → Type 0
IsMoment (At named) now last moment = (moment ≡ named) × (named ≤ now)
IsMoment Now now last moment = (moment ≡ now) × (now ≤ last_moment)
IsMoment Unnamed now last moment = (moment ≡ now) × (now ≤ last_moment) × (IsBehind now last → ⊥)

-- Why there is none: a moment that is named has not come, the clock is after 2199, or it is before the days of the archive
-- and was not named.
abbrev pub IsRefused : Moment → (now : ℕ) → (last : Option ℕ) → MomentFault → Type 0
IsRefused (At named) now last NotCome = now < named
IsRefused Now now last PastLast = last_moment < now
IsRefused Unnamed now last PastLast = last_moment < now
IsRefused Unnamed now last (Behind today day) =
    (now ≤ last_moment) × IsBehind now last × (today ≡ day_of_moment now) × (last ≡ Some day)
IsRefused asked now last fault = ⊥

-- the same, for what the clock shows now, of which no contract knows more
abbrev pub IsMomentNow : Moment → (last : Option ℕ) → ℕ → Type 0
IsMomentNow asked last moment = (now : ℕ) × IsMoment asked now last moment

-- ---- the last day of an archive

-- THE LAST OF SOME DAYS; none where there are none
abbrev pub IsLast : List ℕ → Option ℕ → Type 0
IsLast days None = days ≡ []
IsLast days (Some last) = Contains days last × All (λ day. day ≤ last) days

-- the days on which its records were captured, the destroyed ones too
abbrev pub days_of : Archive → List ℕ
days_of a = map (λ (r : Record). r.day) a.records

-- some days, and one more that is known, if one is
abbrev pub with_day : (known : Option ℕ) → (days : List ℕ) → List ℕ
with_day None days = days
with_day (Some day) days = day ∷ days

-- it is looked for only where no moment is named, and the clock is not; a day that is known counts too
abbrev pub IsLookedFor : Moment → (known : Option ℕ) → Archive → (last : Option ℕ) → Type 0
IsLookedFor Unnamed known a last = IsLast (with_day known (days_of a)) last
IsLookedFor Now known a last = last ≡ known
IsLookedFor (At named) known a last = last ≡ known

-- whether it is looked for, and no day is known
abbrev pub is_unknown : Moment → (known : Option ℕ) → Bool
is_unknown Unnamed None = true
is_unknown Unnamed (Some day) = false
is_unknown Now known = false
is_unknown (At named) known = false

abbrev pub needs_day : Timing → Bool
needs_day timing = is_unknown timing.asked timing.last

-- THE MOMENT OF A CAPTURE in an archive, by the clock and by its last day, or one that is known and later
abbrev pub IsMomentBy : {R : Type 0} → (Clean : R → Type 0) → (Stands : R → Archive → Type 0) → Timing → (old new : R) → ℕ → Type 0
IsMomentBy Clean Stands timing old new moment = (last : Option ℕ) × IsMomentNow timing.asked last moment
    × (Clean new → (a : Archive) → Stands old a → IsLookedFor timing.asked timing.last a last)

abbrev pub IsMomentIn : {A : Type 0} → Keeper A Archive → Timing → (old new : A) → ℕ → Type 0
IsMomentIn keeper timing old new moment = IsMomentBy keeper.clean keeper.stands timing old new moment

-- the later day of two, if there is one before
abbrev pub later_of : Option ℕ → ℕ → ℕ
later_of None day = day
later_of (Some last) day = max last day

-- ---- as it is read

-- the number of a day from 1970-01-01 on, and 0 of an earlier one
abbrev pub number_from_1970 : ℤ → ℕ
number_from_1970 (pos n) = n
number_from_1970 (negsuc n) = 0

-- the last day of these entries and one before them
abbrev pub last_day_of : (before : Option ℕ) → List RecordEntry → Option ℕ
last_day_of before es = fold (λ (last : Option ℕ) (e : RecordEntry). Some (later_of last (number_from_1970 e.day))) before es

pub no_day : (x : Option ℕ) → x ≡ last_day_of x (map entry_view [])
no_day x = refl

pub more_days : (x y z : Option ℕ) (es fs : List own.RecordEntry) → y ≡ last_day_of x (map entry_view es)
    → z ≡ last_day_of y (map entry_view fs) → z ≡ last_day_of x (map entry_view (es ++ fs))
more_days x y z es fs one other =
    other ∙ ap (λ (d : Option ℕ). last_day_of d (map entry_view fs)) one
    ∙ sym (fold-append (λ (last : Option ℕ) (e : RecordEntry). Some (later_of last (number_from_1970 e.day))) x (map entry_view es)
    (map entry_view fs))
    ∙ ap (last_day_of x) (sym (map-append entry_view es fs))
