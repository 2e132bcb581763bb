-- The titles of classes on worked rows.
use Rattle.std.proofs.Common.{◌≡◌, List, [], ◌∷◌, codes, Some, None, refl}
use Rattle.record_history.specs.Events.{Deed, Event, Titled, ClassAdded}
use Rattle.record_history.specs.Titles.{title_at}

abbrev done : Deed → Event
done deed = record { moment = 1925026200; who = codes "ann"; deed = deed; notes = []; reason = [] }

abbrev events : List Event
events =
    done (Titled (codes "rent") (codes "Rents") (codes "HGB 257"))
    ∷ done (Titled (codes "finance/tax") (codes "Tax documents") (codes "AO 147"))
    ∷ done (ClassAdded (codes "finance"))
    ∷ done (Titled (codes "rent") (codes "Rents and leases") [])
    ∷ []

-- the last title counts, as a whole
last : title_at (codes "rent") events ≡ Some (record { title = codes "Rents and leases"; basis = [] })
last = refl

other : title_at (codes "finance/tax") events ≡ Some (record { title = codes "Tax documents"; basis = codes "AO 147" })
other = refl

-- a class that is only added has none, and its title is not that of a class below it
none : title_at (codes "finance") events ≡ None
none = refl
