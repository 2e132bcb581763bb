-- The definitions on worked rows.
use Rattle.std.proofs.Common.{◌≡◌, ℕ, true, false, List, [], ◌∷◌, ◌++◌, map, codes, Ok, Err, refl}
use Rattle.std.specs.Fmt.{decimal}
use Rattle.mail_intake.specs.declared.mailroom.Taken.TheVariants.{Captured, Discarded}
use Rattle.mail_intake.specs.Calls.{unfit, given_up, list, read, capture, move, tell, remember, settle, taken, refused}
use Rattle.mail_intake.specs.Fates.{Fate, filed, unread, turned_away, after_all, at_move, whole_course}
use Rattle.mail_intake.specs.Folders.{Folders, left_by}
use Rattle.mail_intake.specs.Order.{handed_over}
use Rattle.mail_intake.specs.Telling.{Memory, is_to_be_told, spelling}

-- on day 100 it was told that b is a folder
abbrev known : Memory
known = record { day = 100; told = record { name = codes "b"; words = codes "a folder" } ∷ [] }

-- what is to be told of a name, in these words, on a day
told_are : map (λ (r : List ℕ × List ℕ × ℕ). is_to_be_told r.0 r.1 r.2 known)
    ((codes "b", codes "a folder", 100) ∷ (codes "b", codes "a folder", 101) ∷ (codes "b", codes "a folder", 99)
    ∷ (codes "b", codes "a link", 100) ∷ (codes "c", codes "a folder", 100) ∷ [])
    ≡ false ∷ true ∷ true ∷ true ∷ true ∷ []
told_are = refl

spelled : spelling known ≡ (decimal 100 ++ 0 ∷ []) ++ (codes "b" ++ 0 ∷ (codes "a folder" ++ 0 ∷ []))
spelled = refl

-- a is captured, b is a folder, c is discarded, and d is a fault of the rules
abbrev four : List Fate
four = filed (codes "a") (codes "tax") Captured ∷ unread (codes "b") (unfit (codes "a folder")) ∷ filed (codes "c") (codes "ad") Discarded
    ∷ turned_away (codes "d") (codes "rent") (given_up (codes "fault 1")) ∷ []

abbrev names : List (List ℕ)
names = codes "a" ∷ codes "b" ∷ codes "c" ∷ codes "d" ∷ []

-- b is not told again on day 100
calls_are : whole_course known 100 names four after_all true
    ≡ list names
    ∷ read (codes "a") (Ok (codes "tax")) ∷ capture (codes "a") (codes "tax") (taken Captured) ∷ move (codes "a") true
    ∷ read (codes "b") (Err (unfit (codes "a folder"))) ∷ remember (codes "b") (unfit (codes "a folder"))
    ∷ read (codes "c") (Ok (codes "ad")) ∷ capture (codes "c") (codes "ad") (taken Discarded) ∷ move (codes "c") true
    ∷ read (codes "d") (Ok (codes "rent")) ∷ capture (codes "d") (codes "rent") (refused (given_up (codes "fault 1")))
    ∷ tell (codes "d") (given_up (codes "fault 1")) ∷ remember (codes "d") (given_up (codes "fault 1"))
    ∷ settle true ∷ []
calls_are = refl

handed_are : handed_over (whole_course known 101 names four after_all true) ≡ codes "a" ∷ codes "c" ∷ codes "d" ∷ []
handed_are = refl

-- a move that fails ends an intake
stuck_is : whole_course known 100 names [] (at_move (codes "a") (codes "tax") Captured) true
    ≡ list names ∷ read (codes "a") (Ok (codes "tax")) ∷ capture (codes "a") (codes "tax") (taken Captured) ∷ move (codes "a") false
    ∷ settle true ∷ []
stuck_is = refl

abbrev before : Folders
before = record {
  fresh = record { name = codes "a"; octets = codes "tax" } ∷ record { name = codes "b"; octets = codes "ad" } ∷ [];
  cur = record { name = codes "z"; octets = codes "old" } ∷ [];
}

left_is : left_by (filed (codes "b") (codes "ad") Discarded) before
    ≡ record {
      fresh = record { name = codes "a"; octets = codes "tax" } ∷ [];
      cur = record { name = codes "z"; octets = codes "old" } ∷ record { name = codes "b"; octets = codes "ad" } ∷ [];
    }
left_is = refl
