-- Deeds are read again.
use Rattle.std.proofs.Common.{◌≡◌, ℕ, ◌+◌, ◌<◌, ◌≤◌, List, [], ◌∷◌, ◌++◌, length, codes, Option, Some, None, refl, ap, sym, ◌∙◌, arith, append_assoc}
use Rattle.std.specs.Fmt.{decimal}
use Rattle.class_plan.specs.declared.schedules.Schedule.{Schedule}
use Rattle.record_archive.specs.Archive.{Record}
use Rattle.class_plan.specs.Texts.{text_of}
use Rattle.class_plan.specs.Plans.{Listing}
use Rattle.record_history.specs.Events.{Event, Deed, Seal, Filing}
use Rattle.record_history.specs.Events.{Captured, Held, Released, Destroyed, ClassAdded, PlanReplaced, FoundPlan, FoundMessage, FoundRecord}
use Rattle.record_history.specs.Events.{FoundHold, ReasonsRequired, ReasonsOptional, FindingsAccepted, Refiled, Titled}
use Rattle.record_history.specs.Lines.{counted_text, day_text, deed_text, filing_text, paths_text, plan_text, record_text, seal_text, state_word}
use Rattle.record_history.specs.Readable.{IsName, IsReadableDeed, IsListing}
use Rattle.record_history.specs.Reading.{accepted_at, added_at, captured_at, deed_at, destroyed_at, found_at, from, hold_deed, made_at}
use Rattle.record_history.specs.Reading.{message_at, paths_of, plan_change_at, plan_deed, reasons_at, record_at, refiled_at}
use Rattle.record_history.specs.Reading.{stripped, titled_at, until, greatest_record}
use Rattle.record_history.proofs.Again.{IsAfter, counted_again, from_word, number_again, stripped_again, until_word}
use Rattle.record_history.proofs.FieldsAgain.{day_again, filing_again, hold_again, path_plain, paths_again, paths_plain, seal_again}
use Rattle.record_history.proofs.PlansAgain.{place_again, plan_again, schedule_again}

hold_deed_again : (made : List ℕ → ℕ → Deed) (name : List ℕ) (n : ℕ) (t : List ℕ) → IsName name → n ≤ 4294967295 → IsAfter 32 t
    → hold_deed made (name ++ codes " " ++ decimal n ++ t) ≡ Some (made name n, t)
unfolding hold_deed
hold_deed_again made name n t h small e =
    ap (hold_deed made) (append_assoc (name ++ codes " ") (decimal n) t ∙ append_assoc name (codes " ") (decimal n ++ t))
    ∙ rw (hold_again name n t h small e) refl

plan_deed_again : (made : Listing → Deed) (p : Listing) (t : List ℕ) → IsListing p → plan_deed made (plan_text p ++ codes ")" ++ t) ≡ Some (made p, t)
unfolding plan_deed
plan_deed_again made p t h = ap (plan_deed made) (append_assoc (plan_text p) (codes ")") t) ∙ rw (plan_again p t h) refl

-- which reader takes a deed
is_held : (x : List ℕ) → deed_at (codes "held " ++ x) ≡ hold_deed Held x
unfolding deed_at stripped
is_held x = refl

is_released : (x : List ℕ) → deed_at (codes "released " ++ x) ≡ hold_deed Released x
unfolding deed_at stripped
is_released x = refl

is_destroyed : (x : List ℕ) → deed_at (codes "destroyed " ++ x) ≡ destroyed_at x
unfolding deed_at stripped
is_destroyed x = refl

is_refiled : (x : List ℕ) → deed_at (codes "refiled " ++ x) ≡ refiled_at x
unfolding deed_at stripped
is_refiled x = refl

is_captured : (x : List ℕ) → deed_at (codes "captured " ++ x) ≡ captured_at x
unfolding deed_at stripped
is_captured x = refl

is_added : (x : List ℕ) → deed_at (codes "added class " ++ x) ≡ added_at x
unfolding deed_at plan_change_at stripped
is_added x = refl

is_replaced : (x : List ℕ) → deed_at (codes "replaced plan (" ++ x) ≡ plan_deed PlanReplaced x
unfolding deed_at plan_change_at stripped
is_replaced x = refl

is_titled : (x : List ℕ) → deed_at (codes "titled " ++ x) ≡ titled_at x
unfolding deed_at plan_change_at stripped
is_titled x = refl

is_required : (x : List ℕ) → deed_at (codes "made reasons required" ++ x) ≡ Some (ReasonsRequired, x)
unfolding deed_at plan_change_at made_at reasons_at stripped
is_required x = refl

is_optional : (x : List ℕ) → deed_at (codes "made reasons optional" ++ x) ≡ Some (ReasonsOptional, x)
unfolding deed_at plan_change_at made_at reasons_at stripped
is_optional x = refl

is_accepted : (x : List ℕ) → deed_at (codes "accepted findings" ++ x) ≡ Some (FindingsAccepted, x)
unfolding deed_at plan_change_at made_at accepted_at stripped
is_accepted x = refl

is_found_plan : (x : List ℕ) → deed_at (codes "found plan (" ++ x) ≡ plan_deed FoundPlan x
unfolding deed_at plan_change_at found_at stripped
is_found_plan x = refl

is_found_message : (x : List ℕ) → deed_at (codes "found message " ++ x) ≡ message_at x
unfolding deed_at plan_change_at found_at stripped
is_found_message x = refl

is_found_record : (x : List ℕ) → deed_at (codes "found record " ++ x) ≡ record_at x
unfolding deed_at plan_change_at found_at stripped
is_found_record x = refl

is_found_hold : (x : List ℕ) → deed_at (codes "found hold " ++ x) ≡ hold_deed FoundHold x
unfolding deed_at plan_change_at found_at stripped
is_found_hold x = refl

added_again : (path t : List ℕ) → IsReadableDeed (ClassAdded path) → IsAfter 32 t → added_at (path ++ t) ≡ Some (ClassAdded path, t)
unfolding added_at
added_again path t h e = rw (
  until_word 32 path t (path_plain 32 path (omega arith) h) e,
  from_word 32 path t (path_plain 32 path (omega arith) h)
      e,
) refl

refiled_again : (n : ℕ) (path t : List ℕ) → IsReadableDeed (Refiled n path) → IsAfter 32 t
    → refiled_at (decimal n ++ (codes " to " ++ (path ++ t))) ≡ Some (Refiled n path, t)
unfolding refiled_at
refiled_again n path t h e =
    rw (
      number_again greatest_record n (codes " to " ++ (path ++ t)) h.0 (let x = h.0 in omega arith) refl,
      stripped_again (codes " to ") (path ++ t),
      until_word 32 path t (path_plain 32 path (omega arith) h.1) e,
      from_word 32 path t (path_plain 32 path (omega arith) h.1) e,
    ) refl

titled_again : (path title basis t : List ℕ) → IsReadableDeed (Titled path title basis)
    → titled_at (path ++ (codes " " ++ (decimal (length title) ++ (codes ":" ++ (title ++ (codes " " ++ (decimal (length basis)
    ++ (codes ":" ++ (basis ++ t))))))))) ≡ Some (Titled path title basis, t)
unfolding titled_at
titled_again path title basis t h =
    let last = decimal (length basis) ++ (codes ":" ++ (basis ++ t)) in
    let told = decimal (length title) ++ (codes ":" ++ (title ++ (codes " " ++ last))) in
    rw (
      until_word 32 path (codes " " ++ told) (path_plain 32 path (omega arith) h.0) refl,
      from_word 32 path (codes " " ++ told) (path_plain 32 path (omega arith) h.0) refl,
      stripped_again (codes " ") told,
      counted_again title (codes " " ++ last) h.1.0,
      stripped_again (codes " ") last,
      counted_again basis t h.2.0,
    ) refl

message_again : (n : ℕ) (s : Seal) (t : List ℕ) → IsReadableDeed (FoundMessage n s) → IsAfter 32 t
    → message_at (decimal n ++ (codes " " ++ (seal_text s ++ t))) ≡ Some (FoundMessage n s, t)
unfolding message_at
message_again n s t h e =
    rw (
      number_again greatest_record n (codes " " ++ (seal_text s ++ t)) h.0 (let x = h.0 in omega arith) refl,
      stripped_again (codes " ") (seal_text s ++ t),
      seal_again s t h.1 e,
    ) refl

regroup_titled : (path s n c title k basis t : List ℕ)
    → path ++ s ++ (n ++ c ++ title) ++ s ++ (k ++ c ++ basis) ++ t ≡ path ++ (s ++ (n ++ (c ++ (title ++ (s ++ (k ++ (c ++ (basis ++ t))))))))
regroup_titled path s n c title k basis t = simp append_assoc

regroup6 : (a b c d f g t : List ℕ) → a ++ b ++ c ++ d ++ f ++ g ++ t ≡ a ++ (b ++ (c ++ (d ++ (f ++ (g ++ t)))))
regroup6 a b c d f g t = simp append_assoc

regroup8 : (a b c d f g k l t : List ℕ) → a ++ b ++ c ++ d ++ f ++ g ++ k ++ l ++ t ≡ a ++ (b ++ (c ++ (d ++ (f ++ (g ++ (k ++ (l ++ t)))))))
regroup8 a b c d f g k l t = simp append_assoc

regroup9 : (a b c d f g k l m t : List ℕ) → a ++ b ++ c ++ d ++ f ++ g ++ k ++ l ++ m ++ t ≡ a ++ (b ++ (c ++ (d ++ (f ++ (g ++ (k ++ (l ++ (m ++
    t))))))))
regroup9 a b c d f g k l m t = simp append_assoc

destroyed_again : (n day : ℕ) (s : Schedule) (t : List ℕ) → IsReadableDeed (Destroyed n day s)
    → destroyed_at (decimal n ++ (codes " as due by " ++ (day_text day ++ (codes " (" ++ (text_of s ++ (codes ")" ++ t)))))) ≡ Some (
      Destroyed n day
          s,
      t,
    )
unfolding destroyed_at
destroyed_again n day s t h =
    let last = codes " (" ++ (text_of s ++ (codes ")" ++ t)) in
    rw (
      number_again greatest_record n (codes " as due by " ++ (day_text day ++ last)) h.0 (let x = h.0 in omega arith) refl,
      stripped_again (codes " as due by ") (day_text day ++ last),
      day_again day last h.1 refl,
      schedule_again s t h.2,
    ) refl

record_again : (r : Record) (t : List ℕ) → IsReadableDeed (FoundRecord r) → IsAfter 32 t
    → record_at (decimal r.number ++ (codes " of message " ++ (decimal r.message ++ (codes " in " ++ (r.path ++ (codes " on "
    ++ (day_text r.day ++ (codes " " ++ (state_word r.destroyed ++ t))))))))) ≡ Some (FoundRecord r, t)
unfolding record_at
record_again r t h e =
    let place = codes " in " ++ (r.path ++ (codes " on " ++ (day_text r.day ++ (codes " " ++ (state_word r.destroyed ++ t))))) in
    rw (
      number_again greatest_record r.number (codes " of message " ++ (decimal r.message ++ place)) h.0 (let x = h.0 in omega arith) refl,
      stripped_again (codes " of message ") (decimal r.message ++ place),
      number_again greatest_record r.message place h.1 (let x = h.1 in omega arith) refl,
      place_again r.path r.day r.destroyed t h.2 h.3 e,
    ) refl

after_seal : (o : Option Filing) (x : List ℕ) → IsAfter 32 (filing_text o ++ (codes " in " ++ x))
after_seal None x = refl
after_seal (Some f) x = refl

captured_again : (first : ℕ) (seal : Seal) (day : ℕ) (filing : Option Filing) (paths : List (List ℕ)) (t : List ℕ)
    → IsReadableDeed (Captured first seal day filing paths) → IsAfter 32 t
    → captured_at (decimal first ++ (codes " on " ++ (day_text day ++ (codes " message " ++ (seal_text seal ++ (filing_text filing
    ++ (codes " in " ++ (paths_text paths ++ t)))))))) ≡ Some (Captured first seal day filing paths, t)
unfolding captured_at
captured_again first seal day filing paths t h e =
    let filed = filing_text filing ++ (codes " in " ++ (paths_text paths ++ t)) in
    let sealed = codes " message " ++ (seal_text seal ++ filed) in
    rw (
      number_again greatest_record first (codes " on " ++ (day_text day ++ sealed)) h.0 (let x = h.0 in omega arith) refl,
      stripped_again (codes " on ") (day_text day ++ sealed),
      day_again day sealed h.2 refl,
      stripped_again (codes " message ") (seal_text seal ++ filed),
      seal_again seal filed h.1 (after_seal filing (paths_text paths ++ t)),
      filing_again filing (paths_text paths ++ t) h.3,
      stripped_again (codes " in ") (paths_text paths ++ t),
      until_word 32 (paths_text paths) t (paths_plain paths h.4) e,
      from_word 32 (paths_text paths) t (paths_plain paths h.4) e,
      paths_again paths h.4,
    ) refl

pub deed_again : (d : Deed) (t : List ℕ) → IsReadableDeed d → IsAfter 32 t → deed_at (deed_text d ++ t) ≡ Some (d, t)
deed_again (Held name n) t h e = is_held (name ++ codes " " ++ decimal n ++ t) ∙ hold_deed_again Held name n t h.0 h.1 e
deed_again (Released name n) t h e = is_released (name ++ codes " " ++ decimal n ++ t) ∙ hold_deed_again Released name n t h.0 h.1 e
deed_again (FoundHold name n) t h e = is_found_hold (name ++ codes " " ++ decimal n ++ t) ∙ hold_deed_again FoundHold name n t h.0 h.1 e
deed_again (ClassAdded path) t h e = is_added (path ++ t) ∙ added_again path t h e
deed_again (PlanReplaced p) t h e = is_replaced (plan_text p ++ codes ")" ++ t) ∙ plan_deed_again PlanReplaced p t h
deed_again ReasonsRequired t h e = is_required t
deed_again ReasonsOptional t h e = is_optional t
deed_again FindingsAccepted t h e = is_accepted t
deed_again (Refiled n path) t h e =
    is_refiled (decimal n ++ codes " to " ++ path ++ t)
    ∙ ap refiled_at (append_assoc (decimal n ++ codes " to ") path t ∙ append_assoc (decimal n) (codes " to ") (path ++ t))
    ∙ refiled_again n path t h e
deed_again (Titled path title basis) t h e =
    is_titled (path ++ codes " " ++ counted_text title ++ codes " " ++ counted_text basis ++ t)
    ∙ ap titled_at (regroup_titled path (codes " ") (decimal (length title)) (codes ":") title (decimal (length basis)) basis t)
    ∙ titled_again path title basis t h
deed_again (FoundPlan p) t h e = is_found_plan (plan_text p ++ codes ")" ++ t) ∙ plan_deed_again FoundPlan p t h
deed_again (FoundMessage n s) t h e =
    is_found_message (decimal n ++ codes " " ++ seal_text s ++ t)
    ∙ ap message_at (append_assoc (decimal n ++ codes " ") (seal_text s) t ∙ append_assoc (decimal n) (codes " ") (seal_text s ++ t))
    ∙ message_again n s t h e
deed_again (FoundRecord r) t h e =
    is_found_record (record_text r ++ t)
    ∙ ap record_at (regroup9 (decimal r.number) (codes " of message ") (decimal r.message) (codes " in ") r.path (codes " on ") (day_text r.day)
    (codes " ") (state_word r.destroyed) t)
    ∙ record_again r t h e
deed_again (Destroyed n day s) t h e =
    is_destroyed (decimal n ++ codes " as due by " ++ day_text day ++ codes " (" ++ text_of s ++ codes ")" ++ t)
    ∙ ap destroyed_at (regroup6 (decimal n) (codes " as due by ") (day_text day) (codes " (") (text_of s) (codes ")") t)
    ∙ destroyed_again n day s t h
deed_again (Captured first seal day filing paths) t h e =
    is_captured (decimal first ++ codes " on " ++ day_text day ++ codes " message " ++ seal_text seal ++ filing_text filing ++ codes " in " ++
    paths_text paths ++ t)
    ∙ ap captured_at (regroup8 (decimal first) (codes " on ") (day_text day) (codes " message ") (seal_text seal) (filing_text filing) (codes " in ")
    (paths_text paths) t)
    ∙ captured_again first seal day filing paths t h e
