-- Each captured message is in one volume.
use Rattle.std.proofs.Common.{◌≡◌, ℕ, ◌+◌, Bool, true, false, cond, List, [], ◌∷◌, ◌++◌, map, Result, Ok, Err, refl, sym, ap, ◌∙◌}
use Rattle.std.specs.List.{flat_map}
use Rattle.std.proofs.lemmas.List.{append-nil, append_assoc, map-append}
use Rattle.std.proofs.lemmas.List.Concat.{flat_map-append}
use Rattle.record_archive.specs.Archive.{Archive, Message, after_capture, capture, has_room}
use Rattle.record_archive.specs.declared.fault.ArchiveRefusal.{ArchiveRefusal}
use Rattle.record_archive.specs.declared.fault.ArchiveRefusal.TheVariants as refusal
use Rattle.record_volumes.specs.Rolling.{Capture, HasEachOnce, Row, bodies, bodies_in, body_in, capture_all, capture_in, go_on}
use Rattle.record_volumes.specs.Rolling.{rolled, volumes_of, with_last}
use Rattle.record_volumes.specs.Volumes.{joined_from}

abbrev bodies_of : Archive → List (List ℕ)
bodies_of a = map (λ (m : Message). m.body) a.messages

joined_flat : {X : Type 0} (g : Archive → List X) (v : ℕ) (vs : List Archive) → joined_from (λ w a. g a) v vs ≡ flat_map g vs
joined_flat g v [] = refl
joined_flat g v (a ∷ vs) = ap (λ l. g a ++ l) (joined_flat g (v + 1) vs)

-- the messages before the last volume, and those of the last one
parted : (row : Row) → bodies row ≡ flat_map bodies_of row.before ++ bodies_of row.last
parted row =
    joined_flat bodies_of 1 (volumes_of row) ∙ flat_map-append bodies_of row.before (row.last ∷ [])
    ∙ ap (λ l. flat_map bodies_of row.before ++ l) (append-nil (bodies_of row.last))

-- a volume that begins has no message
rolled_same : (rolls : Bool) (row : Row) → bodies (rolled rolls row) ≡ bodies row
rolled_same false row = refl
rolled_same true row =
    parted (rolled true row) ∙ append-nil (flat_map bodies_of (volumes_of row)) ∙ sym (joined_flat bodies_of 1 (volumes_of row))

captured_bodies : (a : Archive) (body : List ℕ) (day : ℕ) (paths : List (List ℕ))
    → bodies_of (after_capture a body day paths) ≡ bodies_of a ++ body_in paths body
captured_bodies a body day [] = sym (append-nil (bodies_of a))
captured_bodies a body day (q ∷ qs) = map-append (λ (m : Message). m.body) a.messages _

-- a capture into the last volume of a row
captured_last : (row after : Row) (body : List ℕ) (day : ℕ) (paths : List (List ℕ)) → with_last row (capture row.last body day paths) ≡ Ok after
    → bodies after ≡ bodies row ++ body_in paths body
captured_last row after body day paths is = go (has_room row.last paths) is
  where
    made : Archive
    made = after_capture row.last body day paths

    go : (b : Bool) → with_last row (cond {A = Result Archive ArchiveRefusal} b (Ok made) (Err refusal.Full)) ≡ Ok after
        → bodies after ≡ bodies row ++ body_in paths body
    go false e = absurd cc
    go true e =
        let same : record row { last = made } ≡ after = cc in
        sym (ap bodies same) ∙ parted (record row { last = made })
        ∙ ap (λ l. flat_map bodies_of row.before ++ l) (captured_bodies row.last body day paths)
        ∙ sym (append_assoc (flat_map bodies_of row.before) (bodies_of row.last) (body_in paths body))
        ∙ ap (λ l. l ++ body_in paths body) (sym (parted row))

one_more : (row after : Row) (c : Capture) → capture_in row c ≡ Ok after → bodies after ≡ bodies row ++ body_in c.paths c.body
one_more row after c is =
    captured_last (rolled c.rolls row) after c.body c.day c.paths is ∙ ap (λ l. l ++ body_in c.paths c.body) (rolled_same c.rolls row)

pub each_once : (cs : List Capture) (row : Row) → HasEachOnce cs row
each_once [] row after is =
    let same : row ≡ after = cc in
    sym (ap bodies same) ∙ sym (append-nil (bodies row))
each_once (c ∷ cs) row after is = go (capture_in row c) refl is (λ next. each_once cs next after)
  where
    go : (x : Result Row ArchiveRefusal) → capture_in row c ≡ x → go_on (capture_all cs) x ≡ Ok after
        → ((next : Row) → capture_all cs next ≡ Ok after → bodies after ≡ bodies next ++ bodies_in cs)
        → bodies after ≡ bodies row ++ bodies_in (c ∷ cs)
    go (Err f) e rest more = absurd cc
    go (Ok next) e rest more =
        more next rest ∙ ap (λ l. l ++ bodies_in cs) (one_more row next c e)
        ∙ append_assoc (bodies row) (body_in c.paths c.body) (bodies_in cs)
