-- The calls of an intake are in order.
use Rattle.std.proofs.Common.{◌≡◌, ℕ, Bool, true, false, List, [], ◌∷◌, ◌++◌, Option, Some, None, Ok, Err, map, refl, sym, ap, ◌∙◌, subst, inl, inr}
use Rattle.std.proofs.Common.{append_assoc}
use Rattle.std.specs.Prelude.{if◌then◌else◌}
use Rattle.std.proofs.lemmas.List.{append-nil}
use Rattle.std.specs.List.{flat_map}
use Rattle.mail_intake.specs.Calls.{Call, Cause, list, read, capture, move, tell, remember, settle, taken, refused, ended, words_of}
use Rattle.mail_intake.specs.Fates.{AreThoseOf, Ending, Fate, filed, unread, turned_away, after_all}
use Rattle.mail_intake.specs.Fates.{at_capture, at_move, course, last_course, name_of, stays, whole_course}
use Rattle.mail_intake.specs.Order.{AreInOrder, AreSomeOf, IsLeft, IsTold, handed_over}
use Rattle.mail_intake.specs.Telling.{Memory, is_to_be_told}

-- what was found may be remembered without being told
left_told : (name : List ℕ) (why : Cause) (before : Option Call) → IsLeft name why before → IsTold name why before
left_told name why None h = h
left_told name why (Some (list names)) h = h
left_told name why (Some (read n (Ok octets))) h = h
left_told name why (Some (read n (Err w))) h = h
left_told name why (Some (capture n octets (taken how))) h = h
left_told name why (Some (capture n octets (refused w))) h = h
left_told name why (Some (capture n octets ended)) h = h
left_told name why (Some (move n done)) h = h
left_told name why (Some (tell n w)) h = absurd h
left_told name why (Some (remember n w)) h = h
left_told name why (Some (settle done)) h = h

abbrev AlwaysInOrder : List Call → Type 0
AlwaysInOrder calls = (before : Option Call) → AreInOrder before calls

-- what is left is told or not, and remembered
stays_in_order : (b : Bool) (name : List ℕ) (why : Cause) (before : Option Call) (rest : List Call) → IsLeft name why before
    → AlwaysInOrder rest → AreInOrder before (((if b then tell name why ∷ [] else []) ++ remember name why ∷ []) ++ rest)
stays_in_order true name why before rest left more = (left, ((refl, refl), more (Some (remember name why))))
stays_in_order false name why before rest left more = (left_told name why before left, more (Some (remember name why)))

stays_hand_over : (b : Bool) (name : List ℕ) (why : Cause) (rest : List Call)
    → handed_over (((if b then tell name why ∷ [] else []) ++ remember name why ∷ []) ++ rest) ≡ handed_over rest
stays_hand_over true name why rest = refl
stays_hand_over false name why rest = refl

some_skip : {X : Type 0} (ys xs : List X) (x : X) → AreSomeOf ys xs → AreSomeOf ys (x ∷ xs)
some_skip [] xs x h = tt
some_skip (y ∷ ys) xs x h = inr h

module _ (memory : Memory) (day : ℕ) where
  fates_in_order : (fates : List Fate) (rest : List Call) → AlwaysInOrder rest → AlwaysInOrder (flat_map (course memory day) fates ++ rest)
  fates_in_order [] rest more = more
  fates_in_order (filed name octets how ∷ fates) rest more = λ before.
      (tt, ((refl, refl), (refl, fates_in_order fates rest more (Some (move name true)))))
  fates_in_order (unread name why ∷ fates) rest more = λ before. (
    tt,
    subst (AreInOrder (Some (read name (Err why)))) (sym (append_assoc (stays memory day name why) (flat_map (course memory day) fates) rest))
        (stays_in_order (is_to_be_told name (words_of why) day memory) name why (Some (read name (Err why)))
        (flat_map (course memory day) fates ++ rest) (refl, refl) (fates_in_order fates rest more)),
  )
  fates_in_order (turned_away name octets why ∷ fates) rest more = λ before. (
    tt,
    (
      (refl, refl),
      subst (AreInOrder (Some (capture name octets (refused why))))
          (sym (append_assoc (stays memory day name why) (flat_map (course memory day) fates) rest))
          (stays_in_order (is_to_be_told name (words_of why) day memory) name why (Some (capture name octets (refused why)))
          (flat_map (course memory day) fates ++ rest) (refl, refl) (fates_in_order fates rest more)),
    ),
  )

  last_in_order : (e : Ending) (done : Bool) → AlwaysInOrder (last_course memory day e ++ settle done ∷ [])
  last_in_order after_all done before = (tt, tt)
  last_in_order (at_capture name octets) done before = (tt, ((refl, refl), (tt, tt)))
  last_in_order (at_move name octets how) done before = (tt, ((refl, refl), (refl, (tt, tt))))

  fates_hand_over : (fates : List Fate) (rest : List Call) (names : List (List ℕ)) → AreSomeOf (handed_over rest) names
      → AreSomeOf (handed_over (flat_map (course memory day) fates ++ rest)) (map name_of fates ++ names)
  fates_hand_over [] rest names h = h
  fates_hand_over (filed name octets how ∷ fates) rest names h = inl (refl, fates_hand_over fates rest names h)
  fates_hand_over (unread name why ∷ fates) rest names h =
      some_skip _ (map name_of fates ++ names) name
      (subst (λ l. AreSomeOf l (map name_of fates ++ names))
      (sym (ap handed_over (append_assoc (stays memory day name why) (flat_map (course memory day) fates) rest)
      ∙ stays_hand_over (is_to_be_told name (words_of why) day memory) name why (flat_map (course memory day) fates ++ rest)))
      (fates_hand_over fates rest names h))
  fates_hand_over (turned_away name octets why ∷ fates) rest names h =
      inl (
        refl,
        subst (λ l. AreSomeOf l (map name_of fates ++ names))
            (sym (ap handed_over (append_assoc (stays memory day name why) (flat_map (course memory day) fates) rest)
            ∙ stays_hand_over (is_to_be_told name (words_of why) day memory) name why (flat_map (course memory day) fates ++ rest)))
            (fates_hand_over fates rest names h),
      )

  whole_hand_over : (e : Ending) (names : List (List ℕ)) (fates : List Fate) (done : Bool) → AreThoseOf names fates e
      → AreSomeOf (handed_over (flat_map (course memory day) fates ++ (last_course memory day e ++ settle done ∷ []))) names
  whole_hand_over after_all names fates done h =
      subst (AreSomeOf _) (append-nil (map name_of fates) ∙ h) (fates_hand_over fates (settle done ∷ []) [] tt)
  whole_hand_over (at_capture name octets) names fates done h =
      subst (AreSomeOf _) h.1 (fates_hand_over fates _ (name ∷ h.0) (inl (refl, tt)))
  whole_hand_over (at_move name octets how) names fates done h =
      subst (AreSomeOf _) h.1 (fates_hand_over fates _ (name ∷ h.0) (inl (refl, tt)))

-- the law
pub in_order : (memory : Memory) (day : ℕ) (names : List (List ℕ)) (fates : List Fate) (e : Ending) (done : Bool) → AreThoseOf names fates e
    → AreInOrder None (whole_course memory day names fates e done) × AreSomeOf (handed_over (whole_course memory day names fates e done)) names
in_order memory day names fates e done h =
    let same = append_assoc (flat_map (course memory day) fates) (last_course memory day e) (settle done ∷ []) in (
      (
        tt,
        subst (AreInOrder (Some (list names))) (sym same)
            (fates_in_order memory day fates _ (last_in_order memory day e done) (Some (list names))),
      ),
      subst (λ l. AreSomeOf (handed_over l) names) (sym same) (whole_hand_over memory day e names fates done h),
    )
