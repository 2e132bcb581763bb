-- Each command does the same to a sealed archive as to the archive.
use Rattle.std.proofs.Common.{◌≡◌, ◌==◌, ◌+◌, ℕ, Bool, true, false, not, cond, List, [], ◌∷◌, ◌++◌, map, filter, Option, Some, None, negsuc}
use Rattle.std.proofs.Common.{option_map, option_and_then, length, arith, Result, Ok, Err, refl, sym, ap, ◌∙◌}
use Rattle.std.proofs.lemmas.List.{map-append}
use Rattle.std.proofs.lemmas.Bool.{eq-eqb}
use Rattle.class_plan.specs.declared.faults.PlanFault.{PlanFault}
use Rattle.class_plan.specs.Plans.{Listing, has, schedule_at, keeps}
use Rattle.class_plan.specs.Changes.{addition}
use Rattle.record_archive.specs.Archive.{Archive, Message, Record, empty_archive, next_number, record_at, is_held, is_held_by, is_shared}
use Rattle.record_archive.specs.Archive.{capture, after_capture, has_room, hold, hold_one, release, release_one, destroy, destroy_on, destroy_by}
use Rattle.record_archive.specs.Archive.{destroys, is_by_any, due_of, without, with_hold}
use Rattle.record_archive.specs.Archive.{without_hold, messages_without, add_class, plan_answer, revise}
use Rattle.record_archive.specs.Refiling.{refile, refile_one, refiled}
use Rattle.record_archive.specs.declared.fault.ArchiveRefusal.{ArchiveRefusal}
use Rattle.record_archive.specs.declared.fault.ArchiveRefusal.TheVariants as refusal
use Rattle.record_history.specs.Events.{Event, Deed, Titled, ReasonsRequired, ReasonsOptional, FindingsAccepted}
use Rattle.record_history.specs.Replay.{seal, sealed_message, sealed, made, after, replay}
use Rattle.record_history.specs.Lines.{line_of, lines_from, seal_text}
use Rattle.record_history.specs.Laws.{Tells, TellsInLines, LeavesTold, CommandsAreTold}

-- the command does the same to the sealed archive
abbrev Same : (here there : Result Archive ArchiveRefusal) → Type 0
Same here there = made there ≡ option_map sealed (made here)

-- refused alike, or made alike
same_if : (b : Bool) (f : ArchiveRefusal) (here there : Result Archive ArchiveRefusal) → Same here there
    → Same (cond b (Err f) here) (cond b (Err f) there)
same_if true f here there h = refl
same_if false f here there h = h

same_else : (b : Bool) (f : ArchiveRefusal) (here there : Result Archive ArchiveRefusal) → Same here there
    → Same (cond b here (Err f)) (cond b there (Err f))
same_else true f here there h = h
same_else false f here there h = refl

pub same_capture : (a : Archive) (body : List ℕ) (day : ℕ) (paths : List (List ℕ))
    → Same (capture a body day paths) (capture (sealed a) (seal_text (seal body)) day paths)
same_capture a body day [] = refl
same_capture a body day (q ∷ qs) =
    same_else (has_room a (q ∷ qs)) refusal.Full (Ok (after_capture a body day (q ∷ qs)))
    (Ok (after_capture (sealed a) (seal_text (seal body)) day (q ∷ qs)))
    (ap (λ ms. Some (record (after_capture a body day (q ∷ qs)) { messages = ms }))
    (sym (map-append sealed_message a.messages (record { number = next_number a; body = body } ∷ []))))

pub same_hold : (a : Archive) (name : List ℕ) (n : ℕ) → Same (hold a name n) (hold (sealed a) name n)
same_hold a name n = go (record_at a n)
  where
    go : (o : Option Record) → Same (hold_one a name n o) (hold_one (sealed a) name n o)
    go None = refl
    go (Some r) =
        same_if r.destroyed refusal.Destroyed _ _
        (same_if (is_held_by a name n) refusal.HoldThere (Ok (with_hold a name n)) (Ok (with_hold (sealed a) name n)) refl)

pub same_release : (a : Archive) (name : List ℕ) (n : ℕ) → Same (release a name n) (release (sealed a) name n)
same_release a name n = go (record_at a n)
  where
    go : (o : Option Record) → Same (release_one a name n o) (release_one (sealed a) name n o)
    go None = refl
    go (Some r) = same_else (is_held_by a name n) refusal.NoHold (Ok (without_hold a name n)) (Ok (without_hold (sealed a) name n)) refl

-- the seals of the messages that stay
kept_seals : (k : ℕ) (ms : List Message) → filter (λ (m : Message). not (m.number == k)) (map sealed_message ms)
    ≡ map sealed_message (filter (λ (m : Message). not (m.number == k)) ms)
kept_seals k [] = refl
kept_seals k (m ∷ ms) = go (not (m.number == k)) _ _ (kept_seals k ms)
  where
    go : (b : Bool) (xs ys : List Message) → xs ≡ map sealed_message ys
        → cond b (sealed_message m ∷ xs) xs ≡ map sealed_message (cond b (m ∷ ys) ys)
    go true xs ys h = ap (λ l. sealed_message m ∷ l) h
    go false xs ys h = h

same_messages : (a : Archive) (r : Record) → messages_without (sealed a) r ≡ map sealed_message (messages_without a r)
same_messages a r = go (is_shared a r)
  where
    go : (b : Bool) → cond b (map sealed_message a.messages) (filter (λ (m : Message). not (m.number == r.message)) (map sealed_message a.messages))
        ≡ map sealed_message (cond b a.messages (filter (λ (m : Message). not (m.number == r.message)) a.messages))
    go true = refl
    go false = kept_seals r.message a.messages

pub same_destroy : (a : Archive) (n day : ℕ) → Same (destroy a n day) (destroy (sealed a) n day)
same_destroy a n day = go (record_at a n)
  where
    go : (o : Option Record) → Same (destroy_by a n (Some day) o) (destroy_by (sealed a) n (Some day) o)
    go None = refl
    go (Some r) =
        same_if r.destroyed refusal.Destroyed _ _ (same_if (is_held a n) refusal.Held _ _
        (same_if (not (destroys (schedule_at a.plan r.path))) refusal.NotForDestruction _ _
        (same_if (not (is_by_any (Some day) (due_of a r))) refusal.NotDue (Ok (without a r)) (Ok (without (sealed a) r))
        (ap (λ ms. Some (record (without a r) { messages = ms })) (same_messages a r)))))

-- nothing is due by a day before 1970
never_before : (a : Archive) (n k : ℕ) (b : Archive) → destroy_on a n (negsuc k) ≡ Ok b → ⊥
never_before a n k b = go (record_at a n)
  where
    refused : (x : Bool) (f : ArchiveRefusal) (r : Result Archive ArchiveRefusal) → (r ≡ Ok b → ⊥) → cond x (Err f) r ≡ Ok b → ⊥
    refused true f r h e = cc
    refused false f r h e = h e

    go : (o : Option Record) → destroy_by a n None o ≡ Ok b → ⊥
    go None e = cc
    go (Some r) e = refused r.destroyed _ _ (refused (is_held a n) _ _ (refused (not (destroys (schedule_at a.plan r.path))) _ _ (λ e. cc))) e

pub same_refile : (a : Archive) (n : ℕ) (q : List ℕ) → Same (refile a n q) (refile (sealed a) n q)
same_refile a n q = go (record_at a n)
  where
    go : (o : Option Record) → Same (refile_one a n q o) (refile_one (sealed a) n q o)
    go None = refl
    go (Some r) =
        same_if r.destroyed refusal.Destroyed _ _
        (same_if (not (has a.plan.rows q)) refusal.NoClass (Ok (refiled a n q)) (Ok (refiled (sealed a) n q)) refl)

pub same_addition : (a : Archive) (q : List ℕ) → Same (add_class a q) (add_class (sealed a) q)
same_addition a q = go (addition a.plan q)
  where
    go : (o : Result Listing PlanFault) → Same (plan_answer a o) (plan_answer (sealed a) o)
    go (Ok p) = refl
    go (Err f) = refl

pub same_revision : (a : Archive) (p : Listing) → Same (revise a p) (revise (sealed a) p)
same_revision a p = same_else (keeps a.plan p) _ (Ok (record a { plan = p })) (Ok (record (sealed a) { plan = p })) refl

-- ---- one event more

replay_append : (es fs : List Event) (a : Archive) → replay (es ++ fs) a ≡ option_and_then (replay fs) (replay es a)
replay_append [] fs a = refl
replay_append (e ∷ es) fs a = go (λ b. replay_append es fs b) (after e.deed a)
  where
    go : ((b : Archive) → replay (es ++ fs) b ≡ option_and_then (replay fs) (replay es b)) → (o : Option Archive)
        → option_and_then (replay (es ++ fs)) o ≡ option_and_then (replay fs) (option_and_then (replay es) o)
    go again None = refl
    go again (Some b) = again b

replay_one : (e : Event) (o : Option Archive) → option_and_then (replay []) o ≡ o
replay_one e None = refl
replay_one e (Some b) = refl

-- the deed makes of the sealed archive what the command makes of the archive
pub told : (deed : Archive → Deed) (command : Archive → Result Archive ArchiveRefusal)
    → ((a : Archive) → after (deed a) (sealed a) ≡ option_map sealed (made (command a))) → Tells deed command
told deed command same es e a b explains done is =
    replay_append es (e ∷ []) empty_archive ∙ ap (option_and_then (replay (e ∷ []))) explains
    ∙ replay_one e (after e.deed (sealed a)) ∙ ap (λ d. after d (sealed a)) is ∙ same a
    ∙ ap (λ r. option_map sealed (made r)) done

same_number : (n : ℕ) → (n == n) ≡ true
same_number n = eq-eqb n n refl

-- ---- lines

pub length_of_lines : (n : ℕ) (es : List Event) → length (lines_from n es) ≡ length es
length_of_lines n [] = refl
length_of_lines n (e ∷ es) = omega (arith, length_of_lines (n + 1) es)

pub lines_more : (n : ℕ) (es : List Event) (e : Event) (k : ℕ) → k ≡ n + length es
    → lines_from n (es ++ e ∷ []) ≡ lines_from n es ++ line_of k e ∷ []
lines_more n [] e k is = let same : n ≡ k = omega (arith, is) in ap (λ m. line_of m e ∷ []) same
lines_more n (x ∷ es) e k is = ap (λ ls. line_of n x ∷ ls) (lines_more (n + 1) es e k (omega (arith, is)))

told_in_lines : (deed : Archive → Deed) (command : Archive → Result Archive ArchiveRefusal) → Tells deed command → TellsInLines deed command
told_in_lines deed command tells e a b ls told done is =
    let es = told.0 in
    let k : length (lines_from 1 es) + 1 ≡ 1 + length es = omega (arith, length_of_lines 1 es) in (
      es ++ e ∷ [],
      ap (λ l. l ++ line_of (length l + 1) e ∷ []) told.1 ∙ sym (lines_more 1 es e (length (lines_from 1 es) + 1) k),
      tells es e a b told.2 done is,
    )

-- a deed that changes nothing
left_told : (deed : Deed) → ((a : Archive) → after deed a ≡ Some a) → LeavesTold deed
left_told deed same e a ls was is =
    told_in_lines (λ a. deed) (λ a. Ok a) (told (λ a. deed) (λ a. Ok a) (λ a. same (sealed a))) e a a ls was refl is

pub all_told : CommandsAreTold
all_told = record {
  none = refl;
  captures = λ body day filing paths. told _ (λ a. capture a body day paths) (λ a.
      rw (same_number (next_number a)) (same_capture a body day paths));
  holds = λ name n. told _ (λ a. hold a name n) (λ a. same_hold a name n);
  releases = λ name n. told _ (λ a. release a name n) (λ a. same_release a name n);
  destructions = λ n day schedule. told _ (λ a. destroy a n day) (λ a. same_destroy a n day);
  none_before_1970 = λ n k a b. never_before a n k b;
  refilings = λ n q. told _ (λ a. refile a n q) (λ a. same_refile a n q);
  additions = λ path. told _ (λ a. add_class a path) (λ a. same_addition a path);
  plans = λ p. told _ (λ a. revise a p) (λ a. same_revision a p);
  titles = λ path title basis. left_told (Titled path title basis) (λ a. refl);
  reasons_required = left_told ReasonsRequired (λ a. refl);
  reasons_optional = left_told ReasonsOptional (λ a. refl);
  findings_accepted = left_told FindingsAccepted (λ a. refl);
  lines = told_in_lines;
}
