-- Findings put each row beside the others.
use Rattle.std.proofs.Common.{◌≡◌, ◌+◌, ℕ, List, [], ◌∷◌, ◌++◌, map, length, Option, Some, None, option_and_then, refl, sym, ap, subst, ◌∙◌, arith}
use Rattle.record_archive.specs.Archive.{Archive, Message, Record, Hold, empty_archive}
use Rattle.record_history.specs.Events.{Event, Deed, FoundPlan}
use Rattle.record_history.specs.Laws.{Told}
use Rattle.record_history.specs.Lines.{line_of, lines_from}
use Rattle.record_history.specs.Replay.{after, replay, sealed}
use Rattle.record_history.specs.Views.{seal_view}
use Rattle.record_judge.specs.Findings.{found_message, found_record, found_hold, findings_of, deeds_of, FindingsRestate}
use Rattle.record_judge.specs.Judging.{Judges}
use Rattle.record_judge.specs.Sealed.{archive_view, message_view, record_view, hold_view}
use Rattle.record_judge.specs.declared.judge.Judge.{Judge}
use Rattle.record_judge.specs.declared.sealed.NamedHold.{NamedHold}
use Rattle.record_judge.specs.declared.sealed.SealedArchive.{SealedArchive}
use Rattle.record_judge.specs.declared.sealed.SealedMessage.{SealedMessage}
use Rattle.record_judge.specs.declared.sealed.SealedRecord.{SealedRecord}

-- ---- deeds alone

abbrev run : List Deed → Archive → Option Archive
run [] a = Some a
run (d ∷ ds) a = option_and_then (run ds) (after d a)

run_is : (es : List Event) (a : Archive) → replay es a ≡ run (deeds_of es) a
run_is [] a = refl
run_is (e ∷ es) a = go (λ b. run_is es b) (after e.deed a)
  where
    go : ((b : Archive) → replay es b ≡ run (deeds_of es) b) → (o : Option Archive)
        → option_and_then (replay es) o ≡ option_and_then (run (deeds_of es)) o
    go again None = refl
    go again (Some b) = again b

append_assoc : {X : Type 0} (xs ys zs : List X) → (xs ++ ys) ++ zs ≡ xs ++ (ys ++ zs)
append_assoc [] ys zs = refl
append_assoc (x ∷ xs) ys zs = ap (λ l. x ∷ l) (append_assoc xs ys zs)

append_nil : {X : Type 0} (xs : List X) → xs ++ [] ≡ xs
append_nil [] = refl
append_nil (x ∷ xs) = ap (λ l. x ∷ l) (append_nil xs)

messages_found : (ms : List SealedMessage) (ds : List Deed) (a : Archive) → run (map found_message ms ++ ds) a
    ≡ run ds (record a { messages = a.messages ++ map message_view ms })
messages_found [] ds a = ap (λ l. run ds (record a { messages = l })) (sym (append_nil a.messages))
messages_found (m ∷ ms) ds a =
    messages_found ms ds (record a { messages = a.messages ++ message_view m ∷ [] })
    ∙ ap (λ l. run ds (record a { messages = l })) (append_assoc a.messages (message_view m ∷ []) (map message_view ms))

records_found : (rs : List SealedRecord) (ds : List Deed) (a : Archive) → run (map found_record rs ++ ds) a
    ≡ run ds (record a { records = a.records ++ map record_view rs })
records_found [] ds a = ap (λ l. run ds (record a { records = l })) (sym (append_nil a.records))
records_found (r ∷ rs) ds a =
    records_found rs ds (record a { records = a.records ++ record_view r ∷ [] })
    ∙ ap (λ l. run ds (record a { records = l })) (append_assoc a.records (record_view r ∷ []) (map record_view rs))

holds_found : (hs : List NamedHold) (a : Archive) → run (map found_hold hs) a ≡ Some (record a { holds = a.holds ++ map hold_view hs })
holds_found [] a = ap (λ l. Some (record a { holds = l })) (sym (append_nil a.holds))
holds_found (h ∷ hs) a =
    holds_found hs (record a { holds = a.holds ++ hold_view h ∷ [] })
    ∙ ap (λ l. Some (record a { holds = l })) (append_assoc a.holds (hold_view h ∷ []) (map hold_view hs))

restated : (s : SealedArchive) (a : Archive) → run (findings_of s) a ≡ Some (archive_view s)
restated s a =
    let first : Archive = record empty_archive { plan = s.plan } in
    let second : Archive = record first { messages = map message_view s.messages.items } in
    let third : Archive = record second { records = map record_view s.records.items } in
    messages_found s.messages.items (map found_record s.records.items ++ map found_hold s.holds.items) first
    ∙ records_found s.records.items (map found_hold s.holds.items) second ∙ holds_found s.holds.items third

restate : (s : SealedArchive) (es : List Event) (a : Archive) → deeds_of es ≡ findings_of s → replay es a ≡ Some (archive_view s)
restate s es a is = run_is es a ∙ ap (λ ds. run ds a) is ∙ restated s a

-- ---- after other events

pub replay_append : (es fs : List Event) (a b : Archive) → replay es a ≡ Some b → replay (es ++ fs) a ≡ replay fs b
replay_append [] fs a b is = let same : a ≡ b = cc in ap (replay fs) same
replay_append (e ∷ es) fs a b is = go (λ c h. replay_append es fs c b h) (after e.deed a) is
  where
    go : ((c : Archive) → replay es c ≡ Some b → replay (es ++ fs) c ≡ replay fs b) → (o : Option Archive)
        → option_and_then (replay es) o ≡ Some b → option_and_then (replay (es ++ fs)) o ≡ replay fs b
    go again None h = absurd (let x = h in cc)
    go again (Some c) h = again c h

pub lines_append : (n : ℕ) (es fs : List Event) → lines_from n (es ++ fs) ≡ lines_from n es ++ lines_from (n + length es) fs
lines_append n [] fs = let same : n ≡ n + 0 = omega arith in ap (λ k. lines_from k fs) same
lines_append n (e ∷ es) fs =
    let same : (n + 1) + length es ≡ n + length (e ∷ es) = omega arith in
    ap (λ ls. line_of n e ∷ ls) (lines_append (n + 1) es fs ∙ ap (λ k. lines_from (n + 1) es ++ lines_from k fs) same)

pub lines_length : (n : ℕ) (es : List Event) → length (lines_from n es) ≡ length es
lines_length n [] = refl
lines_length n (e ∷ es) = omega (arith, lines_length (n + 1) es)

after_others : (j : Judge) (ls : List (List ℕ)) (s : SealedArchive) (es : List Event) (a : Archive) → Judges j ls
    → deeds_of es ≡ findings_of s → archive_view s ≡ sealed a → Told a (ls ++ lines_from (length ls + 1) es)
after_others j ls s es a judged is seen =
    let was = judged.events in
    let k : length ls + 1 ≡ 1 + length was = omega (arith, ap length judged.lines, lines_length 1 was) in (
      was ++ es,
      ap (λ l. l ++ lines_from (length ls + 1) es) judged.lines ∙ ap (λ n. lines_from 1 was ++ lines_from n es) k ∙ sym (lines_append 1 was es),
      replay_append was es empty_archive (archive_view j.archive) judged.replayed ∙ restate s es (archive_view j.archive) is ∙ ap (λ x. Some x) seen,
    )

pub all_restate : FindingsRestate
all_restate = record {
  restate = restate;
  first = λ s es a is seen. (es, refl, restate s es empty_archive is ∙ ap (λ x. Some x) seen);
  after_others = after_others;
}
