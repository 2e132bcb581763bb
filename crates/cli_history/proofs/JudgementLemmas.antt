-- A history that is judged, a row at a time and a page at a time.
use Rattle.std.proofs.Common.{◌≡◌, ◌+◌, ◌<◌, ◌≤◌, ◌++◌, ◌∷◌, ◌∙◌, ◌&&◌, ◌||◌, [], ℕ, List, Bool, true, false, not, Option, Some, None}
use Rattle.std.proofs.Common.{cond, map, take, get_or, length, refl, ap, sym, subst}
use Rattle.std.proofs.lemmas.List.{map-append}
use Rattle.std.specs.Borrow.{Bor}
use Rattle.std.specs.Prelude.{is_none, is_ok, is_some, OnOk, Result, Ok, Err}
use Rattle.record_archive.specs.Archive.{Archive}
use Rattle.record_tables.specs.Events.{Event as Row}
use Rattle.record_reads.specs.Events.{event_of}
use Rattle.record_reads.specs.declared.events.EventRow.{EventRow}
use Rattle.record_judge.specs.Judging.{Judges}
use Rattle.record_judge.specs.declared.judge.Judge.{Judge}
use Rattle.record_noted.specs.Histories.{rows_of}
use Rattle.cli_history.specs.Findings.{is_open_at, stage_after}
use Rattle.cli_history.specs.Judgements.{IsJudged, IsWhole, Passes, TakesEvent, is_head, marked}
use Rattle.cli_history.specs.Made.{IsMadeWhole}
use Rattle.cli_history.specs.Marks.{met_after}
use Rattle.cli_history.specs.Replays.{Tell}
use Rattle.cli_history.specs.Seals.{later}
use Rattle.cli_history.specs.declared.judging.Judgement.{Judgement}
use Rattle.cli_history.specs.declared.stored.StoredSeals.{StoredSeals}
use Rattle.cli_history.proofs.FindingLemmas.{stage_tells}
use Rattle.cli_history.proofs.ReplayLemmas.{later_none, later_thrice, stage_more, tell_more}
use Rattle.cli_history.proofs.WalkLemmas.{all_of_page, lines_of_rows, more_of_page, none_of_page}

abbrev lines : List Row → List (List ℕ)
lines rows = map (λ (r : Row). r.line) rows

pub met_later : (b : Bool) (n : ℕ) (before : Option ℕ) → met_after b n before ≡ later (cond b (Some n) None) before
met_later true n before = refl
met_later false n before = refl

pub marked_more : (p : List ℕ → Bool) (rows : List Row) (r : Row)
    → marked p (rows ++ r ∷ []) ≡ later (cond (p r.mark) (Some r.number) None) (marked p rows)
marked_more p [] r = later_none (cond (p r.mark) (Some r.number) None)
marked_more p (q ∷ rows) r =
    ap (λ x. later x (cond (p q.mark) (Some q.number) None)) (marked_more p rows r)
    ∙ later_thrice (cond (p r.mark) (Some r.number) None) (marked p rows) (cond (p q.mark) (Some q.number) None)

-- ONE ROW MORE, against which nothing stands: the judge has seen it, and then it is taken
pub whole_more : (row : EventRow) (old seen new : Judgement) (rows : List Row) → IsWhole old rows → seen.findings ≡ old.findings
    → seen.met ≡ old.met → seen.head ≡ old.head → TakesEvent row seen new → Judges seen.watch.judge (lines rows ++ row.line.items ∷ [])
    → IsWhole new (rows ++ event_of row ∷ [])
whole_more row old seen new rows so_far findings met head takes judged =
    let e = takes.event in
    let sought = is_head seen.head in
    let joined : lines rows ++ row.line.items ∷ [] ≡ lines (rows ++ event_of row ∷ []) =
    sym (map-append (λ (r : Row). r.line) rows (event_of row ∷ [])) in
    let before : seen.met ≡ marked sought rows =
    met ∙ so_far.met ∙ ap (λ (h : Option (Bor (List ℕ))). marked (is_head h) rows) (sym head) in
    record {
      judged = subst (λ (j : Judge). Judges j (lines (rows ++ event_of row ∷ []))) (ap (λ w. w.judge) (sym takes.watch))
          (subst (Judges seen.watch.judge) joined judged);
      events = so_far.events ++ e ∷ [];
      tell = subst (λ (ls : List (List ℕ)). Tell ls (so_far.events ++ e ∷ [])) joined
          (tell_more (lines rows) row.line.items so_far.events e so_far.tell takes.told);
      stage = takes.stage ∙ ap (λ f. stage_after f.stage e) findings ∙ ap (λ s. stage_after s e) so_far.stage
          ∙ sym (stage_more _ so_far.events e);
      met = takes.met ∙ met_later (sought row.mark.items) row.number seen.met
          ∙ ap (later (cond (sought row.mark.items) (Some row.number) None)) before ∙ sym (marked_more sought rows (event_of row))
          ∙ ap (λ (h : Option (Bor (List ℕ))). marked (is_head h) (rows ++ event_of row ∷ [])) (sym takes.head);
    }

-- what is known of a judgement does not depend on what it counts, and on the last mark and moment
pub judged_same : (old new : Judgement) (rows : List Row) → new.watch ≡ old.watch → new.findings ≡ old.findings → new.head ≡ old.head
    → new.met ≡ old.met → IsJudged old rows → IsJudged new rows
judged_same old new rows watch findings head met judged sound =
    let is = judged (ap (λ w. is_none w.fault) (sym watch) ∙ sound) in
    record {
      judged = subst (λ (j : Judge). Judges j (lines rows)) (ap (λ w. w.judge) (sym watch)) is.judged;
      events = is.events;
      tell = is.tell;
      stage = ap (λ f. f.stage) findings ∙ is.stage;
      met = met ∙ is.met ∙ ap (λ (h : Option (Bor (List ℕ))). marked (is_head h) rows) (sym head);
    }

-- ---- the rows of a page

pub judged_none : (j : Judgement) (rows : List Row) (page : List EventRow) → IsJudged j rows → IsJudged j (rows ++ map event_of (take 0 page))
judged_none j rows page judged = none_of_page (IsJudged j) event_of rows page judged

pub judged_more : (j : Judgement) (rows : List Row) (page : List EventRow) (i : ℕ) (d : EventRow) → i < length page
    → IsJudged j ((rows ++ map event_of (take i page)) ++ event_of (get_or page i d) ∷ []) → IsJudged j (rows ++ map event_of (take (i + 1) page))
judged_more j rows page i d low judged = more_of_page (IsJudged j) event_of rows page i d low judged

pub judged_page : (j : Judgement) (rows : List Row) (page : List EventRow) (i : ℕ) → length page ≤ i
    → IsJudged j (rows ++ map event_of (take i page)) → IsJudged j (rows ++ map event_of page)
judged_page j rows page i all judged = all_of_page (IsJudged j) event_of rows page i all judged

pub ruleset page_laws = (judged_none, judged_more, judged_page, judged_same)

-- ---- the verdict

none_open : (b : Bool) → not b ≡ true → b ≡ false
none_open false is = refl
none_open true is = absurd cc

is_met : (h : Option (Bor (List ℕ))) (met : Option ℕ) → (is_none h || is_some met) ≡ true → is_some h ≡ true → is_some met ≡ true
is_met None met is some = absurd cc
is_met (Some m) met is some = is

-- the judgement of a whole history, of which nothing is unaccepted, and in which the mark is met that is looked for
pub passes : (j : Judgement) (head : Option (Bor (List ℕ))) (stored : StoredSeals) (a : Archive) (ls : List (List ℕ)) → IsJudged j (rows_of ls)
    → j.head ≡ head → is_none j.watch.fault ≡ true → IsMadeWhole stored j.watch.judge.archive a → not (is_open_at j.findings.stage) ≡ true
    → (is_none j.head || is_some j.met) ≡ true → Passes head stored a ls
passes j head stored a ls judged same sound made accepted met =
    let whole = judged sound in
    let all : lines (rows_of ls) ≡ ls = lines_of_rows 1 [] ls in
    record {
      judge = j.watch.judge;
      judged = subst (Judges j.watch.judge) all whole.judged;
      made = made;
      events = whole.events;
      tell = subst (λ (ks : List (List ℕ)). Tell ks whole.events) all whole.tell;
      accepted = sym (stage_tells whole.events) ∙ ap is_open_at (sym whole.stage) ∙ none_open (is_open_at j.findings.stage) accepted;
      met = λ some.
          subst (λ (h : Option (Bor (List ℕ))). is_some (marked (is_head h) (rows_of ls)) ≡ true) same
          (sym (ap is_some whole.met) ∙ is_met j.head j.met met (ap is_some same ∙ some));
    }

-- what holds where it ends well
pub when_ok : {X E : Type 0} (P : Type 0) (r : Result X E) → (is_ok r ≡ true → P) → OnOk r P
when_ok P (Ok x) holds = holds refl
when_ok P (Err e) holds = tt

pub all_three : (a b c : Bool) → (a && (b && c)) ≡ true → (a ≡ true) × (b ≡ true) × (c ≡ true)
all_three true true true is = (refl, refl, refl)
all_three false b c is = absurd cc
all_three true false c is = absurd cc
all_three true true false is = absurd cc
