-- A history that is done again, an event at a time and a page at a time.
use Rattle.std.proofs.Common.{◌≡◌, ◌+◌, ◌<◌, ◌≤◌, ◌++◌, ◌∷◌, ◌∙◌, [], ℕ, List, Bool, false, map, take, get_or, length, is_some}
use Rattle.std.proofs.Common.{Option, Some, None, IfSome, refl, ap, ap₂, sym, subst, arith}
use Rattle.std.proofs.lemmas.List.{length-map, map-append}
use Rattle.record_tables.specs.Events.{Event as Row}
use Rattle.record_reads.specs.Events.{event_of}
use Rattle.record_reads.specs.declared.events.EventRow.{EventRow}
use Rattle.record_history.specs.Events.{Deed, Event, Seal}
use Rattle.record_judge.specs.Judging.{Judges}
use Rattle.record_noted.specs.Histories.{rows_of}
use Rattle.cli_history.specs.Findings.{stage_after, stage_from}
use Rattle.cli_history.specs.Reasons.{are_required}
use Rattle.cli_history.specs.Replays.{AreSeals, Replays, Tell, required_after, sealed_in, told_by}
use Rattle.cli_history.specs.Seals.{KeepsSeal, later, sealed_by}
use Rattle.cli_history.specs.declared.findings.Stage.{Stage}
use Rattle.cli_history.specs.declared.opening.Purpose.{Purpose}
use Rattle.cli_history.specs.declared.replaying.Replayed.{Replayed}
use Rattle.cli_history.specs.declared.seals.Seals.{Seals}
use Rattle.cli_history.proofs.WalkLemmas.{all_of_page, lines_joined, lines_of_rows, more_of_page, none_of_page}

pub stage_more : (s : Stage) (es : List Event) (e : Event) → stage_from s (es ++ e ∷ []) ≡ stage_after (stage_from s es) e
stage_more s [] e = refl
stage_more s (f ∷ es) e = stage_more (stage_after s f) es e

required_more : (b : Bool) (es : List Event) (e : Event) → required_after b (es ++ e ∷ []) ≡ are_required (required_after b es) e.deed
required_more b [] e = refl
required_more b (f ∷ es) e = required_more (are_required b f.deed) es e

pub later_none : {X : Type 0} (a : Option X) → a ≡ later a None
later_none (Some x) = refl
later_none None = refl

pub later_thrice : {X : Type 0} (a b c : Option X) → later (later a b) c ≡ later a (later b c)
later_thrice (Some x) b c = refl
later_thrice None b c = refl

sealed_more : (n : ℕ) (es : List Event) (e : Event) (message : ℕ)
    → sealed_in n (es ++ e ∷ []) message ≡ later (sealed_by (n + length es) e.deed message) (sealed_in n es message)
sealed_more n [] e message =
    let here : n ≡ n + 0 = omega arith in
    later_none (sealed_by n e.deed message) ∙ ap (λ k. later (sealed_by k e.deed message) None) here
sealed_more n (f ∷ es) e message =
    let first : Option (Seal × ℕ) = sealed_by n f.deed message in
    let there : n + 1 + length es ≡ n + length (f ∷ es) = omega arith in
    ap (λ o. later o first) (sealed_more (n + 1) es e message)
    ∙ later_thrice (sealed_by (n + 1 + length es) e.deed message) (sealed_in (n + 1) es message) first
    ∙ ap (λ k. later (sealed_by k e.deed message) (later (sealed_in (n + 1) es message) first)) there

pub tell_more : (ls : List (List ℕ)) (l : List ℕ) (es : List Event) (e : Event) → Tell ls es → told_by l ≡ Some e → Tell (ls ++ l ∷ []) (es ++ e ∷ [])
tell_more ls l es e tell is =
    map-append told_by ls (l ∷ []) ∙ ap₂ (λ (xs : List (Option Event)) x. xs ++ x ∷ []) tell is
    ∙ sym (map-append (λ (x : Event). Some x) es (e ∷ []))

-- as many events as lines
pub tell_length : (ls : List (List ℕ)) (es : List Event) → Tell ls es → length es ≡ length ls
tell_length ls es tell = sym (length-map es (λ (x : Event). Some x)) ∙ sym (ap length tell) ∙ length-map ls told_by

kept_more : (number : ℕ) (deed : Deed) (old new : Option Seals) → KeepsSeal number deed old new → is_some new ≡ is_some old
kept_more number deed (Some o) (Some n) keeps = refl
kept_more number deed None None keeps = refl
kept_more number deed None (Some n) keeps = absurd keeps
kept_more number deed (Some o) None keeps = absurd keeps

seals_more : (number : ℕ) (es : List Event) (e : Event) (old new : Option Seals) → KeepsSeal number e.deed old new → number ≡ 1 + length es
    → IfSome old (λ s. AreSeals s es) → IfSome new (λ s. AreSeals s (es ++ e ∷ []))
seals_more number es e (Some o) (Some n) keeps at are = λ message.
    keeps message ∙ ap (later (sealed_by number e.deed message)) (are message)
    ∙ ap (λ k. later (sealed_by k e.deed message) (sealed_in 1 es message)) at ∙ sym (sealed_more 1 es e message)
seals_more number es e None None keeps at are = tt
seals_more number es e None (Some n) keeps at are = absurd keeps
seals_more number es e (Some o) None keeps at are = tt

-- ONE EVENT MORE
pub replays_more : (purpose : Purpose) (old new : Replayed) (ls : List (List ℕ)) (l : List ℕ) (number : ℕ) (e : Event) → Replays purpose old ls
    → Judges new.judge (ls ++ l ∷ []) → number ≡ length ls + 1 → told_by l ≡ Some e → new.findings.stage ≡ stage_after old.findings.stage e
    → new.requires_reasons ≡ are_required old.requires_reasons e.deed → KeepsSeal number e.deed old.seals new.seals
    → Replays purpose new (ls ++ l ∷ [])
replays_more purpose old new ls l number e so_far judged at is stage reasons keeps =
    let es = so_far.events in
    let place : number ≡ 1 + length es = omega (arith, at, tell_length ls es so_far.tell) in
    record {
      judged = judged;
      events = es ++ e ∷ [];
      tell = tell_more ls l es e so_far.tell is;
      stage = stage ∙ ap (λ s. stage_after s e) so_far.stage ∙ sym (stage_more _ es e);
      reasons = reasons ∙ ap (λ b. are_required b e.deed) so_far.reasons ∙ sym (required_more false es e);
      kept = kept_more number e.deed old.seals new.seals keeps ∙ so_far.kept;
      seals = seals_more number es e old.seals new.seals keeps place so_far.seals;
    }

-- ---- the rows of a page

pub page_none : (purpose : Purpose) (r : Replayed) (ls : List (List ℕ)) (page : List EventRow) → Replays purpose r ls
    → Replays purpose r (ls ++ map (λ (x : EventRow). x.line.items) (take 0 page))
page_none purpose r ls page so_far = none_of_page (Replays purpose r) (λ (x : EventRow). x.line.items) ls page so_far

pub page_more : (purpose : Purpose) (r : Replayed) (ls : List (List ℕ)) (page : List EventRow) (i : ℕ) (d : EventRow) → i < length page
    → Replays purpose r ((ls ++ map (λ (x : EventRow). x.line.items) (take i page)) ++ (get_or page i d).line.items ∷ [])
    → Replays purpose r (ls ++ map (λ (x : EventRow). x.line.items) (take (i + 1) page))
page_more purpose r ls page i d low does = more_of_page (Replays purpose r) (λ (x : EventRow). x.line.items) ls page i d low does

pub page_whole : (purpose : Purpose) (r : Replayed) (ls : List (List ℕ)) (page : List EventRow) (i : ℕ) → length page ≤ i
    → Replays purpose r (ls ++ map (λ (x : EventRow). x.line.items) (take i page))
    → Replays purpose r (ls ++ map (λ (x : EventRow). x.line.items) page)
page_whole purpose r ls page i all does = all_of_page (Replays purpose r) (λ (x : EventRow). x.line.items) ls page i all does

pub ruleset page_laws = (page_none, page_more, page_whole)

-- ---- the rows of a walk

abbrev pub ReplaysRows : Purpose → Replayed → List Row → Type 0
ReplaysRows purpose r rows = Replays purpose r (map (λ (row : Row). row.line) rows)

-- one page more
pub replays_page : (purpose : Purpose) (old new : Replayed) (page : List EventRow)
    → ((ls : List (List ℕ)) → Replays purpose old ls → Replays purpose new (ls ++ map (λ (row : EventRow). row.line.items) page))
    → (front : List Row) → ReplaysRows purpose old front → ReplaysRows purpose new (front ++ map event_of page)
replays_page purpose old new page does front so_far =
    subst (Replays purpose new) (lines_joined front page) (does (map (λ (row : Row). row.line) front) so_far)

-- the whole history
pub replays_lines : (purpose : Purpose) (r : Replayed) (ls : List (List ℕ)) → ReplaysRows purpose r (rows_of ls) → Replays purpose r ls
replays_lines purpose r ls does = subst (Replays purpose r) (lines_of_rows 1 [] ls) does
