use Rattle.std.proofs.Common.{◌∙◌, refl, sym, true}
use Rattle.std.proofs.lemmas.Result.{on_ok_weaker}
use Rattle.record_choice.specs.Entries.{entry_view}
use Rattle.cli_changes.specs.declared.refilings.Fate.TheVariants.{Moves, PassedOver, IsThere, IsDestroyed}
use Rattle.cli_changes.specs.Moves.{MovesOne}
use Rattle.cli_changes.proofs.LookingLaws.{fate_tells, looked_moving, looked_staying, seen_one}
use Rattle.cli_changes.proofs.SeriesLaws.{or_off}
use Rattle.cli_changes.proofs.refile.Moves.look_at.Goals as goal

pub returns-in-Moves : goal.returns-in-Moves
returns-in-Moves c =
    let old = c.args.self.now in
    let e = c.args.entry.now in
    on_ok_weaker c.add.result (λ (added : MovesOne old e.number c.add.new.self).
    looked_moving old c.add.new.self e
    (fate_tells old.typed.now old.to.now (entry_view e) Moves (sym c.fate_of.ensures ∙ c.in-Moves.is)) added) c.add.ensures

pub returns-in-PassedOver : goal.returns-in-PassedOver
returns-in-PassedOver c =
    let old = c.args.self.now in
    let e = c.args.entry.now in
    looked_staying old old e PassedOver
    (fate_tells old.typed.now old.to.now (entry_view e) PassedOver (sym c.fate_of.ensures ∙ c.in-PassedOver.is)) refl refl refl refl
    (sym (or_off old.is_refused))

pub returns-in_ok-there_line-in-IsThere : goal.returns-in_ok-there_line-in-IsThere
returns-in_ok-there_line-in-IsThere c =
    let old = c.args.self.now in
    let e = c.args.entry.now in
    looked_staying old old e IsThere
    (fate_tells old.typed.now old.to.now (entry_view e) IsThere (sym c.fate_of.ensures ∙ c.in-IsThere.is)) refl refl refl refl
    (sym (or_off old.is_refused))

pub returns-in_ok-refusal_line-in-IsDestroyed : goal.returns-in_ok-refusal_line-in-IsDestroyed
returns-in_ok-refusal_line-in-IsDestroyed c =
    let old = c.args.self.now in
    let e = c.args.entry.now in
    looked_staying old (record old { is_refused = true }) e IsDestroyed
    (fate_tells old.typed.now old.to.now (entry_view e) IsDestroyed (sym c.fate_of.ensures ∙ c.in-IsDestroyed.is)) refl refl refl refl
    (seen_one old.is_refused)
