use Rattle.std.proofs.Common.{ap, ◌∙◌, ◌≡◌, refl}
use Rattle.record_archive.specs.Calls.{Quietly}
use Rattle.record_archive.specs.Refiling as refiling
use Rattle.record_history.specs.Lines.{line_of}
use Rattle.record_history.specs.Events.{Refiled}
use Rattle.record_ledger.proofs.CarryLemmas.{carried_out, found_open, not_open, refused_out}
use Rattle.record_ledger.proofs.NotingLemmas.{deed_noted, unnoted}
use Rattle.record_ledger.proofs.noted.refile.Goals as goal

pub returns-in_err-ensure_open : goal.returns-in_err-ensure_open
returns-in_err-ensure_open g c =
    let opened = c.ensure_open.ensures in
    record {
      carries =
          not_open g.S.Store c.args.noted.now c.ensure_open.new.self _ _ opened.stands opened.falls opened.crash _ c.in_err-ensure_open.field-0.0
          c.from_residual.ensures.0 c.from_residual.ensures.1 c.in_err-ensure_open.ensures.trouble;
      notes = unnoted g.S.Store c.args.noted.now c.ensure_open.new.self c.args.occasion.now
          (λ a. refiling.refile a c.args.number c.args.path.now)
          (λ a d. d ≡ Refiled c.args.number c.args.path.now)
          c.from_residual.result c.from_residual.ensures.0;
    }

pub returns-in_err-line : goal.returns-in_err-line
returns-in_err-line g c =
    let opened = c.ensure_open.ensures in
    let found = found_open g.S.Store c.args.noted.now c.ensure_open.new.self opened.stands opened.falls
    c.in_ok-ensure_open.ensures.open opened.crash in
    record {
      carries =
          refused_out g.S.Store c.args.noted.now c.ensure_open.new.self found _ _ _ c.from_residual-in_err-line.ensures.0
          c.from_residual-in_err-line.ensures.1;
      notes = unnoted g.S.Store c.args.noted.now c.ensure_open.new.self c.args.occasion.now
          (λ a. refiling.refile a c.args.number c.args.path.now)
          (λ a d. d ≡ Refiled c.args.number c.args.path.now)
          c.from_residual-in_err-line.result c.from_residual-in_err-line.ensures.0;
    }

pub returns : goal.returns
returns g c =
    let opened = c.ensure_open.ensures in
    let found = found_open g.S.Store c.args.noted.now c.ensure_open.new.self opened.stands opened.falls
    c.in_ok-ensure_open.ensures.open opened.crash in
    let note = c.in_ok-line.ensures in
    let done = c.refile-done.ensures in
    record {
      carries =
          carried_out g.S.Store c.args.noted.now c.ensure_open.new.self c.refile-done.new.self found
          (λ a. refiling.refile a c.args.number c.args.path.now) Quietly c.as_slice.result.now
          c.is_idle-idle.ensures.left c.refile-done.result done.notes
          (done.told note.event (record {
            line_is = c.as_slice.ensures.value ∙ note.line_is ∙ ap (λ n. line_of n note.event) c.next.ensures;
            deed_is = note.deed_is;
          }));
      notes = deed_noted g.S.Store c.args.noted.now c.ensure_open.new.self c.refile-done.new.self opened.lines c.args.occasion.now
          (λ a. refiling.refile a c.args.number c.args.path.now) Quietly
          _ _ _ _ c.as_slice.result.now note c.next.ensures refl c.as_slice.ensures.value
          (λ a d. d ≡ Refiled c.args.number c.args.path.now) c.refile-done.result done.notes
          (λ clean a ls s told. refl);
    }
