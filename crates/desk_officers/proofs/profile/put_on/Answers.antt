use Rattle.std.proofs.Common.{ap, ◌∙◌}
use Rattle.desk_commands.specs.Scripts.{meanings_of}
use Rattle.desk_officers.proofs.MeaningLemmas.{meanings_put, no_room, no_room_kept}
use Rattle.desk_officers.proofs.ProfileLemmas.{on_ok}
use Rattle.desk_officers.proofs.profile.put_on.Goals as goal

pub returns-clause-ok : goal.returns-clause-ok
returns-clause-ok c = on_ok c.put.result c.put.ensures.ok (λ is. ap meanings_of is
    ∙ meanings_put c.args.name.now c.args.script.value.script c.args.shelf.now)

pub returns-clause-full : goal.returns-clause-full
returns-clause-full c = (
  λ e. no_room c.args.shelf.now c.args.name.now (c.put.ensures.full.0 e),
  λ h.
      c.put.ensures.full.1 (no_room_kept c.args.shelf.now c.args.name.now h),
)
