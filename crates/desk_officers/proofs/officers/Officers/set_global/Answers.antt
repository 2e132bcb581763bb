use Rattle.desk_officers.proofs.ProfileLemmas.{later}
use Rattle.desk_officers.proofs.officers.Officers.set_global.Goals as goal

pub invariant_of-self-2 : goal.invariant_of-self-2
invariant_of-self-2 c = (
  later c.self.inside.edition c.saturating_add-self-inside.result c.self.inside.globals c.put_on.new.shelf
      c.self.inside.profiles.entries c.saturating_add-self-inside.ensures c.self.invariant.0,
  tt,
)
