use Rattle.desk_officers.proofs.officers.Officers.deactivate.Goals as goal

pub invariant_of-self : goal.invariant_of-self
invariant_of-self c = (c.clear.ensures.images c.self.inside.edition c.self.inside.globals c.self.invariant.0, c.self.invariant.1)
