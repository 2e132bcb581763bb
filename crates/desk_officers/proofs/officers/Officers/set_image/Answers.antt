use Rattle.desk_officers.proofs.officers.Officers.set_image.Goals as goal

pub invariant_of-self-2 : goal.invariant_of-self-2
invariant_of-self-2 c = (c.in_ok-set.ensures.ok.images c.self.inside.edition c.self.inside.globals c.self.invariant.0, c.self.invariant.1)
