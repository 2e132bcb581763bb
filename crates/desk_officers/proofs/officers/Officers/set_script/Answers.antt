use Rattle.desk_officers.proofs.officers.Officers.set_script.Goals as goal

pub invariant_of-self-2 : goal.invariant_of-self-2
invariant_of-self-2 c = (c.in_ok-put_script.ensures.ok.images c.self.inside.edition c.self.inside.globals c.self.invariant.0, c.self.invariant.1)
