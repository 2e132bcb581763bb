use Rattle.std.proofs.Common.{sym, ◌∙◌}
use Rattle.sieve_library.proofs.EntryLemmas.{script_at, script_missing}
use Rattle.sieve_library.proofs.shelf.Shelf.find.Goals as goal

pub returns-in-Some-clause-script : goal.returns-in-Some-clause-script
returns-in-Some-clause-script c =
    rw c.deref.ensures (script_at c.args.name.now c.self.inside.entries.items c.self.view_is (sym c.place.ensures ∙ c.in-Some.is) c.index.ensures)

pub returns-in-None-clause-script : goal.returns-in-None-clause-script
returns-in-None-clause-script c = script_missing c.args.name.now c.args.self.now (sym c.place.ensures ∙ c.in-None.is)
