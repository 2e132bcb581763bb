use Rattle.std.proofs.Common.{position, sym, ap, ◌∙◌}
use Rattle.sieve_library.specs.Entries.{entry_of}
use Rattle.sieve_library.specs.Libraries.{is_named}
use Rattle.sieve_library.proofs.EntryLemmas.{position-map}
use Rattle.sieve_library.proofs.shelf.Shelf.place.Goals as goal

pub returns : goal.returns
returns c =
    c.place_among.ensures ∙
    ap (position (λ e. is_named c.args.name.now (entry_of e))) c.deref.ensures.value
    ∙ sym (position-map entry_of (is_named c.args.name.now) c.self.inside.entries.items)
    ∙ ap (position (is_named c.args.name.now)) c.self.view_is
