use Rattle.std.proofs.Common.{◌≡◌, None, drop}
use Rattle.mail_import.specs.Known.{record_among}
use Rattle.mail_import.proofs.known.record_among.Given as goal

abbrev pub invariant-loop-store : goal.invariant-loop-store
invariant-loop-store l = record_among l.found (drop l.store-index l.stores) l.key ≡ record_among None l.fn.stores l.fn.key
