use Rattle.std.proofs.Common.{◌≡◌, ◌++◌, take}
use Rattle.mail_words.specs.Charsets.{in_utf8}
use Rattle.mail_words.proofs.charset.append_octets.Given as goal

abbrev pub invariant-loop-octet : goal.invariant-loop-octet
invariant-loop-octet l = l.shown.items ≡ l.fn.shown.items ++ in_utf8 l.charset (take l.octet-index l.octets)
