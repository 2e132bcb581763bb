use Rattle.std.proofs.Common.{◌≡◌, string_bytes}
use Rattle.std.specs.Str.{encode_utf8_all}
use Rattle.mail_display.specs.Comparing.{one_space}
use Rattle.mail_display.proofs.ComparingLemmas.{ends_white}
use Rattle.mail_display.proofs.comparing.one_space.Given as goal

abbrev pub invariant-loop-c : goal.invariant-loop-c
invariant-loop-c l = record {
  same : string_bytes l.spaced ≡ encode_utf8_all (one_space l.yielded);
  white : l.is_after_white ≡ ends_white l.yielded;
}
