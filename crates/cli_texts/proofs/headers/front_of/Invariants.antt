use Rattle.std.proofs.Common.{◌≡◌, string_bytes}
use Rattle.std.specs.Str.{encode_utf8_all}
use Rattle.cli_texts.proofs.CutLemmas.{FrontSoFar}
use Rattle.cli_texts.proofs.headers.front_of.Given as goal

abbrev pub invariant-loop-c : goal.invariant-loop-c
invariant-loop-c l = record {
  text : string_bytes l.front ≡ encode_utf8_all l.yielded;
  cut : FrontSoFar l.most l.left l.yielded;
}
