use Rattle.std.proofs.Common.{◌≡◌, ◌++◌, string_bytes}
use Rattle.std.specs.Str.{encode_utf8_all}
use Rattle.std.specs.Str.Chunks.{utf8_chunks_rest}
use Rattle.tool_texts.specs.Quoting.{escaped_text}
use Rattle.tool_texts.proofs.quoting.push_escaped.Given as goal

abbrev pub invariant-loop-chunk : goal.invariant-loop-chunk
invariant-loop-chunk l =
    string_bytes l.text ++ encode_utf8_all (escaped_text (utf8_chunks_rest l.chunk-iterator))
    ≡ string_bytes l.initial.text ++ encode_utf8_all (escaped_text l.octets)
