use Rattle.std.proofs.Common.{◌≡◌, ◌≤◌, ◌+◌, ◌-◌, length, take, not}
use Rattle.std.specs.List.{suffix_len}
use Rattle.tool_texts.specs.Places.{is_line_feed}
use Rattle.tool_texts.proofs.places.octets_after_last_line.Given as goal

abbrev pub decreases-loop-start : goal.decreases-loop-start
decreases-loop-start l = l.start

-- what comes after the place is on the last line
abbrev pub invariant-loop-start : goal.invariant-loop-start
invariant-loop-start l = record {
  within : l.start ≤ length l.text;
  same : suffix_len (λ b. not (is_line_feed b)) l.text ≡ (length l.text - l.start) + suffix_len (λ b. not (is_line_feed b)) (take l.start l.text);
}
