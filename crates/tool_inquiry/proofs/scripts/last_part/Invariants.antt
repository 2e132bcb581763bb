use Rattle.std.proofs.Common.{◌≡◌, ◌+◌, ◌≤◌, length, take}
use Rattle.std.specs.Prelude.{not}
use Rattle.std.specs.List.{suffix_len}
use Rattle.tool_inquiry.specs.Names.{is_slash}
use Rattle.tool_inquiry.proofs.scripts.last_part.Given as goal

abbrev pub invariant-loop-start : goal.invariant-loop-start
invariant-loop-start l = record {
  within : l.start ≤ length l.path;
  kept : l.start + suffix_len (λ x. not (is_slash x)) l.path ≡ length l.path + suffix_len (λ x. not (is_slash x)) (take l.start l.path);
}

abbrev pub decreases-loop-start : goal.decreases-loop-start
decreases-loop-start l = l.start
