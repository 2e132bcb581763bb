use Rattle.std.proofs.Common.{◌≡◌, ◌≤◌, ◌-◌, ◌^◌, List, length, take, vec_len}
use Rattle.rule_folders.specs.Reading.{Makes, Read, entry_of}
use Rattle.rule_folders.specs.Reached.{AreFollowed, IsWalk}
use Rattle.rule_folders.proofs.reached.Reached.follow.Given as goal

abbrev pub invariant-loop-reached : goal.invariant-loop-reached
invariant-loop-reached g l =
    (reads : List Read)
    × Makes g.S.Scripts.made l.fn.scripts l.scripts reads
    × (g.S.Scripts.place l.scripts ≡ g.S.Scripts.place l.fn.scripts)
    × IsWalk (g.S.Scripts.place l.fn.scripts) (entry_of l.fn.program) reads l.reached
    × AreFollowed (g.S.Scripts.place l.fn.scripts) reads l.reached (take (vec_len l.edges) l.reached) l.edges.items
    × (vec_len l.edges ≤ length l.reached)

abbrev pub decreases-loop-reached : goal.decreases-loop-reached
decreases-loop-reached g l = 2 ^ 64 - vec_len l.edges
