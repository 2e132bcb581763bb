use Rattle.std.proofs.Common.{◌≡◌, drop}
use Rattle.sieve_library.specs.Libraries.{no_scripts}
use Rattle.tool_inquiry.specs.Shelving.{with_files, HasRoomForAll, IsFullForAll}
use Rattle.tool_inquiry.specs.declared.faults.InquiryFault.{InquiryFault}
use Rattle.tool_inquiry.proofs.scripts.library_of.Given as goal

abbrev pub invariant-loop-script : goal.invariant-loop-script
invariant-loop-script l = record {
  made : with_files (drop l.script-index l.scripts) l.library ≡ with_files l.scripts no_scripts;
  room : HasRoomForAll (drop l.script-index l.scripts) l.library → HasRoomForAll l.scripts no_scripts;
  full : (fault : InquiryFault) → IsFullForAll (drop l.script-index l.scripts) l.library fault → IsFullForAll l.scripts no_scripts fault;
}
