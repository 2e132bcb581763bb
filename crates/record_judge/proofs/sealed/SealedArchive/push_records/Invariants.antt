use Rattle.std.proofs.Common.{◌≡◌, ◌+◌, map, take}
use Rattle.record_archive.specs.Archive.{records_of}
use Rattle.record_judge.specs.Sealed.{IsKept, PushesRecords}
use Rattle.record_judge.proofs.sealed.SealedArchive.push_records.Given as goal

abbrev pub invariant-loop-place : goal.invariant-loop-place
invariant-loop-place l = record {
  next : l.self.next ≡ l.first + l.place;
  kept : IsKept l.initial.self → IsKept l.self;
  pushed : PushesRecords (records_of l.first l.first l.day (map (λ p. p.now) (take l.place l.paths))) l.initial.self l.self;
}
