use Rattle.std.proofs.Common.{◌≡◌, ◌<◌, ◌≤◌, IsTrue, length}
use Rattle.saved_log.specs.DiskCalls.{OnlyReads}
use Rattle.saved_log.proofs.WholeFiles.{Begins}
use Rattle.saved_log.proofs.reading.read_all.Given as goal

abbrev pub invariant-loop : goal.invariant-loop
invariant-loop g l = record {
  tells : g.D.Disk.tells l.disk ≡ g.D.Disk.tells l.initial.disk;
  reads : IsTrue (g.D.Disk.tells l.initial.disk) → OnlyReads g.D.Disk.seen g.D.Disk.images g.D.Disk.moment_of g.D.Disk.left_since l.initial.disk l.disk;
  room : 0 < length l.room;
  begins : IsTrue (g.D.Disk.tells l.initial.disk) → Begins (g.D.Disk.seen l.initial.disk) l.bytes.items;
  faults : g.D.Disk.faults l.initial.disk ≤ g.D.Disk.faults l.disk;
}
