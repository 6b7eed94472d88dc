use Rattle.std.proofs.Common.{List, sym, ap, ◌∙◌, arith}
use Rattle.saved_log.specs.MemDisks.{Call, MemState, Recorded, seen_of}
use Rattle.saved_log.proofs.MemCalls.{same_seen}
use Rattle.saved_log.proofs.mem_disk.MemDisk.note_sync.Goals as goal

pub invariant_of-self : goal.invariant_of-self
invariant_of-self c =
    let kept = ap (λ (r : Recorded). r.kept) c.add_sync.ensures in
    let room = ap (λ (r : Recorded). r.room) c.add_sync.ensures in
    let taken = ap (λ (r : Recorded). r.taken) c.add_sync.ensures in
    let old_taken = ap (λ (s : MemState). s.taken) c.self.view_is in
    let old_room = ap (λ (s : MemState). s.room) c.self.view_is in
    record {
      bytes = c.self.invariant.bytes ∙ sym (ap (λ (calls : List Call). seen_of c.self.inside.start calls) kept ∙ (same_seen c.self.inside.start c.self.inside.record.kept).1);
      grown = c.self.invariant.grown;
      within = omega (arith, room, taken, old_taken, old_room, c.self.invariant.within, c.self.invariant.grown, c.requires);
      room = omega (arith, room, c.self.invariant.room);
    }
