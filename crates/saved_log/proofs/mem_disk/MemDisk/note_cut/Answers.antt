use Rattle.std.proofs.Common.{List, sym, ap, ◌∙◌, arith}
use Rattle.saved_log.specs.MemDisks.{Call, MemState, Recorded, seen_of}
use Rattle.saved_log.proofs.MemCalls.{seen_cut}
use Rattle.saved_log.proofs.mem_disk.MemDisk.note_cut.Goals as goal

pub invariant_of-self : goal.invariant_of-self
invariant_of-self c =
    let kept = ap (λ (r : Recorded). r.kept) c.add_cut.ensures in
    let room = ap (λ (r : Recorded). r.room) c.add_cut.ensures in
    let taken = ap (λ (r : Recorded). r.taken) c.add_cut.ensures in
    let old_taken = ap (λ (s : MemState). s.taken) c.self.view_is in
    let old_room = ap (λ (s : MemState). s.room) c.self.view_is in
    record {
      bytes = c.self.invariant.bytes ∙ sym (ap (λ (calls : List Call). seen_of c.self.inside.start calls) kept ∙ seen_cut c.self.inside.start c.self.inside.record.kept c.args.at c.args.count);
      grown = c.self.invariant.grown;
      within = omega (arith, room, taken, old_taken, old_room, c.self.invariant.within, c.self.invariant.grown, c.room_left.ensures, c.if-room_left-ge-CALL_SIZE.true);
      room = omega (arith, room, c.self.invariant.room);
    }
