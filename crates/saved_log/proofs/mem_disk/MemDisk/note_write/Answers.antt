use Rattle.std.proofs.Common.{◌≡◌, ℕ, List, length, sym, ap, ◌∙◌, arith}
use Rattle.saved_log.specs.MemDisks.{Call, MemState, Recorded, seen_of, with_piece}
use Rattle.saved_log.proofs.MemCalls.{wrote_holds, written_length}
use Rattle.saved_log.proofs.mem_disk.MemDisk.note_write.Goals as goal

pub invariant_of-self : goal.invariant_of-self
invariant_of-self c =
    let inside = c.self.inside in
    let kept = ap (λ (r : Recorded). r.kept) c.add_write.ensures in
    let room = ap (λ (r : Recorded). r.room) c.add_write.ensures in
    let taken = ap (λ (r : Recorded). r.taken) c.add_write.ensures in
    let old_taken = ap (λ (s : MemState). s.taken) c.self.view_is in
    let old_room = ap (λ (s : MemState). s.room) c.self.view_is in
    let seen : length (seen_of c.args.self.now.start c.args.self.now.kept) ≡ length inside.bytes.items =
    ap length (ap (λ (s : MemState). seen_of s.start s.kept) (sym c.self.view_is) ∙ sym c.self.invariant.bytes) in
    let size = ap length c.overwrite.ensures.items ∙ written_length inside.bytes.items c.args.at c.args.piece.now (omega (arith, seen, c.requires.within)) in
    record {
      bytes = c.overwrite.ensures.items ∙ ap (λ (old : List ℕ). with_piece old c.args.at c.args.piece.now) c.self.invariant.bytes
          ∙ sym (wrote_holds inside.start inside.record.kept c.args.at c.args.piece.now) ∙ sym (ap (λ (calls : List Call). seen_of inside.start calls) kept);
      grown = omega (arith, size, c.self.invariant.grown);
      within = omega (arith, room, taken, old_taken, old_room, seen, size, c.self.invariant.within, c.self.invariant.grown, c.requires.room, c.requires.within);
      room = omega (arith, room, c.self.invariant.room, c.overwrite.ensures.capacity);
    }
