use Rattle.std.proofs.Common.{◌≡◌, min, length, ap, ◌∙◌, arith}
use Rattle.saved_log.specs.MemDisks.{Other, MemState, seen_of}
use Rattle.saved_log.proofs.MemCalls.{after_noted, reads_other, read_of}
use Rattle.saved_log.proofs.mem_disk.MemDiskDisk.read_at.Goals as goal

pub returns-clause-reads : goal.returns-clause-reads
returns-clause-reads c = λ told.
    let after = after_noted Other c.args.self.now c.next.new.self c.note_other.new.self 0 32 c.in_ok-next.ensures.after c.note_other.ensures in
    reads_other c.args.self.now c.note_other.new.self after.0 after.1

pub returns-clause-bytes : goal.returns-clause-bytes
returns-clause-bytes c = λ told.
    let items = c.self.inside.bytes.items in
    let same : c.deref.result.now ≡ seen_of c.args.self.now.start c.args.self.now.kept =
    c.deref.ensures.value ∙ c.self.invariant.bytes ∙ ap (λ (s : MemState). seen_of s.start s.kept) c.self.view_is ∙ (returns-clause-reads c told).same in
    let place : c.min-from.result ≡ min c.args.at (length c.deref.result.now) = omega (arith, c.min-from.ensures, c.len.ensures, c.self.inside.bytes.ok.0, ap length c.deref.ensures.value) in
    read_of (seen_of c.args.self.now.start c.args.self.now.kept) c.deref.result.now c.copy_front.new.into c.args.at c.min-from.result c.copy_front.result same place c.copy_front.ensures.count c.copy_front.ensures.front
