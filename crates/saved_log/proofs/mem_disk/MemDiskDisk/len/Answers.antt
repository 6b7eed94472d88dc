use Rattle.std.proofs.Common.{length, ap, ◌∙◌}
use Rattle.saved_log.specs.MemDisks.{Other, MemState, seen_of}
use Rattle.saved_log.proofs.MemCalls.{after_noted, reads_other}
use Rattle.saved_log.proofs.mem_disk.MemDiskDisk.len.Goals as goal

pub returns-clause-reads : goal.returns-clause-reads
returns-clause-reads c = λ told.
    let after = after_noted Other c.args.self.now c.next.new.self c.note_other.new.self 0 32 c.in_ok-next.ensures.after c.note_other.ensures in
    reads_other c.args.self.now c.note_other.new.self after.0 after.1

pub returns-clause-length : goal.returns-clause-length
returns-clause-length c = λ told.
    c.len.ensures ∙ c.self.inside.bytes.ok.0 ∙ ap length (c.self.invariant.bytes ∙ ap (λ (s : MemState). seen_of s.start s.kept) c.self.view_is ∙ (returns-clause-reads c told).same)
