use Rattle.std.proofs.Common.{ℕ, List, ◌∷◌, subst}
use Rattle.saved_log.specs.MemDisks.{Call, Synced, images_of}
use Rattle.saved_log.proofs.MemCalls.{after_noted, reads_sync, synced_only}
use Rattle.saved_log.proofs.mem_disk.MemDiskDisk.sync.Goals as goal

pub returns-clause-reads : goal.returns-clause-reads
returns-clause-reads c = λ told.
    let after = after_noted Synced c.args.self.now c.next.new.self c.note_sync.new.self 0 32 c.in_ok-next.ensures.after c.note_sync.ensures in
    reads_sync c.args.self.now c.note_sync.new.self after.0 after.1

pub returns-clause-durable : goal.returns-clause-durable
returns-clause-durable c = λ told image now.
    let after = after_noted Synced c.args.self.now c.next.new.self c.note_sync.new.self 0 32 c.in_ok-next.ensures.after c.note_sync.ensures in
    synced_only c.args.self.now.start c.args.self.now.kept image (subst (λ (start : List ℕ). images_of start (Synced ∷ c.args.self.now.kept) image) after.0 (subst (λ (kept : List Call). images_of c.note_sync.new.self.start kept image) after.1 now))
