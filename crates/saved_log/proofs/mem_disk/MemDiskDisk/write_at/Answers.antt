use Rattle.std.proofs.Common.{◌≡◌, ◌∷◌, length, sym, ap, ◌∙◌, arith}
use Rattle.saved_log.specs.MemDisks.{CutShort, Wrote, MemState, seen_of}
use Rattle.saved_log.proofs.MemCalls.{after_next, holds_after, torn_after, cut_after, time_after, time_maybe}
use Rattle.saved_log.proofs.mem_disk.MemDiskDisk.write_at.Goals as goal

pub returns-in-Err-clause-torn : goal.returns-in-Err-clause-torn
returns-in-Err-clause-torn c = λ told within.
    let seen : length (seen_of c.args.self.now.start c.args.self.now.kept) ≡ length c.self.inside.bytes.items =
    ap length (ap (λ (s : MemState). seen_of s.start s.kept) (sym c.self.view_is) ∙ sym c.self.invariant.bytes) in
    let same : c.min-from.result ≡ c.args.at = omega (arith, c.min-from.ensures, c.len.ensures, c.self.inside.bytes.ok.0, seen, within) in
    let next : c.next.new.self.kept ≡ c.args.self.now.kept = ap (λ (s : MemState). s.kept) c.in-Err.ensures.after in
    let start : c.note_cut.new.self.start ≡ c.args.self.now.start = c.note_cut.ensures.start ∙ ap (λ (s : MemState). s.start) c.in-Err.ensures.after in
    cut_after c.args.self.now c.note_cut.new.self start c.args.at c.min-from.result same (length c.args.piece.now)
    (after_next c.note_cut.new.self.kept c.next.new.self.kept c.args.self.now.kept (CutShort c.min-from.result (length c.args.piece.now)) next c.note_cut.ensures.kept)

pub returns-in-Err-clause-time : goal.returns-in-Err-clause-time
returns-in-Err-clause-time c = λ told.
    let next : c.next.new.self.kept ≡ c.args.self.now.kept = ap (λ (s : MemState). s.kept) c.in-Err.ensures.after in
    let start : c.note_cut.new.self.start ≡ c.args.self.now.start = c.note_cut.ensures.start ∙ ap (λ (s : MemState). s.start) c.in-Err.ensures.after in
    time_maybe c.args.self.now c.note_cut.new.self start (CutShort c.min-from.result (length c.args.piece.now))
    (after_next c.note_cut.new.self.kept c.next.new.self.kept c.args.self.now.kept (CutShort c.min-from.result (length c.args.piece.now)) next c.note_cut.ensures.kept)

pub returns-clause-written : goal.returns-clause-written
returns-clause-written c = λ told within.
    let seen : length (seen_of c.args.self.now.start c.args.self.now.kept) ≡ length c.self.inside.bytes.items =
    ap length (ap (λ (s : MemState). seen_of s.start s.kept) (sym c.self.view_is) ∙ sym c.self.invariant.bytes) in
    let same : c.min-from.result ≡ c.args.at = omega (arith, c.min-from.ensures, c.len.ensures, c.self.inside.bytes.ok.0, seen, within) in
    let start : c.note_write.new.self.start ≡ c.args.self.now.start = c.note_write.ensures.start ∙ ap (λ (s : MemState). s.start) c.next.ensures.after in
    holds_after c.args.self.now c.note_write.new.self start c.args.at c.min-from.result same c.args.piece.now (c.note_write.ensures.kept ∙ ap (λ (s : MemState). Wrote c.min-from.result c.args.piece.now ∷ s.kept) c.next.ensures.after)

pub returns-clause-torn : goal.returns-clause-torn
returns-clause-torn c = λ told within.
    let seen : length (seen_of c.args.self.now.start c.args.self.now.kept) ≡ length c.self.inside.bytes.items =
    ap length (ap (λ (s : MemState). seen_of s.start s.kept) (sym c.self.view_is) ∙ sym c.self.invariant.bytes) in
    let same : c.min-from.result ≡ c.args.at = omega (arith, c.min-from.ensures, c.len.ensures, c.self.inside.bytes.ok.0, seen, within) in
    let start : c.note_write.new.self.start ≡ c.args.self.now.start = c.note_write.ensures.start ∙ ap (λ (s : MemState). s.start) c.next.ensures.after in
    torn_after c.args.self.now c.note_write.new.self start c.args.at c.min-from.result same c.args.piece.now (c.note_write.ensures.kept ∙ ap (λ (s : MemState). Wrote c.min-from.result c.args.piece.now ∷ s.kept) c.next.ensures.after) within

pub returns-clause-time : goal.returns-clause-time
returns-clause-time c = λ told.
    let start : c.note_write.new.self.start ≡ c.args.self.now.start = c.note_write.ensures.start ∙ ap (λ (s : MemState). s.start) c.next.ensures.after in
    time_after c.args.self.now c.note_write.new.self start (Wrote c.min-from.result c.args.piece.now) (c.note_write.ensures.kept ∙ ap (λ (s : MemState). Wrote c.min-from.result c.args.piece.now ∷ s.kept) c.next.ensures.after)
