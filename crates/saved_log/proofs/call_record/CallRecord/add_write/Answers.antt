use Rattle.std.proofs.Common.{◌≡◌, ◌+◌, ◌++◌, ◌∷◌, length, ap, ◌∙◌, Result, if◌then◌else◌}
use Rattle.std.specs.Result.{is_ok}
use Rattle.std.specs.declared.alloc.AllocError.{AllocError}
use Rattle.saved_log.specs.MemDisks.{Wrote, Recorded}
use Rattle.saved_log.proofs.KeepingCalls.{write_kept}
use Rattle.saved_log.proofs.call_record.CallRecord.add_write.Goals as goal

pub returns : goal.returns
returns c =
    let inside = c.self.inside in
    let pieces : c.extend_from_slice.new.self.items ≡ inside.pieces.items ++ c.args.piece.now =
    c.extend_from_slice.ensures.items ∙ ap (λ (answer : Result (Unit {0}) AllocError). if is_ok answer then inside.pieces.items ++ c.args.piece.now else inside.pieces.items) c.unwrap.ensures in
    let from : c.len-from.result ≡ length inside.pieces.items = c.len-from.ensures ∙ inside.pieces.ok.0 in
    let add : Recorded → Recorded = λ (s : Recorded). record { kept = Wrote c.args.at c.args.piece.now ∷ s.kept; room = s.room; taken = s.taken + 32 + length c.args.piece.now } in
    write_kept inside.pieces.items c.args.piece.now c.extend_from_slice.new.self.items inside.kept.items c.push_reserved.new.self.items c.args.at c.len-from.result inside.room c.self.invariant.among pieces from c.push_reserved.ensures.items
    ∙ ap add c.self.view_is
