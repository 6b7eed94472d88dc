use Rattle.std.proofs.Common.{◌≡◌, ◌+◌, ◌++◌, ◌∷◌, [], length, refl, ap, ◌∙◌, arith}
use Rattle.edit_log.specs.Readings.{read_edit}
use Rattle.saved_log_meaning.specs.Records.{record_bytes}
use Rattle.saved_log_meaning.specs.SavedFiles.{Edits}
use Rattle.saved_log_laws.proofs.Gates.{takes_fits}
use Rattle.saved_log.specs.Standing.{SavedAt}
use Rattle.saved_log.proofs.AppendCalls.{untouched}
use Rattle.saved_log.proofs.StandingLogs.{few, piece_small, ready_at, stands_after, stands_kept}
use Rattle.saved_log.proofs.saved.Saved.append.Goals as goal

pub gated_record-requires : goal.gated_record-requires
gated_record-requires g c = takes_fits c.requires.0 (read_edit c.args.edit.now) c.requires.2

pub returns-in_err-piece-clause-any_moment : goal.returns-in_err-piece-clause-any_moment
returns-in_err-piece-clause-any_moment g c log told stands takes =
    let edit = read_edit c.args.edit.now in
    let piece = record_bytes edit ++ 0 ∷ [] in
    let gate = c.args.self.now.gate in
    let ready = ready_at log edit (g.D.Disk.seen c.args.disk.now) (g.D.Disk.images c.args.disk.now) gate gate piece stands refl takes refl in
    untouched g.D.Disk.seen g.D.Disk.images g.D.Disk.moment_of g.D.Disk.left_since gate piece (Edits log) (Edits (log ++ edit ∷ [])) c.args.disk.now ready (λ image left. g.met.D.Disk.only_now c.args.disk.now image told left)

pub append_bytes-requires : goal.append_bytes-requires
append_bytes-requires g c = omega (arith, ap (λ (s : SavedAt). s.edits) c.self.view_is, c.requires.1, few c.requires.0 (read_edit c.args.edit.now) c.requires.2, c.self.invariant)

pub returns-in_err-append_bytes-clause-any_moment : goal.returns-in_err-append_bytes-clause-any_moment
returns-in_err-append_bytes-clause-any_moment g c log told stands takes =
    let edit = read_edit c.args.edit.now in
    let same : c.args.self.now.gate ≡ c.self.inside.gate = omega (arith, ap (λ (s : SavedAt). s.gate) c.self.view_is) in
    let ready = ready_at log edit (g.D.Disk.seen c.args.disk.now) (g.D.Disk.images c.args.disk.now) c.args.self.now.gate c.self.inside.gate c.deref.result.now stands same takes (c.deref.ensures.value ∙ c.in_ok-piece.ensures) in
    c.append_bytes.ensures.any_moment (Edits log) (Edits (log ++ edit ∷ [])) told ready

pub overflow_add-self : goal.overflow_add-self
overflow_add-self g c =
    let size = piece_small c.requires.0 (read_edit c.args.edit.now) c.in_ok-piece.piece.items c.requires.2 c.in_ok-piece.ensures in
    omega (arith, ap (λ (s : SavedAt). s.edits) c.self.view_is, c.requires.1, few c.requires.0 (read_edit c.args.edit.now) c.requires.2, c.self.invariant, c.len.ensures, c.in_ok-piece.piece.ok.0, size)

pub overflow_add-self-2 : goal.overflow_add-self-2
overflow_add-self-2 g c = omega (arith, ap (λ (s : SavedAt). s.edits) c.self.view_is, c.requires.1, few c.requires.0 (read_edit c.args.edit.now) c.requires.2)

pub invariant_of-self : goal.invariant_of-self
invariant_of-self g c =
    let size = piece_small c.requires.0 (read_edit c.args.edit.now) c.in_ok-piece.piece.items c.requires.2 c.in_ok-piece.ensures in
    omega (arith, c.self.invariant, c.len.ensures, c.in_ok-piece.piece.ok.0, size)

pub returns-clause-any_moment : goal.returns-clause-any_moment
returns-clause-any_moment g c log told stands takes =
    let edit = read_edit c.args.edit.now in
    let same : c.args.self.now.gate ≡ c.self.inside.gate = omega (arith, ap (λ (s : SavedAt). s.gate) c.self.view_is) in
    let ready = ready_at log edit (g.D.Disk.seen c.args.disk.now) (g.D.Disk.images c.args.disk.now) c.args.self.now.gate c.self.inside.gate c.deref.result.now stands same takes (c.deref.ensures.value ∙ c.in_ok-piece.ensures) in
    c.append_bytes.ensures.any_moment (Edits log) (Edits (log ++ edit ∷ [])) told ready

pub returns-clause-stands : goal.returns-clause-stands
returns-clause-stands g c log told stands takes =
    let edit = read_edit c.args.edit.now in
    let same : c.args.self.now.gate ≡ c.self.inside.gate = omega (arith, ap (λ (s : SavedAt). s.gate) c.self.view_is) in
    let is = c.deref.ensures.value ∙ c.in_ok-piece.ensures in
    let ready = ready_at log edit (g.D.Disk.seen c.args.disk.now) (g.D.Disk.images c.args.disk.now) c.args.self.now.gate c.self.inside.gate c.deref.result.now stands same takes is in
    let next : c.self.inside.gate + c.len.result ≡ c.self.inside.gate + length c.deref.result.now = omega (arith, c.len.ensures, c.in_ok-piece.piece.ok.0, ap length c.deref.ensures.value) in
    stands_after log edit (g.D.Disk.seen c.args.disk.now) (g.D.Disk.seen c.append_bytes.new.disk) (g.D.Disk.images c.args.disk.now) (g.D.Disk.images c.append_bytes.new.disk) c.args.self.now.gate c.self.inside.gate
    (c.self.inside.gate + c.len.result) c.deref.result.now stands same takes is (c.in_ok-append_bytes.ensures.appended (Edits log) (Edits (log ++ edit ∷ [])) told ready) next

pub returns-clause-kept : goal.returns-clause-kept
returns-clause-kept g c log told stands takes =
    stands_kept (log ++ read_edit c.args.edit.now ∷ []) (c.self.inside.gate + c.len.result) (g.D.Disk.seen c.append_bytes.new.disk) (g.D.Disk.images c.append_bytes.new.disk) (returns-clause-stands g c log told stands takes)
