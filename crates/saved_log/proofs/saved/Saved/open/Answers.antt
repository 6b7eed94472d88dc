use Rattle.std.proofs.Common.{ℕ, List, length, sym, ap, ◌∙◌, subst, arith}
use Rattle.saved_log_meaning.specs.SavedFiles.{Edits}
use Rattle.saved_log_laws.proofs.Gates.{short_file}
use Rattle.saved_log_laws.proofs.LastGates.{last_gate_read}
use Rattle.saved_log.specs.Standing.{EndsAt, IsShort}
use Rattle.saved_log.proofs.StandingLogs.{stands_new, stands_kept, opened_new}
use Rattle.saved_log.proofs.saved.Saved.open.Goals as goal

pub returns-in_err-write_new-clause-any_moment : goal.returns-in_err-write_new-clause-any_moment
returns-in_err-write_new-clause-any_moment g c = λ told.
    let told_now = c.open_file.ensures.tells ∙ told in
    let reads = c.open_file.ensures.reads told in
    let short : IsShort (g.D.Disk.seen c.args.disk.now) = omega (arith, c.if-len-le9.true, c.len.ensures, c.in_ok-bytes.bytes.ok.0, ap length (c.in_ok-bytes.ensures.bytes told)) in
    let short_now = subst IsShort (sym reads.same) short in
    opened_new g.D.Disk.seen g.D.Disk.images g.D.Disk.moment_of g.D.Disk.left_since c.args.disk.now c.open_file.new.disk c.write_new.new.disk (λ image left. g.met.D.Disk.only_now c.args.disk.now image told left) reads short
    (c.write_new.ensures.any_moment told_now short_now (c.in_ok-bytes.ensures.durable told))

pub returns-then-len-le9-clause-any_moment : goal.returns-then-len-le9-clause-any_moment
returns-then-len-le9-clause-any_moment g c = λ told.
    let told_now = c.open_file.ensures.tells ∙ told in
    let reads = c.open_file.ensures.reads told in
    let short : IsShort (g.D.Disk.seen c.args.disk.now) = omega (arith, c.if-len-le9.true, c.len.ensures, c.in_ok-bytes.bytes.ok.0, ap length (c.in_ok-bytes.ensures.bytes told)) in
    let short_now = subst IsShort (sym reads.same) short in
    opened_new g.D.Disk.seen g.D.Disk.images g.D.Disk.moment_of g.D.Disk.left_since c.args.disk.now c.open_file.new.disk c.write_new.new.disk (λ image left. g.met.D.Disk.only_now c.args.disk.now image told left) reads short
    (c.write_new.ensures.any_moment told_now short_now (c.in_ok-bytes.ensures.durable told))

pub returns-then-len-le9-clause-read : goal.returns-then-len-le9-clause-read
returns-then-len-le9-clause-read g c = λ told.
    let short : IsShort (g.D.Disk.seen c.args.disk.now) = omega (arith, c.if-len-le9.true, c.len.ensures, c.in_ok-bytes.bytes.ok.0, ap length (c.in_ok-bytes.ensures.bytes told)) in
    short_file (g.D.Disk.seen c.args.disk.now) short ∙ ap Edits (sym c.new.ensures)

pub returns-then-len-le9-clause-stands : goal.returns-then-len-le9-clause-stands
returns-then-len-le9-clause-stands g c = λ told.
    let told_now = c.open_file.ensures.tells ∙ told in
    let reads = c.open_file.ensures.reads told in
    let short : IsShort (g.D.Disk.seen c.args.disk.now) = omega (arith, c.if-len-le9.true, c.len.ensures, c.in_ok-bytes.bytes.ok.0, ap length (c.in_ok-bytes.ensures.bytes told)) in
    let short_now = subst IsShort (sym reads.same) short in
    stands_new c.new.result (g.D.Disk.seen c.write_new.new.disk) (g.D.Disk.images c.write_new.new.disk) c.new.ensures (c.in_ok-write_new.ensures.written told_now short_now) (c.in_ok-write_new.ensures.durable told_now)

pub returns-then-len-le9-clause-kept : goal.returns-then-len-le9-clause-kept
returns-then-len-le9-clause-kept g c = λ told.
    stands_kept c.new.result 8 (g.D.Disk.seen c.write_new.new.disk) (g.D.Disk.images c.write_new.new.disk) (returns-then-len-le9-clause-stands g c told)

pub returns-clause-read : goal.returns-clause-read
returns-clause-read g c = λ told.
    let ends = subst (λ (file : List ℕ). EndsAt c.read_edits.new.log c.in_ok-gate.gate file) (c.deref.ensures.value ∙ c.in_ok-bytes.ensures.bytes told) c.in_ok-gate.ensures.ends in
    last_gate_read (g.D.Disk.seen c.args.disk.now) c.read_edits.new.log ends.last

pub returns-clause-stands : goal.returns-clause-stands
returns-clause-stands g c = λ told.
    let same = c.deref.ensures.value ∙ c.in_ok-bytes.ensures.bytes told ∙ sym (c.open_file.ensures.reads told).same in
    record {
      ends = subst (λ (file : List ℕ). EndsAt c.read_edits.new.log c.in_ok-gate.gate file) same c.in_ok-gate.ensures.ends;
      is_durable = c.in_ok-bytes.ensures.durable told;
    }

pub returns-clause-kept : goal.returns-clause-kept
returns-clause-kept g c = λ told.
    stands_kept c.read_edits.new.log c.in_ok-gate.gate (g.D.Disk.seen c.open_file.new.disk) (g.D.Disk.images c.open_file.new.disk) (returns-clause-stands g c told)
