use Rattle.std.proofs.Common.{◌≡◌, ◌<◌, ℕ, List, length, take, refl, sym, ◌∙◌, subst, arith}
use Rattle.saved_log.specs.DiskCalls.{IsRead}
use Rattle.saved_log.proofs.ReadCalls.{reads_none, reads_both}
use Rattle.saved_log.proofs.WholeFiles.{Begins, begins_empty, begins_more, begins_whole, added}
use Rattle.saved_log.proofs.reading.read_all.Goals as goal

pub returns-in_err-count-clause-tells : goal.returns-in_err-count-clause-tells
returns-in_err-count-clause-tells g c = c.read_at.ensures.tells ∙ c.loop.invariant.tells

pub loop-init : goal.loop-init
loop-init g c = record {
  tells = refl;
  reads = λ told. reads_none g.D.Disk.seen g.D.Disk.images g.D.Disk.moment_of g.D.Disk.left_since c.args.disk.now;
  begins = λ told. subst (λ (items : List ℕ). Begins (g.D.Disk.seen c.args.disk.now) items) (sym c.new-bytes.ensures.items) (begins_empty (g.D.Disk.seen c.args.disk.now));
  room = omega arith;
  faults = omega arith;
}

pub returns-then-count-eq0-clause-bytes : goal.returns-then-count-eq0-clause-bytes
returns-then-count-eq0-clause-bytes g c = λ told.
    let place : c.len.result ≡ length c.loop.bytes.items = c.len.ensures ∙ c.loop.bytes.ok.0 in
    let read = subst (λ (file : List ℕ). IsRead file c.len.result c.in_ok-count.count c.read_at.new.into) (c.loop.invariant.reads told).same (c.in_ok-count.ensures.bytes (c.loop.invariant.tells ∙ told)) in
    let room : 0 < length c.read_at.new.into = omega (arith, c.read_at.auto.into, c.loop.invariant.room) in
    begins_whole (g.D.Disk.seen c.args.disk.now) c.loop.bytes.items c.read_at.new.into c.len.result c.in_ok-count.count place (c.loop.invariant.begins told) room read c.if-count-eq0.true

pub loop-preserved : goal.loop-preserved
loop-preserved g c =
    let place : c.len.result ≡ length c.loop.bytes.items = c.len.ensures ∙ c.loop.bytes.ok.0 in
    let items = added c.extend_from_slice.result c.is_err.result c.extend_from_slice.new.self.items c.loop.bytes.items (take c.in_ok-count.count c.read_at.new.into) c.extend_from_slice.ensures.items c.is_err.ensures.value c.if-is_err.false in
    record {
      tells = c.read_at.ensures.tells ∙ c.loop.invariant.tells;
      reads = λ told. reads_both g.D.Disk.seen g.D.Disk.images g.D.Disk.moment_of g.D.Disk.left_since c.args.disk.now c.loop.disk c.read_at.new.self (c.loop.invariant.reads told) (c.read_at.ensures.reads (c.loop.invariant.tells ∙ told));
      room = omega (arith, c.read_at.auto.into, c.loop.invariant.room);
      begins = λ told.
          let read = subst (λ (file : List ℕ). IsRead file c.len.result c.in_ok-count.count c.read_at.new.into) (c.loop.invariant.reads told).same (c.in_ok-count.ensures.bytes (c.loop.invariant.tells ∙ told)) in
          subst (λ (items : List ℕ). Begins (g.D.Disk.seen c.args.disk.now) items) (sym items) (begins_more (g.D.Disk.seen c.args.disk.now) c.loop.bytes.items c.read_at.new.into c.len.result c.in_ok-count.count place (c.loop.invariant.begins told) read);
      faults = omega (arith, c.loop.invariant.faults, c.read_at.ensures.cause.later);
    }
