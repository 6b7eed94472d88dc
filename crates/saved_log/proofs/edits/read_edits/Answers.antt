use Rattle.std.proofs.Common.{ℕ, ◌+◌, ◌-◌, Option, IfSome, is_some, rules, List, length, take, drop, sym, ap, subst, arith}
use Rattle.std.proofs.lemmas.List.{take_rest}
use Rattle.edit_log_meaning.specs.Log.{Log}
use Rattle.saved_log_laws.specs.SavedFileLaws.{IsWrong}
use Rattle.saved_log.specs.Standing.{IsTaken, Reached}
use Rattle.saved_log.proofs.ReadingGates.{starts_other, starts, reached_first, reached_next, near_next, reached_end, reached_wrong}
use Rattle.saved_log.proofs.edits.read_edits.Goals as goal

pub returns-then-not-starts_with-clause-fault : goal.returns-then-not-starts_with-clause-fault
returns-then-not-starts_with-clause-fault c = starts_other c.args.bytes.now c.starts_with.result c.starts_with.ensures.value (search rules) c.requires.long

pub loop-gate-init : goal.loop-gate-init
loop-gate-init c = record {
  reached = subst (λ (log : Log). Reached c.args.bytes.now log 8) (sym c.requires.empty) (reached_first c.args.bytes.now c.requires.long (starts c.args.bytes.now c.starts_with.result c.starts_with.ensures.value (search rules)));
  near = omega arith;
}

pub returns-in_default-clause-fault : goal.returns-in_default-clause-fault
returns-in_default-clause-fault c =
    let wrong = subst (λ (l : List ℕ). IsWrong c.loop-gate.log l) (take_rest c.args.bytes.now (c.loop-gate.gate + 1)) (c.in_ok-size.ensures.wrong (ap is_some c.in_default.is)) in
    reached_wrong c.args.bytes.now c.loop-gate.log c.loop-gate.gate c.requires.long c.loop-gate.invariant.reached c.loop-gate-test.true wrong

pub loop-gate-preserved : goal.loop-gate-preserved
loop-gate-preserved c =
    let bytes = c.args.bytes.now in
    let gate = c.loop-gate.gate in
    let size = c.in-Some.size in
    let taken = subst (λ (o : Option ℕ). IfSome o (λ size. IsTaken (take (length bytes - (gate + 1)) (drop (gate + 1) bytes)) c.loop-gate.log c.take_edit.new.log size)) c.in-Some.is c.in_ok-size.ensures.taken in
    let behind = subst (λ (l : List ℕ). IsTaken l c.loop-gate.log c.take_edit.new.log size) (take_rest bytes (gate + 1)) taken in
    record {
      reached = reached_next bytes c.loop-gate.log c.take_edit.new.log gate size c.loop-gate.invariant.reached c.loop-gate-test.true behind;
      near = near_next gate size (drop (gate + 1) bytes) c.loop-gate.log c.take_edit.new.log c.loop-gate.invariant.near behind;
    }

pub returns-clause-ends : goal.returns-clause-ends
returns-clause-ends c = reached_end c.args.bytes.now c.loop-gate.log c.loop-gate.gate c.loop-gate.invariant.reached c.loop-gate-test.false
