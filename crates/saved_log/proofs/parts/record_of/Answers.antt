use Rattle.std.proofs.Common.{rules, sym, ◌∙◌}
use Rattle.saved_log.proofs.ReadingRecords.{no_record, is_put, is_drop, is_neither}
use Rattle.saved_log.proofs.parts.record_of.Goals as goal

pub returns-in_err-kind-clause-read : goal.returns-in_err-kind-clause-read
returns-in_err-kind-clause-read c = let e = no_record c.args.bytes.now (search rules) in search (rules, e)

pub returns-then-kind-eq-PUT-clause-read : goal.returns-then-kind-eq-PUT-clause-read
returns-then-kind-eq-PUT-clause-read c = c.put_behind.ensures.read ∙ sym (is_put c.args.bytes.now c.in_ok-kind.kind.now c.in_ok-kind.behind.now c.in_ok-kind.ensures.cases c.if-kind-eq-PUT.true)

pub returns-then-kind-eq-DROP-clause-read : goal.returns-then-kind-eq-DROP-clause-read
returns-then-kind-eq-DROP-clause-read c = c.drop_behind.ensures.read ∙ sym (is_drop c.args.bytes.now c.in_ok-kind.kind.now c.in_ok-kind.behind.now c.in_ok-kind.ensures.cases c.if-kind-eq-DROP.true)

pub returns-else-kind-eq-DROP-clause-read : goal.returns-else-kind-eq-DROP-clause-read
returns-else-kind-eq-DROP-clause-read c = sym (is_neither c.args.bytes.now c.in_ok-kind.kind.now c.in_ok-kind.behind.now c.in_ok-kind.ensures.cases c.if-kind-eq-PUT.false c.if-kind-eq-DROP.false)
