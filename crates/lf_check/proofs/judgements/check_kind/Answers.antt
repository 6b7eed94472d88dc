use Rattle.lf_meaning.specs.Judgements.{IsKind}
use Rattle.lf_meaning.specs.Faults.{kind_fault}
use Rattle.lf_typing.proofs.Faultless.{kind_sound, kind_complete}
use Rattle.term_trees.specs.Readings.{read_context, read_kind, read_signature}
use Rattle.lf_check.specs.Answers.{Answers}
use Rattle.lf_check.specs.Environments.{context_over, signature_over}
use Rattle.lf_check.proofs.Answered.{accepts, refuses}
use Rattle.lf_check.proofs.judgements.check_kind.Goals as goal

pub returns-clause-accepted : goal.returns-clause-accepted
returns-clause-accepted c =
    let sig = read_signature c.args.sig.now in
    let context = read_context c.args.ctx.now in
    let k = read_kind c.args.kind.now in
    let environment = c.new.result in
    let answer : Answers c.finish.result (kind_fault sig context k) = rw (← c.new.ensures.signature, ← c.new.ensures.context) (c.finish.ensures (kind_fault (signature_over environment) (context_over environment) k) c.check_kind_over.ensures) in
    accepts (IsKind sig context k) (kind_fault sig context k) c.finish.result answer (kind_sound sig context k)

pub returns-clause-refused : goal.returns-clause-refused
returns-clause-refused c =
    let sig = read_signature c.args.sig.now in
    let context = read_context c.args.ctx.now in
    let k = read_kind c.args.kind.now in
    let environment = c.new.result in
    let answer : Answers c.finish.result (kind_fault sig context k) = rw (← c.new.ensures.signature, ← c.new.ensures.context) (c.finish.ensures (kind_fault (signature_over environment) (context_over environment) k) c.check_kind_over.ensures) in
    refuses (IsKind sig context k) (kind_fault sig context k) c.finish.result answer (kind_complete sig context k)
