use Rattle.lf_meaning.specs.Judgements.{Checks}
use Rattle.lf_meaning.specs.Faults.{object_fault}
use Rattle.lf_typing.proofs.Faultless.{object_sound, object_complete}
use Rattle.term_trees.specs.Readings.{read_context, read_family, read_object, read_signature}
use Rattle.lf_check.specs.Answers.{Answers}
use Rattle.lf_check.specs.Environments.{context_over, signature_over}
use Rattle.lf_check.proofs.Answered.{accepts, refuses}
use Rattle.lf_check.proofs.judgements.check_obj.Goals as goal

pub returns-clause-accepted : goal.returns-clause-accepted
returns-clause-accepted c =
    let sig = read_signature c.args.sig.now in
    let context = read_context c.args.ctx.now in
    let m = read_object c.args.obj.now in
    let a = read_family c.args.fam.now in
    let environment = c.new.result in
    let answer : Answers c.finish.result (object_fault sig context m a) = rw (← c.new.ensures.signature, ← c.new.ensures.context) (c.finish.ensures (object_fault (signature_over environment) (context_over environment) m a) c.check_object.ensures) in
    accepts (Checks sig context m a) (object_fault sig context m a) c.finish.result answer (object_sound sig context m a)

pub returns-clause-refused : goal.returns-clause-refused
returns-clause-refused c =
    let sig = read_signature c.args.sig.now in
    let context = read_context c.args.ctx.now in
    let m = read_object c.args.obj.now in
    let a = read_family c.args.fam.now in
    let environment = c.new.result in
    let answer : Answers c.finish.result (object_fault sig context m a) = rw (← c.new.ensures.signature, ← c.new.ensures.context) (c.finish.ensures (object_fault (signature_over environment) (context_over environment) m a) c.check_object.ensures) in
    refuses (Checks sig context m a) (object_fault sig context m a) c.finish.result answer (object_complete sig context m a)
