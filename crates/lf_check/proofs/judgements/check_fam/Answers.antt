use Rattle.lf_meaning.specs.Judgements.{IsFamily}
use Rattle.lf_meaning.specs.Faults.{family_fault}
use Rattle.lf_typing.proofs.Faultless.{family_sound, family_complete}
use Rattle.term_trees.specs.Readings.{read_context, read_family, read_signature}
use Rattle.lf_check.specs.Answers.{Answers}
use Rattle.lf_check.specs.Environments.{context_over, signature_over}
use Rattle.lf_check.proofs.Answered.{accepts, refuses}
use Rattle.lf_check.proofs.judgements.check_fam.Goals as goal

pub returns-clause-accepted : goal.returns-clause-accepted
returns-clause-accepted c =
    let sig = read_signature c.args.sig.now in
    let context = read_context c.args.ctx.now in
    let a = read_family c.args.fam.now in
    let environment = c.new.result in
    let answer : Answers c.finish.result (family_fault sig context a) = rw (← c.new.ensures.signature, ← c.new.ensures.context) (c.finish.ensures (family_fault (signature_over environment) (context_over environment) a) c.check_family.ensures) in
    accepts (IsFamily sig context a) (family_fault sig context a) c.finish.result answer (family_sound sig context a)

pub returns-clause-refused : goal.returns-clause-refused
returns-clause-refused c =
    let sig = read_signature c.args.sig.now in
    let context = read_context c.args.ctx.now in
    let a = read_family c.args.fam.now in
    let environment = c.new.result in
    let answer : Answers c.finish.result (family_fault sig context a) = rw (← c.new.ensures.signature, ← c.new.ensures.context) (c.finish.ensures (family_fault (signature_over environment) (context_over environment) a) c.check_family.ensures) in
    refuses (IsFamily sig context a) (family_fault sig context a) c.finish.result answer (family_complete sig context a)
