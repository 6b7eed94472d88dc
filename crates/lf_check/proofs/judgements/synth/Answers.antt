use Rattle.std.proofs.Common.{◌≡◌, Ok, Err}
use Rattle.std.specs.Prelude.{IfSome}
use Rattle.lf_meaning.specs.Terms.{apply_all}
use Rattle.lf_meaning.specs.Judgements.{Synthesises}
use Rattle.lf_meaning.specs.Faults.{synthesised}
use Rattle.lf_typing.proofs.Faultless.{synthesised_sound, synthesised_complete}
use Rattle.term_trees.specs.Readings.{read_context, read_family, read_head, read_objects, read_signature}
use Rattle.lf_check.specs.Answers.{fault_of}
use Rattle.lf_check.proofs.Answered.{refuses_all}
use Rattle.lf_check.proofs.judgements.synth.Goals as goal

pub returns-in-Ok-clause-accepted : goal.returns-in-Ok-clause-accepted
returns-in-Ok-clause-accepted c =
    let sig = read_signature c.args.sig.now in
    let context = read_context c.args.ctx.now in
    let r = apply_all (read_head c.args.head.now) (read_objects c.args.spine.now) in
    let found : synthesised sig context r ≡ Ok (read_family c.into_inner.result) = rw (← c.new.ensures.signature, ← c.new.ensures.context, c.into_inner.ensures) c.in-Ok.ensures in
    synthesised_sound sig context r (read_family c.into_inner.result) found

pub returns-in-Err-clause-refused : goal.returns-in-Err-clause-refused
returns-in-Err-clause-refused c =
    let sig = read_signature c.args.sig.now in
    let context = read_context c.args.ctx.now in
    let r = apply_all (read_head c.args.head.now) (read_objects c.args.spine.now) in
    let found : IfSome (fault_of c.into_fault.result) (λ f. synthesised sig context r ≡ Err f) = rw (← c.new.ensures.signature, ← c.new.ensures.context, c.into_fault.ensures) c.in-Err.ensures in
    refuses_all (Synthesises sig context r) (synthesised sig context r) c.into_fault.result found (λ a h. synthesised_complete sig context r a h)
