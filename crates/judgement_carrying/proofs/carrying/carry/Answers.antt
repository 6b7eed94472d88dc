use Rattle.std.proofs.Common.{refl, subst}
use Rattle.text_meaning.specs.Reading.{JudgementText}
use Rattle.text_meaning.specs.TextAnswers.{read}
use Rattle.reading_laws.proofs.OneAnswer.{one_reading}
use Rattle.mmt_syntax.specs.Readings.{read_judgement}
use Rattle.mmt_interface.specs.Carriages.{IsCarriage, IsCarryFault}
use Rattle.mmt_interface.specs.Readings.{environment_of, read_view}
use Rattle.judgement_carrying.proofs.CarriedJudgements.{no_view, domain_there, source_scope, source_map, along_text, along_judgement, carried_typed}
use Rattle.judgement_carrying.proofs.carrying.carry.Goals as goal

pub unreachable-requires : goal.unreachable-requires
unreachable-requires c = domain_there c.args.faces.now c.args.view.now c.in-Some.along.now c.requires.coherent c.in-Some.ensures.meaning c.in_default-theory.ensures.meaning

pub carried-requires-clause-scope : goal.carried-requires-clause-scope
carried-requires-clause-scope c =
    source_scope c.args.faces.now c.args.view.now c.in-Some.along.now c.requires.coherent c.in-Some.ensures.meaning c.in-Some-theory.source.now c.in-Some-theory.ensures.meaning

pub carried-requires-clause-map : goal.carried-requires-clause-map
carried-requires-clause-map c =
    source_map c.args.faces.now c.args.view.now c.in-Some.along.now c.requires.coherent c.in-Some.ensures.meaning c.in-Some-theory.source.now c.in-Some-theory.ensures.meaning

pub returns-in_default-clause-answer : goal.returns-in_default-clause-answer
returns-in_default-clause-answer c = no_view (environment_of c.args.faces.now) c.args.view.now c.args.text.now c.in_default.ensures.meaning

pub returns-in-Ok-clause-answer : goal.returns-in-Ok-clause-answer
returns-in-Ok-clause-answer c =
    let reads = c.in-Ok.ensures.only (read JudgementText c.args.text.now) (one_reading JudgementText c.args.text.now).is_read in
    subst (IsCarriage c.carried.result)
    (along_judgement c.args.faces.now c.args.view.now c.in-Some.along.now c.requires.coherent c.in-Some.ensures.meaning c.in-Some-theory.source.now c.in-Some-theory.ensures.meaning c.args.text.now (read_judgement c.in-Ok.judgement) reads)
    c.carried.ensures

pub returns-in-Ok-clause-typed : goal.returns-in-Ok-clause-typed
returns-in-Ok-clause-typed c = λ library held.
    (let reads = c.in-Ok.ensures.only (read JudgementText c.args.text.now) (one_reading JudgementText c.args.text.now).is_read in
    carried_typed library c.args.faces.now c.args.view.now c.args.text.now c.carried.result held
    (subst (IsCarriage c.carried.result)
    (along_judgement c.args.faces.now c.args.view.now c.in-Some.along.now c.requires.coherent c.in-Some.ensures.meaning c.in-Some-theory.source.now c.in-Some-theory.ensures.meaning c.args.text.now (read_judgement c.in-Ok.judgement) reads)
    c.carried.ensures))

pub returns-in-Err-clause-answer : goal.returns-in-Err-clause-answer
returns-in-Err-clause-answer c =
    let environment = environment_of c.args.faces.now in
    let answer = read JudgementText c.args.text.now in
    let fails = c.in-Err.ensures.only answer (one_reading JudgementText c.args.text.now).is_read in
    subst (IsCarryFault c.unread.result)
    (along_text c.args.faces.now c.args.view.now c.in-Some.along.now c.requires.coherent c.in-Some.ensures.meaning c.in-Some-theory.source.now c.in-Some-theory.ensures.meaning c.args.text.now answer refl)
    (c.unread.ensures environment (read_view c.in-Some.along.now) answer fails)
