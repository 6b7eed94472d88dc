use Rattle.std.proofs.Common.{subst}
use Rattle.text_meaning.specs.Reading.{JudgementText, JudgementTree, Read}
use Rattle.text_meaning.specs.TextAnswers.{read}
use Rattle.mmt_syntax.specs.Readings as syntax
use Rattle.mmt_syntax.specs.declared.module.Judgement.{Judgement}
use Rattle.twelf_expressions.specs.Going.{Goes}
use Rattle.twelf_reader.proofs.Readings.{fault_reads, no_text_goes, ok_reads, only_reads}
use Rattle.twelf_reader.proofs.texts.read_judgement.Goals as goal

pub returns-in_err-text : goal.returns-in_err-text
returns-in_err-text c =
    let f = λ (x : Judgement). Read (JudgementTree (syntax.read_judgement x)) in
    let text = c.args.text.now in
    let goes = no_text_goes JudgementText text c.from_residual.result c.in_err-text.field-0.0 f c.from_residual.ensures.1 c.in_err-text.ensures.fault in
    record { ok = ok_reads JudgementText text c.from_residual.result f goes; fault = fault_reads JudgementText text c.from_residual.result f goes; only = only_reads JudgementText text c.from_residual.result f goes }

pub returns : goal.returns
returns c =
    let f = λ (x : Judgement). Read (JudgementTree (syntax.read_judgement x)) in
    let text = c.args.text.now in
    let goes = subst (λ t. Goes (read JudgementText t) c.judgement.result f) c.in_ok-text.ensures.ok c.judgement.ensures in
    record { ok = ok_reads JudgementText text c.judgement.result f goes; fault = fault_reads JudgementText text c.judgement.result f goes; only = only_reads JudgementText text c.judgement.result f goes }
