use Rattle.std.proofs.Common.{subst}
use Rattle.text_meaning.specs.Reading.{ModuleText, ModuleTree, Read}
use Rattle.text_meaning.specs.TextAnswers.{read}
use Rattle.mmt_syntax.specs.Readings as syntax
use Rattle.mmt_syntax.specs.declared.module.Module.{Module}
use Rattle.twelf_expressions.specs.Going.{Goes}
use Rattle.twelf_reader.proofs.Readings.{fault_reads, no_text_goes, ok_reads, only_reads}
use Rattle.twelf_reader.proofs.texts.read_module.Goals as goal

pub returns-in_err-text : goal.returns-in_err-text
returns-in_err-text c =
    let f = λ (x : Module). Read (ModuleTree (syntax.read_module x)) in
    let text = c.args.text.now in
    let goes = no_text_goes ModuleText text c.from_residual.result c.in_err-text.field-0.0 f c.from_residual.ensures.1 c.in_err-text.ensures.fault in
    record { ok = ok_reads ModuleText text c.from_residual.result f goes; fault = fault_reads ModuleText text c.from_residual.result f goes; only = only_reads ModuleText text c.from_residual.result f goes }

pub returns : goal.returns
returns c =
    let f = λ (x : Module). Read (ModuleTree (syntax.read_module x)) in
    let text = c.args.text.now in
    let goes = subst (λ t. Goes (read ModuleText t) c.module.result f) c.in_ok-text.ensures.ok c.module.ensures in
    record { ok = ok_reads ModuleText text c.module.result f goes; fault = fault_reads ModuleText text c.module.result f goes; only = only_reads ModuleText text c.module.result f goes }
