use Rattle.std.proofs.Common.{◌∙◌, inl, inr}
use Rattle.module_check.proofs.TextNames.{no_names}
use Rattle.module_check.proofs.dependencies.no_names.Goals as goal

pub returns-in-Syntax : goal.returns-in-Syntax
returns-in-Syntax c = λ answer h. c.new.ensures ∙ no_names c.args.fault answer (inl (_, c.in-Syntax.is)) h

pub returns-in-TooDeep : goal.returns-in-TooDeep
returns-in-TooDeep c = λ answer h. c.new-in-TooDeep.ensures ∙ no_names c.args.fault answer (inr (inl (_, c.in-TooDeep.is))) h

pub returns-in-Unsupported : goal.returns-in-Unsupported
returns-in-Unsupported c = λ answer h. c.new-in-Unsupported.ensures ∙ no_names c.args.fault answer (inr (inr (_, c.in-Unsupported.is))) h
