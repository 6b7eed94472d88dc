use Rattle.std.proofs.Common.{◌++◌}
use Rattle.lf_typing.proofs.Typed.{more_checks, more_family, more_kind}
use Rattle.lf_typing.proofs.Declared.{class_more}
use Rattle.lf_typing.proofs.typing_laws.law_more_declarations.Goals as goal

pub returns-clause-object : goal.returns-clause-object
returns-clause-object c = λ sig more context further m a. more_checks sig (sig ++ more) (class_more sig more) context further m a

pub returns-clause-family : goal.returns-clause-family
returns-clause-family c = λ sig more context further a. more_family sig (sig ++ more) (class_more sig more) context further a

pub returns-clause-kind : goal.returns-clause-kind
returns-clause-kind c = λ sig more context further k. more_kind sig (sig ++ more) (class_more sig more) context further k
