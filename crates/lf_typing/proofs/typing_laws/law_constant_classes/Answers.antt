use Rattle.lf_typing.proofs.Closed.{class_is_class, raise_class_family, raise_class_kind, substitute_class_family, substitute_class_kind}
use Rattle.lf_typing.proofs.typing_laws.law_constant_classes.Goals as goal

pub returns-clause-class_is : goal.returns-clause-class_is
returns-clause-class_is c = class_is_class

pub returns-clause-raise : goal.returns-clause-raise
returns-clause-raise c = raise_class_family

pub returns-clause-raise_kind : goal.returns-clause-raise_kind
returns-clause-raise_kind c = raise_class_kind

pub returns-clause-substitute : goal.returns-clause-substitute
returns-clause-substitute c = substitute_class_family

pub returns-clause-substitute_kind : goal.returns-clause-substitute_kind
returns-clause-substitute_kind c = substitute_class_kind
