use Rattle.constant_laws.proofs.Holding.{holding_grows, raising_holds, substitution_holds, family_substitution_holds, kind_substitution_holds}
use Rattle.constant_laws.proofs.term_laws.law_substitution_holds.Goals as goal

pub returns-clause-grows : goal.returns-clause-grows
returns-clause-grows c = holding_grows

pub returns-clause-raising : goal.returns-clause-raising
returns-clause-raising c = raising_holds

pub returns-clause-object : goal.returns-clause-object
returns-clause-object c = substitution_holds

pub returns-clause-family : goal.returns-clause-family
returns-clause-family c = family_substitution_holds

pub returns-clause-kind : goal.returns-clause-kind
returns-clause-kind c = kind_substitution_holds
