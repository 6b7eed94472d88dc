use Rattle.std.proofs.Common.{◌+◌, [], length, refl}
use Rattle.lf_substitution_laws.proofs.Commutation.{substitutions_commute, substitutions_commute_family, substitutions_commute_kind}
use Rattle.lf_substitution_laws.proofs.commutation_laws.law_substitutions_commute.Goals as goal

pub returns-clause-object : goal.returns-clause-object
returns-clause-object c = λ sorts after between before outer inner into t u s ho hi h. substitutions_commute sorts between before outer t inner u ho hi after (length between + length after) into s refl h

pub returns-clause-innermost : goal.returns-clause-innermost
returns-clause-innermost c = λ sorts context outer inner into t u s ho hi h. substitutions_commute sorts [] context outer t inner u ho hi [] 0 into s refl h

pub returns-clause-family : goal.returns-clause-family
returns-clause-family c = λ sorts after between before outer inner into t u ho hi h. substitutions_commute_family sorts between before outer t inner u ho hi after (length between + length after) into refl h

pub returns-clause-kind : goal.returns-clause-kind
returns-clause-kind c = λ sorts after between before outer inner into t u ho hi h. substitutions_commute_kind sorts between before outer t inner u ho hi after (length between + length after) into refl h
