use Rattle.std.proofs.Common.{[], refl}
use Rattle.term_trees.specs.Readings.{read_object, read_simple}
use Rattle.lf_substitution_laws.proofs.Commutation.{substitutions_commute}
use Rattle.lf_laws.proofs.substitution.law_commute.Goals as goal

pub returns : goal.returns
returns c = λ sorts context sort outer inner into.
    substitutions_commute sorts [] context (read_object c.args.outer.now) (read_simple c.args.outer_type.now) (read_object c.args.inner.now) (read_simple c.args.inner_type.now) outer inner [] 0 (read_object c.args.into.now) sort refl into
