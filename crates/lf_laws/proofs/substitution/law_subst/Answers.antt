use Rattle.std.proofs.Common.{◌≡◌, List, ◌++◌, length, ap, ◌∙◌, subst}
use Rattle.std.proofs.lemmas.List.{length-map, length-reverse}
use Rattle.std.specs.Prelude.{map}
use Rattle.lf_meaning.specs.Erasure.{erase}
use Rattle.lf_meaning.specs.Substitution.{substitute, substitute_context, substitute_family}
use Rattle.lf_meaning.specs.Judgements.{IsTyping}
use Rattle.lf_meaning.specs.Misfits.{NoMisfit, NoMisfitInContext, NoMisfitInFamily}
use Rattle.lf_typing.proofs.SubstitutionTyping.{substitute_is_typing}
use Rattle.lf_typing.proofs.TypedMisfits.{typed_no_misfit}
use Rattle.term_trees.specs.Readings.{read_context, read_family, read_object, read_signature}
use Rattle.term_trees.specs.declared.fam.Fam.{Fam}
use Rattle.lf_laws.proofs.substitution.law_subst.Goals as goal

-- A context has as many families as are read.
as_many : (families : List Fam) → length (read_context families) ≡ length families
as_many families = length-reverse (map read_family families) ∙ length-map families read_family

pub returns-clause-typing : goal.returns-clause-typing
returns-clause-typing c = λ typed value judgement.
    subst
    (λ n. IsTyping (read_signature c.args.sig.now) (substitute_context (read_object c.args.value.now) (erase (read_family c.args.of.now)) (read_context c.args.after.now) ++ read_context c.args.ctx.now)
    (substitute (read_object c.args.value.now) (erase (read_family c.args.of.now)) n (read_object c.args.obj.now))
    (substitute_family (read_object c.args.value.now) (erase (read_family c.args.of.now)) n (read_family c.args.fam.now)))
    (as_many c.args.after.now)
    (substitute_is_typing (read_signature c.args.sig.now) typed (read_context c.args.ctx.now) (read_object c.args.value.now) (read_family c.args.of.now) value (read_context c.args.after.now) (read_object c.args.obj.now) (read_family c.args.fam.now) judgement)

pub returns-clause-no_misfit : goal.returns-clause-no_misfit
returns-clause-no_misfit c = λ typed value judgement.
    subst
    (λ n. NoMisfit (read_object c.args.value.now) (erase (read_family c.args.of.now)) n (read_object c.args.obj.now)
    × NoMisfitInFamily (read_object c.args.value.now) (erase (read_family c.args.of.now)) n (read_family c.args.fam.now)
    × NoMisfitInContext (read_object c.args.value.now) (erase (read_family c.args.of.now)) (read_context c.args.after.now))
    (as_many c.args.after.now)
    (typed_no_misfit (read_signature c.args.sig.now) typed (read_context c.args.after.now) (read_context c.args.ctx.now) (read_object c.args.value.now) (read_family c.args.of.now) value (read_object c.args.obj.now) (read_family c.args.fam.now) judgement)
