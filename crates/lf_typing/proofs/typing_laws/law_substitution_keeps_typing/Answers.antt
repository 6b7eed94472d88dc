use Rattle.std.proofs.Common.{◌∷◌, ◌++◌}
use Rattle.lf_typing.proofs.SubstitutionTyping.{substitute_is_typing, substitute_is_context, substitute_is_family, substitute_is_kind}
use Rattle.lf_typing.proofs.TypedMisfits.{typed_no_misfit}
use Rattle.lf_typing.proofs.Regular.{context_sorted}
use Rattle.lf_typing.proofs.typing_laws.law_substitution_keeps_typing.Goals as goal

pub returns-clause-typing : goal.returns-clause-typing
returns-clause-typing c = λ sig typed after before v a h m b. substitute_is_typing sig typed before v a h after m b

pub returns-clause-no_misfit : goal.returns-clause-no_misfit
returns-clause-no_misfit c = typed_no_misfit

pub returns-clause-context : goal.returns-clause-context
returns-clause-context c = λ sig typed after before v a h. substitute_is_context sig typed before v a h after

pub returns-clause-family : goal.returns-clause-family
returns-clause-family c = λ sig typed after before v a h b c. substitute_is_family sig typed before v a h after b (context_sorted sig (after ++ (a ∷ before)) c)

pub returns-clause-kind : goal.returns-clause-kind
returns-clause-kind c = λ sig typed after before v a h k c. substitute_is_kind sig typed before v a h after k (context_sorted sig (after ++ (a ∷ before)) c)
