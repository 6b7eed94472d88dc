use Rattle.std.proofs.Common.{◌∙◌, refl, ap}
use Rattle.term_trees.specs.Readings.{read_signature}
use Rattle.library_meaning.specs.Resolution.{own_at}
use Rattle.names.specs.Readings.{read_tabled, read_variables}
use Rattle.names.proofs.Resolved.{resolved}
use Rattle.names.proofs.resolution.resolve_tabled.Goals as goal

pub returns-in-Some : goal.returns-in-Some
returns-in-Some c = resolved _ _ _ _ _ _ _ c.in-Some.ensures refl refl refl

pub returns-in-Some-own_constant : goal.returns-in-Some-own_constant
returns-in-Some-own_constant c = resolved _ _ _ _ _ _ _ c.in_default.ensures (c.in-Some-own_constant.ensures ∙ ap (λ s. own_at (read_signature s.own.now) c.as_slice.result.now) c.scope.ensures ∙ ap (own_at (read_signature c.args.scope.now.scope.own.now)) c.as_slice.ensures.names) refl refl

pub returns-in-Some-qualified_constant : goal.returns-in-Some-qualified_constant
returns-in-Some-qualified_constant c =
    resolved _ _ _ _ _ _ _ c.in_default.ensures (c.in_default-own_constant.ensures ∙ ap (λ s. own_at (read_signature s.own.now) c.as_slice.result.now) c.scope.ensures ∙ ap (own_at (read_signature c.args.scope.now.scope.own.now)) c.as_slice.ensures.names) c.in-Some-qualified_constant.ensures refl

pub returns : goal.returns
returns c =
    resolved (read_tabled c.args.scope.now) (read_variables c.args.vars.now) c.args.written.now _ _ _ _ c.in_default.ensures (c.in_default-own_constant.ensures ∙ ap (λ s. own_at (read_signature s.own.now) c.as_slice.result.now) c.scope.ensures ∙ ap (own_at (read_signature c.args.scope.now.scope.own.now)) c.as_slice.ensures.names) c.in_default-qualified_constant.ensures c.only_constant.ensures
