use Rattle.std.proofs.Common.{Ok, ap, ◌∙◌}
use Rattle.std.proofs.lemmas.Result.{err_from_is_err_and}
use Rattle.mmt_syntax.specs.Readings.{read_span}
use Rattle.elaborate.specs.Contexts.{locals_of, read_found, scope_of}
use Rattle.elaborate.specs.HeadStates.{read_level}
use Rattle.elaborate.proofs.NamesStand.{resolved_begins, unresolved_begins}
use Rattle.elaborate.proofs.context.Context.name_head.Goals as goal

pub returns-in_err-index : goal.returns-in_err-index
returns-in_err-index c =
    let p = err_from_is_err_and c.from_residual.result c.from_residual.ensures.1 in
    rw (p.1, p.2) (unresolved_begins (read_level c.args.level) (scope_of c.args.self.now) (locals_of c.args.self.now) (read_span c.args.span) c.args.written.now c.in_err-index.field-0.0 c.in_err-index.ensures)

pub returns-in-Var : goal.returns-in-Var
returns-in-Var c =
    resolved_begins (read_level c.args.level) (scope_of c.args.self.now) (locals_of c.args.self.now) (read_span c.args.span) c.args.written.now _ c.variable_head.result
    (c.in_ok-index.ensures ∙ ap (λ f. Ok (read_found f)) c.in-Var.is) c.variable_head.ensures

pub returns-in-Decl : goal.returns-in-Decl
returns-in-Decl c =
    resolved_begins (read_level c.args.level) (scope_of c.args.self.now) (locals_of c.args.self.now) (read_span c.args.span) c.args.written.now _ c.declared_head.result
    (c.in_ok-index.ensures ∙ ap (λ f. Ok (read_found f)) c.in-Decl.is) c.declared_head.ensures
