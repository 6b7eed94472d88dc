use Rattle.std.proofs.Common.{Ok, sym, ap, ◌∙◌, add-one}
use Rattle.std.proofs.lemmas.Result.{err_from_is_err_and}
use Rattle.mmt_syntax.specs.Readings.{read_span}
use Rattle.names.specs.Readings.{read_tabled}
use Rattle.elaborate.specs.Contexts.{read_found}
use Rattle.elaborate.proofs.NamesStand.{first_found, variable_found, declaration_found, none_found}
use Rattle.elaborate.proofs.context.Variables.+resolve.Goals as goal

pub returns-then-is_named : goal.returns-then-is_named
returns-then-is_named t c =
    let own = c.in-Bound in
    first_found c.args.self.now own.name own.family own.outer own.is (read_tabled c.args.scope.now) c.args.written.now (read_span c.args.span) (sym c.is_named.ensures ∙ c.if-is_named.true)

pub returns-in_err-index-in-Bound : goal.returns-in_err-index-in-Bound
returns-in_err-index-in-Bound t c =
    let own = c.in-Bound in
    let p = err_from_is_err_and c.from_residual.result c.from_residual.ensures.1 in
    rw (p.1, p.2) (none_found c.args.self.now own.name own.family own.outer own.is (read_tabled c.args.scope.now) c.args.written.now (read_span c.args.span) (sym c.is_named.ensures ∙ c.if-is_named.false) c.in_err-index-in-Bound.field-0.0 c.in_err-index-in-Bound.ensures)

pub returns-in_ok-one_more-in-Var : goal.returns-in_ok-one_more-in-Var
returns-in_ok-one_more-in-Var t c =
    let own = c.in-Bound in
    variable_found c.args.self.now own.name own.family own.outer own.is (read_tabled c.args.scope.now) c.args.written.now (read_span c.args.span) (sym c.is_named.ensures ∙ c.if-is_named.false) c.in-Var.index c.in_ok-one_more-in-Var.field-0 (c.in_ok-one_more-in-Var.ensures ∙ add-one c.in-Var.index) (c.in_ok-index-in-Bound.ensures ∙ ap (λ f. Ok (read_found f)) c.in-Var.is)

pub returns-in-Decl : goal.returns-in-Decl
returns-in-Decl t c =
    let own = c.in-Bound in
    declaration_found c.args.self.now own.name own.family own.outer own.is (read_tabled c.args.scope.now) c.args.written.now (read_span c.args.span) (sym c.is_named.ensures ∙ c.if-is_named.false) _ (c.in_ok-index-in-Bound.ensures ∙ ap (λ f. Ok (read_found f)) c.in-Decl.is)
