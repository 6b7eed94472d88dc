use Rattle.std.proofs.Common.{◌≡◌, ◌+◌, ◌∙◌, sym, ap, refl, ◌++◌, ◌||◌, ◌&&◌, true, false, append-nil, take, arith}
use Rattle.std.specs.Prelude.{if◌then◌else◌}
use Rattle.std.proofs.lemmas.List.{take_all}
use Rattle.std.proofs.lemmas.Result.{on_ok_weaker}
use Rattle.mmt_syntax.specs.Readings.{read_expr, read_arguments, expressions_of, read_binder}
use Rattle.mmt_syntax.specs.declared.expr.Node.TheVariants as nodes
use Rattle.print_meaning.specs.PrintedItems.{space, text_of}
use Rattle.print_meaning.specs.PrintedExpressions.{is_word, is_binding, is_operand, is_back, is_last_operand, expr_items, args_items}
use Rattle.twelf_print.proofs.Texts.{place_written, always_free, or_none, ty_text, name_text, app_written, pi_written, lam_written, typed_lam_written, arrow_written, back_written, args_none, args_written}
use Rattle.twelf_print.proofs.Nodes.{as_read}
use Rattle.mmt_syntax.proofs.Nodes.{next_taken, read_app, read_pi, read_lam, read_typed_lam, read_arrow, read_back, app_size, pi_size, lam_size, typed_lam_size, arrow_size, back_size, last_below, other_below}
use Rattle.twelf_print.proofs.expressions.+printing.Goals as goal

-- ---- each form is smaller than the expression, and a part than its form

pub expression-application-requires : goal.expression-application-requires
expression-application-requires t c =
    let part = app_size (read_expr c.args.expr.now) _ (read_expr c.deref.result.now) (read_arguments (expressions_of c.in-App.args)) (read_app c.args.expr.now c.in-App.head c.in-App.args c.deref.result.now c.in-App.is c.deref.ensures) in
    let measured = c.decreases in
    (omega arith, tt)

pub expression-product-requires : goal.expression-product-requires
expression-product-requires t c =
    let part = pi_size (read_expr c.args.expr.now) _ (read_binder c.in-Pi.name) (read_expr c.deref-in-Pi.result.now) (read_expr c.deref-in-Pi-2.result.now) (read_pi c.args.expr.now c.in-Pi.name c.in-Pi.dom c.in-Pi.body c.deref-in-Pi.result.now c.deref-in-Pi-2.result.now c.in-Pi.is c.deref-in-Pi.ensures c.deref-in-Pi-2.ensures) in
    let measured = c.decreases in
    (omega arith, tt)

pub expression-lambda-requires : goal.expression-lambda-requires
expression-lambda-requires t c =
    let part = lam_size (read_expr c.args.expr.now) _ (read_binder c.in-Lam.name) (read_expr c.deref-in-None.result.now) (read_lam c.args.expr.now c.in-Lam.name c.in-Lam.body c.deref-in-None.result.now (c.in-Lam.is ∙ ap (λ d. nodes.Lam c.in-Lam.name d c.in-Lam.body) c.in-None.is) c.deref-in-None.ensures) in
    let measured = c.decreases in
    (omega arith, tt)

pub expression-typed_lambda-requires : goal.expression-typed_lambda-requires
expression-typed_lambda-requires t c =
    let part = typed_lam_size (read_expr c.args.expr.now) _ (read_binder c.in-Lam.name) (read_expr c.deref-in-Some.result.now) (read_expr c.deref-in-Some-2.result.now) (read_typed_lam c.args.expr.now c.in-Lam.name c.in-Some.dom c.in-Lam.body c.deref-in-Some.result.now c.deref-in-Some-2.result.now (c.in-Lam.is ∙ ap (λ d. nodes.Lam c.in-Lam.name d c.in-Lam.body) c.in-Some.is) c.deref-in-Some.ensures c.deref-in-Some-2.ensures) in
    let measured = c.decreases in
    (omega arith, tt)

pub expression-arrow-requires : goal.expression-arrow-requires
expression-arrow-requires t c =
    let part = arrow_size (read_expr c.args.expr.now) _ (read_expr c.deref-in-Arrow.result.now) (read_expr c.deref-in-Arrow-2.result.now) (read_arrow c.args.expr.now c.in-Arrow.dom c.in-Arrow.body c.deref-in-Arrow.result.now c.deref-in-Arrow-2.result.now c.in-Arrow.is c.deref-in-Arrow.ensures c.deref-in-Arrow-2.ensures) in
    let measured = c.decreases in
    (omega arith, tt)

pub expression-back_arrow-requires : goal.expression-back_arrow-requires
expression-back_arrow-requires t c =
    let part = back_size (read_expr c.args.expr.now) _ (read_expr c.deref-in-Back.result.now) (read_expr c.deref-in-Back-2.result.now) (read_back c.args.expr.now c.in-Back.body c.in-Back.dom c.deref-in-Back.result.now c.deref-in-Back-2.result.now c.in-Back.is c.deref-in-Back.ensures c.deref-in-Back-2.ensures) in
    let measured = c.decreases in
    (omega arith, tt)

pub arguments-expression-requires : goal.arguments-expression-requires
arguments-expression-requires t c =
    let below = other_below (expressions_of c.args.args.now) c.in-Some.others.now c.in-Some.last.now c.arg-item.result c.loop-arg.arg-index (sym c.as_slice.ensures ∙ c.in-Some.ensures.cases.0) c.arg-item.is c.loop-arg-test.true in
    let measured = c.decreases in
    (omega arith, tt)

pub arguments-expression-requires-2 : goal.arguments-expression-requires-2
arguments-expression-requires-2 t c =
    let below = last_below (expressions_of c.args.args.now) c.in-Some.others.now c.in-Some.last.now (sym c.as_slice.ensures ∙ c.in-Some.ensures.cases.0) in
    let measured = c.decreases in
    (omega arith, tt)

-- ---- expressions

pub expression-returns-in-Ty : goal.expression-returns-in-Ty
expression-returns-in-Ty t c =
    record { ok = on_ok_weaker c.word.result (λ e. e ∙ ap (λ text. c.args.out.now ++ text) (ty_text c.args.expr.now c.args.free c.args.gap.now c.in-Ty.is)) c.word.ensures.ok }

pub expression-returns-in-Name : goal.expression-returns-in-Name
expression-returns-in-Name t c =
    record { ok = on_ok_weaker c.path.result (λ e. e ∙ ap (λ text. c.args.out.now ++ text) (name_text c.args.expr.now c.in-Name.name c.args.free c.args.gap.now c.in-Name.is)) c.path.ensures.ok }

pub expression-returns-in-App : goal.expression-returns-in-App
unfolding expr_items
expression-returns-in-App t c =
    record { ok = on_ok_weaker c.application.result (as_read c.args.out.now c.args.free c.args.gap.now (read_app c.args.expr.now c.in-App.head c.in-App.args c.deref.result.now c.in-App.is c.deref.ensures)) c.application.ensures.ok }

pub expression-returns-in-Pi : goal.expression-returns-in-Pi
unfolding expr_items
expression-returns-in-Pi t c =
    record { ok = on_ok_weaker c.product.result (as_read c.args.out.now c.args.free c.args.gap.now (read_pi c.args.expr.now c.in-Pi.name c.in-Pi.dom c.in-Pi.body c.deref-in-Pi.result.now c.deref-in-Pi-2.result.now c.in-Pi.is c.deref-in-Pi.ensures c.deref-in-Pi-2.ensures)) c.product.ensures.ok }

pub expression-returns-in-None : goal.expression-returns-in-None
unfolding expr_items
expression-returns-in-None t c =
    record { ok = on_ok_weaker c.lambda.result (as_read c.args.out.now c.args.free c.args.gap.now (read_lam c.args.expr.now c.in-Lam.name c.in-Lam.body c.deref-in-None.result.now (c.in-Lam.is ∙ ap (λ d. nodes.Lam c.in-Lam.name d c.in-Lam.body) c.in-None.is) c.deref-in-None.ensures)) c.lambda.ensures.ok }

pub expression-returns-in-Some : goal.expression-returns-in-Some
unfolding expr_items
expression-returns-in-Some t c =
    record { ok = on_ok_weaker c.typed_lambda.result (as_read c.args.out.now c.args.free c.args.gap.now (read_typed_lam c.args.expr.now c.in-Lam.name c.in-Some.dom c.in-Lam.body c.deref-in-Some.result.now c.deref-in-Some-2.result.now (c.in-Lam.is ∙ ap (λ d. nodes.Lam c.in-Lam.name d c.in-Lam.body) c.in-Some.is) c.deref-in-Some.ensures c.deref-in-Some-2.ensures)) c.typed_lambda.ensures.ok }

pub expression-returns-in-Arrow : goal.expression-returns-in-Arrow
unfolding expr_items
expression-returns-in-Arrow t c =
    record { ok = on_ok_weaker c.arrow.result (as_read c.args.out.now c.args.free c.args.gap.now (read_arrow c.args.expr.now c.in-Arrow.dom c.in-Arrow.body c.deref-in-Arrow.result.now c.deref-in-Arrow-2.result.now c.in-Arrow.is c.deref-in-Arrow.ensures c.deref-in-Arrow-2.ensures)) c.arrow.ensures.ok }

pub expression-returns-in-Back : goal.expression-returns-in-Back
unfolding expr_items
expression-returns-in-Back t c =
    record { ok = on_ok_weaker c.back_arrow.result (as_read c.args.out.now c.args.free c.args.gap.now (read_back c.args.expr.now c.in-Back.body c.in-Back.dom c.deref-in-Back.result.now c.deref-in-Back-2.result.now c.in-Back.is c.deref-in-Back.ensures c.deref-in-Back-2.ensures)) c.back_arrow.ensures.ok }

-- ---- the forms

pub application-returns : goal.application-returns
application-returns t c =
    let o = c.args.out.now in
    let head = c.args.head.now in
    let front = place_written o c.is_word-bare.result is_word true true head head head space c.inner.result.now
    c.is_word-bare.ensures refl refl (always_free c.is_word-bare.result) c.inner.ensures c.in_ok-open.ensures.ok c.in_ok-expression.ensures.ok c.in_ok-close.ensures.ok in
    record { ok = on_ok_weaker c.arguments.result (λ e. app_written o (read_expr head) (read_arguments (expressions_of c.args.args.now)) c.args.free c.args.gap.now front e) c.arguments.ensures.ok }

pub product-returns : goal.product-returns
product-returns t c =
    record {
      ok = on_ok_weaker c.expression-2.result
          (λ e. pi_written c.args.out.now (read_binder c.args.name.now) (read_expr c.args.dom.now) (read_expr c.args.body.now) c.args.gap.now
          c.in_ok-extend.ensures.ok c.in_ok-binder.ensures.ok c.in_ok-extend-2.ensures.ok c.in_ok-expression.ensures.ok c.in_ok-extend-3.ensures.ok e)
          c.expression-2.ensures.ok;
    }

pub lambda-returns : goal.lambda-returns
lambda-returns t c =
    record {
      ok = on_ok_weaker c.expression.result
          (λ e. lam_written c.args.out.now (read_binder c.args.name.now) (read_expr c.args.body.now) c.args.gap.now c.in_ok-extend.ensures.ok c.in_ok-binder.ensures.ok c.in_ok-extend-2.ensures.ok e)
          c.expression.ensures.ok;
    }

pub typed_lambda-returns : goal.typed_lambda-returns
typed_lambda-returns t c =
    record {
      ok = on_ok_weaker c.expression-2.result
          (λ e. typed_lam_written c.args.out.now (read_binder c.args.name.now) (read_expr c.args.dom.now) (read_expr c.args.body.now) c.args.gap.now
          c.in_ok-extend.ensures.ok c.in_ok-binder.ensures.ok c.in_ok-extend-2.ensures.ok c.in_ok-expression.ensures.ok c.in_ok-extend-3.ensures.ok e)
          c.expression-2.ensures.ok;
    }

pub arrow-returns : goal.arrow-returns
arrow-returns t c =
    let o = c.args.out.now in
    let dom = c.args.dom.now in
    let body = c.args.body.now in
    let gap = c.args.gap.now in
    let front = place_written o c.is_operand-bare.result is_operand false c.inner_free.result dom dom dom space c.inner.result.now
    c.is_operand-bare.ensures refl refl c.inner_free.ensures c.inner.ensures c.in_ok-open.ensures.ok c.in_ok-expression.ensures.ok c.in_ok-close.ensures.ok in
    record {
      ok = on_ok_weaker c.close-2.result
          (λ e. arrow_written o (read_expr dom) (read_expr body) gap front c.in_ok-extend.ensures.ok
          (place_written c.extend.new.self c.is_body-bare.result (λ b. if is_back b then false else true) true true body body body gap c.inner-2.result.now
          c.is_body-bare.ensures refl refl (always_free c.is_body-bare.result) c.inner-2.ensures c.in_ok-open-2.ensures.ok c.in_ok-expression-2.ensures.ok e))
          c.close-2.ensures.ok;
    }

pub back_arrow-returns : goal.back_arrow-returns
back_arrow-returns t c =
    let o = c.args.out.now in
    let body = c.args.body.now in
    let dom = c.args.dom.now in
    let gap = c.args.gap.now in
    let free = c.args.free in
    let front = place_written o c.is_front-bare.result (λ b. is_operand b || is_back b) false c.inner_free.result body body body space c.inner.result.now
    c.is_front-bare.ensures refl refl c.inner_free.ensures c.inner.ensures c.in_ok-open.ensures.ok c.in_ok-expression.ensures.ok c.in_ok-close.ensures.ok in
    record {
      ok = on_ok_weaker c.close-2.result
          (λ e. back_written o (read_expr body) (read_expr dom) free gap front c.in_ok-extend.ensures.ok
          (place_written c.extend.new.self c.is_last-bare.result (λ a. if free then is_last_operand a else is_operand a) free c.inner_free-2.result dom dom dom gap c.inner-2.result.now
          c.is_last-bare.ensures refl refl c.inner_free-2.ensures c.inner-2.ensures c.in_ok-open-2.ensures.ok c.in_ok-expression-2.ensures.ok e))
          c.close-2.ensures.ok;
    }

-- ---- arguments

pub arguments-returns-in_default : goal.arguments-returns-in_default
arguments-returns-in_default t c = record { ok = args_none c.args.out.now c.as_slice.result.now (expressions_of c.args.args.now) c.args.free c.args.gap.now c.as_slice.ensures c.in_default.ensures.cases }

pub arguments-loop-arg-init : goal.arguments-loop-arg-init
unfolding text_of args_items
arguments-loop-arg-init t c = sym (append-nil c.args.out.now)

pub arguments-loop-arg-preserved : goal.arguments-loop-arg-preserved
arguments-loop-arg-preserved t c =
    let others = c.in-Some.others.now in
    let i = c.loop-arg.arg-index in
    let arg = c.arg-item.result in
    args_written c.args.out.now (take i others) (take (i + 1) others) arg false space (next_taken others i arg c.arg-item.is c.loop-arg-test.true) c.loop-arg.invariant
    (place_written c.loop-arg.out c.is_word-bare.result (λ e. is_word e || (false && is_binding e)) true true arg arg arg space c.inner.result.now
    (c.is_word-bare.ensures ∙ or_none (is_word (read_expr arg)) (is_binding (read_expr arg))) refl refl (always_free c.is_word-bare.result) c.inner.ensures
    c.in_ok-open.ensures.ok c.in_ok-expression.ensures.ok c.in_ok-close.ensures.ok)

pub arguments-returns : goal.arguments-returns
arguments-returns t c =
    let o = c.args.out.now in
    let others = c.in-Some.others.now in
    let last = c.in-Some.last.now in
    let gap = c.args.gap.now in
    let free = c.args.free in
    let all : take c.loop-arg.arg-index others ≡ others = take_all c.loop-arg.arg-index others c.loop-arg-test.false in
    let so_far = c.loop-arg.invariant ∙ ap (λ es. o ++ text_of (args_items false (read_arguments es) space)) all in
    record {
      ok = on_ok_weaker c.close-2.result
          (λ e. args_written o others (expressions_of c.args.args.now) last free gap (sym c.as_slice.ensures ∙ c.in-Some.ensures.cases.0) so_far
          (place_written c.loop-arg.out c.is_argument-bare.result (λ a. is_word a || (free && is_binding a)) true true last last last gap c.inner-2.result.now
          c.is_argument-bare.ensures refl refl (always_free c.is_argument-bare.result) c.inner-2.ensures c.in_ok-open-2.ensures.ok c.in_ok-expression-2.ensures.ok e))
          c.close-2.ensures.ok;
    }
