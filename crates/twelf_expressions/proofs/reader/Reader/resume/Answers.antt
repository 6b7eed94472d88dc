use Rattle.std.proofs.Common.{◌≡◌, ◌++◌, [], ◌∷◌, sym, ap, ◌∙◌}
use Rattle.mmt_syntax.specs.Readings.{read_span, read_expr}
use Rattle.twelf_expressions.specs.Left.{left}
use Rattle.twelf_expressions.specs.Frames.{answer_resumed, of_operand, opened, read_binding, waiting}
use Rattle.twelf_expressions.specs.declared.frame.Frame.TheVariants.{Codomain, Open}
use Rattle.twelf_expressions.proofs.Moves.{one_more_waits}
use Rattle.twelf_expressions.proofs.Frames.{none_wait, popped, resumed_body, resumed_codomain, turned_from}
use Rattle.twelf_expressions.proofs.reader.Reader.resume.Goals as goal

pub returns-in-None-clause-goes : goal.returns-in-None-clause-goes
returns-in-None-clause-goes c = λ k.
    let none = sym c.rows.stack.frames.ok.0 ∙ c.in-None.ensures.cases.0 in
    c.rows.invariant.goes k ∙ ap (λ j. answer_resumed j c.rows.whole (left c.rows.self)) (none_wait k c.rows.stack.frames.items none)

pub rows-preserved-in-Some-Codomain : goal.rows-preserved-in-Some-Codomain
rows-preserved-in-Some-Codomain c =
    let dom = c.in-Some-Codomain.dom in
    let whole = c.in_ok-whole-in-Some-Codomain.whole in
    let fs = c.rows.stack.frames.items in
    let gs = c.pop.new.self.items in
    let before = left c.rows.self in
    record {
      goes = λ k.
          let items : fs ≡ gs ++ (Codomain dom ∷ []) = c.in-Some-Codomain.ensures.items ∙ ap (λ f. gs ++ (f ∷ [])) c.in-Some-Codomain.field-0-is in
          c.rows.invariant.goes k ∙ ap (λ j. answer_resumed j c.rows.whole before) (one_more_waits k gs fs (Codomain dom) items)
          ∙ resumed_codomain (waiting k gs) (read_span dom.span) (read_expr dom.tree) c.rows.whole whole before c.in_ok-whole-in-Some-Codomain.ensures;
      same = c.rows.invariant.same;
    }

pub rows-preserved : goal.rows-preserved
rows-preserved c =
    let fs = c.rows.stack.frames.items in
    let gs = c.pop.new.self.items in
    let before = left c.rows.self in
    let p = c.in-Some-Open.opening in
    let o = c.replace.new.dest in
    let items : fs ≡ gs ++ (Open p c.in-Some-Open.operand ∷ []) = c.in-Some-Open.ensures.items ∙ ap (λ f. gs ++ (f ∷ [])) c.in-Some-Open.field-0-is in
    record {
      goes = λ k.
          c.rows.invariant.goes k ∙ popped k c.rows.whole before fs gs p c.in-Some-Open.operand o items c.replace.ensures.after ∙ ap (λ q. answer_resumed (of_operand (opened q) o (waiting k gs)) c.rows.whole before) c.in-Body.is
          ∙ resumed_body (waiting k gs) (read_span c.in-Body.span) (read_binding c.in-Body.binding) o c.rows.whole c.in_ok-whole-in-Body.whole before c.in_ok-whole-in-Body.ensures;
      same = c.rows.invariant.same;
    }

pub returns-in-Parens-clause-goes : goal.returns-in-Parens-clause-goes
returns-in-Parens-clause-goes c = λ k.
    let fs = c.rows.stack.frames.items in
    let gs = c.pop.new.self.items in
    let before = left c.rows.self in
    let p = c.in-Some-Open.opening in
    let o = c.replace.new.dest in
    let items : fs ≡ gs ++ (Open p c.in-Some-Open.operand ∷ []) = c.in-Some-Open.ensures.items ∙ ap (λ f. gs ++ (f ∷ [])) c.in-Some-Open.field-0-is in
    turned_from c.close_parens.result _ _ k _ _
    (c.rows.invariant.goes k ∙ popped k c.rows.whole before fs gs p c.in-Some-Open.operand o items c.replace.ensures.after ∙ ap (λ q. answer_resumed (of_operand (opened q) o (waiting k gs)) c.rows.whole before) c.in-Parens.is)
    (c.close_parens.ensures.goes k)

pub returns-in-Domain-clause-goes : goal.returns-in-Domain-clause-goes
returns-in-Domain-clause-goes c = λ k.
    let fs = c.rows.stack.frames.items in
    let gs = c.pop.new.self.items in
    let before = left c.rows.self in
    let p = c.in-Some-Open.opening in
    let o = c.replace.new.dest in
    let items : fs ≡ gs ++ (Open p c.in-Some-Open.operand ∷ []) = c.in-Some-Open.ensures.items ∙ ap (λ f. gs ++ (f ∷ [])) c.in-Some-Open.field-0-is in
    turned_from c.close_domain.result _ _ k _ _
    (c.rows.invariant.goes k ∙ popped k c.rows.whole before fs gs p c.in-Some-Open.operand o items c.replace.ensures.after ∙ ap (λ q. answer_resumed (of_operand (opened q) o (waiting k gs)) c.rows.whole before) c.in-Domain.is)
    (c.close_domain.ensures.goes k)
