use Rattle.std.proofs.Common.{◌+◌, ◌∷◌, refl, subst, rules, ◌∙◌}
use Rattle.text_meaning.specs.Parsing.{AtVariable, Curly, InParens, Square, answer_on, at_expr}
use Rattle.mmt_syntax.specs.Readings.{read_span}
use Rattle.twelf_expressions.specs.Left.{left}
use Rattle.twelf_expressions.specs.Outlines.{Waits, at_operand, behind_operand, inward}
use Rattle.twelf_expressions.specs.declared.outline.Bracket.TheVariants.{Parens}
use Rattle.twelf_expressions.proofs.Moves.{ends_operand, took_operand}
use Rattle.twelf_expressions.proofs.Outlines.{parens_wait, passing_stopped, stands_on}
use Rattle.twelf_expressions.proofs.reader.Reader.pass_turn.Goals as goal

pub returns-in_err-enter-in-LParen-clause-goes : goal.returns-in_err-enter-in-LParen-clause-goes
returns-in_err-enter-in-LParen-clause-goes c = λ p answer h.
    let s = c.args.stack.now in
    let n = s.operand.level.n in
    let inside = InParens (read_span c.take.result) n h.row h.atoms h.waiting in
    let waits = subst (λ z. Waits p (Parens s.operand.level z ∷ inward s) inside) h.row_is (parens_wait p (inward s) s.operand.level (read_span c.take.result) h.row h.atoms h.waiting h.waits) in
    let goes = h.goes ∙ took_operand n h.row h.atoms h.waiting (at_expr (n + 1) inside) s.operand.level.within c.take.ensures.takes refl refl in
    passing_stopped c.from_residual.result _ _ _ c.from_residual.ensures.1 (c.in_err-enter-in-LParen.ensures p answer inside waits goes)

pub returns-in_ok-enter-in-LParen-clause-goes : goal.returns-in_ok-enter-in-LParen-clause-goes
returns-in_ok-enter-in-LParen-clause-goes c = λ p answer h.
    let s = c.args.stack.now in
    let n = s.operand.level.n in
    let inside = InParens (read_span c.take.result) n h.row h.atoms h.waiting in
    let waits = subst (λ z. Waits p (Parens s.operand.level z ∷ inward s) inside) h.row_is (parens_wait p (inward s) s.operand.level (read_span c.take.result) h.row h.atoms h.waiting h.waits) in
    let goes = h.goes ∙ took_operand n h.row h.atoms h.waiting (at_expr (n + 1) inside) s.operand.level.within c.take.ensures.takes refl refl in
    c.in_ok-enter-in-LParen.ensures p answer inside waits goes

pub returns-in_err-pass_binder-in-LBrace-clause-goes : goal.returns-in_err-pass_binder-in-LBrace-clause-goes
returns-in_err-pass_binder-in-LBrace-clause-goes c = λ p answer h.
    let s = c.args.stack.now in
    let n = s.operand.level.n in
    let l = read_span c.take-in-LBrace.result in
    let at = stands_on p at_operand (λ n row xs k ts. answer_on (AtVariable Curly l n row xs k) ts) answer s (left c.args.self.now) (left c.take-in-LBrace.new.self) h
    (took_operand n h.row h.atoms h.waiting (AtVariable Curly l n h.row h.atoms h.waiting) s.operand.level.within c.take-in-LBrace.ensures.takes refl refl) in
    passing_stopped c.from_residual-in_err-pass_binder-in-LBrace.result _ _ _ c.from_residual-in_err-pass_binder-in-LBrace.ensures.1 (c.in_err-pass_binder-in-LBrace.ensures.goes p answer l at)

pub returns-in_ok-pass_binder-in-LBrace-clause-goes : goal.returns-in_ok-pass_binder-in-LBrace-clause-goes
returns-in_ok-pass_binder-in-LBrace-clause-goes c = λ p answer h.
    let s = c.args.stack.now in
    let n = s.operand.level.n in
    let l = read_span c.take-in-LBrace.result in
    let at = stands_on p at_operand (λ n row xs k ts. answer_on (AtVariable Curly l n row xs k) ts) answer s (left c.args.self.now) (left c.take-in-LBrace.new.self) h
    (took_operand n h.row h.atoms h.waiting (AtVariable Curly l n h.row h.atoms h.waiting) s.operand.level.within c.take-in-LBrace.ensures.takes refl refl) in
    c.in_ok-pass_binder-in-LBrace.ensures.goes p answer l at

pub returns-in_err-pass_binder-in-LBracket-clause-goes : goal.returns-in_err-pass_binder-in-LBracket-clause-goes
returns-in_err-pass_binder-in-LBracket-clause-goes c = λ p answer h.
    let s = c.args.stack.now in
    let n = s.operand.level.n in
    let l = read_span c.take-in-LBracket.result in
    let at = stands_on p at_operand (λ n row xs k ts. answer_on (AtVariable Square l n row xs k) ts) answer s (left c.args.self.now) (left c.take-in-LBracket.new.self) h
    (took_operand n h.row h.atoms h.waiting (AtVariable Square l n h.row h.atoms h.waiting) s.operand.level.within c.take-in-LBracket.ensures.takes refl refl) in
    passing_stopped c.from_residual-in_err-pass_binder-in-LBracket.result _ _ _ c.from_residual-in_err-pass_binder-in-LBracket.ensures.1 (c.in_err-pass_binder-in-LBracket.ensures.goes p answer l at)

pub returns-in_ok-pass_binder-in-LBracket-clause-goes : goal.returns-in_ok-pass_binder-in-LBracket-clause-goes
returns-in_ok-pass_binder-in-LBracket-clause-goes c = λ p answer h.
    let s = c.args.stack.now in
    let n = s.operand.level.n in
    let l = read_span c.take-in-LBracket.result in
    let at = stands_on p at_operand (λ n row xs k ts. answer_on (AtVariable Square l n row xs k) ts) answer s (left c.args.self.now) (left c.take-in-LBracket.new.self) h
    (took_operand n h.row h.atoms h.waiting (AtVariable Square l n h.row h.atoms h.waiting) s.operand.level.within c.take-in-LBracket.ensures.takes refl refl) in
    c.in_ok-pass_binder-in-LBracket.ensures.goes p answer l at

pub returns-in_err-pass_arrow-in-Arrow-clause-goes : goal.returns-in_err-pass_arrow-in-Arrow-clause-goes
returns-in_err-pass_arrow-in-Arrow-clause-goes c = λ p answer h.
    passing_stopped c.from_residual-in_err-pass_arrow-in-Arrow.result _ _ _ c.from_residual-in_err-pass_arrow-in-Arrow.ensures.1 (c.in_err-pass_arrow-in-Arrow.ensures.goes p answer h)

pub returns-in_err-pass_back_arrow-in-BackArrow-clause-goes : goal.returns-in_err-pass_back_arrow-in-BackArrow-clause-goes
returns-in_err-pass_back_arrow-in-BackArrow-clause-goes c = λ p answer h.
    passing_stopped c.from_residual-in_err-pass_back_arrow-in-BackArrow.result _ _ _ c.from_residual-in_err-pass_back_arrow-in-BackArrow.ensures.1 (c.in_err-pass_back_arrow-in-BackArrow.ensures.goes p answer h)

pub returns-in_default : goal.returns-in_default
returns-in_default c =
    let r = c.args.self.now in
    let o = c.args.stack.now.operand in
    record {
      goes = λ p answer h. c.close.ensures.goes p answer
          (stands_on p at_operand behind_operand answer c.args.stack.now (left r) (left r) h (ends_operand r o.level.n h.row h.atoms h.waiting o.level.within (search rules)));
      less = c.close.ensures.less;
      within = c.close.ensures.within;
    }
