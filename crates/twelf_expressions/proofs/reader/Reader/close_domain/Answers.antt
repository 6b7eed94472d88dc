use Rattle.std.proofs.Common.{◌≡◌, ◌+◌, ◌∷◌, sym, ap, ◌∙◌}
use Rattle.text_meaning.specs.Tokens.{sign}
use Rattle.text_meaning.specs.Parsing.{InDomain, InBody, resume, at_expr, answer_on, typed}
use Rattle.mmt_syntax.specs.Readings.{read_span, read_expr, read_binder}
use Rattle.twelf_expressions.specs.Signs.{is_sign}
use Rattle.twelf_expressions.specs.Left.{left, next_kind}
use Rattle.twelf_expressions.specs.Frames.{of_stack, read_binding, read_brace, read_row, read_atoms, waiting}
use Rattle.twelf_expressions.proofs.Frames.{domain_refuses, domain_closes, turn_stopped}
use Rattle.twelf_expressions.proofs.reader.Reader.close_domain.Goals as goal

pub returns-then-not-sees-clause-goes : goal.returns-then-not-sees-clause-goes
returns-then-not-sees-clause-goes c = λ k.
    let o = c.args.stack.now.operand in
    let b = read_brace c.args.brace in
    let l = read_span c.args.opening in
    let x = read_binder c.args.name in
    let whole = c.args.domain in
    c.refuse_behind.ensures (λ t. resume (of_stack (InDomain b l x) c.args.stack.now k) (read_span whole.span) (read_expr whole.tree) t)
    (domain_refuses c.args.self.now b l x o.level.n (read_row o.row) (read_atoms o.atoms) (waiting k c.args.stack.now.frames.items) (read_span whole.span) (read_expr whole.tree)
    (ap (λ m. is_sign m (next_kind (left c.args.self.now))) (sym c.closing-closing.ensures.mark) ∙ sym c.if-not-sees.ensures))

pub returns-in_err-open-clause-goes : goal.returns-in_err-open-clause-goes
returns-in_err-open-clause-goes c = λ k.
    let o = c.args.stack.now.operand in
    let w = waiting k c.args.stack.now.frames.items in
    let b = read_brace c.args.brace in
    let x = read_binder c.args.name in
    let after = left c.take.new.self in
    let takes = c.take.ensures.takes ∙ ap (λ m. sign (read_span c.take.result) m ∷ after) c.closing-closing.ensures.mark in
    let bound : typed b x (read_expr c.args.domain.tree) ≡ read_binding c.binding.result = sym (c.binding.ensures ∙ ap (λ e. typed b x (read_expr e)) c.in_ok-domain.ensures.ok) in
    turn_stopped c.from_residual-in_err-open.result _ _ _ _ c.from_residual-in_err-open.ensures.1
    (domain_closes b (read_span c.args.opening) x o.level.n (read_row o.row) (read_atoms o.atoms) w c.args.domain (read_span c.take.result) (left c.args.self.now) after takes
    ∙ ap (λ y. answer_on (at_expr (o.level.n + 1) (InBody (read_span c.args.opening) y (read_row o.row) (read_atoms o.atoms) w)) after) bound)
    (c.in_err-open.ensures k)

pub returns-clause-goes : goal.returns-clause-goes
returns-clause-goes c = λ k.
    let o = c.args.stack.now.operand in
    let w = waiting k c.args.stack.now.frames.items in
    let b = read_brace c.args.brace in
    let x = read_binder c.args.name in
    let after = left c.take.new.self in
    let takes = c.take.ensures.takes ∙ ap (λ m. sign (read_span c.take.result) m ∷ after) c.closing-closing.ensures.mark in
    let bound : typed b x (read_expr c.args.domain.tree) ≡ read_binding c.binding.result = sym (c.binding.ensures ∙ ap (λ e. typed b x (read_expr e)) c.in_ok-domain.ensures.ok) in
    domain_closes b (read_span c.args.opening) x o.level.n (read_row o.row) (read_atoms o.atoms) w c.args.domain (read_span c.take.result) (left c.args.self.now) after takes
    ∙ ap (λ y. answer_on (at_expr (o.level.n + 1) (InBody (read_span c.args.opening) y (read_row o.row) (read_atoms o.atoms) w)) after) bound
    ∙ c.in_ok-open.ensures k
