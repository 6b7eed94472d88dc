use Rattle.std.proofs.Common.{◌≡◌, ◌+◌, ◌++◌, [], ◌∷◌, reverse, refl, sym, ap, ◌∙◌}
use Rattle.text_meaning.specs.Tokens.{Span}
use Rattle.text_meaning.specs.Grammar.{join}
use Rattle.text_meaning.specs.Parsing.{AtOperand, Plain, add_atom, at_expr, expect}
use Rattle.twelf_expressions.specs.Left.{left}
use Rattle.twelf_expressions.specs.Going.{answer_with}
use Rattle.twelf_expressions.specs.Outlines.{inward}
use Rattle.twelf_expressions.specs.declared.outline.Bracket.TheVariants.{Domain, Parens}
use Rattle.twelf_expressions.proofs.Moves.{failed}
use Rattle.twelf_expressions.proofs.Outlines.{ended, innermost, inside_domain, inside_parens, none_open, one_atom_at_least, passing_stopped, whole}
use Rattle.twelf_expressions.proofs.reader.Reader.close.Goals as goal

pub returns-in-None-clause-goes : goal.returns-in-None-clause-goes
returns-in-None-clause-goes c = λ p answer h.
    let s = c.args.stack.now in
    whole p answer (inward s) c.args.self.now (ended p answer s (left c.args.self.now) h c.if-not-stack.false)
    (none_open s.brackets.items (sym s.brackets.ok.0 ∙ c.in-None.ensures.cases.0))

pub returns-in_err-close_with-in-Some-Parens-clause-goes : goal.returns-in_err-close_with-in-Some-Parens-clause-goes
returns-in_err-close_with-in-Some-Parens-clause-goes c = λ p answer h.
    let s = c.args.stack.now in
    let gs = c.pop.new.self.items in
    let level = c.in-Some-Parens.level in
    let stand = c.in-Some-Parens.stand in
    let items : s.brackets.items ≡ gs ++ (Parens level stand ∷ []) = c.in-Some-Parens.ensures.items ∙ ap (λ b. gs ++ (b ∷ [])) c.in-Some-Parens.field-0-is in
    let at = inside_parens p answer (inward s) (reverse gs) c.args.self.now level stand (ended p answer s (left c.args.self.now) h c.if-not-stack.false) (innermost s.brackets.items gs (Parens level stand) items) in
    let next = λ (z : Span). AtOperand level.n at.row (add_atom at.atoms (join at.left z) at.inner) at.waiting in
    passing_stopped c.from_residual.result _ _ _ c.from_residual.ensures.1 (failed _ at.goes (c.in_err-close_with-in-Some-Parens.ensures.goes next (λ z. refl)))

pub returns-in_ok-close_with-in-Some-Parens-clause-goes : goal.returns-in_ok-close_with-in-Some-Parens-clause-goes
returns-in_ok-close_with-in-Some-Parens-clause-goes c = λ p answer h.
    let s = c.args.stack.now in
    let gs = c.pop.new.self.items in
    let level = c.in-Some-Parens.level in
    let stand = c.in-Some-Parens.stand in
    let items : s.brackets.items ≡ gs ++ (Parens level stand ∷ []) = c.in-Some-Parens.ensures.items ∙ ap (λ b. gs ++ (b ∷ [])) c.in-Some-Parens.field-0-is in
    let at = inside_parens p answer (inward s) (reverse gs) c.args.self.now level stand (ended p answer s (left c.args.self.now) h c.if-not-stack.false) (innermost s.brackets.items gs (Parens level stand) items) in
    let next = λ (z : Span). AtOperand level.n at.row (add_atom at.atoms (join at.left z) at.inner) at.waiting in
    let closed = c.in_ok-close_with-in-Some-Parens.ensures.goes next (λ z. refl) in
    record {
      row = at.row;
      atoms = add_atom at.atoms (join at.left closed.0) at.inner;
      waiting = at.waiting;
      row_is = at.row_is;
      atoms_is = one_atom_at_least at.atoms (join at.left closed.0) at.inner;
      waits = at.waits;
      goes = at.goes ∙ closed.1;
    }

pub returns-in_err-close_with-in-Some-Domain-clause-goes : goal.returns-in_err-close_with-in-Some-Domain-clause-goes
returns-in_err-close_with-in-Some-Domain-clause-goes c = λ p answer h.
    let s = c.args.stack.now in
    let gs = c.pop.new.self.items in
    let brace = c.in-Some-Domain.brace in
    let level = c.in-Some-Domain.level in
    let items : s.brackets.items ≡ gs ++ (Domain brace level ∷ []) = c.in-Some-Domain.ensures.items ∙ ap (λ b. gs ++ (b ∷ [])) c.in-Some-Domain.field-0-is in
    let at = inside_domain p answer (inward s) (reverse gs) c.args.self.now brace level (ended p answer s (left c.args.self.now) h c.if-not-stack.false) (innermost s.brackets.items gs (Domain brace level) items) in
    let next = λ (z : Span). at_expr (level.n + 1) at.waiting in
    let goes = at.goes ∙ ap (λ m. answer_with (λ t. expect m t.kind (at_expr (level.n + 1) at.waiting)) (left c.args.self.now)) (sym c.closing.ensures.mark) in
    passing_stopped c.from_residual-in_err-close_with-in-Some-Domain.result _ _ _ c.from_residual-in_err-close_with-in-Some-Domain.ensures.1
    (failed _ goes (c.in_err-close_with-in-Some-Domain.ensures.goes next (λ z. refl)))

pub returns-in_err-next_operand-in-Some-Domain-clause-goes : goal.returns-in_err-next_operand-in-Some-Domain-clause-goes
returns-in_err-next_operand-in-Some-Domain-clause-goes c = λ p answer h.
    let s = c.args.stack.now in
    let gs = c.pop.new.self.items in
    let brace = c.in-Some-Domain.brace in
    let level = c.in-Some-Domain.level in
    let items : s.brackets.items ≡ gs ++ (Domain brace level ∷ []) = c.in-Some-Domain.ensures.items ∙ ap (λ b. gs ++ (b ∷ [])) c.in-Some-Domain.field-0-is in
    let at = inside_domain p answer (inward s) (reverse gs) c.args.self.now brace level (ended p answer s (left c.args.self.now) h c.if-not-stack.false) (innermost s.brackets.items gs (Domain brace level) items) in
    let next = λ (z : Span). at_expr (level.n + 1) at.waiting in
    let goes = at.goes ∙ ap (λ m. answer_with (λ t. expect m t.kind (at_expr (level.n + 1) at.waiting)) (left c.args.self.now)) (sym c.closing.ensures.mark) in
    let closed = c.in_ok-close_with-in-Some-Domain.ensures.goes next (λ z. refl) in
    passing_stopped c.from_residual-in_err-next_operand-in-Some-Domain.result _ _ _ c.from_residual-in_err-next_operand-in-Some-Domain.ensures.1
    (c.in_err-next_operand-in-Some-Domain.ensures p answer Plain at.waiting refl at.waits (goes ∙ closed.1))

pub returns-in_ok-next_operand-in-Some-Domain-clause-goes : goal.returns-in_ok-next_operand-in-Some-Domain-clause-goes
returns-in_ok-next_operand-in-Some-Domain-clause-goes c = λ p answer h.
    let s = c.args.stack.now in
    let gs = c.pop.new.self.items in
    let brace = c.in-Some-Domain.brace in
    let level = c.in-Some-Domain.level in
    let items : s.brackets.items ≡ gs ++ (Domain brace level ∷ []) = c.in-Some-Domain.ensures.items ∙ ap (λ b. gs ++ (b ∷ [])) c.in-Some-Domain.field-0-is in
    let at = inside_domain p answer (inward s) (reverse gs) c.args.self.now brace level (ended p answer s (left c.args.self.now) h c.if-not-stack.false) (innermost s.brackets.items gs (Domain brace level) items) in
    let next = λ (z : Span). at_expr (level.n + 1) at.waiting in
    let goes = at.goes ∙ ap (λ m. answer_with (λ t. expect m t.kind (at_expr (level.n + 1) at.waiting)) (left c.args.self.now)) (sym c.closing.ensures.mark) in
    let closed = c.in_ok-close_with-in-Some-Domain.ensures.goes next (λ z. refl) in
    c.in_ok-next_operand-in-Some-Domain.ensures p answer Plain at.waiting refl at.waits (goes ∙ closed.1)
