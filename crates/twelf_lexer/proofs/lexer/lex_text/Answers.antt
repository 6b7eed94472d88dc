use Rattle.std.proofs.Common.{sym, subst, ap, ◌∙◌}
use Rattle.twelf_lexer.specs.Lexemes.{cut_behind}
use Rattle.twelf_lexer.proofs.LexLoop.{LexedSoFar, nothing_yet, finished, unclosed}
use Rattle.twelf_lexer.proofs.lexer.lex_text.Goals as goal

pub tokens-init : goal.tokens-init
tokens-init c = subst (LexedSoFar c.args.text.now 0) (sym c.new-tokens.ensures) (nothing_yet c.args.text.now c.utf8.text)

pub returns-in-End-clause-ok : goal.returns-in-End-clause-ok
returns-in-End-clause-ok c =
    let text = c.args.text.now in
    let l = c.lexeme_at-lexeme.result in
    finished text c.tokens.at l.span.from c.tokens.tokens c.utf8.text c.tokens.invariant (c.lexeme_at-lexeme.ensures.cut ∙ ap (cut_behind text l.span.from l.span.to) c.in-End.is)

pub returns-in-OpenComment-clause-fault : goal.returns-in-OpenComment-clause-fault
returns-in-OpenComment-clause-fault c =
    let text = c.args.text.now in
    let l = c.lexeme_at-lexeme.result in
    unclosed text c.tokens.at l.span.from c.tokens.tokens c.utf8.text c.tokens.invariant (c.lexeme_at-lexeme.ensures.cut ∙ ap (cut_behind text l.span.from l.span.to) c.in-OpenComment.is)
