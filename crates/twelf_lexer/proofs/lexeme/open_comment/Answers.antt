use Rattle.std.proofs.lemmas.Str.{IsCharBoundary-start}
use Rattle.twelf_lexer.proofs.lexeme.open_comment.Goals as goal

pub lexeme_at-lexeme-requires-clause-boundary : goal.lexeme_at-lexeme-requires-clause-boundary
lexeme_at-lexeme-requires-clause-boundary c = IsCharBoundary-start c.args.text.now c.utf8.text
