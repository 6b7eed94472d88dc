use Rattle.std.proofs.Common.{sym}
use Rattle.std.proofs.lemmas.Str.{IsCharBoundary-start}
use Rattle.twelf_expressions.proofs.Lexemes.{left_is}
use Rattle.twelf_expressions.proofs.reader.Reader.new.Goals as goal

pub lexeme_at-requires-clause-boundary : goal.lexeme_at-requires-clause-boundary
lexeme_at-requires-clause-boundary c = IsCharBoundary-start c.args.text.now c.utf8.text

pub returns : goal.returns
returns c = sym (left_is c.args.text.now 0 c.lexeme_at.result c.lexeme_at.ensures.stands c.lexeme_at.ensures.cut)
