use Rattle.text_meaning.specs.Cut.{Tokens}
use Rattle.twelf_lexer.specs.Steps.{tokens_of}
use Rattle.twelf_lexer.proofs.OnlyCut.{fault_only, same_cut}
use Rattle.twelf_lexer.proofs.lexer.tokens.Goals as goal

pub returns-in-Ok-clause-only : goal.returns-in-Ok-clause-only
returns-in-Ok-clause-only c lexed h =
    let text = c.args.text.now in
    (c.in-Ok.cut.end, same_cut text lexed (Tokens (tokens_of text c.in-Ok.cut.tokens) c.in-Ok.cut.end) h c.in-Ok.ensures.ok)

pub returns-in-Err-clause-only : goal.returns-in-Err-clause-only
returns-in-Err-clause-only c lexed h = fault_only c.args.text.now c.in-Err.fault c.in-Err.ensures.fault lexed h
