-- What the lexer answers.
use Rattle.std.specs.Prelude.{◌≡◌, List, ℕ, Result, Ok, Err}
use Rattle.text_meaning.specs.Cut.{Lexed, Tokens, NotUtf8, OpenComment, IsLexed}
use Rattle.twelf_lexer.specs.declared.fault.LexFault.{LexFault}
use Rattle.twelf_lexer.specs.declared.fault.LexFault.TheVariants as faults
use Rattle.twelf_lexer.specs.declared.lexer.Cut.{Cut}
use Rattle.twelf_lexer.specs.declared.token.Token.{Token}
use Rattle.twelf_lexer.specs.Steps.{tokens_of}

-- The text has these tokens, and its input ends there.
abbrev pub IsCutOf : List ℕ → Cut → Type 0
IsCutOf text cut = IsLexed text (Tokens (tokens_of text cut.tokens) cut.end)

-- The text has this fault. Want of memory says nothing of it.
abbrev pub IsFaultOf : List ℕ → LexFault → Type 0
IsFaultOf text (faults.NotUtf8 at) = IsLexed text (NotUtf8 at)
IsFaultOf text (faults.OpenComment at) = IsLexed text (OpenComment at)
IsFaultOf text faults.Memory = Unit {0}

-- So a text is answered that is cut so. Want of memory may come whatever the cut is.
abbrev pub AnswersSo : List ℕ → Lexed → Result (List Token) LexFault → Type 0
AnswersSo text lexed (Ok tokens) = (end : ℕ) × (lexed ≡ Tokens (tokens_of text tokens) end)
AnswersSo text lexed (Err (faults.NotUtf8 at)) = lexed ≡ NotUtf8 at
AnswersSo text lexed (Err (faults.OpenComment at)) = lexed ≡ OpenComment at
AnswersSo text lexed (Err faults.Memory) = Unit {0}
