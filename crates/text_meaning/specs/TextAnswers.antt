-- What a text is read as.
use Rattle.std.specs.Prelude.{ℕ, List}
use Rattle.text_meaning.specs.Cutting.{lex}
use Rattle.text_meaning.specs.Reading.{Target, Answer, Syntax, with_end}
use Rattle.text_meaning.specs.Cut.{Lexed, Tokens, NotUtf8, OpenComment}
use Rattle.text_meaning.specs.Parsing.{parse}

-- the answer to what a text is cut into, and to a text
abbrev pub answer_to : Target → Lexed → Answer
answer_to target (Tokens ts end) = parse target (with_end ts end)
answer_to target (NotUtf8 at) = Syntax at
answer_to target (OpenComment at) = Syntax at

unfoldable pub read : Target → List ℕ → Answer
read target text = answer_to target (lex text)
