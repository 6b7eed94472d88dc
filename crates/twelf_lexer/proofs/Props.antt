-- What a lexeme tells is a proposition.
use Rattle.std.proofs.Props.{props}
use Rattle.std.proofs.Common.{ℕ, List}
use Rattle.twelf_lexer.specs.Lexemes.{IsLexeme, Parts}
use Rattle.twelf_lexer.specs.declared.sign.Sign.{Sign}
use Rattle.twelf_lexer.specs.declared.sign.Sign.TheVariants as signs
use Rattle.twelf_lexer.specs.declared.sign.Lexeme.{Lexeme}

pub parts_prop : (text : List ℕ) (from to : ℕ) (g : Sign) → IsProp (Parts text from to g)
parts_prop text from to signs.Name = hlevel props
parts_prop text from to signs.Path = hlevel props
parts_prop text from to _ = hlevel props

pub lexeme_prop : (text : List ℕ) (l : Lexeme) → IsProp (IsLexeme text l)
lexeme_prop text l = hlevel (props, parts_prop)
