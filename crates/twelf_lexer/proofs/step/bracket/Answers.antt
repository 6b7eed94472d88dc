use Rattle.std.proofs.Common.{sym, subst, refl}
use Rattle.text_meaning.specs.Tokens.{LeftParen, RightParen, LeftBracket, RightBracket, LeftBrace, RightBrace}
use Rattle.twelf_lexer.specs.declared.sign.Sign.TheVariants as signs
use Rattle.twelf_lexer.specs.Lexemes.{IsBracket}
use Rattle.twelf_lexer.proofs.step.bracket.Goals as goal

pub returns-then-byte-eq40 : goal.returns-then-byte-eq40
returns-then-byte-eq40 c = subst (λ b. IsBracket b signs.LParen) (sym c.if-byte-eq40.true) (LeftParen, refl, record { kind = λ text from to. refl; parts = λ text from to. tt; more = refl })

pub returns-then-byte-eq41 : goal.returns-then-byte-eq41
returns-then-byte-eq41 c = subst (λ b. IsBracket b signs.RParen) (sym c.if-byte-eq41.true) (RightParen, refl, record { kind = λ text from to. refl; parts = λ text from to. tt; more = refl })

pub returns-then-byte-eq91 : goal.returns-then-byte-eq91
returns-then-byte-eq91 c = subst (λ b. IsBracket b signs.LBracket) (sym c.if-byte-eq91.true) (LeftBracket, refl, record { kind = λ text from to. refl; parts = λ text from to. tt; more = refl })

pub returns-then-byte-eq93 : goal.returns-then-byte-eq93
returns-then-byte-eq93 c = subst (λ b. IsBracket b signs.RBracket) (sym c.if-byte-eq93.true) (RightBracket, refl, record { kind = λ text from to. refl; parts = λ text from to. tt; more = refl })

pub returns-then-byte-eq123 : goal.returns-then-byte-eq123
returns-then-byte-eq123 c = subst (λ b. IsBracket b signs.LBrace) (sym c.if-byte-eq123.true) (LeftBrace, refl, record { kind = λ text from to. refl; parts = λ text from to. tt; more = refl })

pub returns-then-byte-eq125 : goal.returns-then-byte-eq125
returns-then-byte-eq125 c = subst (λ b. IsBracket b signs.RBrace) (sym c.if-byte-eq125.true) (RightBrace, refl, record { kind = λ text from to. refl; parts = λ text from to. tt; more = refl })
