use Rattle.std.proofs.Common.{◌≡◌, [], ◌∷◌, refl, ap, ◌∙◌, rules}
use Rattle.text_meaning.specs.Tokens.{Span, sign, token, EndSign}
use Rattle.text_meaning.specs.Reading.{Tree, Read}
use Rattle.text_meaning.specs.Parsing.{Whole, Expect, answer_on}
use Rattle.twelf_lexer.specs.Lexemes.{sign_kind}
use Rattle.twelf_lexer.specs.declared.sign.Sign.TheVariants.{End}
use Rattle.twelf_expressions.specs.Left.{behind}
use Rattle.twelf_expressions.proofs.reader.Reader.finish.Goals as goal

ended : (z : Span) (tree : Tree) → answer_on (Expect EndSign (Whole tree)) (sign z EndSign ∷ []) ≡ Read tree
unfolding answer_on
ended z tree = refl

pub returns : goal.returns
returns c = λ tree.
    let text = c.args.self.now.text.now in
    let l = c.args.self.now.next in
    let end : l.sign ≡ End = search rules in
    ap (λ g. answer_on (Expect EndSign (Whole tree)) (token l.span.from l.span.to (sign_kind text l.span.from l.span.to g) ∷ behind text l.span.to g)) end ∙ ended (record { from = l.span.from; to = l.span.to }) tree
