use Rattle.std.proofs.Common.{◌≡◌, drop, sym, subst}
use Rattle.text_meaning.specs.Cutting.{Between, cut_on}
use Rattle.twelf_lexer.specs.Lexemes.{cut_from}
use Rattle.twelf_lexer.proofs.Lexemes.{text_ends}
use Rattle.twelf_lexer.proofs.lexeme.lexeme_at.Goals as goal

pub returns-clause-cut : goal.returns-clause-cut
returns-clause-cut c =
    let text = c.args.text.now in
    let at = c.args.at in
    subst (λ l. cut_on Between at (drop at text) ≡ cut_from text l) (sym c.lexeme-2.ensures) (text_ends text at c.loop-from.from c.loop-from.invariant c.loop-from-test.false)
