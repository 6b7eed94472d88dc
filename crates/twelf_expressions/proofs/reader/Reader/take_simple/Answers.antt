use Rattle.std.proofs.Common.{◌≡◌, [], ◌∷◌, sym, ap, ◌∙◌}
use Rattle.text_meaning.specs.Tokens.{ident}
use Rattle.text_meaning.specs.Grammar.{written}
use Rattle.text_meaning.specs.Trees.{first_name}
use Rattle.mmt_syntax.specs.Readings.{read_span}
use Rattle.twelf_expressions.specs.Left.{left, next_kind}
use Rattle.twelf_expressions.specs.Signs.{is_name}
use Rattle.twelf_expressions.proofs.SignCases.{one_name}
use Rattle.twelf_expressions.proofs.reader.Reader.take_simple.Goals as goal

pub returns-clause-takes : goal.returns-clause-takes
returns-clause-takes c =
    let word = c.in_ok-word.word in
    let one : word.path ≡ first_name word.path ∷ [] = one_name word.path (ap (λ ts. is_name (next_kind ts)) (sym c.in_ok-word.ensures.takes) ∙ c.requires) in
    c.in_ok-word.ensures.takes ∙ ap (λ p. ident (read_span word.span) p ∷ left c.take_path.new.self) one

pub returns-clause-one : goal.returns-clause-one
returns-clause-one c =
    let word = c.in_ok-word.word in
    ap (λ p. written (read_span word.span) p) (sym (one_name word.path (ap (λ ts. is_name (next_kind ts)) (sym c.in_ok-word.ensures.takes) ∙ c.requires)))
