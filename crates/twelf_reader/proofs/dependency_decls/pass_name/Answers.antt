use Rattle.std.proofs.Common.{refl}
use Rattle.text_meaning.specs.Parsing.{ExpectName}
use Rattle.twelf_expressions.proofs.Moves.{took}
use Rattle.twelf_reader.proofs.dependency_decls.pass_name.Goals as goal

pub returns-clause-goes : goal.returns-clause-goes
returns-clause-goes c = λ f h.
    let (word, passes) = c.skip_name.ensures.passes in
    (word, took (ExpectName f) (f word) passes refl (h word) refl)
