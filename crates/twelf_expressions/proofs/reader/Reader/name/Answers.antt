use Rattle.std.proofs.Common.{refl}
use Rattle.text_meaning.specs.Parsing.{ExpectName}
use Rattle.twelf_expressions.specs.Going.{simple_of}
use Rattle.twelf_expressions.proofs.Moves.{took}
use Rattle.twelf_expressions.proofs.reader.Reader.name.Goals as goal

pub returns-clause-goes : goal.returns-clause-goes
returns-clause-goes c = λ f h.
    let word = c.in_ok-word.word in
    took (ExpectName f) (f (simple_of word)) c.in_ok-word.ensures.takes refl (h (simple_of word)) refl
