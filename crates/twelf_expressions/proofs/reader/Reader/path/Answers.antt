use Rattle.std.proofs.Common.{refl}
use Rattle.text_meaning.specs.Parsing.{ExpectPath}
use Rattle.mmt_syntax.specs.Readings.{read_written}
use Rattle.twelf_expressions.proofs.Moves.{took}
use Rattle.twelf_expressions.proofs.reader.Reader.path.Goals as goal

pub returns-clause-goes : goal.returns-clause-goes
returns-clause-goes c = λ f h.
    let word = c.in_ok-word.word in
    took (ExpectPath f) (f (read_written word)) c.in_ok-word.ensures.takes refl (h (read_written word)) refl
