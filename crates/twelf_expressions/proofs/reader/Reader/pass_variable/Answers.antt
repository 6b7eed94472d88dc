use Rattle.std.proofs.Common.{Some, None, refl}
use Rattle.text_meaning.specs.Parsing.{AtVariable, AfterVariable}
use Rattle.twelf_expressions.proofs.Moves.{took}
use Rattle.twelf_expressions.proofs.reader.Reader.pass_variable.Goals as goal

pub returns-in-Blank-clause-goes : goal.returns-in-Blank-clause-goes
returns-in-Blank-clause-goes c = λ b l n row xs k.
    (None, took (AtVariable b l n row xs k) (AfterVariable b l None n row xs k) c.take.ensures.takes refl refl refl)

pub returns-in-Name-clause-goes : goal.returns-in-Name-clause-goes
returns-in-Name-clause-goes c = λ b l n row xs k.
    let word = c.skip_name.ensures.passes in
    (Some word.0.name, took (AtVariable b l n row xs k) (AfterVariable b l (Some word.0.name) n row xs k) word.1 refl refl refl)
