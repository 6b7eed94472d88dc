use Rattle.std.proofs.Common.{Some, None, refl}
use Rattle.text_meaning.specs.Parsing.{AtVariable, AfterVariable}
use Rattle.twelf_expressions.proofs.Moves.{took}
use Rattle.twelf_expressions.proofs.reader.Reader.variable.Goals as goal

pub returns-in-Blank-clause-goes : goal.returns-in-Blank-clause-goes
returns-in-Blank-clause-goes c = λ b l n row xs k.
    took (AtVariable b l n row xs k) (AfterVariable b l None n row xs k) c.take.ensures.takes refl refl refl

pub returns-in_ok-name-in-Name-clause-goes : goal.returns-in_ok-name-in-Name-clause-goes
returns-in_ok-name-in-Name-clause-goes c = λ b l n row xs k.
    let name = c.in_ok-name-in-Name.name in
    let t = c.in_ok-name-in-Name.ensures.takes in
    took (AtVariable b l n row xs k) (AfterVariable b l (Some name) n row xs k) t.1 refl refl refl
