use Rattle.std.proofs.Common.{◌+◌, sym, subst}
use Rattle.text_meaning.specs.Parsing.{AtOperand, NoAtoms, answer_on}
use Rattle.twelf_expressions.specs.Left.{left}
use Rattle.twelf_expressions.specs.Going.{Fails}
use Rattle.twelf_expressions.proofs.reader.Reader.deeper.Goals as goal

pub returns-in-None-clause-fault : goal.returns-in-None-clause-fault
returns-in-None-clause-fault c = λ row k.
    subst (λ n. Fails c.too_deep.result (answer_on (AtOperand (n + 1) row NoAtoms k) (left c.args.self.now))) (sym c.in-None.ensures) (c.too_deep.ensures row k)
