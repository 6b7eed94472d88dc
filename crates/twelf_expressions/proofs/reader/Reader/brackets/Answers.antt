use Rattle.std.proofs.Common.{refl}
use Rattle.twelf_expressions.proofs.Moves.{goes_from}
use Rattle.twelf_expressions.proofs.Frames.{took_in}
use Rattle.twelf_expressions.proofs.reader.Reader.brackets.Goals as goal

pub returns-clause-goes : goal.returns-clause-goes
returns-clause-goes c = λ k. goes_from c.binder.result _ _ _ (took_in c.args.stack.now k _ c.take-opening.ensures.takes refl refl) (c.binder.ensures.goes k)
