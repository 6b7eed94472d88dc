use Rattle.std.proofs.Common.{refl, sym, ap}
use Rattle.text_meaning.specs.Parsing.{AtOperand, Ends, NoAtoms, Plain, answer_on}
use Rattle.twelf_expressions.specs.Left.{left}
use Rattle.twelf_expressions.proofs.Outlines.{nothing_waits}
use Rattle.twelf_expressions.proofs.reader.Reader.nothing_open.Goals as goal

pub returns-clause-begins : goal.returns-clause-begins
returns-clause-begins c = λ p.
    record {
      row = Plain;
      atoms = NoAtoms;
      waiting = Ends p;
      row_is = refl;
      atoms_is = refl;
      waits = nothing_waits p c.clear.new.self.items c.clear.ensures.items;
      goes = ap (λ n. answer_on (AtOperand n Plain NoAtoms (Ends p)) (left c.args.self.now)) (sym c.first.ensures);
    }
