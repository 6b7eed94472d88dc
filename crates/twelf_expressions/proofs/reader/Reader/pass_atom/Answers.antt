use Rattle.std.proofs.Common.{refl, ◌∙◌}
use Rattle.text_meaning.specs.Parsing.{AtOperand, add_atom}
use Rattle.twelf_expressions.specs.Left.{left, next_token}
use Rattle.twelf_expressions.proofs.Moves.{took_operand}
use Rattle.twelf_expressions.proofs.Outlines.{atom_taken, one_atom_at_least}
use Rattle.twelf_expressions.proofs.reader.Reader.pass_atom.Goals as goal

pub returns-clause-goes : goal.returns-clause-goes
returns-clause-goes c = λ p answer h.
    let o = c.args.stack.now.operand in
    let t = next_token (left c.args.self.now) in
    let atom = atom_taken o.level.n h.row h.atoms h.waiting t.span t.kind c.requires in
    let xs = add_atom h.atoms t.span atom.0 in
    record {
      row = h.row;
      atoms = xs;
      waiting = h.waiting;
      row_is = h.row_is;
      atoms_is = one_atom_at_least h.atoms t.span atom.0;
      waits = h.waits;
      goes = h.goes ∙ took_operand o.level.n h.row h.atoms h.waiting (AtOperand o.level.n h.row xs h.waiting) o.level.within c.skip.ensures.passes atom.1 refl;
    }
