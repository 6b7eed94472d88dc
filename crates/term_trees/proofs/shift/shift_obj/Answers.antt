use Rattle.std.proofs.Common.{rules, ◌≡◌, IfOk, sym, subst}
use Rattle.lf_meaning.specs.Raising.{raise}
use Rattle.lf_substitution_laws.proofs.Raising.{raise_by_zero}
use Rattle.term_trees.specs.Readings.{read_object}
use Rattle.term_trees.proofs.shift.shift_obj.Goals as goal

pub returns-then-by-eq0 : goal.returns-then-by-eq0
returns-then-by-eq0 c =
    let own = read_object c.args.t.now in
    let nothing : c.args.by ≡ 0 = search rules in
    let copied = subst (λ all. IfOk c.copy.result (λ m. read_object m ≡ all)) (sym (raise_by_zero c.args.from own)) c.copy.ensures in
    subst (λ by. IfOk c.copy.result (λ m. read_object m ≡ raise by c.args.from own)) (sym nothing) copied
