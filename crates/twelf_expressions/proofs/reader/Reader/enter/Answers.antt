use Rattle.std.proofs.Common.{refl, sym, subst}
use Rattle.text_meaning.specs.Parsing.{Plain}
use Rattle.twelf_expressions.specs.Outlines.{Waits}
use Rattle.twelf_expressions.proofs.Outlines.{innermost}
use Rattle.twelf_expressions.proofs.reader.Reader.enter.Goals as goal

pub returns : goal.returns
returns c = λ p answer k w g.
    let more = innermost c.push.new.self.items c.args.stack.now.brackets.items c.args.bracket c.in_ok-push.ensures.items in
    c.next_operand.ensures p answer Plain k refl (subst (λ bs. Waits p bs k) (sym more) w) g
