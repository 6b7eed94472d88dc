use Rattle.std.specs.Prelude.{OnOk}
use Rattle.std.proofs.Common.{◌≡◌, ◌++◌, sym, ap, ◌∙◌, subst}
use Rattle.printing_meaning.specs.Constants.{variable_text}
use Rattle.printing_meaning.specs.PrintedTerms as printed
use Rattle.term_trees.specs.Readings.{read_head}
use Rattle.term_text.specs.Readings.{read_seen}
use Rattle.term_text.proofs.objects.write_head.Goals as goal

pub returns-in-Var : goal.returns-in-Var
unfolding printed.object_text
returns-in-Var c =
    let seen = read_seen c.args.seen.now in
    let same = ap (λ n. variable_text seen n) c.saturating_sub.ensures ∙ sym (ap (λ h. printed.atomic_text seen c.args.depth (read_head h)) c.in-Var.is) in
    subst (λ z. OnOk c.variable.result (c.variable.new.out ≡ c.args.out.now ++ z)) same c.variable.ensures

pub returns-in-Con : goal.returns-in-Con
unfolding printed.object_text
returns-in-Con c =
    let seen = read_seen c.args.seen.now in
    let same = sym (ap (λ h. printed.atomic_text seen c.args.depth (read_head h)) c.in-Con.is) in
    subst (λ z. OnOk c.constant.result (c.constant.new.out ≡ c.args.out.now ++ z)) same c.constant.ensures
