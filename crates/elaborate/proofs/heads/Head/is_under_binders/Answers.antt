use Rattle.std.specs.Vec.{vec_len}
use Rattle.std.proofs.Common.{◌≡◌, length, nat_lt, rules, ap₂, ◌∙◌}
use Rattle.elaborate.proofs.HeadsStand.{no_variable, binders_counted}
use Rattle.elaborate.proofs.heads.Head.is_under_binders.Goals as goal

pub returns-in-Constant : goal.returns-in-Constant
returns-in-Constant c binders family domain rest stands =
    let long : vec_len c.args.self.now.arguments ≡ length c.args.self.now.arguments.items = search rules in
    ap₂ nat_lt (c.len.ensures ∙ long) c.binders_of.ensures ∙ binders_counted c.args.self.now c.in-Constant.decl binders family domain rest c.in-Constant.is stands

pub returns-in-Variable : goal.returns-in-Variable
returns-in-Variable c binders family domain rest stands = absurd (no_variable c.args.self.now c.in-Variable.field-0 c.in-Variable.is (binders, family, _, stands))
