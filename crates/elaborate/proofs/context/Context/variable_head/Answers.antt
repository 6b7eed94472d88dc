use Rattle.std.proofs.Common.{sym, ap, ◌∙◌}
use Rattle.std.specs.Option.{option_map}
use Rattle.term_trees.specs.Readings.{read_family}
use Rattle.mmt_syntax.specs.Readings.{read_span}
use Rattle.elaborate.specs.Contexts.{locals_of}
use Rattle.elaborate.specs.HeadStates.{read_level}
use Rattle.elaborate.specs.declared.lent.Lent.TheVariants.{Made}
use Rattle.elaborate.proofs.NamesStand.{variable_begins}
use Rattle.elaborate.proofs.context.Context.variable_head.Goals as goal

pub returns : goal.returns
returns c =
    let found = sym (ap (option_map (λ a. read_family a.now)) c.in-Some.is) ∙ c.family.ensures in
    let family = c.in_ok-family in
    variable_begins (locals_of c.args.self.now) c.args.index c.in_ok-one_more.field-0 (read_span c.args.span) c.new-2.result (read_family c.in-Some.family.now) (Made family.family) (read_level c.args.level)
    c.new-2.ensures.items found c.in_ok-one_more.ensures (ap read_family family.ensures.ok ∙ c.in_ok-shift_fam.ensures) (ap read_level c.in-Objects.is)
