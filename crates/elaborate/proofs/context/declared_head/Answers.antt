use Rattle.std.proofs.Common.{refl, sym, ap, ◌∙◌}
use Rattle.elaborate.specs.HeadStates.{read_level}
use Rattle.elaborate.specs.declared.lent.Lent.TheVariants.{Borrowed}
use Rattle.elaborate.proofs.NamesStand.{of_level, declared_object, declared_family}
use Rattle.elaborate.proofs.context.declared_head.Goals as goal

pub returns-in-Fam-Objects : goal.returns-in-Fam-Objects
returns-in-Fam-Objects c =
    let family = c.in-Fam-Objects in
    let stands = declared_object c.args.decl c.new.result c.new.ensures.items family.family (Borrowed _) family.is-0 refl in
    of_level _ _ _ _ (stands.0 ∙ sym (ap read_level family.is-1)) stands.1

pub returns-in-Kind-Families : goal.returns-in-Kind-Families
returns-in-Kind-Families c =
    let kind = c.in-Kind-Families in
    let stands = declared_family c.args.decl c.new-in-Kind-Families.result c.new-in-Kind-Families.ensures.items kind.kind (Borrowed _) kind.is-0 refl in
    of_level _ _ _ _ (stands.0 ∙ sym (ap read_level kind.is-1)) stands.1
