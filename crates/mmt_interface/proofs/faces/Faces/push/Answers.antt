use Rattle.std.proofs.Common.{◌≡◌, true, false, is_some, refl, sym, ap, ◌∙◌}
use Rattle.name_meaning.specs.Rows.{row_of}
use Rattle.list_laws.proofs.Options.{none_of}
use Rattle.name_laws.proofs.RowLookups.{row_looked_up}
use Rattle.mmt_interface.proofs.faces.Faces.push.Goals as goal

pub returns-then-contains_key-clause-twice : goal.returns-then-contains_key-clause-twice
returns-then-contains_key-clause-twice c =
    let there : is_some (row_of c.args.self.now c.args.name) ≡ true = rw (← c.self.view_is) (ap is_some (row_looked_up c.self.inside.verdicts.entries c.args.name) ∙ sym c.contains_key.ensures ∙ c.if-contains_key.true) in
    (λ _. there, λ _. refl)

pub push_new-requires : goal.push_new-requires
push_new-requires c =
    none_of (row_of c.args.self.now c.args.name) (rw (← c.self.view_is) (ap is_some (row_looked_up c.self.inside.verdicts.entries c.args.name) ∙ sym c.contains_key.ensures ∙ c.if-contains_key.false))

pub returns-in-Ok-clause-twice : goal.returns-in-Ok-clause-twice
returns-in-Ok-clause-twice c =
    let absent : is_some (row_of c.args.self.now c.args.name) ≡ false = rw (← c.self.view_is) (ap is_some (row_looked_up c.self.inside.verdicts.entries c.args.name) ∙ sym c.contains_key.ensures ∙ c.if-contains_key.false) in
    (λ e. absurd (cc), λ e. absurd (cc))

pub returns-in-Err-clause-twice : goal.returns-in-Err-clause-twice
returns-in-Err-clause-twice c =
    let absent : is_some (row_of c.args.self.now c.args.name) ≡ false = rw (← c.self.view_is) (ap is_some (row_looked_up c.self.inside.verdicts.entries c.args.name) ∙ sym c.contains_key.ensures ∙ c.if-contains_key.false) in
    (λ e. absurd (cc), λ e. absurd (cc))
