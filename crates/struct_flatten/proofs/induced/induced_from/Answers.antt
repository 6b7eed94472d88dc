use Rattle.std.proofs.Common.{◌≡◌, ◌∷◌, true, None, Some, cond, sym, ap, ◌∙◌, subst}
use Rattle.std.specs.Prelude.{IfOk}
use Rattle.lf_meaning.specs.Terms.{Constant}
use Rattle.lf_meaning.specs.Signatures.{Class, Declaration, SameAs, same_constant}
use Rattle.link_meaning.specs.Induced.{induced_with}
use Rattle.term_trees.specs.Readings.{read_class, read_constant, read_declaration, read_value}
use Rattle.term_trees.proofs.Below.Equality.{same_constant_sound}
use Rattle.struct_flatten.proofs.induced.induced_from.Goals as goal

-- A constant whose image is the constant itself has no value.
induced_undefined : (c d : Constant) (class : Class) → same_constant d c ≡ true → ◌≡◌ {A = Declaration} (record { name = d; class = class; value = None }) (induced_with c (record { class = class; value = SameAs d }))
induced_undefined c d class h = λ i. record { name = same_constant_sound d c h i; class = class; value = cond (sym h i) None (Some (SameAs d)) }

pub returns-then-is_induced : goal.returns-then-is_induced
returns-then-is_induced c =
    let constant : Constant = record { theory = c.args.here.now; path = c.args.structure.now ∷ c.args.path.now } in
    let d = read_constant c.in-Same.constant in
    let class = read_class c.args.image.now.class in
    let same : same_constant d constant ≡ true = sym c.is_induced.ensures ∙ c.if-is_induced.true in
    let value : SameAs d ≡ read_value c.args.image.now.value = sym (ap read_value c.in-Same.is) in
    subst (λ meant. IfOk c.undefined.result (λ decl. read_declaration decl ≡ meant))
    (induced_undefined constant d class same ∙ ap (λ v. induced_with constant (record { class = class; value = v })) value) c.undefined.ensures
