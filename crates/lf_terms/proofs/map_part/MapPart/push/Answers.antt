use Rattle.std.proofs.Common.{◌≡◌, List, ◌∷◌, ◌++◌, [], Bool, true, false, not, refl, sym, subst, ◌∙◌}
use Rattle.std.specs.Prelude.{nat_eq}
use Rattle.std.proofs.lemmas.Bool.{eqb-true}
use Rattle.name_meaning.specs.Names.{same_name}
use Rattle.base_types.specs.declared.qname.QName.{QName}
use Rattle.term_trees.specs.declared.flat_decl.Image.{Image}
use Rattle.indexmap.proofs.CallerLemmas.{insert_entry-new}
use Rattle.term_trees.proofs.Below.Equality.{pointwise_sound}
use Rattle.list_laws.proofs.Options.{none_of}
use Rattle.lf_terms.specs.Tables.{image_of}
use Rattle.lf_terms.specs.Parts.{AreOfTheory}
use Rattle.lf_terms.proofs.SameName.{same_qname}
use Rattle.lf_terms.proofs.SharedPairs.{of_theory_pushed}
use Rattle.lf_terms.proofs.map_part.MapPart.push.Goals as goal

same_by : (b : Bool) → not b ≡ false → b ≡ true
same_by true h = refl
same_by false h = absurd (cc)

added : (c : goal.After-drop-2) → c.insert.new.self.entries ≡ c.self.inside.images.entries ++ (c.args.name, c.args.image) ∷ []
added c =
    let images = c.self.inside.images in
    let none = none_of (image_of images.entries c.args.name) (sym c.contains_key.ensures ∙ c.if-contains_key.false) in
    c.in_ok-previous.ensures.entries ∙ insert_entry-new same_qname images c.args.name c.args.image none

pub invariant_of-self-2 : goal.invariant_of-self-2
invariant_of-self-2 c =
    let theory = c.self.inside.theory in
    let named = pointwise_sound nat_eq eqb-true c.args.name.theory theory (same_by (same_name c.args.name.theory theory) (sym c.ne.ensures ∙ c.if-ne.false)) in
    subst (λ (es : List (QName × Image)). AreOfTheory theory es) (sym (added c)) (of_theory_pushed theory c.self.inside.images.entries (c.args.name, c.args.image) c.self.invariant named)

pub returns : goal.returns
returns c = rw (← c.self.view_is) (added c)
