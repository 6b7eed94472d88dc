use Rattle.std.proofs.Common.{◌≡◌, List, ◌∷◌, ◌++◌, [], ◌+◌, None, sym, ap, subst, ◌∙◌, append_assoc, arith}
use Rattle.base_types.specs.declared.qname.QName.{QName}
use Rattle.term_trees.specs.declared.flat_decl.Image.{Image}
use Rattle.indexmap.proofs.CallerLemmas.{insert_entry-new}
use Rattle.lf_terms.specs.Tables.{image_of}
use Rattle.lf_terms.specs.Parts.{image_in_part, pairs_of, HasParts}
use Rattle.lf_terms.proofs.SameName.{same_qname}
use Rattle.lf_terms.proofs.SharedPairs.{behind_none, own_pushed}
use Rattle.lf_terms.proofs.head_map.HeadMap.append.Goals as goal

absent : (c : goal.After-self-1) → image_of (pairs_of c.self.inside.parts.entries ++ c.self.inside.own.entries) c.args.name ≡ None
absent c = rw c.self.view_is c.requires

added : (c : goal.After-self-1) → c.insert.new.self.entries ≡ c.self.inside.own.entries ++ (c.args.name, c.args.image) ∷ []
added c =
    let own = c.self.inside.own in
    let none = behind_none (image_in_part c.self.inside.parts.entries c.args.name) (image_of own.entries c.args.name) (sym (c.self.invariant.found c.args.name) ∙ absent c) in
    c.in-Ok.ensures.entries ∙ insert_entry-new same_qname own c.args.name c.args.image none

pub invariant_of-self : goal.invariant_of-self
invariant_of-self c =
    let parts = c.self.inside.parts.entries in
    let own = c.self.inside.own.entries in
    let more : c.self.inside.count + 1 ≡ c.in-Some.count = omega (arith, c.in-Some.ensures) in
    subst (λ n. HasParts parts c.insert.new.self.entries n) more
    (subst (λ (es : List (QName × Image)). HasParts parts es (c.self.inside.count + 1)) (sym (added c)) (own_pushed parts own c.self.inside.count c.self.invariant (c.args.name, c.args.image) (absent c)))

pub returns-in-Ok-clause-ok : goal.returns-in-Ok-clause-ok
returns-in-Ok-clause-ok c =
    let parts = c.self.inside.parts.entries in
    let own = c.self.inside.own.entries in
    rw (← c.self.view_is) (ap (λ (es : List (QName × Image)). pairs_of parts ++ es) (added c) ∙ sym (append_assoc (pairs_of parts) own ((c.args.name, c.args.image) ∷ [])))
