use Rattle.std.proofs.Common.{◌≡◌, List, [], sym, subst, arith}
use Rattle.std.proofs.lemmas.List.{nil_from_length}
use Rattle.base_types.specs.declared.qname.QName.{QName}
use Rattle.term_trees.specs.declared.flat_decl.Image.{Image}
use Rattle.lf_terms.specs.Parts.{HasParts, Parts}
use Rattle.lf_terms.proofs.SharedPairs.{nothing_shared}
use Rattle.lf_terms.proofs.head_map.HeadMap.new.Goals as goal

pub invariant_of-result : goal.invariant_of-result
invariant_of-result c =
    let parts : c.new.result.entries ≡ [] = nil_from_length c.new.result.entries (omega (arith, c.new.ensures.len)) in
    let own : c.new-2.result.entries ≡ [] = nil_from_length c.new-2.result.entries (omega (arith, c.new-2.ensures.len)) in
    subst (λ (p : Parts). HasParts p c.new-2.result.entries 0) (sym parts) (subst (λ (es : List (QName × Image)). HasParts [] es 0) (sym own) nothing_shared)
