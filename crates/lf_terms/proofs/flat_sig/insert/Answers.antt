use Rattle.std.proofs.Common.{◌≡◌, ◌∷◌, ◌++◌, [], false, cond, is_some, ap, ◌∙◌}
use Rattle.std.specs.List.{list_any}
use Rattle.term_trees.specs.declared.flat_decl.FlatDecl.{FlatDecl}
use Rattle.indexmap.specs.IndexSet.{insert_key}
use Rattle.lf_terms.proofs.Lookup.{contained_declared}
use Rattle.lf_terms.proofs.SameName.{same_qname}
use Rattle.lf_terms.proofs.flat_sig.insert.Goals as goal

pub returns-in-Ok-clause-ok : goal.returns-in-Ok-clause-ok
returns-in-Ok-clause-ok c =
    let decls = c.args.decls.now.keys in
    let d = c.args.decl in
    let absent : list_any (λ (e : FlatDecl). same_qname d.name e.name) decls ≡ false = contained_declared d.name decls ∙ ap is_some c.requires in
    c.in-Ok.ensures.keys ∙ ap (insert_key (λ (x y : FlatDecl). same_qname x.name y.name) decls) c.new.ensures ∙ ap (λ b. cond b decls (decls ++ d ∷ [])) absent
