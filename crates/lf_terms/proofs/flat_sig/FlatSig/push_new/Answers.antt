use Rattle.std.proofs.Common.{◌∷◌, ◌++◌, [], List, sym, subst}
use Rattle.lf_terms.specs.declared.flat_sig.ByPath.{ByPath}
use Rattle.lf_terms.specs.Tables.{FindsPaths}
use Rattle.lf_terms.proofs.OneTheory.{one_grows}
use Rattle.lf_terms.proofs.FlatTables.{one_way}
use Rattle.term_trees.specs.declared.flat_decl.FlatDecl.{FlatDecl}
use Rattle.lf_terms.proofs.flat_sig.FlatSig.push_new.Goals as goal

pub insert-requires : goal.insert-requires
insert-requires c = rw c.self.view_is c.requires

pub insert_in_both-requires-clause-name : goal.insert_in_both-requires-clause-name
insert_in_both-requires-clause-name c = rw c.self.view_is c.requires

abbrev Finds : List FlatDecl → ByPath → Type 0
Finds decls by_path = FindsPaths by_path decls

pub invariant_of-self : goal.invariant_of-self
invariant_of-self c =
    let decls = c.self.inside.decls.keys in
    let d = c.args.decl in
    let more = decls ++ d ∷ [] in
    let one = subst (λ by_path. FindsPaths by_path decls) c.in-OneTheory.is c.self.invariant.0 in
    let grown = one_grows decls d (c.is_of_theory.ensures c.if-is_of_theory.true) one in
    let pushed : Finds more c.self.inside.by_path = subst (λ by_path. FindsPaths by_path more) (sym c.in-OneTheory.is) grown in
    (one_way Finds c.insert.result decls more c.insert.new.decls.keys c.self.inside.by_path c.insert.ensures.ok c.insert.ensures.err pushed c.self.invariant.0, tt)
