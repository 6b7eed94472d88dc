use Rattle.std.proofs.Common.{◌≡◌, ◌∷◌, ◌++◌, [], sym, ap, subst, ◌∙◌}
use Rattle.lf_terms.specs.Tables.{FindsPaths, HasFirstPlaces, AreOfOneTheory}
use Rattle.lf_terms.proofs.FlatTables.{table_leaves}
use Rattle.lf_terms.proofs.OneTheory.{one_shrinks}
use Rattle.lf_terms.proofs.flat_sig.FlatSig.drop_last.Goals as goal
use Rattle.lf_terms.proofs.flat_sig.FlatSig.drop_last.Goals.{in-Table, in_default-by_path}

pub invariant_of-self : goal.invariant_of-self
invariant_of-self c =
    let left = c.pop.new.self.keys in
    let decls = c.self.inside.decls.keys in
    let d = c.into_declaration-decl.result in
    let popped : decls ≡ left ++ d ∷ [] = c.in-Some.ensures.keys ∙ ap (λ e. left ++ e ∷ []) (sym c.into_declaration-decl.ensures) in
    elim c.match-self-2.branch [
      | in-Table w ↦
          let places = w.in-Table.places.entries in
          let held = subst (λ by_path. FindsPaths by_path decls) w.in-Table.is c.self.invariant.0 in
          let before = subst (HasFirstPlaces places) popped held in
          rw w.self-inside-is (table_leaves places left d before w.leave.new.by_path.entries w.len.result w.len.ensures.len w.leave.ensures.gone w.leave.ensures.stays, tt)
      | in_default-by_path w ↦
          let held = subst (λ by_path. FindsPaths by_path decls) w.in_default-by_path.is c.self.invariant.0 in
          rw w.self-inside-is (rw w.in_default-by_path.is (one_shrinks left d (subst AreOfOneTheory popped held)), tt)
    ]
