use Rattle.std.proofs.Common.{◌≡◌, Option, Some, None, sym, ap, subst, ◌∙◌}
use Rattle.std.specs.Prelude.{slice_get}
use Rattle.std.specs.Option.{option_map}
use Rattle.term_trees.specs.Readings.{read_declaration}
use Rattle.term_trees.specs.declared.flat_decl.FlatDecl.{FlatDecl}
use Rattle.lf_terms.specs.Tables.{first_place, first_with_path, same_path, AreOfOneTheory, FindsPaths}
use Rattle.lf_terms.proofs.Lookup.{copied_read, first_read, found_there, none_found}
use Rattle.lf_terms.proofs.flat_sig.FlatSig.first_at.Goals as goal
use Rattle.lf_terms.proofs.flat_sig.FlatSig.first_at.Goals.{After-at, After-own_at, In-None}

one : (c : After-own_at) → AreOfOneTheory c.args.self.now
one c = rw (← c.self.view_is) (subst (λ by_path. FindsPaths by_path c.self.inside.decls.keys) c.in-OneTheory.is c.self.invariant.0)

pub returns-in-OneTheory-clause-meaning : goal.returns-in-OneTheory-clause-meaning
returns-in-OneTheory-clause-meaning c =
    copied_read read_declaration c.own_at.result ∙ ap (option_map read_declaration) (c.own_at.ensures (one c)) ∙ first_read c.args.self.now c.args.path.now

pub returns-in-OneTheory-clause-declaration : goal.returns-in-OneTheory-clause-declaration
returns-in-OneTheory-clause-declaration c = c.own_at.ensures (one c)

there : (c : After-at) → first_place c.args.self.now c.args.path.now ≡ Some c.in-Some.index.now
there c =
    let places = subst (λ by_path. FindsPaths by_path c.self.inside.decls.keys) c.in-Table.is c.self.invariant.0 in
    rw (← c.self.view_is) (sym (places c.args.path.now) ∙ sym c.in-Some.ensures.value)

found : (c : After-at) → slice_get c.args.self.now c.in-Some.index.now ≡ first_with_path c.args.self.now c.args.path.now
found c = sym (found_there (λ (d : FlatDecl). same_path d.name.path c.args.path.now) c.args.self.now c.in-Some.index.now (there c))

none : (c : In-None) → ◌≡◌ {A = Option FlatDecl} None (first_with_path c.args.self.now c.args.path.now)
none c =
    let places = subst (λ by_path. FindsPaths by_path c.self.inside.decls.keys) c.in-Table.is c.self.invariant.0 in
    let absent : first_place c.args.self.now c.args.path.now ≡ None = rw (← c.self.view_is) (sym (places c.args.path.now) ∙ sym c.in-None.ensures.value) in
    sym (none_found (λ (d : FlatDecl). same_path d.name.path c.args.path.now) c.args.self.now absent)

pub returns-in-Some-clause-declaration : goal.returns-in-Some-clause-declaration
returns-in-Some-clause-declaration c = c.at.ensures.item ∙ found c

pub returns-in-Some-clause-meaning : goal.returns-in-Some-clause-meaning
returns-in-Some-clause-meaning c =
    copied_read read_declaration c.at.result ∙ ap (option_map read_declaration) (c.at.ensures.item ∙ found c) ∙ first_read c.args.self.now c.args.path.now

pub returns-in-None-clause-declaration : goal.returns-in-None-clause-declaration
returns-in-None-clause-declaration c = none c

pub returns-in-None-clause-meaning : goal.returns-in-None-clause-meaning
returns-in-None-clause-meaning c = ap (option_map read_declaration) (none c) ∙ first_read c.args.self.now c.args.path.now
