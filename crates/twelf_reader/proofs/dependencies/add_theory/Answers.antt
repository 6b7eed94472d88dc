use Rattle.std.proofs.Common.{◌++◌, [], refl, ap, ◌∙◌}
use Rattle.std.specs.Prelude.{flat_map}
use Rattle.text_meaning.specs.Trees.{SigModule}
use Rattle.text_meaning.specs.Reading.{ModuleTree}
use Rattle.text_meaning.specs.Parsing.{AtDecl, as_written}
use Rattle.text_meaning.specs.Dependencies.{decl_dependencies}
use Rattle.twelf_expressions.specs.Going.{simple_of}
use Rattle.twelf_expressions.proofs.Moves.{failed}
use Rattle.twelf_expressions.proofs.Outlines.{passing_stopped}
use Rattle.twelf_reader.specs.Dependencies.{names_in}
use Rattle.twelf_reader.specs.Items.{theory_named}
use Rattle.twelf_reader.proofs.dependencies.add_theory.Goals as goal

pub returns-in_err-open_body : goal.returns-in_err-open_body
returns-in_err-open_body c =
    let x = simple_of c.in_ok-name.name in
    passing_stopped c.from_residual-in_err-open_body.result _ _ _ c.from_residual-in_err-open_body.ensures.1 (failed _ (c.in_ok-name.ensures.goes theory_named (λ _. refl)) (c.in_err-open_body.ensures.goes (AtDecl x []) refl))

pub returns-in_err-add_decls : goal.returns-in_err-add_decls
returns-in_err-add_decls c =
    let x = simple_of c.in_ok-name.name in
    let opened = c.in_ok-name.ensures.goes theory_named (λ _. refl) ∙ c.in_ok-open_body.ensures.goes (AtDecl x []) refl in
    passing_stopped c.from_residual-in_err-add_decls.result _ _ _ c.from_residual-in_err-add_decls.ensures.1 (failed _ opened (c.in_err-add_decls.ensures.goes x))

pub returns-in_err-end_text : goal.returns-in_err-end_text
returns-in_err-end_text c =
    let x = simple_of c.in_ok-name.name in
    let opened = c.in_ok-name.ensures.goes theory_named (λ _. refl) ∙ c.in_ok-open_body.ensures.goes (AtDecl x []) refl in
    let g = c.in_ok-add_decls.ensures.goes x in
    passing_stopped c.from_residual-in_err-end_text.result _ _ _ c.from_residual-in_err-end_text.ensures.1 (failed _ (opened ∙ g.goes) (c.in_err-end_text.ensures (ModuleTree (SigModule (as_written x) g.item))))

pub returns : goal.returns
returns c =
    let x = simple_of c.in_ok-name.name in
    let opened = c.in_ok-name.ensures.goes theory_named (λ _. refl) ∙ c.in_ok-open_body.ensures.goes (AtDecl x []) refl in
    let g = c.in_ok-add_decls.ensures.goes x in
    let tree = SigModule (as_written x) g.item in
    record {
      item = tree;
      goes = opened ∙ g.goes ∙ c.in_ok-end_text.ensures (ModuleTree tree);
      names = g.names ∙ ap (λ n. c.args.names.now ++ names_in (flat_map (decl_dependencies n) g.item)) c.first_name.ensures;
    }
