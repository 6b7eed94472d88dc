use Rattle.std.proofs.Common.{[], refl, ap, ◌∙◌}
use Rattle.text_meaning.specs.Trees.{SigModule}
use Rattle.text_meaning.specs.Reading.{ModuleTree, Read}
use Rattle.text_meaning.specs.Parsing.{AtDecl, as_written}
use Rattle.mmt_syntax.specs.Readings.{read_decls}
use Rattle.twelf_expressions.specs.Going.{simple_of}
use Rattle.twelf_expressions.proofs.Moves.{stopped}
use Rattle.twelf_reader.specs.Items.{theory_named}
use Rattle.twelf_reader.proofs.modules.theory.Goals as goal

pub returns-in_err-open_body : goal.returns-in_err-open_body
returns-in_err-open_body c =
    let x = simple_of c.in_ok-name.name in
    stopped c.from_residual-in_err-open_body.result _ _ c.from_residual-in_err-open_body.ensures.1 (c.in_ok-name.ensures.goes theory_named (λ _. refl)) (c.in_err-open_body.ensures.goes (AtDecl x []) refl)

pub returns-in_err-decls : goal.returns-in_err-decls
returns-in_err-decls c =
    let x = simple_of c.in_ok-name.name in
    stopped c.from_residual-in_err-decls.result _ _ c.from_residual-in_err-decls.ensures.1 (c.in_ok-name.ensures.goes theory_named (λ _. refl) ∙ c.in_ok-open_body.ensures.goes (AtDecl x []) refl) (c.in_err-decls.ensures.goes x)

pub returns-in_err-end_text : goal.returns-in_err-end_text
returns-in_err-end_text c =
    let x = simple_of c.in_ok-name.name in
    let tree = ModuleTree (SigModule (as_written x) (read_decls c.in_ok-decls.decls)) in
    stopped c.from_residual-in_err-end_text.result _ _ c.from_residual-in_err-end_text.ensures.1
    (c.in_ok-name.ensures.goes theory_named (λ _. refl) ∙ c.in_ok-open_body.ensures.goes (AtDecl x []) refl ∙ c.in_ok-decls.ensures.goes x) (c.in_err-end_text.ensures tree)

pub returns : goal.returns
returns c =
    let x = simple_of c.in_ok-name.name in
    let tree = ModuleTree (SigModule (as_written x) (read_decls c.in_ok-decls.decls)) in
    c.in_ok-name.ensures.goes theory_named (λ _. refl) ∙ c.in_ok-open_body.ensures.goes (AtDecl x []) refl ∙ c.in_ok-decls.ensures.goes x ∙ c.in_ok-end_text.ensures tree
    ∙ ap (λ n. Read (ModuleTree (SigModule n (read_decls c.in_ok-decls.decls)))) c.in_ok-name.ensures.one
