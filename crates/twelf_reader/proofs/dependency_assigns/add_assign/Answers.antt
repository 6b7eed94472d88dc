use Rattle.std.proofs.Common.{◌++◌, List, [], ◌∷◌, append-nil, refl, sym, ◌∙◌}
use Rattle.text_meaning.specs.Tokens.{AssignSign}
use Rattle.text_meaning.specs.Trees.{Written, ConstAssign, IncludeAssign, StructAssign}
use Rattle.text_meaning.specs.Parsing.{AtAssign, Expect, ExpectPath, at_morph, close_owner}
use Rattle.twelf_expressions.proofs.Moves.{failed, took}
use Rattle.twelf_expressions.proofs.Outlines.{passing_stopped}
use Rattle.twelf_reader.proofs.AddedNames.{owner_goes}
use Rattle.twelf_reader.proofs.dependency_assigns.add_assign.Goals as goal

pub returns-in_err-add_morph-in-Percent-Include-clause-goes : goal.returns-in_err-add_morph-in-Percent-Include-clause-goes
returns-in_err-add_morph-in-Percent-Include-clause-goes c = λ o xs.
    let done = λ (ws : List Written). AtAssign o (xs ++ (IncludeAssign ws ∷ [])) in
    let taken = took (AtAssign o xs) (at_morph done) c.take.ensures.takes refl refl refl in
    passing_stopped c.from_residual.result _ _ _ c.from_residual.ensures.1 (failed _ taken (c.in_err-add_morph-in-Percent-Include.ensures.goes done (λ ws. refl)))

pub returns-in_ok-add_morph-in-Percent-Include-clause-goes : goal.returns-in_ok-add_morph-in-Percent-Include-clause-goes
returns-in_ok-add_morph-in-Percent-Include-clause-goes c = λ o xs.
    let done = λ (ws : List Written). AtAssign o (xs ++ (IncludeAssign ws ∷ [])) in
    let g = c.in_ok-add_morph-in-Percent-Include.ensures.goes done (λ ws. refl) in
    record { item = IncludeAssign g.item; goes = took (AtAssign o xs) (at_morph done) c.take.ensures.takes refl refl refl ∙ g.goes; names = g.names }

pub returns-in_err-add_struct_assign-in-Percent-Struct-clause-goes : goal.returns-in_err-add_struct_assign-in-Percent-Struct-clause-goes
returns-in_err-add_struct_assign-in-Percent-Struct-clause-goes c = λ o xs.
    let u = ExpectPath (λ t. Expect AssignSign (at_morph (λ ws. AtAssign o (xs ++ (StructAssign t ws ∷ []))))) in
    let taken = took (AtAssign o xs) u c.take-in-Percent-Struct.ensures.takes refl refl refl in
    passing_stopped c.from_residual-in_err-add_struct_assign-in-Percent-Struct.result _ _ _ c.from_residual-in_err-add_struct_assign-in-Percent-Struct.ensures.1 (failed _ taken (c.in_err-add_struct_assign-in-Percent-Struct.ensures.goes o xs))

pub returns-in_ok-add_struct_assign-in-Percent-Struct-clause-goes : goal.returns-in_ok-add_struct_assign-in-Percent-Struct-clause-goes
returns-in_ok-add_struct_assign-in-Percent-Struct-clause-goes c = λ o xs.
    let u = ExpectPath (λ t. Expect AssignSign (at_morph (λ ws. AtAssign o (xs ++ (StructAssign t ws ∷ []))))) in
    let g = c.in_ok-add_struct_assign-in-Percent-Struct.ensures.goes o xs in
    record { item = g.item; goes = took (AtAssign o xs) u c.take-in-Percent-Struct.ensures.takes refl refl refl ∙ g.goes; names = g.names }

pub returns-in-RBrace-clause-goes : goal.returns-in-RBrace-clause-goes
returns-in-RBrace-clause-goes c = λ o xs.
    (took (AtAssign o xs) (close_owner o xs) c.take-in-RBrace.ensures.takes refl (owner_goes o xs) refl, refl)

pub returns-in_ok-pass_const_assign-in-Name-clause-goes : goal.returns-in_ok-pass_const_assign-in-Name-clause-goes
returns-in_ok-pass_const_assign-in-Name-clause-goes c = λ o xs.
    let (t, e, goes) = c.in_ok-pass_const_assign-in-Name.ensures.goes o xs in
    record { item = ConstAssign t e; goes = goes; names = sym (append-nil c.args.names.now) }
