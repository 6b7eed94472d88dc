use Rattle.std.proofs.Common.{◌++◌, List, [], ◌∷◌, refl, ◌∙◌}
use Rattle.text_meaning.specs.Tokens.{AssignSign}
use Rattle.text_meaning.specs.Trees.{Written, IncludeAssign, StructAssign}
use Rattle.text_meaning.specs.Parsing.{AtAssign, Expect, ExpectPath, at_morph, close_owner}
use Rattle.twelf_expressions.proofs.Moves.{stopped, took}
use Rattle.twelf_reader.proofs.AddedNames.{owner_goes}
use Rattle.twelf_reader.proofs.assigns.assign.Goals as goal

pub returns-in_err-morph-in-Percent-Include-clause-goes : goal.returns-in_err-morph-in-Percent-Include-clause-goes
returns-in_err-morph-in-Percent-Include-clause-goes c = λ o xs.
    let done = λ (ws : List Written). AtAssign o (xs ++ (IncludeAssign ws ∷ [])) in
    let taken = took (AtAssign o xs) (at_morph done) c.take.ensures.takes refl refl refl in
    stopped c.from_residual.result _ _ c.from_residual.ensures.1 taken (c.in_err-morph-in-Percent-Include.ensures.goes done (λ ws. refl))

pub returns-in_ok-morph-in-Percent-Include-clause-goes : goal.returns-in_ok-morph-in-Percent-Include-clause-goes
returns-in_ok-morph-in-Percent-Include-clause-goes c = λ o xs.
    let done = λ (ws : List Written). AtAssign o (xs ++ (IncludeAssign ws ∷ [])) in
    took (AtAssign o xs) (at_morph done) c.take.ensures.takes refl refl refl ∙ c.in_ok-morph-in-Percent-Include.ensures.goes done (λ ws. refl)

pub returns-in_err-assign-in-Percent-Struct-clause-goes : goal.returns-in_err-assign-in-Percent-Struct-clause-goes
returns-in_err-assign-in-Percent-Struct-clause-goes c = λ o xs.
    let u = ExpectPath (λ t. Expect AssignSign (at_morph (λ ws. AtAssign o (xs ++ (StructAssign t ws ∷ []))))) in
    let taken = took (AtAssign o xs) u c.take-in-Percent-Struct.ensures.takes refl refl refl in
    stopped c.from_residual-in_err-assign-in-Percent-Struct.result _ _ c.from_residual-in_err-assign-in-Percent-Struct.ensures.1 taken (c.in_err-assign-in-Percent-Struct.ensures.goes o xs)

pub returns-in_ok-assign-in-Percent-Struct-clause-goes : goal.returns-in_ok-assign-in-Percent-Struct-clause-goes
returns-in_ok-assign-in-Percent-Struct-clause-goes c = λ o xs.
    let u = ExpectPath (λ t. Expect AssignSign (at_morph (λ ws. AtAssign o (xs ++ (StructAssign t ws ∷ []))))) in
    took (AtAssign o xs) u c.take-in-Percent-Struct.ensures.takes refl refl refl ∙ c.in_ok-assign-in-Percent-Struct.ensures.goes o xs

pub returns-in-RBrace-clause-goes : goal.returns-in-RBrace-clause-goes
returns-in-RBrace-clause-goes c = λ o xs.
    took (AtAssign o xs) (close_owner o xs) c.take-in-RBrace.ensures.takes refl (owner_goes o xs) refl
