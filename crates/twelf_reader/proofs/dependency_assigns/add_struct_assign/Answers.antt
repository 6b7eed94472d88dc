use Rattle.std.proofs.Common.{◌++◌, List, [], ◌∷◌, refl, ap, ◌∙◌}
use Rattle.text_meaning.specs.Tokens.{AssignSign}
use Rattle.text_meaning.specs.Trees.{Written, StructAssign}
use Rattle.text_meaning.specs.Parsing.{AtAssign, Expect, ExpectPath, at_morph}
use Rattle.mmt_syntax.specs.DependenciesLeft.{own_name}
use Rattle.twelf_expressions.proofs.Moves.{failed, took}
use Rattle.twelf_expressions.proofs.Outlines.{passing_stopped}
use Rattle.twelf_reader.proofs.AddedNames.{passes_from, same_words}
use Rattle.twelf_reader.proofs.dependency_assigns.add_struct_assign.Goals as goal

pub returns-in_err-expect-clause-goes : goal.returns-in_err-expect-clause-goes
returns-in_err-expect-clause-goes c = λ o xs.
    let target = c.skip_path.ensures.passes.0 in
    let morph = at_morph (λ (ws : List Written). AtAssign o (xs ++ (StructAssign target ws ∷ []))) in
    let taken = took (ExpectPath (λ t. Expect AssignSign (at_morph (λ ws. AtAssign o (xs ++ (StructAssign t ws ∷ [])))))) (Expect AssignSign morph) c.skip_path.ensures.passes.1 refl refl refl in
    passing_stopped c.from_residual.result _ _ _ c.from_residual.ensures.1 (failed _ taken (c.in_err-expect.ensures.goes morph refl))

pub returns-clause-goes : goal.returns-clause-goes
returns-clause-goes c = λ o xs.
    let target = c.skip_path.ensures.passes.0 in
    let done = λ (ws : List Written). AtAssign o (xs ++ (StructAssign target ws ∷ [])) in
    let taken = took (ExpectPath (λ t. Expect AssignSign (at_morph (λ ws. AtAssign o (xs ++ (StructAssign t ws ∷ [])))))) (Expect AssignSign (at_morph done)) c.skip_path.ensures.passes.1 refl refl refl in
    let came = taken ∙ c.in_ok-expect.ensures.goes (at_morph done) refl in
    passes_from c.add_morph.result _ _ came
    (λ _ g. record { item = StructAssign target g.item; goes = came ∙ g.goes; names = g.names ∙ ap (λ z. c.args.names.now ++ z) (same_words (own_name c.args.own) [] target.path g.item) })
    (c.add_morph.ensures.goes done (λ _. refl))
