use Rattle.std.proofs.Common.{refl}
use Rattle.text_meaning.specs.Parsing.{AtModule, ExpectName}
use Rattle.text_meaning.specs.Dependencies.{module_dependencies}
use Rattle.twelf_expressions.proofs.Moves.{took}
use Rattle.twelf_reader.specs.Dependencies.{module_read}
use Rattle.twelf_reader.specs.Items.{theory_named, view_named}
use Rattle.twelf_reader.proofs.AddedNames.{adds_from, passes_from}
use Rattle.twelf_reader.proofs.dependencies.add_module.Goals as goal

pub returns-in-Percent-Sig : goal.returns-in-Percent-Sig
returns-in-Percent-Sig c =
    let taken = took AtModule (ExpectName theory_named) c.take.ensures.takes refl refl refl in
    passes_from c.add_theory.result _ _ taken (λ _ g. adds_from module_read module_dependencies _ _ taken g) c.add_theory.ensures

pub returns-in-Percent-View : goal.returns-in-Percent-View
returns-in-Percent-View c =
    let taken = took AtModule (ExpectName view_named) c.take-in-Percent-View.ensures.takes refl refl refl in
    passes_from c.add_view.result _ _ taken (λ _ g. adds_from module_read module_dependencies _ _ taken g) c.add_view.ensures
