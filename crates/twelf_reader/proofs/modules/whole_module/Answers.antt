use Rattle.std.proofs.Common.{refl}
use Rattle.text_meaning.specs.Reading.{ModuleTree, Read}
use Rattle.text_meaning.specs.Parsing.{AtModule, ExpectName}
use Rattle.mmt_syntax.specs.Readings.{read_module}
use Rattle.twelf_expressions.proofs.Moves.{goes_from, took}
use Rattle.twelf_reader.specs.Items.{theory_named, view_named}
use Rattle.twelf_reader.proofs.modules.whole_module.Goals as goal

pub returns-in-Percent-Sig : goal.returns-in-Percent-Sig
returns-in-Percent-Sig c =
    goes_from c.theory.result _ _ (λ m. Read (ModuleTree (read_module m))) (took AtModule (ExpectName theory_named) c.take.ensures.takes refl refl refl) c.theory.ensures

pub returns-in-Percent-View : goal.returns-in-Percent-View
returns-in-Percent-View c =
    goes_from c.view.result _ _ (λ m. Read (ModuleTree (read_module m))) (took AtModule (ExpectName view_named) c.take-in-Percent-View.ensures.takes refl refl refl) c.view.ensures
