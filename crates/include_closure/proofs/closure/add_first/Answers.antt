use Rattle.std.proofs.Common.{sym, ap, ◌∙◌}
use Rattle.library_meaning.specs.Closure.{with_inclusion}
use Rattle.mmt_interface.specs.Readings.{environment_of}
use Rattle.include_closure.proofs.FirstInclusion.{first_inclusion}
use Rattle.include_closure.proofs.closure.add_first.Goals as goal

pub returns-clause-ok : goal.returns-clause-ok
returns-clause-ok c =
    let environment = environment_of c.args.faces.now in
    c.from_vec.ensures ∙ c.in_ok-names.ensures ∙ sym (first_inclusion environment c.args.theory.now c.requires.coherent.known)
    ∙ sym (ap (λ names. with_inclusion environment names c.args.theory.now) c.requires.first)
