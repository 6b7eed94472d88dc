use Rattle.std.proofs.Common.{is_some, sym, ap, ◌∙◌}
use Rattle.list_laws.proofs.Options.{some_mapped}
use Rattle.term_trees.specs.Readings.{read_signature}
use Rattle.library_meaning.specs.Resolution.{own_at}
use Rattle.assignment_pass.proofs.targets.declares.Goals as goal

pub returns : goal.returns
returns c =
    sym (ap (λ p. is_some (own_at (read_signature c.args.own.now) p)) (sym c.as_slice.ensures.names) ∙ ap is_some (sym c.first_at.ensures.meaning)
    ∙ some_mapped _ c.first_at.result ∙ sym c.is_some.ensures)
