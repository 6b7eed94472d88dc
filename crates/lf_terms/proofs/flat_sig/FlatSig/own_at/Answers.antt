use Rattle.std.proofs.Common.{sym, ap, ◌∙◌}
use Rattle.lf_terms.specs.Tables.{declared}
use Rattle.lf_terms.proofs.OneTheory.{declared_in_first, found_by_name}
use Rattle.lf_terms.proofs.flat_sig.FlatSig.own_at.Goals as goal

pub returns : goal.returns
returns c =
    let first = c.in_ok-first.first.now in
    let path = c.args.path.now in
    λ one.
    c.found_declaration.ensures ∙ c.get.ensures.key ∙ ap (λ ds. declared ds (record { theory = first.name.theory; path = path })) c.self.view_is
    ∙ found_by_name first.name.theory path c.args.self.now (declared_in_first c.args.self.now first (sym c.in_ok-first.ensures.item) one)
