use Rattle.std.proofs.Common.{◌≡◌, ℕ, zero, ap, sym, ◌∙◌}
use Rattle.std.proofs.lemmas.Result.{IfOk-weaker}
use Rattle.lf_meaning.specs.Terms.{Family, Kind, PiKind}
use Rattle.translation_meaning.specs.Heads.{FamilyHead}
use Rattle.elaborate_meaning.specs.Values.{expanded_family}
use Rattle.term_trees.specs.Readings.{read_family, read_kind}
use Rattle.elaborate.specs.HeadStates.{Stands}
use Rattle.elaborate.proofs.OutcomesStand.{under_binders, without_binders}
use Rattle.elaborate.proofs.heads.Head.into_body.Goals as goal

pub returns-then-is_under_binders : goal.returns-then-is_under_binders
returns-then-is_under_binders c binders family domain rest stands =
    c.in_ok-outcome.ensures binders family (PiKind domain rest) stands
    ∙ under_binders (read_kind c.args.kind.now) binders family (sym (c.is_under_binders-is_under_binders.ensures binders family domain rest stands) ∙ c.if-is_under_binders.true)

pub returns-else-is_under_binders : goal.returns-else-is_under_binders
returns-else-is_under_binders c =
    let k = read_kind c.args.kind.now in
    IfOk-weaker c.long_family.result (λ a. read_family a ≡ expanded_family k zero (read_family c.in_ok-outcome.outcome))
    (λ a. (binders : ℕ) (family domain : Family) (rest : Kind) → Stands c.args.self (FamilyHead binders family (PiKind domain rest)) → read_family a ≡ expanded_family k binders family)
    (λ a long binders family domain rest stands.
    long
    ∙ ap (expanded_family k zero) (c.in_ok-outcome.ensures binders family (PiKind domain rest) stands)
    ∙ without_binders k binders family (sym (c.is_under_binders-is_under_binders.ensures binders family domain rest stands) ∙ c.if-is_under_binders.false))
    c.long_family.ensures
