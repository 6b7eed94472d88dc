use Rattle.std.proofs.Common.{ap, ◌∙◌}
use Rattle.indexmap.proofs.MapLemmas.{OnOk-map}
use Rattle.name_meaning.specs.Rows.{with_row}
use Rattle.text_meaning.specs.Dependencies as meaning
use Rattle.module_graph_meaning.specs.Walks.{direct, of_text}
use Rattle.module_check.proofs.library_graph.add_module.Goals as goal

pub returns : goal.returns
unfolding direct
returns c =
    OnOk-map c.set.result _ _
    (λ h. h ∙ (λ i. with_row (c.in_ok-copy.ensures i) ((c.in_ok-dependencies.ensures ∙ ap (of_text (meaning.dependencies c.args.name.now)) c.in-Some.ensures.text) i) c.args.graph.now))
    c.set.ensures.ok
