use Rattle.std.proofs.Common.{ℕ, ap, ◌∙◌}
use Rattle.run_meaning.specs.Generator.{module_name}
use Rattle.script_reader.proofs.DrawnNumbers.{parent_lines_are}
use Rattle.script_reader.proofs.generated.extend_parent_of.Goals as goal

pub returns : goal.returns
returns c =
    rw (parent_lines_are c.args.start c.args.index c.in_ok-parent.parent c.if-index-eq0.false
    (c.in_ok-parent.ensures ∙ ap (λ (index : ℕ). module_name index) c.draw_below.ensures.value)) c.extend_parent.ensures
