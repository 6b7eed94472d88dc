use Rattle.std.proofs.Common.{◌≡◌, true, false, sym, ap, ◌∙◌}
use Rattle.link_meaning.specs.Passes.{by_equal, equal_paths}
use Rattle.mmt_syntax.specs.Readings.{read_expr}
use Rattle.link_setting.specs.Readings.{read_assigned}
use Rattle.link_passes.specs.Reaching.{reached_through}
use Rattle.link_passes.proofs.Reaching.{equal_as_names}
use Rattle.link_passes.proofs.reached.reached_through_one.Goals as goal

pub returns-then-eq : goal.returns-then-eq
returns-then-eq c = λ otherwise.
    let target = c.in-Giving.target.now in
    let equal : equal_paths target c.args.path.now ≡ true = equal_as_names target c.args.path.now ∙ sym c.eq.ensures ∙ c.if-eq.true in
    sym (ap (λ a. reached_through (read_assigned a) c.args.path.now otherwise) c.in-Giving.is ∙ ap (λ b. by_equal b target (read_expr c.in-Giving.value.now) otherwise) equal)

pub returns-else-eq : goal.returns-else-eq
returns-else-eq c = λ otherwise.
    let target = c.in-Giving.target.now in
    let apart : equal_paths target c.args.path.now ≡ false = equal_as_names target c.args.path.now ∙ sym c.eq.ensures ∙ c.if-eq.false in
    sym (ap (λ a. reached_through (read_assigned a) c.args.path.now otherwise) c.in-Giving.is ∙ ap (λ b. by_equal b target (read_expr c.in-Giving.value.now) otherwise) apart)
