use Rattle.std.proofs.Common.{ℕ, ap, ◌∙◌}
use Rattle.run_meaning.specs.Generator.{drawn_from}
use Rattle.script_reader.proofs.DrawnNumbers.{drawn_none, drawn_more}
use Rattle.script_reader.proofs.draws.number_after.Goals as goal

pub loop-init : goal.loop-init
loop-init c = drawn_none c.args.start

pub loop-preserved : goal.loop-preserved
loop-preserved c =
    c.drawn_from-number.ensures ∙ ap (λ (number : ℕ). drawn_from number) c.loop.invariant ∙ drawn_more c.args.start c.loop.counter
