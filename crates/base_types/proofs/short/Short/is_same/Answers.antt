use Rattle.std.proofs.Common.{◌∙◌}
use Rattle.base_types.proofs.Words.{zeros_tell}
use Rattle.base_types.proofs.short.Short.is_same.Goals as goal

pub returns-then-self-other : goal.returns-then-self-other
returns-then-self-other c =
    rw (← c.self.view_is, ← c.other.view_is)
    (c.are_same.ensures ∙ zeros_tell c.self.inside.bytes c.other.inside.bytes c.self.inside.len c.other.inside.len c.if-self-other.true c.self.invariant.2 c.other.invariant.2)
