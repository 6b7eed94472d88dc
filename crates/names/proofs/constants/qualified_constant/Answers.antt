use Rattle.std.proofs.Common.{◌∙◌, true, false, sym, ap, drop, take, length, ◌-◌}
use Rattle.library_meaning.specs.Faces.{own_part}
use Rattle.library_meaning.specs.Resolution.{own_at}
use Rattle.mmt_interface.specs.Readings.{environment_of}
use Rattle.names.specs.Readings.{read_tabled}
use Rattle.names.proofs.Qualified.{behind_first, front_read, if_seen}
use Rattle.names.proofs.constants.qualified_constant.Goals as goal

pub returns-then-is_included : goal.returns-then-is_included
returns-then-is_included c =
    let scope = read_tabled c.args.scope.now in
    let theory = c.theory-item.result in
    let front = front_read scope c.as_slice.result.now theory c.in-len1-up.len_at_least c.theory-item.is in
    rw (← c.as_slice.ensures.names) (c.constant_of.ensures ∙ ap (λ s. own_at (own_part (environment_of s.faces.now) theory) (take (length c.as_slice.result.now - 1) (drop 1 c.as_slice.result.now))) c.scope.ensures ∙ ap (own_at (own_part scope.environment theory)) (behind_first c.as_slice.result.now)
    ∙ sym (front ∙ if_seen scope theory (drop 1 c.as_slice.result.now) true (sym c.if-is_included.true ∙ c.is_included.ensures)))

pub returns-else-is_included : goal.returns-else-is_included
returns-else-is_included c =
    let scope = read_tabled c.args.scope.now in
    let theory = c.theory-item.result in
    let front = front_read scope c.as_slice.result.now theory c.in-len1-up.len_at_least c.theory-item.is in
    rw (← c.as_slice.ensures.names) (sym (front ∙ if_seen scope theory (drop 1 c.as_slice.result.now) false (sym c.if-is_included.false ∙ c.is_included.ensures)))
