use Rattle.std.proofs.Common.{sym, ◌∙◌, arith}
use Rattle.std.proofs.lemmas.List.{length-map}
use Rattle.link_meaning.specs.Passes.{ByNone}
use Rattle.link_setting.specs.Readings.{read_all_assigned, read_assigned}
use Rattle.link_passes.specs.Targets.{reaches}
use Rattle.link_passes.proofs.FirstNumbers.{first_there, first_within, reached_by_first, reached_by_none}
use Rattle.link_passes.proofs.reached.reached_by.Goals as goal

pub returns-in-None : goal.returns-in-None
returns-in-None c =
    sym (reached_by_none c.args.path.now (read_all_assigned c.args.assigned.now) (sym (c.first.ensures (read_all_assigned c.args.assigned.now) c.requires) ∙ c.in-None.is))

pub reached_at-requires : goal.reached_at-requires
reached_at-requires c =
    let items = read_all_assigned c.args.assigned.now in
    let within = first_within (reaches c.args.path.now) items c.in-Some.number (sym (c.first.ensures items c.requires) ∙ c.in-Some.is) in
    let long = length-map c.args.assigned.now read_assigned in
    omega (arith, within, long)

pub returns-in-Some : goal.returns-in-Some
returns-in-Some c =
    let items = read_all_assigned c.args.assigned.now in
    let found = sym (c.first.ensures items c.requires) ∙ c.in-Some.is in
    let there = first_there (reaches c.args.path.now) items c.in-Some.number found in
    c.reached_at.ensures there.0 ByNone there.1 ∙ sym (reached_by_first c.args.path.now items c.in-Some.number there.0 found there.1)
