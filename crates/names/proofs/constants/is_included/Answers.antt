use Rattle.std.proofs.Common.{◌∙◌, ap}
use Rattle.std.specs.Option.{option_copied}
use Rattle.std.specs.List.{list_any}
use Rattle.name_meaning.specs.Names.{Name, same_name}
use Rattle.name_laws.proofs.Contained.{contained_among}
use Rattle.names.proofs.constants.is_included.Goals as goal

pub returns-in-Some : goal.returns-in-Some
returns-in-Some c =
    let fits = c.table.ensures c.in-Some.table.now (ap option_copied c.in-Some.is) in
    c.has.ensures c.args.scope.now.scope.includes.now fits.0

pub returns-in-None : goal.returns-in-None
returns-in-None c =
    let theory = c.args.theory.now in
    c.contains.ensures.value ∙ ap (λ names. list_any (λ (m : Name). same_name m theory) names) (c.as_slice.ensures ∙ ap (λ s. s.includes.now) c.scope.ensures)
    ∙ contained_among c.args.scope.now.scope.includes.now theory
