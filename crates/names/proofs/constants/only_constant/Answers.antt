use Rattle.std.proofs.Common.{◌∙◌, sym, ap}
use Rattle.std.specs.Option.{option_copied}
use Rattle.library_meaning.specs.Resolution.{included_at, the_only}
use Rattle.mmt_interface.specs.Readings.{environment_of}
use Rattle.names.specs.Readings.{read_scope}
use Rattle.names.specs.IncludedTables.{place_among}
use Rattle.names.proofs.constants.only_constant.Goals as goal

pub constant_at-requires : goal.constant_at-requires
constant_at-requires c =
    let fits = c.table.ensures c.in-Some.table.now (ap option_copied c.in-Some.is) in
    let path = c.args.written.now in
    c.place.ensures ∙ fits.1 path ∙ sym (ap (λ s. place_among (environment_of s.faces.now) path s.includes.now) c.scope.ensures)

pub returns-in-Some : goal.returns-in-Some
returns-in-Some c = c.constant_at.ensures ∙ ap (λ s. the_only (included_at (read_scope s) c.args.written.now)) c.scope.ensures

pub returns-in-None : goal.returns-in-None
returns-in-None c = c.included_constant.ensures ∙ ap (λ s. the_only (included_at (read_scope s) c.args.written.now)) c.scope-in-None.ensures
