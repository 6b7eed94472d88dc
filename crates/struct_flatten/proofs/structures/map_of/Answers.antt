use Rattle.std.proofs.Common.{Some, sym, subst}
use Rattle.std.specs.Prelude.{IsSome}
use Rattle.name_meaning.specs.Names.{Name}
use Rattle.library_meaning.specs.Faces.{theory_of}
use Rattle.mmt_interface.specs.Readings.{environment_of}
use Rattle.morphism.proofs.Below.CoherentLinks.{here_holds}
use Rattle.struct_flatten.proofs.structures.map_of.Goals as goal

pub link_map-requires-clause-here : goal.link_map-requires-clause-here
link_map-requires-clause-here c = here_holds c.args.faces.now (Some c.args.here) c.requires.here

pub link_map-requires-clause-settled : goal.link_map-requires-clause-settled
link_map-requires-clause-settled c = record { coherent = c.requires.coherent.known; theory = subst (λ (name : Name). IsSome (theory_of (environment_of c.args.faces.now) name)) (sym c.first_name.ensures) c.requires.domain }
